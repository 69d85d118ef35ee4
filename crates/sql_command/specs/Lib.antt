pub mod Courses
pub use Rattle.command_course.specs.Answers
pub use Rattle.command_course.specs.Steps
