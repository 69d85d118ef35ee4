pub mod Courses
pub use Rattle.command_course.specs.Answers
pub use Rattle.command_course.specs.Steps
pub use Rattle.trade_text.specs.Limits
