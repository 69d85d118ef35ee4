pub mod Courses
pub mod Rehearsals
pub mod Watches
pub use Rattle.command_course.specs.Answers
pub use Rattle.command_course.specs.Steps
pub use Rattle.partition_runner.specs.Job
