pub mod Courses
pub mod Endings
pub mod Scripts
pub use Rattle.command_course.specs.Steps
pub use Rattle.command_line.specs.Forms
pub use Rattle.command_line.specs.Views
pub use Rattle.failure_script.specs.Limits
