pub mod Courses
pub mod Ends
pub mod Follows
pub mod Replaying
pub mod Text
pub use Rattle.command_course.specs.Course
pub use Rattle.command_course.specs.Steps
pub use Rattle.run_journal.specs.Limits
pub use Rattle.trio_text.specs.Text as TrioTextText
