-- What of courses the proofs here cite.
pub use Rattle.command_course.proofs.Courses.{reads_on, reads_passed, reads_then}
pub use Rattle.command_course.proofs.Feeding.{err_short_by, err_stops, ok_gives, ok_gives_value}
