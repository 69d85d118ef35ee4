-- What of courses the proofs here cite.
pub use Rattle.command_course.proofs.Courses.{came_here, reads_none, reads_on, reads_passed, reads_then}
pub use Rattle.command_course.proofs.Feeding.{err_stops, ok_gives}
pub use Rattle.command_course.proofs.MergedInputs.{unmerged_inputs}
pub use Rattle.replay_command.proofs.Answering.{gives_here, reads_answered, stops_here}
