-- Where a course that reads nothing more stops: at its refusal, or for want of memory.
use Rattle.std.specs.Prelude.{◌≡◌}
use Rattle.std.specs.String.{string_bytes}
use Rattle.command_course.specs.Course.{Course, Refuses}
use Rattle.command_course.specs.declared.stop.Stop.{Stop}
use Rattle.command_course.specs.declared.stop.Stop.TheVariants as stop

-- a course that reads nothing more stops so: at its refusal, or for want of memory
abbrev pub StopsIn : Course → Stop → Type 0
StopsIn course stop.Usage = ⊥
StopsIn course (stop.Refused line) = course ≡ Refuses (string_bytes line)
StopsIn course (stop.CannotRead line) = ⊥
StopsIn course stop.CannotWrite = ⊥
StopsIn course (stop.PairLost stage part line) = ⊥
StopsIn course stop.OutOfMemory = Unit {0}
