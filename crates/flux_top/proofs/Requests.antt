-- A want of memory before any call.
use Rattle.std.proofs.Common.{ℕ, List, Option, Some, None, refl}
use Rattle.std.specs.Prelude.{IfSome}
use Rattle.command_course.specs.Course.{Between, Course, StoppedShort}
use Rattle.command_course.proofs.Courses.{came_here}
use Rattle.flux_outside.specs.Told.{FilesTold}
use Rattle.flux_top.specs.Clauses.{StopsShort}
use Rattle.flux_top.specs.Outcome.{asked}

stopped_here : (told : FilesTold) (course : Option Course) → IfSome course (StoppedShort told told)
stopped_here told None = tt
stopped_here told (Some course) = Between course (came_here told course course refl)

pub short_at_once : (told : FilesTold) (words : List (List ℕ)) → StopsShort told told words
short_at_once told words = stopped_here told (asked words)
