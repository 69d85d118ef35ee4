-- Where a course comes to that reads nothing more: whatever files tell, and with no call of theirs.
use Rattle.std.specs.Prelude.{ℕ, List}
use Rattle.flux_outside.specs.Told.{FilesTold}
use Rattle.command_course.specs.Course.{Came, Course, Writes}
use Rattle.command_course.specs.Steps.{StopsOf}
use Rattle.command_course.specs.declared.stop.Stop.{Stop}

-- it writes this text
abbrev pub WritesHere : Course → List ℕ → Type 0
WritesHere course text = (told : FilesTold) → Came told told course (Writes text)

-- it stops
abbrev pub StopsHere : Course → Stop → Type 0
StopsHere course why = (told : FilesTold) → StopsOf told told course why
