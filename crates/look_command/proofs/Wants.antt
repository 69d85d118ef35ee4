-- A course that stops for want of memory before it goes on.
use Rattle.std.proofs.Common.{◌≡◌, refl, sym, subst}
use Rattle.command_course.specs.Course.{Between, Way}
use Rattle.command_course.specs.Steps.{StopsBy, StopsOf}
use Rattle.command_course.specs.declared.stop.Stop.{Stop}
use Rattle.command_course.specs.declared.stop.Stop.TheVariants as stop
use Rattle.command_course.proofs.Courses.{came_here}
use Rattle.flux_outside.specs.Told.{FilesTold}

pub stopped_here : {A : Type 0} (told : FilesTold) (way : Way A) (why : Stop) → why ≡ stop.OutOfMemory → StopsBy told told way why
stopped_here told way why want = λ next. subst (StopsOf told told (way next)) (sym want) (Between (way next) (came_here told (way next) (way next) refl))
