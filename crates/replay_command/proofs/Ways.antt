-- A course that reads nothing more, behind the readings before it.
use Rattle.std.proofs.Common.{ℕ, ◌≡◌, Ok, Err, refl, string_bytes}
use Rattle.std.specs.Prelude.{IfErr, IfOk, Result, Vec}
use Rattle.std.specs.declared.alloc.Global.{Global}
use Rattle.command_course.specs.Course.{Between, Came, Course, Refuses, Writes}
use Rattle.command_course.specs.Steps.{HasReadCause, OnlyReads, StopsOf}
use Rattle.command_course.specs.declared.stop.Stop.{Stop}
use Rattle.command_course.specs.declared.stop.Stop.TheVariants as stop
use Rattle.command_course.proofs.Courses.{came_is}
use Rattle.flux_outside.specs.Told.{FilesTold}
use Rattle.replay_command.specs.Ends.{StopsIn}
use Rattle.command_course.proofs.Courses.{reads_judged}
pub use Rattle.command_course.proofs.Courses.{err_on, ok_on, reads_on, reads_passed}

-- it gives its text
pub ok_here : (old new : FilesTold) (course between : Course) (result : Result (Vec ℕ Global) Stop) → Came old new course between
    → IfOk result (λ bytes. between ≡ Writes bytes.items) → IfOk result (λ bytes. Came old new course (Writes bytes.items))
ok_here old new course between (Ok bytes) came is = came_is old new course between (Writes bytes.items) came is
ok_here old new course between (Err why) came is = tt

stops_here : (old new : FilesTold) (course between : Course) (why : Stop) → Came old new course between → StopsIn between why → StopsOf old new course why
stops_here old new course between stop.Usage came is = is
stops_here old new course between (stop.Refused line) came is = came_is old new course between (Refuses (string_bytes line)) came is
stops_here old new course between (stop.CannotRead line) came is = absurd is
stops_here old new course between stop.CannotWrite came is = is
stops_here old new course between (stop.PairLost stage part line) came is = is
stops_here old new course between stop.OutOfMemory came is = Between between came

-- it stops
pub err_here : (old new : FilesTold) (course between : Course) (result : Result (Vec ℕ Global) Stop) → Came old new course between
    → IfErr result (StopsIn between) → IfErr result (λ why. StopsOf old new course why)
err_here old new course between (Ok bytes) came is = tt
err_here old new course between (Err why) came is = stops_here old new course between why came is

-- a stop behind all readings is none of a file
stops_judged : (between : Course) (why : Stop) → StopsIn between why → (faults : ℕ) → HasReadCause faults faults why
stops_judged between stop.Usage is faults = absurd is
stops_judged between (stop.Refused line) is faults = refl
stops_judged between (stop.CannotRead line) is faults = absurd is
stops_judged between stop.CannotWrite is faults = is
stops_judged between (stop.PairLost stage part line) is faults = is
stops_judged between stop.OutOfMemory is faults = tt

all_judged : {B : Type 0} (between : Course) (result : Result B Stop) → IfErr result (StopsIn between) → IfErr result (λ why. (faults : ℕ) → HasReadCause faults faults why)
all_judged between (Ok x) is = tt
all_judged between (Err why) is = stops_judged between why is

-- it reads nothing more
pub reads_in : {A B : Type 0} (old new : FilesTold) (value : A) (between : Course) (result : Result B Stop) → OnlyReads old new (Ok value) → IfErr result (StopsIn between) → OnlyReads old new result
reads_in old new value between result reads is = reads_judged old new value result reads (all_judged between result is)
