-- A course that comes to a run, which is rehearsed.
use Rattle.std.proofs.Common.{ℕ, ◌≡◌, List, sym, subst, Option, Some, Ok, Err}
use Rattle.std.specs.Prelude.{IfErr, IfOk, Result}
use Rattle.pair_machine.specs.declared.order.Order.{Order}
use Rattle.command_course.specs.Course.{Between, Course, Runs, Way}
use Rattle.command_course.specs.FeedView.{FeedView}
use Rattle.command_course.specs.Steps.{GivesBy, StopsOf}
use Rattle.command_course.specs.declared.stop.Stop.{Stop}
use Rattle.command_course.specs.declared.stop.Stop.TheVariants as stop
use Rattle.command_course.proofs.Courses.{came_on, stops_on}
pub use Rattle.command_course.proofs.Courses.{reads_on, reads_passed, reads_then}
use Rattle.flux_outside.specs.Told.{FilesTold}
use Rattle.run_command.specs.Scripts.{with_script}
use Rattle.rehearse_command.specs.Courses.{rehearses, run_under}
use Rattle.command_course.specs.Answers.{answer_of}
use Rattle.command_course.specs.declared.answer.Answer.{Answer}
use Rattle.rehearse_command.specs.Rehearsals.{CameToRehearsal, IsRehearsed}

-- the run, once the script was read
pub ok_came : (old new : FilesTold) (name : List ℕ) (feed : FeedView) (script : List Order) (svg : Option (List ℕ)) (result : Result Answer Stop)
    → GivesBy old new (with_script (Some name) feed.plan) script → IfOk result (λ r. IsRehearsed (run_under feed script) svg (answer_of r))
    → IfOk result (λ r. CameToRehearsal old new (rehearses name feed) svg (answer_of r))
ok_came old new name feed script svg (Ok r) gives ended =
    record { run = run_under feed script; came = gives (λ orders. Runs (run_under feed orders)); rehearsed = ended }
ok_came old new name feed script svg (Err why) gives ended = tt

pub err_short : (old new : FilesTold) (name : List ℕ) (feed : FeedView) (script : List Order) (result : Result Answer Stop)
    → GivesBy old new (with_script (Some name) feed.plan) script → IfErr result (λ why. why ≡ stop.OutOfMemory)
    → IfErr result (λ why. StopsOf old new (rehearses name feed) why)
err_short old new name feed script (Ok r) gives want = tt
err_short old new name feed script (Err why) gives want =
    subst (StopsOf old new (rehearses name feed)) (sym want) (Between (Runs (run_under feed script)) (gives (λ orders. Runs (run_under feed orders))))

-- a rehearsal behind what was read before
pub ok_on : {A : Type 0} (old mid new : FilesTold) (way : Way A) (onward : A → Course) (value : A) (svg : Option (List ℕ)) (result : Result Answer Stop) → mid.contents ≡ old.contents
    → GivesBy old mid way value → IfOk result (λ r. CameToRehearsal mid new (onward value) svg (answer_of r)) → IfOk result (λ r. CameToRehearsal old new (way onward) svg (answer_of r))
ok_on old mid new way onward value svg (Ok r) same gives comes = record {
  run = comes.run;
  came = came_on old mid new (way onward) (onward value) (Runs comes.run) same (gives onward) comes.came;
  rehearsed = comes.rehearsed;
}
ok_on old mid new way onward value svg (Err why) same gives comes = tt

pub err_on : {A : Type 0} (old mid new : FilesTold) (way : Way A) (onward : A → Course) (value : A) (result : Result Answer Stop) → mid.contents ≡ old.contents
    → GivesBy old mid way value → IfErr result (λ why. StopsOf mid new (onward value) why) → IfErr result (λ why. StopsOf old new (way onward) why)
err_on old mid new way onward value (Ok r) same gives stops = tt
err_on old mid new way onward value (Err why) same gives stops = stops_on old mid new (way onward) (onward value) why same (gives onward) stops
