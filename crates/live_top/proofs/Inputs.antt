-- The inputs of a live run, read as those of `flux run`, and the lines of their refusals under the own name.
use Rattle.std.proofs.Common.{ℕ, ◌≡◌, ◌∙◌, List, ap, sym, subst, Some, Ok, Err, ⊎_elim, string_bytes}
use Rattle.std.specs.Prelude.{IfErr, IfOk, IfSome, Result}
use Rattle.command_course.specs.Course.{AtReading, Between, Came, Course, Refuses, Runs, StoppedShort}
use Rattle.command_course.specs.Steps.{StopsOf}
use Rattle.command_course.specs.declared.stop.Stop.{Stop}
use Rattle.command_course.specs.declared.stop.Stop.TheVariants as stop
use Rattle.command_course.proofs.Courses.{came_on, stops_on}
pub use Rattle.command_course.proofs.Courses.{reads_on, reads_passed, reads_then}
use Rattle.flux_outside.specs.Told.{FilesTold}
use Rattle.flux_top.specs.Outcome.{asked}
use Rattle.flux_top.specs.Stops.{IsOwn}
pub use Rattle.flux_top.proofs.Owning.{own_reads}
use Rattle.live_top.specs.Lines.{name, own_line}
use Rattle.live_top.specs.Runs.{run_in}
use Rattle.live_top.specs.Stops.{StopsBefore}
use Rattle.live_top.specs.Words.{as_run}
use Rattle.live_top.specs.declared.given.Given.{Given}

-- ---- one reading behind the other

pub ok_given_on : (old mid new : FilesTold) (course between : Course) (result : Result Given Stop) → mid.contents ≡ old.contents → Came old mid course between
    → IfOk result (λ given. Came mid new between (Runs (run_in given))) → IfOk result (λ given. Came old new course (Runs (run_in given)))
ok_given_on old mid new course between (Ok given) same first next =
    came_on old mid new course between (Runs (run_in given)) same first next
ok_given_on old mid new course between (Err why) same first next = tt

pub err_given_on : (old mid new : FilesTold) (course between : Course) (result : Result Given Stop) → mid.contents ≡ old.contents → Came old mid course between
    → IfErr result (λ why. StopsOf mid new between why) → IfErr result (λ why. StopsOf old new course why)
err_given_on old mid new course between (Ok given) same first next = tt
err_given_on old mid new course between (Err why) same first next =
    stops_on old mid new course between why same first next

-- ---- the own name

module _ (old new : FilesTold) (words : List (List ℕ)) (course : Course) (is : asked (as_run words) ≡ Some course) where
  short : StoppedShort old new course → IfSome (asked (as_run words)) (StoppedShort old new)
  short stopped = subst (λ c. IfSome c (StoppedShort old new)) (sym is) stopped

  pub own_stops : (why own : Stop) → StopsOf old new course why → IsOwn name why own → StopsBefore old new words own
  own_stops stop.Usage own stops is_own = absurd stops
  own_stops (stop.Refused line) own stops is_own = ⊎_elim
      (λ want. subst (StopsBefore old new words) (sym want) (short (Between (Refuses (string_bytes line)) stops)))
      (λ says. subst (StopsBefore old new words) (sym says.1)
      (record { line = string_bytes line; comes = record { course = course; is_asked = is; fact = stops }; said_is = says.2 })) is_own
  own_stops (stop.CannotRead line) own stops is_own = ⊎_elim
      (λ want. subst (StopsBefore old new words) (sym want) (short (AtReading stops.name stops.came)))
      (λ says. subst (StopsBefore old new words) (sym says.1)
      (record { name = stops.name; comes = record { course = course; is_asked = is; fact = stops.came }; said_is = says.2 ∙ ap own_line stops.line_is })) is_own
  own_stops stop.CannotWrite own stops is_own = absurd stops
  own_stops (stop.PairLost stage part line) own stops is_own = absurd stops
  own_stops stop.OutOfMemory own stops is_own = subst (StopsBefore old new words) (sym is_own) (short stops)
