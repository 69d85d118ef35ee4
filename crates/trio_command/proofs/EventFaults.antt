-- Why texts of events of groups are refused.
use Rattle.std.proofs.Common.{ℕ, ◌≡◌, ◌<◌, true, List, length, refl, Err, Result, arith}
use Rattle.std.specs.Prelude.{◌≢◌, nat_lt}
use Rattle.std.proofs.lemmas.Bool.Decides.{nat_tests}
use Rattle.plan_reader.specs.PlanView.{PlanView}
use Rattle.run_journal.specs.Limits.{max_events_bytes}
use Rattle.run_journal.specs.Messages.{events_fault}
use Rattle.run_journal.specs.Reading.{Fails}
use Rattle.run_journal.specs.declared.error.EventsError.{EventsError}
use Rattle.run_journal.specs.declared.error.EventsError.TheVariants as events_error
use Rattle.command_course.specs.Lines.{line_of}
use Rattle.command_course.specs.Steps.{IsRefusedBy, StopsOn}
use Rattle.command_course.specs.declared.stop.Stop.{Stop}
use Rattle.command_course.proofs.Refusals.{line_refused}
use Rattle.trio_text.specs.Events.{trio_events_of}
use Rattle.trio_text.specs.declared.lined.TrioLined.{TrioLined}
use Rattle.trio_command.specs.Courses.{events_from}

events_fail : (e : EventsError) (read : Result (List TrioLined) EventsError) → Fails e read → e ≢ events_error.OutOfMemory → read ≡ Err e
events_fail events_error.OutOfMemory read fails known = absurd (known refl)
events_fail _ read fails known = fails

pub events_refused : (plan : PlanView) (name bytes : List ℕ) (e : EventsError) (why : Stop) → Fails e (trio_events_of plan bytes) → e ≢ events_error.OutOfMemory
    → IsRefusedBy why (line_of name (events_fault e)) (Unit {0}) → StopsOn (events_from plan name bytes) why
events_refused plan name bytes e why fails known by =
    line_refused events_fault name (trio_events_of plan bytes) e why (events_fail e (trio_events_of plan bytes) fails known) by

events_too_long : (plan : PlanView) (bytes : List ℕ) → max_events_bytes < length bytes → trio_events_of plan bytes ≡ Err (events_error.TooLong (length bytes))
unfolding trio_events_of
events_too_long plan bytes long = let e : nat_lt max_events_bytes (length bytes) ≡ true = grind (arith, nat_tests) in rw e refl

pub long_events : (plan : PlanView) (name bytes : List ℕ) (seen : ℕ) (why : Stop) → max_events_bytes < length bytes
    → IsRefusedBy why (line_of name (events_fault (events_error.TooLong seen))) (Unit {0}) → StopsOn (events_from plan name bytes) why
long_events plan name bytes seen why long by =
    line_refused events_fault name (trio_events_of plan bytes) (events_error.TooLong (length bytes)) why (events_too_long plan bytes long) by
