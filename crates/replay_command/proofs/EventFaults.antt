-- Why texts of events are refused, and that events that are read are the plan's.
use Rattle.std.proofs.Common.{ℕ, ◌≡◌, ◌<◌, true, List, [], ◌∷◌, length, refl, ap, Err, Result, arith}
use Rattle.std.specs.Prelude.{◌≢◌, All, nat_lt}
use Rattle.std.proofs.lemmas.Bool.Decides.{nat_tests}
use Rattle.std.proofs.lemmas.List.Elements.{All-weaker}
use Rattle.tuple_edge.specs.declared.event.Event.{Event}
use Rattle.tuple_edge.specs.declared.event.Event.TheVariants as event
use Rattle.plan_reader.specs.Nodes.{names_event}
use Rattle.plan_reader.specs.PlanView.{PlanView}
use Rattle.flux_core.specs.Follows.{AreNamed}
use Rattle.run_journal.specs.Events.{events_of}
use Rattle.run_journal.specs.Limits.{max_events_bytes}
use Rattle.run_journal.specs.Messages.{events_fault}
use Rattle.run_journal.specs.Reading.{Fails}
use Rattle.run_journal.specs.Text.{IsNamed}
use Rattle.run_journal.specs.declared.error.EventsError.{EventsError}
use Rattle.run_journal.specs.declared.error.EventsError.TheVariants as events_error
use Rattle.run_journal.specs.declared.lined.Lined.{Lined}
use Rattle.command_course.specs.Lines.{line_of}
use Rattle.command_course.specs.Steps.{IsRefusedBy, StopsOn}
use Rattle.command_course.specs.declared.stop.Stop.{Stop}
use Rattle.command_course.proofs.Refusals.{line_refused}
use Rattle.replay_command.specs.Courses.{events_from}

events_fail : (e : EventsError) (read : Result (List Lined) EventsError) → Fails e read → e ≢ events_error.OutOfMemory → read ≡ Err e
events_fail events_error.OutOfMemory read fails known = absurd (known refl)
events_fail _ read fails known = fails

pub events_refused : (plan : PlanView) (name bytes : List ℕ) (e : EventsError) (why : Stop) → Fails e (events_of plan bytes) → e ≢ events_error.OutOfMemory
    → IsRefusedBy why (line_of name (events_fault e)) (Unit {0}) → StopsOn (events_from plan name bytes) why
events_refused plan name bytes e why fails known by =
    line_refused events_fault name (events_of plan bytes) e why (events_fail e (events_of plan bytes) fails known) by

events_too_long : (plan : PlanView) (bytes : List ℕ) → max_events_bytes < length bytes → events_of plan bytes ≡ Err (events_error.TooLong (length bytes))
unfolding events_of
events_too_long plan bytes long = let e : nat_lt max_events_bytes (length bytes) ≡ true = grind (arith, nat_tests) in rw e refl

pub long_events : (plan : PlanView) (name bytes : List ℕ) (seen : ℕ) (why : Stop) → max_events_bytes < length bytes
    → IsRefusedBy why (line_of name (events_fault (events_error.TooLong seen))) (Unit {0}) → StopsOn (events_from plan name bytes) why
long_events plan name bytes seen why long by =
    line_refused events_fault name (events_of plan bytes) (events_error.TooLong (length bytes)) why (events_too_long plan bytes long) by

is_named : (plan : PlanView) (e : Event) → IsNamed plan e → names_event plan e ≡ true
is_named plan (event.Take link index) h = h.0
is_named plan (event.Work n) h = h
is_named plan event.Make h = refl
is_named plan (event.Kill n) h = h
is_named plan (event.AskStop n) h = h
is_named plan (event.AskBack n) h = h
is_named plan (event.Pull from to) h = h

pub are_named : (plan : PlanView) (lines : List Lined) → All (λ x. IsNamed plan x.event) lines → AreNamed plan lines
are_named plan lines h = All-weaker (λ x. IsNamed plan x.event) (λ x. names_event plan x.event ≡ true) (λ x. is_named plan x.event) lines h
