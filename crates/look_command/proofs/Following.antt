-- Events applied to a core one after another are events replayed, whatever is told of them.
use Rattle.std.proofs.Common.{◌≡◌, ◌∙◌, ℕ, List, Err, Ok, Result, sym, ap, subst}
use Rattle.std.specs.Prelude.{◌≢◌}
use Rattle.tuple_edge.specs.Input.{Input}
use Rattle.text_words.specs.Messages.{at_line}
use Rattle.plan_reader.specs.PlanView.{IsPlan, PlanView}
use Rattle.pair_machine.specs.Counts.{flow_of}
use Rattle.pair_machine.specs.Machine.{State, follow, opening}
use Rattle.pair_machine.proofs.MachineLaws.{plan_opens_sound}
use Rattle.run_journal.specs.declared.lined.Lined.{Lined}
use Rattle.flux_core.specs.CoreView.{CoreView, flow_in, inputs_of}
use Rattle.flux_core.specs.Follows.{IsFollowed, IsStopped, events_of}
use Rattle.flux_core.specs.Stands.{StandsFor}
use Rattle.flux_core.specs.declared.apply.Stopped.{Stopped}
use Rattle.flux_core.specs.declared.error.ApplyError.TheVariants as error
use Rattle.command_course.specs.Course.{Course, Refuses, Writes}
use Rattle.command_course.specs.FeedView.{FeedView}
use Rattle.command_course.specs.Lines.{line_of}
use Rattle.command_course.specs.Steps.{IsRefusedBy}
use Rattle.command_course.specs.declared.stop.Stop.{Stop}
use Rattle.command_course.specs.declared.stop.Stop.TheVariants as stop
use Rattle.replay_command.specs.Courses.{writes_state}
use Rattle.replay_command.specs.Ends.{StopsIn}
use Rattle.replay_command.specs.Replaying.{RefusedAt, error_text}
use Rattle.replay_command.proofs.Following.{all_replayed, replays_refused}
use Rattle.command_course.specs.Answers.{AnswerView, answer}
use Rattle.command_course.specs.declared.answer.Ending.TheVariants.{Done}
use Rattle.look_command.specs.Reports.{Telling, tells, tells_lines}

writes_no_refusal : (text line : List ℕ) → Writes text ≡ Refuses line → ⊥
writes_no_refusal text line e = cc

-- what `replay` refuses is refused here by the same line
same_refusal : (feed : FeedView) (name : List ℕ) (text : State → List ℕ) (next : AnswerView → Course) (r : Result State RefusedAt) (why : Stop) → StopsIn (writes_state name feed r) why
    → StopsIn (tells name text r next) why
same_refusal feed name text next (Ok s) stop.Usage is = is
same_refusal feed name text next (Ok s) (stop.Refused line) is = absurd (writes_no_refusal _ _ is)
same_refusal feed name text next (Ok s) (stop.CannotRead line) is = is
same_refusal feed name text next (Ok s) stop.CannotWrite is = is
same_refusal feed name text next (Ok s) (stop.PairLost stage part line) is = is
same_refusal feed name text next (Ok s) stop.OutOfMemory is = is
same_refusal feed name text next (Err refused) why is = is

module _ (plan : PlanView) (inputs : List Input) (symbols : List (List ℕ)) (name : List ℕ) (old new : CoreView) (lines : List Lined)
    (limits : IsPlan old.plan) (opens : StandsFor old opening) (old_plan : old.plan ≡ plan) (old_inputs : inputs_of old ≡ inputs) (tell : Telling) where
  abbrev feed : FeedView
  feed = record { plan = plan; inputs = inputs; symbols = symbols }

  same_flow : flow_in old ≡ flow_of plan inputs
  same_flow = λ j. flow_of (old_plan j) (old_inputs j)

  -- what is told of the state that it reached
  pub tells_whole : IsFollowed old new (events_of lines) → (text : List ℕ) → ((s : State) → StandsFor new s → text ≡ tell feed lines s)
      → (next : AnswerView → Course) → tells_lines tell name feed lines next ≡ next (answer Done text)
  tells_whole h text is next =
      let z = h.goes opening opens (plan_opens_sound old.plan (inputs_of old) limits) in
      let reached = subst (λ f. follow f (events_of lines) (Ok opening) ≡ Ok z.0) same_flow z.1 in
      ap (λ r. tells name (tell feed lines) r next) (all_replayed (flow_of plan inputs) lines opening z.0 reached) ∙ ap (λ t. next (answer Done t)) (sym (is z.0 z.3))

  -- what it refused
  pub tells_refused : (stopped : Stopped) (why : Stop) → IsStopped old new lines stopped → IsRefusedBy why (line_of name (at_line stopped.line (error_text stopped.error))) (stopped.error ≢ error.OutOfMemory)
      → (next : AnswerView → Course) → StopsIn (tells_lines tell name feed lines next) why
  tells_refused stopped why h by next =
      same_refusal feed name (tell feed lines) next _ why (replays_refused plan inputs symbols name old new lines limits opens old_plan old_inputs stopped why h by)
