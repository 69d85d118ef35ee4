-- What is told of a run's events is told of the plan, its inputs and its script.
use Rattle.std.proofs.Common.{◌≡◌, ◌∙◌, ℕ, false, List, Option, None, Err, Ok, length, sym, subst}
use Rattle.std.specs.Prelude.{IfOk, Result}
use Rattle.tuple_edge.specs.declared.memory.OutOfMemory.{OutOfMemory}
use Rattle.tuple_edge.specs.Input.{Input}
use Rattle.tuple_edge.specs.declared.event.Drained.{Drained}
use Rattle.tuple_edge.specs.declared.event.Drained.TheVariants as drained
use Rattle.tuple_edge.specs.declared.event.Event.{Event}
use Rattle.tuple_edge.specs.declared.row.Row.{Row}
use Rattle.plan_reader.specs.PlanView.{IsPlan, PlanView}
use Rattle.pair_machine.specs.Counts.{flow_of}
use Rattle.pair_machine.specs.Machine.{Leads, State, follow, opening}
use Rattle.pair_machine.specs.Output.{output}
use Rattle.pair_machine.specs.declared.order.Order.{Order}
use Rattle.pair_machine.proofs.MachineLaws.{plan_opens_sound}
use Rattle.run_journal.specs.Text.{lined_from}
use Rattle.flux_core.specs.CoreView.{CoreView, flow_in, inputs_of}
use Rattle.flux_core.specs.Follows.{IsFollowed, events_of}
use Rattle.flux_core.specs.Stands.{StandsFor}
use Rattle.drained_run.specs.Ended.{EndsSo}
use Rattle.listed_run.specs.Listed.{IsListed, first_line}
use Rattle.listed_run.specs.declared.run.Listed.{Listed}
use Rattle.lane_chart.specs.SvgText.{chart_svg}
use Rattle.run_watch.specs.Columns.{frames_from}
use Rattle.run_watch.specs.FrameView.{FrameView}
use Rattle.run_watch.specs.Watching.{told_from}
use Rattle.run_watch.specs.declared.happening.Told.{Told}
use Rattle.run_timeline.specs.Timeline.{timeline}
use Rattle.run_rehearsal.specs.Fates.{are_obeyed}
use Rattle.run_rehearsal.specs.Merged.{merged_in}
use Rattle.run_rehearsal.specs.RehearsalText.{rehearsal_text}
use Rattle.command_course.specs.Answers.{AnswerView, answer_of, saved_in}
use Rattle.command_course.specs.declared.answer.Answer.{Answer}
use Rattle.rehearse_command.specs.Rehearsals.{IsRehearsed, columns, end_of, ending_after, merged_after, rows_in_all, saved_of, told_of}
use Rattle.rehearse_command.specs.Watches.{LeadOn}

-- the events of a run that has ended lead on
leads_so : (plan : PlanView) (inputs : List Input) (script : List Order) (events : List Event) (rows : List Row) (how : Drained) → EndsSo plan inputs script events rows how
    → (t : State) × Leads (flow_of plan inputs) opening events t
leads_so plan inputs script events rows drained.Whole h = (h.reached, h.run.legal.leads)
leads_so plan inputs script events rows (drained.Lost stage part) h = (h.reached, h.run.legal.leads)

whole_lost : (stage part : ℕ) → drained.Lost stage part ≡ drained.Whole → ⊥
whole_lost stage part is = cc

-- the rows of a run that is whole are all that the plan gives
pub whole_rows : (plan : PlanView) (inputs : List Input) (script : List Order) (events : List Event) (rows : List Row) (how : Drained) → EndsSo plan inputs script events rows how
    → how ≡ drained.Whole → rows ≡ output plan inputs
whole_rows plan inputs script events rows drained.Whole h is = h.output
whole_rows plan inputs script events rows (drained.Lost stage part) h is = absurd (whole_lost stage part is)

module _ (plan : PlanView) (inputs : List Input) (script : List Order) (run : Listed) (is : IsListed plan inputs script run) (old : CoreView) (old_plan : old.plan ≡ plan) (old_inputs : inputs_of old ≡ inputs) where
  abbrev events : List Event
  events = events_of run.lines.items

  same_flow : flow_in old ≡ flow_of plan inputs
  same_flow = λ j. flow_of (old_plan j) (old_inputs j)

  -- so they do from the opening of a core
  pub lead_on : LeadOn old run.lines.items
  lead_on =
      let t = leads_so plan inputs script events run.rows.items run.drained is.ends in
      (t.0, subst (λ f. Leads f opening events t.0) (sym same_flow) t.1)

  module _ (symbols : List (List ℕ)) (svg : Option (List ℕ)) (new : CoreView) (told : List Told) (frames : List FrameView) (limits : IsPlan old.plan) (opens : StandsFor old opening)
      (followed : IsFollowed old new (events_of run.lines.items)) (told_is : told ≡ told_from old.plan (inputs_of old) opening run.lines.items)
      (frames_are : frames ≡ frames_from old.plan (inputs_of old) columns opening run.lines.items) where
    same_told : told ≡ told_of plan inputs events
    same_told = told_is ∙ (λ j. told_from (old_plan j) (old_inputs j) opening (is.lined j))

    same_frames : frames ≡ frames_from plan inputs columns opening (lined_from first_line events)
    same_frames = frames_are ∙ (λ j. frames_from (old_plan j) (old_inputs j) columns opening (is.lined j))

    rehearsed : (answer : AnswerView) → (all : ℕ) → all ≡ rows_in_all plan inputs
        → ((s : State) → StandsFor new s → answer.text ≡ rehearsal_text told script (merged_in new.plan s) (length run.rows.items) (end_of run.drained) all)
        → answer.saved ≡ saved_of svg (chart_svg (timeline false plan frames told (end_of run.drained) all)) → answer.ending ≡ ending_after (are_obeyed told script) run.drained
        → IsRehearsed (record { feed = record { plan = plan; inputs = inputs; symbols = symbols }; script = script; journal = None; summary = false }) svg answer
    rehearsed answer all all_is text saved ends =
        let z = followed.goes opening opens (plan_opens_sound old.plan (inputs_of old) limits) in
        let leads : follow (flow_of plan inputs) events (Ok opening) ≡ Ok z.0 = subst (λ f. Leads f opening events z.0) same_flow z.1 in
        let new_plan : new.plan ≡ plan = followed.plan ∙ old_plan in
        record {
          events = events;
          rows = run.rows.items;
          how = run.drained;
          ends = is.ends;
          text = text z.0 z.3
              ∙ (λ j. rehearsal_text (same_told j) script (merged_in (new_plan j) z.0) (length run.rows.items) (end_of run.drained) (all_is j))
              ∙ (λ j. rehearsal_text (told_of plan inputs events) script (merged_after plan (sym leads j)) (length run.rows.items) (end_of run.drained) (rows_in_all plan inputs));
          saved = saved ∙ (λ j. saved_of svg (chart_svg (timeline false plan (same_frames j) (same_told j) (end_of run.drained) (all_is j))));
          ending = ends ∙ (λ j. ending_after (are_obeyed (same_told j) script) run.drained);
        }

    -- the same of what code has come to, where it found memory
    pub told_so : (all : ℕ) → all ≡ rows_in_all plan inputs → (result : Result Answer OutOfMemory)
        → IfOk result (λ a. (s : State) → StandsFor new s → a.text.items ≡ rehearsal_text told script (merged_in new.plan s) (length run.rows.items) (end_of run.drained) all)
        → IfOk result (λ a. saved_in a.saved ≡ saved_of svg (chart_svg (timeline false plan frames told (end_of run.drained) all)))
        → IfOk result (λ a. a.ending ≡ ending_after (are_obeyed told script) run.drained)
        → IfOk result (λ a. IsRehearsed (record { feed = record { plan = plan; inputs = inputs; symbols = symbols }; script = script; journal = None; summary = false }) svg (answer_of a))
    told_so all all_is (Ok answer) text saved ends = rehearsed (answer_of answer) all all_is text saved ends
    told_so all all_is (Err want) text saved ends = tt
