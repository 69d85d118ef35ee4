-- What is told of a core that opened is told of the plan and the inputs with which it did.
use Rattle.std.proofs.Common.{◌≡◌, ◌∙◌, ℕ, Bool, List, Ok, Err, sym, subst}
use Rattle.std.specs.Prelude.{IfErr, OnOk, Result}
use Rattle.tuple_edge.specs.Input.{Input}
use Rattle.plan_reader.specs.PlanView.{PlanView}
use Rattle.pair_machine.specs.Counts.{flow_of}
use Rattle.pair_machine.specs.Machine.{State, opening}
use Rattle.pair_machine.specs.declared.order.Order.{Order}
use Rattle.run_journal.specs.declared.lined.Lined.{Lined}
use Rattle.flux_core.specs.CoreView.{CoreView, flow_in, inputs_of}
use Rattle.run_watch.specs.Columns.{frames_from}
use Rattle.run_watch.specs.FrameView.{FrameView}
use Rattle.run_watch.specs.Watching.{emitted_in, told_from}
use Rattle.run_watch.specs.declared.happening.Told.{Told}
use Rattle.run_end.specs.Ends.{end_in}
use Rattle.look_command.specs.Reports.{HasEnded}
use Rattle.look_command.specs.declared.report.ReportError.{ReportError}
use Rattle.look_command.specs.declared.report.ReportError.TheVariants as report_error
use Rattle.look_command.specs.Courses.{drawing, story_as}
use Rattle.look_command.specs.declared.timeline.Drawing.{Drawing}

module _ (plan : PlanView) (inputs : List Input) (old new : CoreView) (old_plan : old.plan ≡ plan) (old_inputs : inputs_of old ≡ inputs) (lines : List Lined) (told : List Told)
    (told_is : told ≡ told_from old.plan (inputs_of old) opening lines) where
  same_told : told ≡ told_from plan inputs opening lines
  same_told = told_is ∙ (λ j. told_from (old_plan j) (old_inputs j) opening lines)

  -- the story
  pub told_story : new.plan ≡ old.plan → inputs_of new ≡ inputs_of old → (json : Bool) (orders : List Order) (all : ℕ) (text : List ℕ) (s : State)
      → text ≡ story_as json told orders (emitted_in new.plan (inputs_of new) s) (end_in (flow_in new) s) all
      → text ≡ story_as json (told_from plan inputs opening lines) orders (emitted_in plan inputs s) (end_in (flow_of plan inputs) s) all
  told_story plan_stays inputs_stay json orders all text s is =
      let new_plan : new.plan ≡ plan = plan_stays ∙ old_plan in
      let new_inputs : inputs_of new ≡ inputs = inputs_stay ∙ old_inputs in
      is ∙ (λ j. story_as json (same_told j) orders (emitted_in (new_plan j) (new_inputs j) s) (end_in (flow_of (new_plan j) (new_inputs j)) s) all)

  -- the drawing
  pub drawn_run : new.plan ≡ old.plan → inputs_of new ≡ inputs_of old → (how : Drawing) (only : Bool) (all columns most : ℕ) (frames : List FrameView) (text : List ℕ) (s : State) → columns ≡ most
      → frames ≡ frames_from old.plan (inputs_of old) columns opening lines → text ≡ drawing how only plan frames told (end_in (flow_in new) s) all
      → text ≡ drawing how only plan (frames_from plan inputs most opening lines) (told_from plan inputs opening lines) (end_in (flow_of plan inputs) s) all
  drawn_run plan_stays inputs_stay how only all columns most frames text s columns_is frames_is is =
      let new_plan : new.plan ≡ plan = plan_stays ∙ old_plan in
      let new_inputs : inputs_of new ≡ inputs = inputs_stay ∙ old_inputs in
      let same_frames : frames ≡ frames_from plan inputs most opening lines = frames_is ∙ (λ j. frames_from (old_plan j) (old_inputs j) (columns_is j) opening lines) in
      is ∙ (λ j. drawing how only plan (same_frames j) (same_told j) (end_in (flow_of (new_plan j) (new_inputs j)) s) all)

-- ---- what a report comes to

-- what holds of a report holds where it gives a text
pub on_ok : {X E : Type 0} (r : Result X E) (P : Type 0) → P → OnOk r P
on_ok (Ok x) P h = h
on_ok (Err e) P h = tt

-- of want of memory nothing more is said
pub want_ended : {X : Type 0} (r : Result X ReportError) (old new : CoreView) (lines : List Lined) → IfErr r (λ e. e ≡ report_error.OutOfMemory) → IfErr r (HasEnded old new lines)
want_ended (Ok x) old new lines want = tt
want_ended (Err e) old new lines want = subst (HasEnded old new lines) (sym want) tt
