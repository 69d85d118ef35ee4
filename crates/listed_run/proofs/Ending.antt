-- The one list of a run that was brought to its end.
use Rattle.std.proofs.Common.{◌≡◌, ◌∙◌, ◌++◌, List, [], sym, ap, subst}
use Rattle.tuple_edge.specs.Input.{Input}
use Rattle.tuple_edge.specs.declared.event.Drained.{Drained}
use Rattle.tuple_edge.specs.declared.event.Event.{Event}
use Rattle.tuple_edge.specs.declared.row.Row.{Row}
use Rattle.event_log.specs.Views.{named_histories}
use Rattle.plan_reader.specs.PlanView.{IsPlan, PlanView}
use Rattle.pair_machine.specs.Joint.{logged_events}
use Rattle.pair_machine.specs.declared.order.Order.{Order}
use Rattle.run_journal.specs.Logs.{log_of_histories}
use Rattle.run_journal.specs.Text.{lined_from}
use Rattle.journal_writer.specs.Merged.{merged_events}
use Rattle.partition_runner.specs.Ran.{IsLegalRun}
use Rattle.partition_runner.specs.declared.ran.Ran.{Ran}
use Rattle.flux_core.specs.CoreView.{CoreView, emitted_by, inputs_of}
use Rattle.flux_core.specs.Follows.{AreNamed, events_of}
use Rattle.flux_core.specs.Opening.{bare_core}
use Rattle.core_drain.specs.Drained.{IsDrained}
use Rattle.drained_run.specs.Ended.{EndsSo}
use Rattle.drained_run.proofs.Ending.{run_ends}
use Rattle.listed_run.specs.Listed.{IsListed, first_line}
use Rattle.listed_run.specs.declared.run.Listed.{Listed}
use Rattle.listed_run.proofs.Lines.{events_lined}
use Rattle.listed_run.proofs.Naming.{ended_named}
use Rattle.listed_run.proofs.Ran.{legal_ran, ran_of, same_events}

module _ (plan : PlanView) (inputs : List Input) (script : List Order) (ran : Ran) (limits : IsPlan plan) (run : IsLegalRun plan inputs script ran) where
  -- the events of the threads, and then those of the drain
  pub listed : (old core : CoreView) (before after events all : List Event) (how : Drained) (result : Listed)
      → old ≡ bare_core plan ran.nodes.items → before ≡ [] → core.plan ≡ old.plan → inputs_of core ≡ inputs_of old → IsDrained old core before after how
      → events ≡ logged_events (log_of_histories ran.histories.items) → all ≡ events ++ after
      → result.lines.items ≡ lined_from first_line all → result.rows.items ≡ emitted_by core → result.drained ≡ how → IsListed plan inputs script result
  listed old core before after events all how result is none same_plan same_inputs drained merged joined lines rows ended =
      let ends : EndsSo plan inputs script (merged_events (named_histories ran.histories.items) ++ after) (emitted_by core) how =
      run_ends plan inputs script (ran_of ran) limits (legal_ran plan inputs script ran run) run.came old core before after how is none same_plan same_inputs drained in
      let whole : merged_events (named_histories ran.histories.items) ++ after ≡ all =
      ap (λ es. es ++ after) (sym (same_events ran.histories.items run.course.distinct) ∙ sym merged) ∙ sym joined in
      let lined : events_of result.lines.items ≡ all = ap events_of lines ∙ events_lined first_line all in
      let own : EndsSo plan inputs script all result.rows.items result.drained =
      subst (λ (x : List Row × Drained). EndsSo plan inputs script all x.0 x.1) (λ j. (sym rows j, sym ended j)) (subst (λ es. EndsSo plan inputs script es (emitted_by core) how) whole ends) in
      record {
        ends = subst (λ es. EndsSo plan inputs script es result.rows.items result.drained) (sym lined) own;
        lined = lines ∙ ap (lined_from first_line) (sym lined);
        named = subst (AreNamed plan) (sym lines) (ended_named plan inputs script first_line all result.rows.items result.drained limits own);
      }
