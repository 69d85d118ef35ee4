-- The rows that egress had emitted when the threads ended begin the plan's output, and the rows of the run's end.
use Rattle.std.proofs.Common.{◌≡◌, ◌∙◌, ◌++◌, List, [], length, take, drop, sym, ap, subst, append-nil}
use Rattle.std.proofs.lemmas.List.{take-append-drop}
use mathlib.Core.List.{IsPrefix}
use Rattle.tuple_edge.specs.Input.{Input}
use Rattle.tuple_edge.specs.declared.event.Drained.{Drained}
use Rattle.tuple_edge.specs.declared.event.Drained.TheVariants as drained
use Rattle.tuple_edge.specs.declared.event.Event.{Event}
use Rattle.tuple_edge.specs.declared.node.NodeId.TheVariants as node
use Rattle.tuple_edge.specs.declared.row.Row.{Row}
use Rattle.plan_reader.specs.PlanView.{IsPlan, PlanView}
use Rattle.pair_machine.specs.CountLaws.{output_first}
use Rattle.pair_machine.specs.Lists.{Among, Each}
use Rattle.pair_machine.specs.Machine.{egress_in}
use Rattle.pair_machine.specs.Output.{output}
use Rattle.pair_machine.specs.declared.order.Order.{Order}
use Rattle.pair_machine.proofs.CountLaws.{in_order}
use Rattle.pair_machine.proofs.Lists.{among_last}
use Rattle.plan_nodes.specs.NodeOrder.{nodes_before_egress}
use Rattle.plan_nodes.specs.States.{AllCame, StandsFor as NodeStands, id_of}
use Rattle.flux_core.specs.CoreView.{CoreView, emitted_by, inputs_of, rows_at, standing}
use Rattle.flux_core.specs.Opening.{bare_core}
use Rattle.partition_runner.specs.Ran.{emitted_in}
use Rattle.core_drain.specs.Drained.{IsDrained}
use Rattle.drained_run.specs.Ended.{EndsSo}
use Rattle.drained_run.proofs.Ending.{run_ends}
use Rattle.drained_run.proofs.Joined.{IsLegalRan, Ran, events_of, reaches}
use Rattle.drained_run.proofs.Nodes.{emitted_bare, find, rows_stand, same_rows}

prefix_self : (xs : List Row) → IsPrefix xs xs
prefix_self xs = ([], append-nil xs)

-- where the first of a list are these, they begin it
pub take_prefix : (ys xs : List Row) → take (length ys) xs ≡ ys → IsPrefix ys xs
take_prefix ys xs e = (drop (length ys) xs, ap (λ l. l ++ drop (length ys) xs) (sym e) ∙ take-append-drop (length ys) xs)

module _ (plan : PlanView) (inputs : List Input) (script : List Order) (ran : Ran) where
  pub run_front : IsLegalRan plan inputs script ran → IsPrefix (emitted_in ran.nodes) (output plan inputs)
  run_front run =
      let r = reaches plan inputs script ran run in
      let f = find (λ s. NodeStands plan inputs s (r.reached.nodes (id_of s))) node.Egress ran.nodes (subst (Among node.Egress) (sym run.nodes_are) (among_last node.Egress (nodes_before_egress plan))) r.stand in
      let count = (egress_in (r.reached.nodes (id_of f.one))).count in
      let emitted : emitted_in ran.nodes ≡ output_first plan inputs count = sym (emitted_bare ran.nodes)
      ∙ (ap (λ o. rows_at (standing o).content) f.there ∙ (same_rows f.one ∙ rows_stand plan inputs f.one (r.reached.nodes (id_of f.one)) f.named f.holds)) in
      subst (λ (l : List Row). IsPrefix l (output plan inputs)) (sym emitted) (take_prefix (output_first plan inputs count) (output plan inputs) (sym ((in_order plan inputs).front count)))

  pub goes_on : (limits : IsPlan plan) (run : IsLegalRan plan inputs script ran) → Each AllCame ran.nodes → (old core : CoreView) (before after : List Event) (d : Drained) → old ≡ bare_core plan ran.nodes
      → before ≡ [] → core.plan ≡ old.plan → inputs_of core ≡ inputs_of old → IsDrained old core before after d → IsPrefix (emitted_in ran.nodes) (emitted_by core)
  goes_on limits run came old core before after d bare none same_plan same_inputs h = go d h (run_ends plan inputs script ran limits run came old core before after d bare none same_plan same_inputs h)
    where
      go : (d : Drained) → IsDrained old core before after d → EndsSo plan inputs script (events_of ran ++ after) (emitted_by core) d → IsPrefix (emitted_in ran.nodes) (emitted_by core)
      go drained.Whole h ends = subst (λ (l : List Row). IsPrefix (emitted_in ran.nodes) l) (sym ends.output) (run_front run)
      go (drained.Lost stage part) h ends = subst (λ (l : List Row). IsPrefix (emitted_in ran.nodes) l) (sym (ap emitted_by (h.unchanged ∙ bare) ∙ emitted_bare ran.nodes)) (prefix_self (emitted_in ran.nodes))
