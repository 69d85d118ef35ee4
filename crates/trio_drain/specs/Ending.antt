-- How a drain ends, as the state says in which it begins.
use Rattle.std.specs.Prelude.{◌≡◌, ◌==◌, ◌↔◌, ◌⊎◌, ℕ, List, Option, None, Some, if◌then◌else◌}
use Rattle.tuple_edge.specs.Input.{Input}
use Rattle.tuple_edge.specs.declared.event.Drained.{Drained}
use Rattle.tuple_edge.specs.declared.event.Drained.TheVariants as drained
use Rattle.tuple_edge.specs.declared.row.Row.{Row}
use Rattle.plan_reader.specs.PlanView.{PlanView}
use Rattle.pair_machine.specs.Boundary.{egress_partition}
use Rattle.pair_machine.specs.CountLaws.{output_first}
use Rattle.pair_machine.specs.Drain.{pairs_up_to, partition}
use Rattle.pair_machine.specs.Flow.{Flow}
use Rattle.pair_machine.specs.Numbers.{Partition}
use Rattle.pair_machine.specs.Output.{output}
use Rattle.trio_machine.specs.Drain.{IsEgressDone, first_lost}
use Rattle.trio_machine.specs.Flow.{trio_flow}
use Rattle.trio_machine.specs.Machine.{State, egress_in}
use Rattle.trio_machine.specs.declared.node.TrioNode.TheVariants as node
use Rattle.trio_drain.specs.Drained.{IsLostIn}
use Rattle.trio_drain.specs.Order.{IsEachServed}

-- it is lost where a group is found lost
abbrev pub ending_by : Option Partition → Drained
ending_by None = drained.Whole
ending_by (Some p) = drained.Lost p.stage p.part

-- it is whole where egress has merged all, and else lost where a group is, by the first such group
abbrev pub ending : Flow → State → Drained
ending f s = if (egress_in (s.nodes node.Egress)).count == f.total (egress_partition f) then drained.Whole else ending_by (first_lost s (pairs_up_to f f.stages))

-- all rows of the output where it is whole, and else the rows that egress has merged in the state
abbrev pub rows_by : PlanView → List Input → State → Drained → List Row
rows_by plan inputs s drained.Whole = output plan inputs
rows_by plan inputs s (drained.Lost stage part) = output_first plan inputs (egress_in (s.nodes node.Egress)).count

-- the rows that egress has emitted at the end
abbrev pub rows_at_end : PlanView → List Input → State → List Row
rows_at_end plan inputs s = rows_by plan inputs s (ending (trio_flow plan inputs) s)

-- ---- what that means

-- It ends lost by a group just where that is the first lost one and egress has more to merge, and whole just where egress has merged all or a counted
-- replica of each group runs.
pub record EndsSo (f : Flow) (s : State) : Type 0 where
  pub lost : (stage part : ℕ) → (ending f s ≡ drained.Lost stage part) ↔ IsLostIn f s (partition stage part)
  pub whole : (ending f s ≡ drained.Whole) ↔ (IsEgressDone f s ⊎ IsEachServed f s)

-- of every state, a drain ends just as the state says
abbrev pub EndingsAreExact : Type 0
EndingsAreExact = (f : Flow) (s : State) → EndsSo f s
