-- How a run stands in the state that its events reach.
use Rattle.std.specs.Prelude.{Bool, Option, None, Some, ◌==◌, if◌then◌else◌}
use Rattle.tuple_edge.specs.declared.node.NodeId.TheVariants as node
use Rattle.pair_machine.specs.Boundary.{egress_partition}
use Rattle.pair_machine.specs.Drain.{first_lost, pairs_up_to}
use Rattle.pair_machine.specs.Flow.{Flow}
use Rattle.pair_machine.specs.Machine.{State, egress_in}
use Rattle.pair_machine.specs.Numbers.{Partition}
use Rattle.run_end.specs.declared.ends.RunEnd.{RunEnd}
use Rattle.run_end.specs.declared.ends.RunEnd.TheVariants.{Done, Lost, NotDone}

-- whether egress has merged all
abbrev pub is_done : Flow → State → Bool
is_done f s = (egress_in (s.nodes node.Egress)).count == f.total (egress_partition f)

-- how a run stands that isn't done: lost, where a pair is, by the first one that is
abbrev pub undone : (first_lost : Option Partition) → RunEnd
undone None = NotDone
undone (Some p) = Lost p.stage p.part

-- how a run stands in a state: done, where egress has merged all, whatever pairs are lost; else by the first pair, in the order of the nodes,
-- no replica of which serves
abbrev pub end_in : Flow → State → RunEnd
end_in f s = if is_done f s then Done else undone (first_lost s (pairs_up_to f f.stages))
