use Rattle.std.proofs.Common.{◌≡◌, ◌+◌, ◌++◌}
use Rattle.std.specs.List.{flat_map}
use Rattle.pair_machine.specs.Drain.{parts_below}
use Rattle.run_timeline.specs.Nodes.{pair_replicas}
use Rattle.run_timeline.proofs.nodes.push_stage.Given as goal

abbrev pub invariant-loop-part : goal.invariant-loop-part
invariant-loop-part l = l.nodes.items ≡ l.initial.nodes.items ++ flat_map pair_replicas (parts_below (l.place + 1) l.part)
