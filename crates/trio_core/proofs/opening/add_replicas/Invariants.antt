use Rattle.std.proofs.Common.{◌<◌, ℕ}
use Rattle.trio_machine.specs.declared.node.TrioNode.TheVariants as node
use Rattle.trio_core.specs.Opening.{HasStation, HaveMore}
use Rattle.trio_core.proofs.opening.add_replicas.Given as goal

abbrev pub invariant-loop-copy : goal.invariant-loop-copy
invariant-loop-copy l = record {
  more : HaveMore l.plan l.initial.stations.items l.stations.items;
  there : (c : ℕ) → c < l.copy → HasStation (node.Replica l.stage l.part c) l.stations.items;
}
