use Rattle.std.proofs.Common.{◌<◌, ◌+◌, ℕ, IsTrue}
use Rattle.plan_reader.specs.Nodes.{has_pair}
use Rattle.trio_core.specs.Opening.{HasGroup, HaveMore}
use Rattle.trio_core.proofs.opening.add_groups.Given as goal

abbrev pub invariant-loop-stage : goal.invariant-loop-stage
invariant-loop-stage l = record {
  more : HaveMore l.plan l.initial.stations.items l.stations.items;
  there : (s : ℕ) → s < l.stage + 1 → (p : ℕ) → IsTrue (has_pair l.plan s p) → HasGroup l.stations.items s p;
}
