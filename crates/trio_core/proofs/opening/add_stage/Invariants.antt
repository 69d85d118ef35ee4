use Rattle.std.proofs.Common.{◌<◌, ℕ}
use Rattle.trio_core.specs.Opening.{HasGroup, HaveMore}
use Rattle.trio_core.proofs.opening.add_stage.Given as goal

abbrev pub invariant-loop-part : goal.invariant-loop-part
invariant-loop-part l = record {
  more : HaveMore l.plan l.initial.stations.items l.stations.items;
  there : (p : ℕ) → p < l.part → HasGroup l.stations.items l.stage p;
}
