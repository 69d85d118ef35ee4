use Rattle.std.proofs.Common.{◌≡◌, length}
use Rattle.catch_up.specs.Fold.{AllRising}
use Rattle.catch_up.specs.Rebuild.{folded_below}
use Rattle.catch_up.proofs.rebuild.fold_in.Given as goal

abbrev pub invariant-loop-edge : goal.invariant-loop-edge
invariant-loop-edge l = record {
  folded : l.merge ≡ folded_below l.edge l.fn.merge l.held;
  rising : AllRising l.held l.edge;
  edges : length l.held ≡ length l.merge.marks;
}
