use Rattle.std.proofs.Common.{◌≡◌, ◌<◌, length}
use Rattle.catch_up.specs.Rebuild.{all_offered}
use Rattle.catch_up.proofs.rebuild.fold_edge_in.Given as goal

abbrev pub invariant-loop-number : goal.invariant-loop-number
invariant-loop-number l = record {
  rest : all_offered l.edge l.merge l.number-iterator ≡ all_offered l.edge l.fn.merge l.held;
  inside : l.edge < length l.merge.marks;
  edges : length l.merge.marks ≡ length l.fn.merge.marks;
}
