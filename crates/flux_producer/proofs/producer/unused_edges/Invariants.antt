use Rattle.std.proofs.Common.{◌≡◌, ◌≤◌}
use Rattle.std.specs.Prelude.{replicate, vec_capacity, vec_len}
use Rattle.flux_producer.specs.OutEdge.{unused}
use Rattle.flux_producer.proofs.producer.unused_edges.Given as goal

abbrev pub invariant-loop-target : goal.invariant-loop-target
invariant-loop-target l = record {
  items : l.edges.items ≡ replicate l._target unused;
  len : vec_len l.edges ≡ l._target;
  room : l.targets ≤ vec_capacity l.edges;
}
