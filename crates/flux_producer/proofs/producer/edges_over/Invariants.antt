use Rattle.std.proofs.Common.{◌≡◌, ◌≤◌, ◌+◌, ◌++◌, length, map}
use Rattle.std.specs.Prelude.{vec_capacity, vec_len}
use Rattle.flux_producer.specs.OutEdge.{over}
use Rattle.flux_producer.proofs.producer.edges_over.Given as goal

abbrev pub invariant-loop-buffer : goal.invariant-loop-buffer
invariant-loop-buffer l = record {
  items : l.edges.items ++ map over l.buffer-iterator.rest.items ≡ map over l.fn.buffers.items;
  room : vec_len l.edges + length l.buffer-iterator.rest.items ≤ vec_capacity l.edges;
}
