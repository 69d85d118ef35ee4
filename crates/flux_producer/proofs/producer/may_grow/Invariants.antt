use Rattle.std.proofs.Common.{◌<◌, ◌+◌, ℕ}
use Rattle.std.specs.Prelude.{slice_index_or}
use Rattle.tuple_edge.specs.Limits.{number_limit}
use Rattle.flux_producer.specs.OutEdge.{unused}
use Rattle.flux_producer.proofs.producer.may_grow.Given as goal

abbrev pub invariant-loop-to : goal.invariant-loop-to
invariant-loop-to l = (t : ℕ) → t < l.to → (slice_index_or l.edges t unused).buffer.produced + l.items < number_limit
