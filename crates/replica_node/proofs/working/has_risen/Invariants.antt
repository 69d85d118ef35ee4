use Rattle.std.proofs.Common.{ℕ, ◌<◌, ◌+◌}
use Rattle.std.specs.Prelude.{max}
use Rattle.merge_order.specs.MergeView.{mark_of}
use Rattle.flux_consumer.specs.ConsumerView.{told_of}
use Rattle.replica_node.proofs.working.has_risen.Given as goal

abbrev pub invariant-loop-edge : goal.invariant-loop-edge
invariant-loop-edge l = (q : ℕ) → q < l.edge → mark_of l.consumer.merge q < told_of l.consumer q + max l.rise 1
