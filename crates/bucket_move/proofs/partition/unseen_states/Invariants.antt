use Rattle.std.proofs.Common.{◌≡◌, replicate}
use Rattle.stream_ops.specs.State.{unseen}
use Rattle.bucket_move.proofs.partition.unseen_states.Given as goal

abbrev pub invariant-loop-bucket : goal.invariant-loop-bucket
invariant-loop-bucket l = l.states.items ≡ replicate l._bucket (unseen l.spec)
