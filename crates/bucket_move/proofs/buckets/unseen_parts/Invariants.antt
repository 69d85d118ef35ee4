use Rattle.std.proofs.Common.{◌≡◌, replicate}
use Rattle.stream_ops.specs.State.{unseen}
use Rattle.bucket_move.specs.Limits.{buckets}
use Rattle.bucket_move.specs.Working.{kept_in}
use Rattle.bucket_move.proofs.buckets.unseen_parts.Given as goal

abbrev pub invariant-loop-part : goal.invariant-loop-part
invariant-loop-part l = kept_in l.partitions.items ≡ replicate l._part (replicate buckets (unseen l.spec))
