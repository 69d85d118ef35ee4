use Rattle.std.proofs.Common.{◌≡◌, ◌%◌, map}
use Rattle.std.specs.List.{range_with_len}
use Rattle.bucket_move.proofs.buckets.opening_table.Given as goal

abbrev pub invariant-loop-bucket : goal.invariant-loop-bucket
invariant-loop-bucket l = l.table.items ≡ map (λ bucket. bucket % l.parts) (range_with_len 0 l.bucket)
