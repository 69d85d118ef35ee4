use Rattle.std.proofs.Common.{◌≡◌, ◌≤◌, ◌+◌, ◌-◌, ◌++◌, length, map, take}
use Rattle.std.specs.Vec.{vec_len, vec_capacity}
use Rattle.stream_ops.specs.Joins.{row_of_pair}
use Rattle.stream_ops.proofs.joined.add_pairs.Given as goal

abbrev pub invariant-loop-pair : goal.invariant-loop-pair
invariant-loop-pair l =
    (l.out.items ≡ l.fn.out.items ++ map (row_of_pair l.time l.key) (take l.pair-index l.pair-items))
    × (vec_len l.out + (length l.pair-items - l.pair-index) ≤ vec_capacity l.out)
