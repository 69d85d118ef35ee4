use Rattle.std.proofs.Common.{◌≡◌, ◌≤◌, ◌+◌, ◌++◌, length}
use Rattle.std.specs.Vec.{vec_len, vec_capacity}
use Rattle.keyed_store.specs.Join.{pairs_with}
use Rattle.keyed_store.proofs.join.add_pairs.Given as goal

abbrev pub invariant-loop-other : goal.invariant-loop-other
invariant-loop-other l =
    (l.out.items ++ pairs_with l.row l.other-iterator ≡ l.fn.out.items ++ pairs_with l.row l.others.items)
    × (vec_len l.out + length l.other-iterator ≤ vec_capacity l.out)
