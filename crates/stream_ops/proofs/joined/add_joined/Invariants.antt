use Rattle.std.proofs.Common.{◌≡◌, ◌++◌}
use Rattle.stream_ops.specs.Entries.{all_told}
use Rattle.stream_ops.specs.Joins.{by_key, told_sides}
use Rattle.stream_ops.proofs.joined.add_joined.Given as goal

abbrev pub invariant-loop-key : goal.invariant-loop-key
invariant-loop-key l =
    l.out.items ++ all_told told_sides (by_key l.key-iterator) ≡ l.fn.out.items ++ all_told told_sides (by_key l.join.sides.kept)
