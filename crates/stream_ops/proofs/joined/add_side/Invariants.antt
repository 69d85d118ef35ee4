use Rattle.std.proofs.Common.{◌≡◌, ◌++◌}
use Rattle.stream_ops.specs.Joins.{told_side}
use Rattle.stream_ops.proofs.joined.add_side.Given as goal

abbrev pub invariant-loop-row : goal.invariant-loop-row
invariant-loop-row l =
    l.out.items ++ told_side l.key l.slot l.row-iterator ≡ l.fn.out.items ++ told_side l.key l.first l.rows.items
