use Rattle.std.proofs.Common.{◌≡◌, take, map}
use Rattle.tuple_edge.specs.Row.{column_of}
use Rattle.tuple_edge.specs.Sum.{total_of}
use Rattle.trade_maker.proofs.summary.total_of.Given as goal

abbrev pub invariant-loop-row : goal.invariant-loop-row
invariant-loop-row l = l.total ≡ total_of (map (column_of l.column) (take l.row-index l.rows))
