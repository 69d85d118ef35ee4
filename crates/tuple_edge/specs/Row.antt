-- What a row holds, and where it goes.
use Rattle.std.specs.Prelude.{ℕ, ℤ, pos, unsigned_abs}
use Rattle.std.specs.Int.{int_rem_euclid}
use Rattle.tuple_edge.specs.declared.row.Column.{Column}
use Rattle.tuple_edge.specs.declared.row.Column.TheVariants as column
use Rattle.tuple_edge.specs.declared.row.Row.{Row}

-- the field of a column
abbrev pub column_of : Column → Row → ℤ
column_of column.Time r = r.time
column_of column.Account r = r.account
column_of column.Symbol r = r.symbol
column_of column.Qty r = r.qty
column_of column.Value r = r.value

-- the partition of a row: the column's value modulo the number of partitions, never negative
abbrev pub route_of : Row → Column → ℕ → ℕ
route_of r by parts = unsigned_abs (int_rem_euclid (column_of by r) (pos parts))
