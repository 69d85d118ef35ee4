-- Marks in place of amounts: what the second run of an operator is given, and what its answers tell.
use Rattle.std.specs.Prelude.{ℤ, pos, ◌||◌, Bool, true, false, List, [], ◌∷◌, Option, None, Some, if◌then◌else◌, int_lt}
use Rattle.tuple_edge.specs.declared.row.Column.{Column}
use Rattle.tuple_edge.specs.declared.row.Column.TheVariants as column
use Rattle.tuple_edge.specs.declared.row.Row.{Row}
use Rattle.op_spec.specs.declared.spec.OpSpec.{OpSpec}
use Rattle.op_spec.specs.declared.spec.OpSpec.TheVariants as op
use Rattle.reach_finder.specs.declared.shades.Traced.{Traced}

-- whether a column is the value
abbrev pub is_value : Column → Bool
is_value column.Time = false
is_value column.Account = false
is_value column.Symbol = false
is_value column.Qty = false
is_value column.Value = true

-- whether an operator compares the values of rows, so that the mark stands in place of the quantity
abbrev pub compares_value : OpSpec → Bool
compares_value (op.Keep column compare limit) = is_value column
compares_value (op.Total by) = false
compares_value (op.Last by n) = false
compares_value (op.Window by width) = false
compares_value (op.Crossing by limit) = false
compares_value (op.Join by width n column compare limit) = is_value column

-- the operator that adds up the marks: a crossing answers by its sums, so its marks are totalled
abbrev pub marking : OpSpec → OpSpec
marking (op.Keep column compare limit) = op.Keep column compare limit
marking (op.Total by) = op.Total by
marking (op.Last by n) = op.Last by n
marking (op.Window by width) = op.Window by width
marking (op.Crossing by limit) = op.Total by
marking (op.Join by width n column compare limit) = op.Join by width n column compare limit

-- a mark as a number
abbrev pub weight : Bool → ℤ
weight true = pos 1
weight false = pos 0

-- a row with its mark in place of an amount that the operator doesn't compare
abbrev pub shaded : OpSpec → Traced → Row
shaded op x = record {
  time = x.row.time;
  account = x.row.account;
  symbol = x.row.symbol;
  qty = if compares_value op then weight x.reached else x.row.qty;
  value = if compares_value op then x.row.value else weight x.reached;
}

-- whether a reached row counts into such a row
abbrev pub tells : OpSpec → Row → Bool
tells op r = int_lt (pos 0) (if compares_value op then r.qty else r.value)

-- a row, and whether it is reached
abbrev pub traced : Row → Bool → Traced
traced row reached = record { row = row; reached = reached }

-- whether an answer is reached: the row that made the operator speak is, or the answer to the marks, if there is one, tells so
abbrev pub reached_by : OpSpec → (spoke : Bool) → Option Row → Bool
reached_by op spoke None = spoke
reached_by op spoke (Some shade) = spoke || tells op shade

-- answers, each reached where the row that made the operator speak is, or where the answer to the marks tells so
abbrev pub traced_by : OpSpec → (spoke : Bool) → (rows shades : List Row) → List Traced
traced_by op spoke [] shades = []
traced_by op spoke (r ∷ rows) [] = traced r (reached_by op spoke None) ∷ traced_by op spoke rows []
traced_by op spoke (r ∷ rows) (s ∷ shades) = traced r (reached_by op spoke (Some s)) ∷ traced_by op spoke rows shades
