-- The settings of an operator.
use Rattle.std.specs.Prelude.{ℕ, pos, ◌≤◌, ◌≤ℤ◌, Bool, true, false}
use Rattle.op_spec.specs.Limits.{max_join_rows, max_last_rows, max_window_seconds}
use Rattle.op_spec.specs.declared.spec.OpSpec.{OpSpec}
use Rattle.op_spec.specs.declared.spec.OpSpec.TheVariants as op

-- the settings of an operator are within their limits
abbrev pub IsSpec : OpSpec → Type 0
IsSpec (op.Keep column compare limit) = Unit {0}
IsSpec (op.Total by) = Unit {0}
IsSpec (op.Last by rows) = (1 ≤ rows) × (rows ≤ max_last_rows)
IsSpec (op.Window by width) = (pos 1 ≤ℤ width) × (width ≤ℤ max_window_seconds)
IsSpec (op.Crossing by limit) = pos 0 ≤ℤ limit
IsSpec (op.Join by width rows column compare limit) = (pos 1 ≤ℤ width) × (width ≤ℤ max_window_seconds) × (1 ≤ rows) × (rows ≤ max_join_rows)

-- whether an operator is a join
abbrev pub is_join : OpSpec → Bool
is_join (op.Keep column compare limit) = false
is_join (op.Total by) = false
is_join (op.Last by rows) = false
is_join (op.Window by width) = false
is_join (op.Crossing by limit) = false
is_join (op.Join by width rows column compare limit) = true

-- at most how many rows answer a row: as many as a join keeps of a side, and one of any other operator
abbrev pub most_rows : OpSpec → ℕ
most_rows (op.Keep column compare limit) = 1
most_rows (op.Total by) = 1
most_rows (op.Last by rows) = 1
most_rows (op.Window by width) = 1
most_rows (op.Crossing by limit) = 1
most_rows (op.Join by width rows column compare limit) = rows
