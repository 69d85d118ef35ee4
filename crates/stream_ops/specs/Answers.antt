-- What an operator answers to an item, after the items before it.
use Rattle.std.specs.Prelude.{ℤ, ◌*ℤ◌, List, [], ◌∷◌, ◌++◌, if◌then◌else◌, map, int_lt}
use Rattle.circular_buffer.specs.Buffer.{keep_last}
use Rattle.tuple_edge.specs.Row.{column_of}
use Rattle.tuple_edge.specs.declared.item.Item.{Item}
use Rattle.tuple_edge.specs.declared.item.Item.TheVariants as item
use Rattle.tuple_edge.specs.declared.row.Key.{Key}
use Rattle.tuple_edge.specs.declared.row.Row.{Row}
use Rattle.op_spec.specs.Compares.{holds}
use Rattle.op_spec.specs.Keys.{key_of}
use Rattle.op_spec.specs.declared.spec.OpSpec.{OpSpec}
use Rattle.op_spec.specs.declared.spec.OpSpec.TheVariants as op
use Rattle.stream_ops.specs.Joins.{is_left, join_answer}
pub use Rattle.stream_ops.specs.Rows.{rows_of}
use Rattle.stream_ops.specs.Rows.{keys_in, rows_with}
use Rattle.stream_ops.specs.Sums.{crosses, sums_of, sums_row}
use Rattle.stream_ops.specs.Windows.{level, rows_at}

-- the row that tells of a key's open window: its start, and the sums of the rows of the last level
abbrev pub window_row : ℤ → Key → List Row → Row
window_row width k rows = sums_row (level width rows *ℤ width) k (sums_of (rows_at width (level width rows) rows))

-- a window answers a key's next row where it raises the level: with the window that was open
abbrev pub window_answer : ℤ → Key → List Row → Row → List Row
window_answer width k [] r = []
window_answer width k (x ∷ rows) r =
    if int_lt (level width (x ∷ rows)) (level width (x ∷ rows ++ r ∷ [])) then window_row width k (x ∷ rows) ∷ [] else []

-- a crossing answers a key's next row where it takes the value's size above the limit or back
abbrev pub crossing_answer : ℤ → Key → List Row → Row → List Row
crossing_answer limit k rows r =
    if crosses limit (sums_of rows).value (sums_of (rows ++ r ∷ [])).value then sums_row r.time k (sums_of (rows ++ r ∷ [])) ∷ [] else []

-- the answer to a row
abbrev pub row_answer : OpSpec → List Item → Row → List Row
row_answer (op.Keep column compare limit) before r = if holds compare (column_of column r) limit then r ∷ [] else []
row_answer (op.Total by) before r = sums_row r.time (key_of by r) (sums_of (rows_with by before (key_of by r) ++ r ∷ [])) ∷ []
row_answer (op.Last by n) before r = sums_row r.time (key_of by r) (sums_of (keep_last n (rows_with by before (key_of by r) ++ r ∷ []))) ∷ []
row_answer (op.Window by width) before r = window_answer width (key_of by r) (rows_with by before (key_of by r)) r
row_answer (op.Crossing by limit) before r = crossing_answer limit (key_of by r) (rows_with by before (key_of by r)) r
row_answer (op.Join by width n column compare limit) before r =
    join_answer width n (is_left column compare limit) (key_of by r) (rows_with by before (key_of by r)) r

-- the answer to the end: a window tells of each key's open one, in the order of keys
abbrev pub end_answer : OpSpec → List Item → List Row
end_answer (op.Keep column compare limit) before = []
end_answer (op.Total by) before = []
end_answer (op.Last by n) before = []
end_answer (op.Window by width) before = map (λ k. window_row width k (rows_with by before k)) (keys_in by before)
end_answer (op.Crossing by limit) before = []
end_answer (op.Join by width n column compare limit) before = []

-- the answer to an item, after the items before it
abbrev pub answer : OpSpec → List Item → Item → List Row
answer spec before (item.Row stamp row) = row_answer spec before row
answer spec before (item.Mark stamp) = []
answer spec before (item.End stamp) = end_answer spec before

-- no end is among the items
abbrev pub IsOpen : List Item → Type 0
IsOpen [] = Unit {0}
IsOpen (item.Row stamp row ∷ items) = IsOpen items
IsOpen (item.Mark stamp ∷ items) = IsOpen items
IsOpen (item.End stamp ∷ items) = ⊥

-- the answers to items one after another, after the items before them
abbrev pub answers : OpSpec → List Item → List Item → List Row
answers spec before [] = []
answers spec before (x ∷ items) = answer spec before x ++ answers spec (before ++ x ∷ []) items
