-- On which rows before an answer rests, and which row made the operator give it.
use Rattle.std.specs.Prelude.{ℕ, ℤ, ◌-◌, Bool, not, List, [], ◌∷◌, ◌++◌, Option, None, Some, if◌then◌else◌, map, int_lt}
use Rattle.std.specs.Int.{int_max}
use Rattle.std.specs.List.{filter}
use Rattle.std.specs.Ordering.{int_eq}
use Rattle.circular_buffer.specs.Buffer.{keep_last}
use Rattle.tuple_edge.specs.Row.{column_of}
use Rattle.tuple_edge.specs.declared.item.Item.{Item}
use Rattle.tuple_edge.specs.declared.item.Item.TheVariants as item
use Rattle.tuple_edge.specs.declared.row.Key.{Key}
use Rattle.tuple_edge.specs.declared.row.Row.{Row}
use Rattle.op_spec.specs.Compares.{holds}
use Rattle.op_spec.specs.Keys.{is_key, key_of}
use Rattle.op_spec.specs.declared.spec.By.{By}
use Rattle.op_spec.specs.declared.spec.OpSpec.{OpSpec}
use Rattle.op_spec.specs.declared.spec.OpSpec.TheVariants as op
use Rattle.stream_ops.specs.Answers.{answer}
use Rattle.stream_ops.specs.Joins.{is_left}
use Rattle.stream_ops.specs.Rows.{keys_in}
use Rattle.stream_ops.specs.Sums.{crosses, sums_of}
use Rattle.stream_ops.specs.Windows.{first_window, level, window_of}
use Rattle.row_cause.specs.declared.placed.Placed.{Placed}

-- ---- rows with their places

-- the rows alone
abbrev pub rows_in : List Placed → List Row
rows_in placed = map (λ x. x.row) placed

-- the same as items of one stamp: answers don't depend on it
abbrev pub items_in : List Placed → List Item
items_in placed = map (item.Row 0) (rows_in placed)

-- those of a key
abbrev pub of_key : By → Key → List Placed → List Placed
of_key by k placed = filter (λ x. is_key (key_of by x.row) k) placed

-- those of the key of a row
abbrev pub of_its_key : By → Placed → List Placed → List Placed
of_its_key by r placed = of_key by (key_of by r.row) placed

-- ---- causes

-- The rows before on which an answer rests, in order, and the row that made the operator give it; without one it was the end.
pub record Cause : Type 0 where
  pub before : List Placed
  pub speaker : Option Placed

-- these rows, and this one spoke
abbrev pub said_by : Placed → List Placed → Cause
said_by r before = record { before = before; speaker = Some r }

-- these rows, and the end spoke
abbrev pub said_at_end : List Placed → Cause
said_at_end before = record { before = before; speaker = None }

-- ---- the rows of an open window

-- those whose level is `at`, where `high` is the greatest window before them
abbrev pub placed_at_from : ℤ → ℤ → ℤ → List Placed → List Placed
placed_at_from width high at [] = []
placed_at_from width high at (x ∷ placed) =
    (if int_eq (int_max high (window_of width x.row)) at then x ∷ [] else []) ++ placed_at_from width (int_max high (window_of width x.row)) at placed

-- those of the last level
abbrev pub open_rows : ℤ → List Placed → List Placed
open_rows width placed = placed_at_from width (first_window width (rows_in placed)) (level width (rows_in placed)) placed

-- ---- the causes of the rows that answer a row, after a key's rows before

-- a window rests on the rows of its level, and the row that raises the level makes it speak
abbrev pub window_causes : ℤ → List Placed → Placed → List Cause
window_causes width [] r = []
window_causes width (x ∷ rows) r =
    if int_lt (level width (rows_in (x ∷ rows))) (level width (rows_in (x ∷ rows) ++ r.row ∷ [])) then said_by r (open_rows width (x ∷ rows)) ∷ [] else []

-- a crossing rests on all rows so far, and the row by which the sum crosses makes it speak
abbrev pub crossing_causes : ℤ → List Placed → Placed → List Cause
crossing_causes limit rows r = if crosses limit (sums_of (rows_in rows)).value (sums_of (rows_in rows ++ r.row ∷ [])).value then said_by r rows ∷ [] else []

-- the rows of the side that a row is not of
abbrev pub across : (Row → Bool) → Placed → List Placed → List Placed
across left r rows = if left r.row then filter (λ x. not (left x.row)) rows else filter (λ x. left x.row) rows

-- those with which a row is paired
abbrev pub partners : ℤ → ℕ → (Row → Bool) → List Placed → Placed → List Placed
partners width n left rows r = filter (λ x. int_eq (window_of width x.row) (window_of width r.row)) (keep_last n (across left r rows))

-- each pair rests on the one of the other side
abbrev pub join_causes : ℤ → ℕ → (Row → Bool) → List Placed → Placed → List Cause
join_causes width n left rows r = map (λ other. said_by r (other ∷ [])) (partners width n left rows r)

-- one for each row that answers, in order
abbrev pub row_causes : OpSpec → List Placed → Placed → List Cause
row_causes (op.Keep column compare limit) before r = if holds compare (column_of column r.row) limit then said_by r [] ∷ [] else []
row_causes (op.Total by) before r = said_by r (of_its_key by r before) ∷ []
row_causes (op.Last by n) before r = said_by r (keep_last (n - 1) (of_its_key by r before)) ∷ []
row_causes (op.Window by width) before r = window_causes width (of_its_key by r before) r
row_causes (op.Crossing by limit) before r = crossing_causes limit (of_its_key by r before) r
row_causes (op.Join by width n column compare limit) before r = join_causes width n (is_left column compare limit) (of_its_key by r before) r

-- ---- and of those that answer the end: a window for each key rests on the rows of its level

-- the causes of the rows by which an operator answers the end, after these rows
abbrev pub end_causes : OpSpec → List Placed → List Cause
end_causes (op.Keep column compare limit) before = []
end_causes (op.Total by) before = []
end_causes (op.Last by n) before = []
end_causes (op.Window by width) before = map (λ k. said_at_end (open_rows width (of_key by k before))) (keys_in by (items_in before))
end_causes (op.Crossing by limit) before = []
end_causes (op.Join by width n column compare limit) before = []

-- ---- what is counted

-- the row that spoke, if one did
abbrev pub spoke : Option Placed → List Placed
spoke None = []
spoke (Some r) = r ∷ []

-- the rows that count into the answer: those before, and the one that spoke, which in a window only closes it
abbrev pub counted : OpSpec → Cause → List Placed
counted (op.Keep column compare limit) c = c.before ++ spoke c.speaker
counted (op.Total by) c = c.before ++ spoke c.speaker
counted (op.Last by n) c = c.before ++ spoke c.speaker
counted (op.Window by width) c = c.before
counted (op.Crossing by limit) c = c.before ++ spoke c.speaker
counted (op.Join by width n column compare limit) c = c.before ++ spoke c.speaker

-- ---- the answer over them

-- what made the operator speak, as an item
abbrev pub spoken : Option Placed → Item
spoken None = item.End 0
spoken (Some r) = item.Row 0 r.row

-- what a fresh operator answers that is given the rows of a cause alone
abbrev pub alone : OpSpec → Cause → List Row
alone op c = answer op (items_in c.before) (spoken c.speaker)
