-- Laws of the answers: their times, and how many there are.
use Rattle.std.proofs.Common.{ℕ, ℤ, ◌≡◌, ◌≤◌, ◌+◌, ◌-◌, ◌*◌, ◌≤ℤ◌, ◌*ℤ◌, pos, negsuc, Bool, true, false, cond, List, [], ◌∷◌, ◌++◌, length, map, int_lt, refl, sym, ap, subst, arith, length-append, length-drop, append_assoc}
use Rattle.std.specs.Int.{int_max, int_div_euclid}
use Rattle.std.specs.List.{All, filter}
use Rattle.std.specs.Ordering.{int_eq}
use Rattle.std.proofs.lemmas.Int.{ints}
use Rattle.std.proofs.lemmas.List.{append-nil, length-map}
use Rattle.std.proofs.lemmas.List.Elements.{All-cons, All-filter, All-head, All-map, All-nil, All-tail}
use Rattle.std.proofs.lemmas.Nat.{div-add-mod'}
use Rattle.circular_buffer.specs.Buffer.{keep_last}
use Rattle.keyed_store.proofs.LastSides.{length-filter}
use Rattle.tuple_edge.specs.Row.{column_of}
use Rattle.tuple_edge.specs.declared.item.Item.{Item}
use Rattle.tuple_edge.specs.declared.item.Item.TheVariants as item
use Rattle.tuple_edge.specs.declared.row.Key.{Key}
use Rattle.tuple_edge.specs.declared.row.Row.{Row}
use Rattle.op_spec.specs.declared.spec.By.{By}
use Rattle.op_spec.specs.Compares.{holds}
use Rattle.op_spec.specs.Keys.{is_key, key_of}
use Rattle.op_spec.specs.Spec.{IsSpec, is_join, most_rows}
use Rattle.op_spec.specs.Times.{IsTime, IsTimely}
use Rattle.op_spec.specs.declared.spec.OpSpec.{OpSpec}
use Rattle.op_spec.specs.declared.spec.OpSpec.TheVariants as op
use Rattle.stream_ops.specs.Answers.{IsOpen, answer, answers, end_answer, row_answer, window_answer, window_row}
use Rattle.stream_ops.specs.Joins.{is_left, join_answer, pair_row, rows_across}
use Rattle.stream_ops.specs.Rows.{keys_among, keys_in, rows_of, rows_with, with_key}
use Rattle.op_spec.specs.Limits.{max_join_rows}
use Rattle.stream_ops.specs.Kept.{keys_after}
use Rattle.stream_ops.specs.Sums.{crosses, sums_of, sums_row}
use Rattle.stream_ops.specs.Windows.{level, level_from, window_of}
use Rattle.stream_ops.proofs.Counts.{keys_in-push, rows_of-mark}
use Rattle.stream_ops.proofs.Known.{keys-known, length-with_key}
use Rattle.stream_ops.proofs.Levels.{max_of_less, max_of_more}

-- a row of a time within the limits
abbrev pub IsTimelyRow : Row → Type 0
IsTimelyRow r = IsTime r.time

-- the start of the window of a time lies within the limits
start_timely : (t width : ℤ) → pos 1 ≤ℤ width → IsTime t → IsTime (int_div_euclid t width *ℤ width)
start_timely (pos a) (pos n) wide timely = let high : pos a ≤ℤ pos 9999999999 = timely.1 in (omega (arith, ints, div-add-mod' a n), omega (arith, ints, div-add-mod' a n))
start_timely (pos a) (negsuc n) wide timely = absurd (omega (arith, ints))
start_timely (negsuc a) width wide timely = absurd (let low : pos 0 ≤ℤ negsuc a = timely.0 in omega (arith, ints))

max_timely_by : (width x y : ℤ) (t : Bool) → int_lt x y ≡ t → IsTime (x *ℤ width) → IsTime (y *ℤ width) → IsTime (int_max x y *ℤ width)
max_timely_by width x y true is low high = subst (λ z. IsTime (z *ℤ width)) (sym (max_of_less x y is)) high
max_timely_by width x y false is low high = subst (λ z. IsTime (z *ℤ width)) (sym (max_of_more x y is)) low

level_from_timely : (width high : ℤ) (rows : List Row) → pos 1 ≤ℤ width → All IsTimelyRow rows → IsTime (high *ℤ width) → IsTime (level_from width high rows *ℤ width)
level_from_timely width high [] wide timely had = had
level_from_timely width high (r ∷ rows) wide timely had =
    level_from_timely width (int_max high (window_of width r)) rows wide (All-tail IsTimelyRow r rows timely)
    (max_timely_by width high (window_of width r) (int_lt high (window_of width r)) refl had (start_timely r.time width wide (All-head IsTimelyRow r rows timely)))

-- the start of an open window lies within the limits
pub level_timely : (width : ℤ) (rows : List Row) → pos 1 ≤ℤ width → All IsTimelyRow rows → IsTime (level width rows *ℤ width)
level_timely width [] wide timely = zero_timely width
  where
    zero_timely : (w : ℤ) → IsTime (pos 0 *ℤ w)
    zero_timely (pos n) = (omega (arith, ints), omega (arith, ints))
    zero_timely (negsuc n) = (omega (arith, ints), omega (arith, ints))
level_timely width (r ∷ rows) wide timely =
    level_from_timely width (window_of width r) (r ∷ rows) wide timely (start_timely r.time width wide (All-head IsTimelyRow r rows timely))

pub rows_timely : (items : List Item) → All IsTimely items → All IsTimelyRow (rows_of items)
rows_timely [] timely = All-nil IsTimelyRow
rows_timely (item.Row stamp row ∷ items) timely =
    All-cons IsTimelyRow row (rows_of items) (All-head IsTimely (item.Row stamp row) items timely) (rows_timely items (All-tail IsTimely (item.Row stamp row) items timely))
rows_timely (item.Mark stamp ∷ items) timely = rows_timely items (All-tail IsTimely (item.Mark stamp) items timely)
rows_timely (item.End stamp ∷ items) timely = rows_timely items (All-tail IsTimely (item.End stamp) items timely)

one_timely : (r : Row) → IsTimelyRow r → All IsTimelyRow (r ∷ [])
one_timely r timely = All-cons IsTimelyRow r [] timely (All-nil IsTimelyRow)

some_timely : (t : Bool) (r : Row) → IsTimelyRow r → All IsTimelyRow (cond t (r ∷ []) [])
some_timely true r timely = one_timely r timely
some_timely false r timely = All-nil IsTimelyRow

window_timely : (width : ℤ) (k : Key) (rows : List Row) (r : Row) → pos 1 ≤ℤ width → All IsTimelyRow rows → All IsTimelyRow (window_answer width k rows r)
window_timely width k [] r wide timely = All-nil IsTimelyRow
window_timely width k (x ∷ rows) r wide timely =
    some_timely (int_lt (level width (x ∷ rows)) (level width (x ∷ rows ++ r ∷ []))) (window_row width k (x ∷ rows)) (level_timely width (x ∷ rows) wide timely)

pub with_timely : (by : By) (items : List Item) (k : Key) → All IsTimely items → All IsTimelyRow (rows_with by items k)
with_timely by items k timely = All-filter (λ r. is_key (key_of by r) k) IsTimelyRow (rows_of items) (rows_timely items timely)

pairs_timely : (k : Key) (r : Row) → IsTimelyRow r → (others : List Row) → All IsTimelyRow (map (pair_row k r) others)
pairs_timely k r here [] = All-nil IsTimelyRow
pairs_timely k r here (other ∷ others) = All-cons IsTimelyRow (pair_row k r other) (map (pair_row k r) others) here (pairs_timely k r here others)

row_answer_timely : (spec : OpSpec) (before : List Item) (r : Row) → IsSpec spec → All IsTimely before → IsTimelyRow r → All IsTimelyRow (row_answer spec before r)
row_answer_timely (op.Keep column compare limit) before r limits timely here = some_timely (holds compare (column_of column r) limit) r here
row_answer_timely (op.Total by) before r limits timely here = one_timely (sums_row r.time (key_of by r) (sums_of (rows_with by before (key_of by r) ++ r ∷ []))) here
row_answer_timely (op.Last by n) before r limits timely here = one_timely (sums_row r.time (key_of by r) (sums_of (keep_last n (rows_with by before (key_of by r) ++ r ∷ [])))) here
row_answer_timely (op.Window by width) before r limits timely here = window_timely width (key_of by r) (rows_with by before (key_of by r)) r limits.0 (with_timely by before (key_of by r) timely)
row_answer_timely (op.Crossing by limit) before r limits timely here =
    let rows : List Row = rows_with by before (key_of by r) in
    some_timely (crosses limit (sums_of rows).value (sums_of (rows ++ r ∷ [])).value) (sums_row r.time (key_of by r) (sums_of (rows ++ r ∷ []))) here
row_answer_timely (op.Join by width n column compare limit) before r limits timely here = pairs_timely (key_of by r) r here _

end_answer_timely : (spec : OpSpec) (before : List Item) → IsSpec spec → All IsTimely before → All IsTimelyRow (end_answer spec before)
end_answer_timely (op.Keep column compare limit) before limits timely = All-nil IsTimelyRow
end_answer_timely (op.Total by) before limits timely = All-nil IsTimelyRow
end_answer_timely (op.Last by n) before limits timely = All-nil IsTimelyRow
end_answer_timely (op.Window by width) before limits timely =
    All-map IsTimelyRow (λ k. window_row width k (rows_with by before k)) (keys_in by before)
    (λ place default inside. level_timely width (rows_with by before (_)) limits.0 (with_timely by before (_) timely))
end_answer_timely (op.Crossing by limit) before limits timely = All-nil IsTimelyRow
end_answer_timely (op.Join by width n column compare limit) before limits timely = All-nil IsTimelyRow

-- the answers to a timely item after timely items are timely rows
pub answer_timely : (spec : OpSpec) (before : List Item) (it : Item) → IsSpec spec → All IsTimely before → IsTimely it → All IsTimelyRow (answer spec before it)
answer_timely spec before (item.Row stamp row) limits timely here = row_answer_timely spec before row limits timely here
answer_timely spec before (item.Mark stamp) limits timely here = All-nil IsTimelyRow
answer_timely spec before (item.End stamp) limits timely here = end_answer_timely spec before limits timely

-- a mark has no answer
pub answer-mark : (spec : OpSpec) (before : List Item) (stamp : ℕ) → answer spec before (item.Mark stamp) ≡ []
answer-mark spec before stamp = refl

length-if : (t : Bool) (r : Row) → length (cond t (r ∷ []) []) ≤ 1
length-if true r = omega arith
length-if false r = omega arith

length-window : (width : ℤ) (k : Key) (rows : List Row) (r : Row) → length (window_answer width k rows r) ≤ 1
length-window width k [] r = omega arith
length-window width k (x ∷ rows) r = length-if (int_lt (level width (x ∷ rows)) (level width (x ∷ rows ++ r ∷ []))) (window_row width k (x ∷ rows))

-- a join keeps at most so many rows of a side
length-join : (width : ℤ) (n : ℕ) (left : Row → Bool) (k : Key) (rows : List Row) (r : Row) → length (join_answer width n left k rows r) ≤ n
length-join width n left k rows r =
    let across : List Row = rows_across left r rows in
    let kept : length (keep_last n across) ≡ length across - (length across - n) = simp length-drop refl in
    let some : length (filter (λ other. int_eq (window_of width other) (window_of width r)) (keep_last n across)) ≤ length (keep_last n across) = length-filter _ (keep_last n across) in
    simp length-map (omega arith)

-- a row has at most so many answers
pub length-answer_row : (spec : OpSpec) (before : List Item) (stamp : ℕ) (r : Row) → length (answer spec before (item.Row stamp r)) ≤ most_rows spec
length-answer_row (op.Keep column compare limit) before stamp r = length-if (holds compare (column_of column r) limit) r
length-answer_row (op.Total by) before stamp r = omega arith
length-answer_row (op.Last by n) before stamp r = omega arith
length-answer_row (op.Window by width) before stamp r = length-window width (key_of by r) (rows_with by before (key_of by r)) r
length-answer_row (op.Crossing by limit) before stamp r = length-if (crosses limit (sums_of (rows_with by before (key_of by r))).value (sums_of (rows_with by before (key_of by r) ++ r ∷ [])).value) (sums_row r.time (key_of by r) (sums_of (rows_with by before (key_of by r) ++ r ∷ [])))
length-answer_row (op.Join by width n column compare limit) before stamp r = length-join width n (is_left column compare limit) (key_of by r) (rows_with by before (key_of by r)) r

-- the end has one answer at most for each key of the rows before
pub length-answer_end : (spec : OpSpec) (before : List Item) (stamp : ℕ) → length (answer spec before (item.End stamp)) ≤ length (keys_after spec before)
length-answer_end (op.Keep column compare limit) before stamp = omega arith
length-answer_end (op.Total by) before stamp = omega arith
length-answer_end (op.Last by n) before stamp = omega arith
length-answer_end (op.Window by width) before stamp = simp length-map (omega arith)
length-answer_end (op.Crossing by limit) before stamp = omega arith
length-answer_end (op.Join by width n column compare limit) before stamp = omega arith

-- a window's answer to a row, with the windows open after it, is at most one more than those open before
window_counts : (by : By) (width : ℤ) (before : List Item) (r : Row) (rows : List Row) → rows_with by before (key_of by r) ≡ rows
    → length (window_answer width (key_of by r) rows r) + length (with_key (key_of by r) (keys_in by before)) ≤ 1 + length (keys_in by before)
window_counts by width before r [] is = let more : length (with_key (key_of by r) (keys_in by before)) ≤ length (keys_in by before) + 1 = length-with_key (key_of by r) (keys_in by before) in omega arith
window_counts by width before r (x ∷ rows) is =
    let same : with_key (key_of by r) (keys_in by before) ≡ keys_in by before = keys-known by (key_of by r) (rows_of before) x rows is in
    let one : length (window_answer width (key_of by r) (x ∷ rows) r) ≤ 1 = length-window width (key_of by r) (x ∷ rows) r in
    rw same (omega arith)

-- a row's answer, with the answer that the end would have after it, is at most so many rows more than that of the end before it
pub length-answer_row_and_end : (spec : OpSpec) (before : List Item) (stamp : ℕ) (r : Row)
    → length (answer spec before (item.Row stamp r)) + length (end_answer spec (before ++ item.Row stamp r ∷ [])) ≤ most_rows spec + length (end_answer spec before)
length-answer_row_and_end (op.Keep column compare limit) before stamp r = let one : length (answer (op.Keep column compare limit) before (item.Row stamp r)) ≤ 1 = length-answer_row (op.Keep column compare limit) before stamp r in omega arith
length-answer_row_and_end (op.Total by) before stamp r = omega arith
length-answer_row_and_end (op.Last by n) before stamp r = omega arith
length-answer_row_and_end (op.Window by width) before stamp r =
    simp (length-map, keys_in-push) (window_counts by width before r (rows_with by before (key_of by r)) refl)
length-answer_row_and_end (op.Crossing by limit) before stamp r = let one : length (answer (op.Crossing by limit) before (item.Row stamp r)) ≤ 1 = length-answer_row (op.Crossing by limit) before stamp r in omega arith
length-answer_row_and_end (op.Join by width n column compare limit) before stamp r = let few : length (answer (op.Join by width n column compare limit) before (item.Row stamp r)) ≤ n = length-answer_row (op.Join by width n column compare limit) before stamp r in omega arith

-- a mark changes no later answer of the end
pub end_answer-mark : (spec : OpSpec) (before : List Item) (stamp : ℕ) → end_answer spec (before ++ item.Mark stamp ∷ []) ≡ end_answer spec before
end_answer-mark (op.Keep column compare limit) before stamp = refl
end_answer-mark (op.Total by) before stamp = refl
end_answer-mark (op.Last by n) before stamp = refl
end_answer-mark (op.Window by width) before stamp = ap (λ rows. map (λ k. window_row width k (filter (λ r. is_key (key_of by r) k) rows)) (keys_among by rows)) (rows_of-mark before stamp)
end_answer-mark (op.Crossing by limit) before stamp = refl
end_answer-mark (op.Join by width n column compare limit) before stamp = refl

end_answer-nil : (spec : OpSpec) → end_answer spec [] ≡ []
end_answer-nil (op.Keep column compare limit) = refl
end_answer-nil (op.Total by) = refl
end_answer-nil (op.Last by n) = refl
end_answer-nil (op.Window by width) = refl
end_answer-nil (op.Crossing by limit) = refl
end_answer-nil (op.Join by width n column compare limit) = refl

answers_and_end : (spec : OpSpec) (before items : List Item) → IsOpen items
    → length (answers spec before items) + length (end_answer spec (before ++ items)) ≤ most_rows spec * length (rows_of items) + length (end_answer spec before)
answers_and_end spec before [] unended = rw (append-nil before) (omega arith)
answers_and_end spec before (item.Row stamp r ∷ items) unended =
    let here : length (answer spec before (item.Row stamp r)) + length (end_answer spec (before ++ item.Row stamp r ∷ [])) ≤ most_rows spec + length (end_answer spec before) = length-answer_row_and_end spec before stamp r in
    let later : length (answers spec (before ++ item.Row stamp r ∷ []) items) + length (end_answer spec ((before ++ item.Row stamp r ∷ []) ++ items)) ≤ most_rows spec * length (rows_of items) + length (end_answer spec (before ++ item.Row stamp r ∷ [])) =
    answers_and_end spec (before ++ item.Row stamp r ∷ []) items unended in
    let whole : (before ++ item.Row stamp r ∷ []) ++ items ≡ before ++ item.Row stamp r ∷ items = append_assoc before (item.Row stamp r ∷ []) items in
    let moved = rw whole at later in
    simp length-append (omega arith)
answers_and_end spec before (item.Mark stamp ∷ items) unended =
    let later : length (answers spec (before ++ item.Mark stamp ∷ []) items) + length (end_answer spec ((before ++ item.Mark stamp ∷ []) ++ items)) ≤ most_rows spec * length (rows_of items) + length (end_answer spec (before ++ item.Mark stamp ∷ [])) =
    answers_and_end spec (before ++ item.Mark stamp ∷ []) items unended in
    let whole : (before ++ item.Mark stamp ∷ []) ++ items ≡ before ++ item.Mark stamp ∷ items = append_assoc before (item.Mark stamp ∷ []) items in
    let moved = rw (whole, end_answer-mark spec before stamp) at later in
    omega arith
answers_and_end spec before (item.End stamp ∷ items) unended = absurd unended

-- an operator gives at most so many rows for each that it takes: for items without an end, the answers to them and to the end after them
pub length-answers : (spec : OpSpec) (items : List Item) → IsOpen items → length (answers spec [] items) + length (end_answer spec items) ≤ most_rows spec * length (rows_of items)
length-answers spec items unended =
    let all : length (answers spec [] items) + length (end_answer spec items) ≤ most_rows spec * length (rows_of items) + length (end_answer spec []) = answers_and_end spec [] items unended in
    let none = rw (end_answer-nil spec) at all in
    omega arith

-- an operator that is no join gives one row at most for each that it takes
pub most_rows-plain : (spec : OpSpec) → is_join spec ≡ false → most_rows spec ≡ 1
most_rows-plain (op.Keep column compare limit) plain = refl
most_rows-plain (op.Total by) plain = refl
most_rows-plain (op.Last by n) plain = refl
most_rows-plain (op.Window by width) plain = refl
most_rows-plain (op.Crossing by limit) plain = refl
most_rows-plain (op.Join by width n column compare limit) plain = cc

-- no operator gives more than four
pub most_rows-few : (spec : OpSpec) → IsSpec spec → (1 ≤ most_rows spec) × (most_rows spec ≤ max_join_rows)
most_rows-few (op.Keep column compare limit) limits = (omega arith, omega arith)
most_rows-few (op.Total by) limits = (omega arith, omega arith)
most_rows-few (op.Last by n) limits = (omega arith, omega arith)
most_rows-few (op.Window by width) limits = (omega arith, omega arith)
most_rows-few (op.Crossing by limit) limits = (omega arith, omega arith)
most_rows-few (op.Join by width n column compare limit) limits = (limits.2, limits.3)
