-- What each operator answers, and keeps, after items that have the same entries.
use Rattle.std.proofs.Common.{ℕ, ◌≡◌, ℤ, pos, List, [], ◌∷◌, ◌++◌, refl, sym, ap, ◌∙◌, Option, fold, map, unwrap_or, Bool}
use Rattle.circular_buffer.specs.Buffer.{keep_last}
use Rattle.keyed_store.specs.Join.{AreSides, other_side, pairs_with, sides_with}
use Rattle.keyed_store.proofs.JoinAfter.{sides_right}
use Rattle.tuple_edge.specs.declared.item.Item.{Item}
use Rattle.tuple_edge.specs.declared.item.Item.TheVariants as item
use Rattle.tuple_edge.specs.declared.packet.Entry.{Entry}
use Rattle.tuple_edge.specs.declared.row.Key.{Key}
use Rattle.tuple_edge.specs.declared.row.Row.{Row}
use Rattle.op_spec.specs.Keys.{key_of}
use Rattle.op_spec.specs.Spec.{IsSpec}
use Rattle.op_spec.specs.declared.spec.By.{By}
use Rattle.op_spec.specs.declared.spec.OpSpec.{OpSpec}
use Rattle.op_spec.specs.declared.spec.OpSpec.TheVariants as op
use Rattle.stream_ops.specs.Answers.{answer, answers, end_answer, row_answer, window_row}
use Rattle.stream_ops.specs.Entries.{entries, slots, sums_entry, told_last, told_total, told_window}
use Rattle.stream_ops.specs.Joins.{is_left, row_of_pair, side_row, sided_row, sides_of_rows, told_sides}
use Rattle.stream_ops.specs.Kept.{last_of_rows, open_window, total_of_rows, window_of_rows}
use Rattle.stream_ops.specs.Rows.{keys_in, rows_of, rows_with}
use Rattle.stream_ops.specs.Steps.{closed_by, last_with, no_sums, opened_by, told_closed, told_crossing, told_window_row, total_with, window_with}
use Rattle.stream_ops.specs.Sums.{amounts, sums_of, sums_row, sums_with}
use Rattle.stream_ops.specs.View.{AreLast, IsAnySums, IsWindow}
use Rattle.stream_ops.proofs.Counts.{rows_of-end, rows_of-mark}
use Rattle.stream_ops.proofs.Lasts.{last-push, sums_had, sums_of-push, sums_of_last, total-push}
use Rattle.stream_ops.proofs.Levels.{window-push, window_answers}
use Rattle.stream_ops.proofs.Sided.{join_answers, joined-push, sides_entries, sides_tell, sides_tells}
use Rattle.stream_ops.proofs.Standing.{last_right, last_tell, last_tells, total_tell, total_tells, window_right, window_tell, window_tells}
use Rattle.state_laws.specs.Laws.{AnswersComeFromEntries, EntriesGoOn, LaterAnswersComeFromEntries}
use Rattle.state_laws.proofs.OfBoth.{OfBoth, both_next, both_same, both_told, of_both}

-- what an operator keeps is that of both items
abbrev IsOfBoth : OpSpec → List Item → List Item → Type 0
IsOfBoth (op.Keep column compare limit) xs ys = Unit {0}
IsOfBoth (op.Total by) xs ys = OfBoth total_of_rows by xs ys
IsOfBoth (op.Last by n) xs ys = OfBoth (last_of_rows n) by xs ys
IsOfBoth (op.Window by width) xs ys = OfBoth (window_of_rows width) by xs ys
IsOfBoth (op.Crossing by limit) xs ys = OfBoth total_of_rows by xs ys
IsOfBoth (op.Join by width n column compare limit) xs ys = OfBoth (sides_of_rows width n (is_left column compare limit)) by xs ys

-- the entries of a key's rows
abbrev total_entries : Key → List Row → List Entry
total_entries k rows = sums_entry k 0 (sums_of rows) (pos 0) ∷ []

abbrev last_entries : ℕ → Key → List Row → List Entry
last_entries n k rows = slots k 0 (map amounts (keep_last n rows))

abbrev window_entries : ℤ → Key → List Row → List Entry
window_entries width k rows = sums_entry k 0 (open_window width rows).sums (open_window width rows).number ∷ []

-- it is so where the entries are the same
of_entries : (spec : OpSpec) (xs ys : List Item) → IsSpec spec → entries spec xs ≡ entries spec ys → IsOfBoth spec xs ys
of_entries (op.Keep column compare limit) xs ys limits same = tt
of_entries (op.Total by) xs ys limits same =
    of_both total_of_rows total_with total-push refl IsAnySums (λ o r had. tt) told_total total_tells total_entries total_tell by xs ys same
of_entries (op.Last by n) xs ys limits same =
    of_both (last_of_rows n) (last_with n) (last-push n) refl (AreLast n) (λ o r had. last_right n limits.0 o (amounts r) had) told_last (last_tells n) (last_entries n) (last_tell n) by xs ys same
of_entries (op.Window by width) xs ys limits same =
    of_both (window_of_rows width) (λ had r. window_with had (opened_by width r) r) (window-push width) refl (IsWindow width) (window_right width) told_window (window_tells width) (window_entries width) (window_tell width) by xs ys same
of_entries (op.Crossing by limit) xs ys limits same =
    of_both total_of_rows total_with total-push refl IsAnySums (λ o r had. tt) told_total total_tells total_entries total_tell by xs ys same
of_entries (op.Join by width n column compare limit) xs ys limits same =
    let left : Row → Bool = is_left column compare limit in
    of_both (sides_of_rows width n left) (λ o r. sides_with n o (sided_row width left r)) (joined-push width n left) refl (AreSides n) (λ o r had. sides_right n o (side_row width r) (left r) limits.2 had)
    told_sides (sides_tells n limits.3) (sides_entries width n left) (sides_tell width n left) by xs ys same

-- and the other way round
to_entries : (spec : OpSpec) (xs ys : List Item) → IsOfBoth spec xs ys → entries spec xs ≡ entries spec ys
to_entries (op.Keep column compare limit) xs ys both = refl
to_entries (op.Total by) xs ys both = both_told total_of_rows told_total total_entries total_tell by xs ys both
to_entries (op.Last by n) xs ys both = both_told (last_of_rows n) told_last (last_entries n) (last_tell n) by xs ys both
to_entries (op.Window by width) xs ys both = both_told (window_of_rows width) told_window (window_entries width) (window_tell width) by xs ys both
to_entries (op.Crossing by limit) xs ys both = both_told total_of_rows told_total total_entries total_tell by xs ys both
to_entries (op.Join by width n column compare limit) xs ys both =
    let left : Row → Bool = is_left column compare limit in
    both_told (sides_of_rows width n left) told_sides (sides_entries width n left) (sides_tell width n left) by xs ys both

-- one item more leaves it so
row_both : (spec : OpSpec) (xs ys : List Item) (stamp : _) (r : Row) → IsOfBoth spec xs ys → IsOfBoth spec (xs ++ item.Row stamp r ∷ []) (ys ++ item.Row stamp r ∷ [])
row_both (op.Keep column compare limit) xs ys stamp r both = tt
row_both (op.Total by) xs ys stamp r both = both_next total_of_rows total_with total-push by xs ys stamp r both
row_both (op.Last by n) xs ys stamp r both = both_next (last_of_rows n) (last_with n) (last-push n) by xs ys stamp r both
row_both (op.Window by width) xs ys stamp r both = both_next (window_of_rows width) (λ had r. window_with had (opened_by width r) r) (window-push width) by xs ys stamp r both
row_both (op.Crossing by limit) xs ys stamp r both = both_next total_of_rows total_with total-push by xs ys stamp r both
row_both (op.Join by width n column compare limit) xs ys stamp r both =
    let left : Row → Bool = is_left column compare limit in
    both_next (sides_of_rows width n left) (λ o r. sides_with n o (sided_row width left r)) (joined-push width n left) by xs ys stamp r both

same_both : (spec : OpSpec) (xs ys us vs : List Item) → rows_of us ≡ rows_of xs → rows_of vs ≡ rows_of ys → IsOfBoth spec xs ys → IsOfBoth spec us vs
same_both (op.Keep column compare limit) xs ys us vs same same_too both = tt
same_both (op.Total by) xs ys us vs same same_too both = both_same total_of_rows by xs ys us vs same same_too both
same_both (op.Last by n) xs ys us vs same same_too both = both_same (last_of_rows n) by xs ys us vs same same_too both
same_both (op.Window by width) xs ys us vs same same_too both = both_same (window_of_rows width) by xs ys us vs same same_too both
same_both (op.Crossing by limit) xs ys us vs same same_too both = both_same total_of_rows by xs ys us vs same same_too both
same_both (op.Join by width n column compare limit) xs ys us vs same same_too both = both_same (sides_of_rows width n (is_left column compare limit)) by xs ys us vs same same_too both

item_both : (spec : OpSpec) (xs ys : List Item) (next : Item) → IsOfBoth spec xs ys → IsOfBoth spec (xs ++ next ∷ []) (ys ++ next ∷ [])
item_both spec xs ys (item.Row stamp r) both = row_both spec xs ys stamp r both
item_both spec xs ys (item.Mark stamp) both = same_both spec xs ys _ _ (rows_of-mark xs stamp) (rows_of-mark ys stamp) both
item_both spec xs ys (item.End stamp) both = same_both spec xs ys _ _ (rows_of-end xs stamp) (rows_of-end ys stamp) both

-- what is kept of a key's rows is the same
alike : {X : Type 0} (kept_of : List Row → Option X) (by : By) (xs ys : List Item) → OfBoth kept_of by xs ys → (k : Key) → kept_of (rows_with by xs k) ≡ kept_of (rows_with by ys k)
alike kept_of by xs ys both k = sym (both.first.values k) ∙ both.other.values k

-- from it comes the answer to a row
total_row : (by : By) (xs ys : List Item) (r : Row) (k : Key) → OfBoth total_of_rows by xs ys → sums_of (rows_with by xs k ++ r ∷ []) ≡ sums_of (rows_with by ys k ++ r ∷ [])
total_row by xs ys r k both = sums_of-push (rows_with by xs k) r ∙ ap (λ o. total_with o r) (alike total_of_rows by xs ys both k) ∙ sym (sums_of-push (rows_with by ys k) r)

total_had : (by : By) (xs ys : List Item) (k : Key) → OfBoth total_of_rows by xs ys → sums_of (rows_with by xs k) ≡ sums_of (rows_with by ys k)
total_had by xs ys k both = sym (sums_had (rows_with by xs k)) ∙ ap (λ o. unwrap_or o no_sums) (alike total_of_rows by xs ys both k) ∙ sums_had (rows_with by ys k)

row_same : (spec : OpSpec) (xs ys : List Item) (r : Row) → IsOfBoth spec xs ys → row_answer spec xs r ≡ row_answer spec ys r
row_same (op.Keep column compare limit) xs ys r both = refl
row_same (op.Total by) xs ys r both = ap (λ s. sums_row r.time (key_of by r) s ∷ []) (total_row by xs ys r (key_of by r) both)
row_same (op.Last by n) xs ys r both =
    ap (λ s. sums_row r.time (key_of by r) s ∷ [])
    (sym (sums_of_last n (rows_with by xs (key_of by r)) r)
    ∙ ap (λ o. fold sums_with no_sums (last_with n o r).items) (alike (last_of_rows n) by xs ys both (key_of by r))
    ∙ sums_of_last n (rows_with by ys (key_of by r)) r)
row_same (op.Window by width) xs ys r both =
    sym (window_answers width (key_of by r) (rows_with by xs (key_of by r)) r)
    ∙ ap (λ o. told_closed (key_of by r) (closed_by o (opened_by width r))) (alike (window_of_rows width) by xs ys both (key_of by r))
    ∙ window_answers width (key_of by r) (rows_with by ys (key_of by r)) r
row_same (op.Crossing by limit) xs ys r both =
    let k : Key = key_of by r in
    ap (λ s. told_crossing limit k r.time s (sums_of (rows_with by xs k ++ r ∷ []))) (total_had by xs ys k both)
    ∙ ap (λ s. told_crossing limit k r.time (sums_of (rows_with by ys k)) s) (total_row by xs ys r k both)
row_same (op.Join by width n column compare limit) xs ys r both =
    let left : Row → Bool = is_left column compare limit in
    let k : Key = key_of by r in
    sym (join_answers width n left k (rows_with by xs k) r)
    ∙ ap (λ o. map (row_of_pair r.time k) (pairs_with (side_row width r) (other_side (left r) o))) (alike (sides_of_rows width n left) by xs ys both k)
    ∙ join_answers width n left k (rows_with by ys k) r

-- and the answer to the end
window_same : (width : ℤ) (k : Key) (us vs : List Row) → window_of_rows width us ≡ window_of_rows width vs → window_row width k us ≡ window_row width k vs
window_same width k [] [] same = refl
window_same width k [] (v ∷ vs) same = cc
window_same width k (u ∷ us) [] same = cc
window_same width k (u ∷ us) (v ∷ vs) same =
    let e : open_window width (u ∷ us) ≡ open_window width (v ∷ vs) = cc in
    ap (told_window_row k) e

end_same : (spec : OpSpec) (xs ys : List Item) → IsOfBoth spec xs ys → end_answer spec xs ≡ end_answer spec ys
end_same (op.Keep column compare limit) xs ys both = refl
end_same (op.Total by) xs ys both = refl
end_same (op.Last by n) xs ys both = refl
end_same (op.Window by width) xs ys both =
    ap (map (λ k. window_row width k (rows_with by xs k))) (sym both.first.keys ∙ both.other.keys)
    ∙ ap (λ (f : Key → Row). map f (keys_in by ys)) (λ i k. window_same width k (rows_with by xs k) (rows_with by ys k) (alike (window_of_rows width) by xs ys both k) i)
end_same (op.Crossing by limit) xs ys both = refl
end_same (op.Join by width n column compare limit) xs ys both = refl

both_answer : (spec : OpSpec) (xs ys : List Item) (next : Item) → IsOfBoth spec xs ys → answer spec xs next ≡ answer spec ys next
both_answer spec xs ys (item.Row stamp r) both = row_same spec xs ys r both
both_answer spec xs ys (item.Mark stamp) both = refl
both_answer spec xs ys (item.End stamp) both = end_same spec xs ys both

both_answers : (spec : OpSpec) (xs ys later : List Item) → IsOfBoth spec xs ys → answers spec xs later ≡ answers spec ys later
both_answers spec xs ys [] both = refl
both_answers spec xs ys (next ∷ later) both =
    ap (λ rows. rows ++ answers spec (xs ++ next ∷ []) later) (both_answer spec xs ys next both)
    ∙ ap (λ rows. answer spec ys next ++ rows) (both_answers spec (xs ++ next ∷ []) (ys ++ next ∷ []) later (item_both spec xs ys next both))

-- ---- the laws

pub answer_same : AnswersComeFromEntries
answer_same spec xs ys next limits same = both_answer spec xs ys next (of_entries spec xs ys limits same)

pub entries_same : EntriesGoOn
entries_same spec xs ys next limits same = to_entries spec (xs ++ next ∷ []) (ys ++ next ∷ []) (item_both spec xs ys next (of_entries spec xs ys limits same))

pub answers_same : LaterAnswersComeFromEntries
answers_same spec xs ys later limits same = both_answers spec xs ys later (of_entries spec xs ys limits same)
