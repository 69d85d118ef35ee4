-- What each operator answers to a row and to the end, from what it keeps.
use Rattle.std.proofs.Common.{ℕ, ◌≡◌, ℤ, List, [], ◌∷◌, ◌++◌, refl, sym, ap, ◌∙◌, Option, Some, fold, map, unwrap_or}
use Rattle.std.specs.List.{All}
use Rattle.std.specs.Map.{keys_of, lookup}
use Rattle.std.proofs.lemmas.List.Elements.{All-head, All-tail}
use Rattle.circular_buffer.specs.Buffer.{Buffer}
use Rattle.tuple_edge.specs.declared.item.Item.{Item}
use Rattle.tuple_edge.specs.declared.row.Key.{Key}
use Rattle.tuple_edge.specs.declared.row.Row.{Row}
use Rattle.std.specs.Prelude.{Bool}
use Rattle.keyed_store.specs.Join as join
use Rattle.keyed_store.specs.Join.{other_side, pairs_with}
use Rattle.keyed_store.specs.declared.rows.JoinKey.{JoinKey}
use Rattle.keyed_store.specs.declared.rows.Sides.{Sides}
use Rattle.tuple_edge.specs.declared.row.Column.{Column}
use Rattle.op_spec.specs.declared.spec.Compare.{Compare}
use Rattle.op_spec.specs.Keys.{is_key, key_cmp, key_of}
use Rattle.op_spec.specs.declared.spec.By.{By}
use Rattle.op_spec.specs.declared.spec.OpSpec.TheVariants as op
use Rattle.stream_ops.specs.Joins.{by_key, is_left, join_key, row_of_pair, side_row, sides_of_rows}
use Rattle.stream_ops.proofs.Sided.{join_answers, lookup-by_key}
use Rattle.stream_ops.specs.Answers.{crossing_answer, end_answer, row_answer, window_row}
use Rattle.stream_ops.specs.Rows.{rows_with}
use Rattle.stream_ops.specs.Kept.{Keeps, last_of_rows, open_window, total_of_rows, window_of_rows}
use Rattle.stream_ops.specs.Steps.{closed_by, last_with, no_sums, opened_by, sums_last, told_crossing, told_closed, told_window_row, total_with}
use Rattle.stream_ops.specs.Sums.{sums_of, sums_row, sums_with}
use Rattle.stream_ops.specs.declared.sums.Sums.{Sums}
use Rattle.stream_ops.specs.declared.window.OpenWindow.{OpenWindow}
use Rattle.std.specs.BTreeMap.{insert_entry, is_at}
use Rattle.stream_ops.proofs.Keyed.{lookup-insert, self_key}
use Rattle.stream_ops.proofs.Lasts.{sums_had, sums_of_last, sums_of-push}
use Rattle.stream_ops.proofs.Levels.{window_answers}

pub total_answers : (by : By) (kept : List (Key × Sums)) (before : List Item) (r : Row) (key : Key) (total : Sums)
    → Keeps total_of_rows by kept before → key ≡ key_of by r → total ≡ total_with (lookup (is_key key) kept) r
    → sums_row r.time key total ∷ [] ≡ row_answer (op.Total by) before r
total_answers by kept before r key total had key_is total_is =
    rw (total_is, key_is, had.values (key_of by r)) (ap (λ s. sums_row r.time (key_of by r) s ∷ []) (sym (sums_of-push (rows_with by before (key_of by r)) r)))

pub last_answers : (by : By) (n : ℕ) (kept new : List (Key × Buffer Sums)) (before : List Item) (r : Row) (key : Key) (total : Sums)
    → Keeps (last_of_rows n) by kept before → key ≡ key_of by r → new ≡ insert_entry key_cmp kept key (last_with n (lookup (is_key key) kept) r) → total ≡ sums_last (lookup (is_key key) new)
    → sums_row r.time key total ∷ [] ≡ row_answer (op.Last by n) before r
last_answers by n kept new before r key total had key_is new_is total_is =
    let here : lookup (is_key key) new ≡ Some (last_with n (lookup (is_key key) kept) r) =
    ap (lookup (is_key key)) new_is ∙ lookup-insert key key (last_with n (lookup (is_key key) kept) r) kept ∙ rw (self_key key) refl in
    let e : total ≡ fold sums_with no_sums (last_with n (last_of_rows n (rows_with by before (key_of by r))) r).items =
    total_is ∙ ap sums_last here ∙ ap (λ k. fold sums_with no_sums (last_with n (lookup (is_key k) kept) r).items) key_is
    ∙ ap (λ o. fold sums_with no_sums (last_with n o r).items) (had.values (key_of by r)) in
    rw key_is (ap (λ s. sums_row r.time (key_of by r) s ∷ []) (e ∙ sums_of_last n (rows_with by before (key_of by r)) r))

pub window_answered : (by : By) (width : ℤ) (kept : List (Key × OpenWindow)) (before : List Item) (r : Row) (key : Key) (closed : Option OpenWindow)
    → Keeps (window_of_rows width) by kept before → key ≡ key_of by r → closed ≡ closed_by (lookup (is_key key) kept) (opened_by width r)
    → told_closed key closed ≡ row_answer (op.Window by width) before r
window_answered by width kept before r key closed had key_is closed_is =
    rw (closed_is, key_is, had.values (key_of by r)) (window_answers width (key_of by r) (rows_with by before (key_of by r)) r)

crossing_rows : (limit : ℤ) (k : Key) (rows : List Row) (r : Row) → told_crossing limit k r.time (sums_of rows) (sums_of (rows ++ r ∷ [])) ≡ crossing_answer limit k rows r
crossing_rows limit k rows r = refl

pub crossing_answers : (by : By) (limit : ℤ) (kept : List (Key × Sums)) (before : List Item) (r : Row) (key : Key) (had_sums total : Sums)
    → Keeps total_of_rows by kept before → key ≡ key_of by r
    → had_sums ≡ unwrap_or (lookup (is_key key) kept) no_sums → total ≡ total_with (lookup (is_key key) kept) r
    → told_crossing limit key r.time had_sums total ≡ row_answer (op.Crossing by limit) before r
crossing_answers by limit kept before r key had_sums total had key_is had_is total_is =
    let rows : List Row = rows_with by before (key_of by r) in
    let found : lookup (is_key key) kept ≡ total_of_rows rows = ap (λ k. lookup (is_key k) kept) key_is ∙ had.values (key_of by r) in
    let was : had_sums ≡ sums_of rows = had_is ∙ ap (λ o. unwrap_or o no_sums) found ∙ sums_had rows in
    let now : total ≡ sums_of (rows ++ r ∷ []) = total_is ∙ ap (λ o. total_with o r) found ∙ sym (sums_of-push rows r) in
    ap (λ k. told_crossing limit k r.time had_sums total) key_is
    ∙ ap (λ s. told_crossing limit (key_of by r) r.time s total) was
    ∙ ap (λ s. told_crossing limit (key_of by r) r.time (sums_of rows) s) now
    ∙ crossing_rows limit (key_of by r) rows r

-- what is told of a key's open window
window_row_of : (width : ℤ) (k : Key) (rows : List Row) (o : OpenWindow) → window_of_rows width rows ≡ Some o → told_window_row k o ≡ window_row width k rows
window_row_of width k [] o is = cc
window_row_of width k (x ∷ rows) o is =
    let e : o ≡ open_window width (x ∷ rows) = cc in
    ap (told_window_row k) e

end_rows : (width : ℤ) (rows_for : Key → List Row) (all : List (Key × OpenWindow)) → ((k : Key) → lookup (is_key k) all ≡ window_of_rows width (rows_for k))
    → (es : List (Key × OpenWindow)) → All (λ (e : Key × OpenWindow). lookup (is_key e.0) all ≡ Some e.1) es
    → map (λ (e : Key × OpenWindow). told_window_row e.0 e.1) es ≡ map (λ k. window_row width k (rows_for k)) (keys_of es)
end_rows width rows_for all kept [] found = refl
end_rows width rows_for all kept (e ∷ es) found =
    ap (λ r. r ∷ map (λ (e : Key × OpenWindow). told_window_row e.0 e.1) es)
    (window_row_of width e.0 (rows_for e.0) e.1 (sym (kept e.0) ∙ All-head (λ (e : Key × OpenWindow). lookup (is_key e.0) all ≡ Some e.1) e es found))
    ∙ ap (λ rs. window_row width e.0 (rows_for e.0) ∷ rs) (end_rows width rows_for all kept es (All-tail (λ (e : Key × OpenWindow). lookup (is_key e.0) all ≡ Some e.1) e es found))

-- the answer to the end
pub window_ends : (by : By) (width : ℤ) (kept : List (Key × OpenWindow)) (before : List Item)
    → Keeps (window_of_rows width) by kept before → All (λ (e : Key × OpenWindow). lookup (is_key e.0) kept ≡ Some e.1) kept
    → map (λ (e : Key × OpenWindow). told_window_row e.0 e.1) kept ≡ end_answer (op.Window by width) before
window_ends by width kept before had found =
    end_rows width (rows_with by before) kept had.values kept found ∙ ap (map (λ k. window_row width k (rows_with by before k))) had.keys

-- the answer of a join
pub joined_answers : (by : By) (width : ℤ) (n : ℕ) (column : Column) (compare : Compare) (limit : ℤ) (kept : List (JoinKey × Sides)) (before : List Item) (r : Row) (key : Key) (left : Bool)
    → Keeps (sides_of_rows width n (is_left column compare limit)) by (by_key kept) before → key ≡ key_of by r → left ≡ is_left column compare limit r
    → map (row_of_pair r.time key) (pairs_with (side_row width r) (other_side left (lookup (is_at (join.key_cmp (join_key key))) kept))) ≡ row_answer (op.Join by width n column compare limit) before r
joined_answers by width n column compare limit kept before r key left had key_is left_is =
    let found : lookup (is_at (join.key_cmp (join_key key))) kept ≡ sides_of_rows width n (is_left column compare limit) (rows_with by before (key_of by r)) =
    lookup-by_key (join_key key) kept ∙ ap (λ k. lookup (is_key k) (by_key kept)) key_is ∙ had.values (key_of by r) in
    ap (λ o. map (row_of_pair r.time key) (pairs_with (side_row width r) (other_side left o))) found
    ∙ ap (λ k. map (row_of_pair r.time k) (pairs_with (side_row width r) (other_side left (sides_of_rows width n (is_left column compare limit) (rows_with by before (key_of by r)))))) key_is
    ∙ ap (λ t. map (row_of_pair r.time (key_of by r)) (pairs_with (side_row width r) (other_side t (sides_of_rows width n (is_left column compare limit) (rows_with by before (key_of by r)))))) left_is
    ∙ join_answers width n (is_left column compare limit) (key_of by r) (rows_with by before (key_of by r)) r
