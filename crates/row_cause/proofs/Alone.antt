-- Each row that answers a row is the answer over the rows of its cause alone.
use Rattle.std.proofs.Common.{ℕ, ℤ, zero, suc, ◌≡◌, ◌≤◌, ◌-◌, ◌+◌, Bool, true, false, not, cond, List, [], ◌∷◌, ◌++◌, length, map, drop, int_lt, refl, sym, ap, ◌∙◌, arith, length-append, length-drop}
use Rattle.std.specs.Prelude.{All}
use Rattle.std.specs.List.{filter}
use Rattle.std.specs.Ordering.{int_eq}
use Rattle.std.proofs.lemmas.List.{drop-append-le, length-map, drop-map}
use Rattle.std.proofs.lemmas.List.Elements.{All-drop, All-filter, All-head, All-nil, All-cons, All-tail, filter_passes}
use Rattle.circular_buffer.specs.Buffer.{keep_last}
use Rattle.tuple_edge.specs.Row.{column_of}
use Rattle.tuple_edge.specs.declared.row.Key.{Key}
use Rattle.tuple_edge.specs.declared.row.Row.{Row}
use Rattle.op_spec.specs.Compares.{holds}
use Rattle.op_spec.specs.Keys.{is_key, key_of}
use Rattle.op_spec.specs.Spec.{IsSpec}
use Rattle.op_spec.specs.declared.spec.By.{By}
use Rattle.op_spec.specs.declared.spec.OpSpec.{OpSpec}
use Rattle.op_spec.specs.declared.spec.OpSpec.TheVariants as op
use Rattle.op_spec.specs.declared.spec.Compare.{Compare}
use Rattle.tuple_edge.specs.declared.row.Column.{Column}
use Rattle.stream_ops.specs.Answers.{crossing_answer, row_answer, window_answer, window_row}
use Rattle.stream_ops.specs.Joins.{is_left, join_answer, pair_row, rows_across}
use Rattle.stream_ops.specs.Rows.{rows_with}
use Rattle.stream_ops.specs.Sums.{crosses, sums_of, sums_row}
use Rattle.stream_ops.specs.Windows.{level, rows_at, window_of}
use Rattle.row_cause.specs.Causes.{Cause, across, alone, crossing_causes, items_in, join_causes, of_its_key, of_key, open_rows, partners, row_causes, rows_in, said_by, window_causes}
use Rattle.row_cause.specs.Laws.{RowsRestOnCauses, one_by_one}
use Rattle.row_cause.specs.declared.placed.Placed.{Placed}
use Rattle.row_cause.proofs.Filters.{IsOfKey, all_of_key, filter_mapped, with_key, with_own_key}
use Rattle.row_cause.proofs.Windows.{closed_alone, open_all, open_placed}

-- the rows of a row's key, among those alone
own : (by : By) (before : List Placed) (r : Placed) → rows_with by (items_in (of_its_key by r before)) (key_of by r.row) ≡ rows_with by (items_in before) (key_of by r.row)
own by before r =
    with_own_key by (key_of by r.row) (of_its_key by r before) (all_of_key by (key_of by r.row) before) ∙ sym (with_key by (key_of by r.row) before)

-- ---- `keep`

keep_by : (t : Bool) (r : Row) (c : Cause) (f : Cause → List Row) → f c ≡ cond t (r ∷ []) [] → one_by_one (cond t (r ∷ []) []) ≡ map f (cond t (c ∷ []) [])
keep_by true r c f is = ap (λ (rows : List Row). rows ∷ []) (sym is)
keep_by false r c f is = refl

-- ---- `total`

total_alone : (by : By) (before : List Placed) (r : Placed) → one_by_one (row_answer (op.Total by) (items_in before) r.row) ≡ map (alone (op.Total by)) (row_causes (op.Total by) before r)
total_alone by before r =
    ap (λ (rows : List Row). (sums_row r.row.time (key_of by r.row) (sums_of (rows ++ r.row ∷ [])) ∷ []) ∷ []) (sym (own by before r))

-- ---- `last`

-- the last of some, and one more
last_more : {X : Type 0} (m : ℕ) (xs : List X) (x : X) → keep_last (suc m) (keep_last m xs ++ x ∷ []) ≡ keep_last (suc m) (xs ++ x ∷ [])
last_more m xs x =
    let short : length (keep_last m xs ++ x ∷ []) - suc m ≡ 0 = omega (arith, length-append (keep_last m xs) (x ∷ []), length-drop (length xs - m) xs) in
    let cut : length (xs ++ x ∷ []) - suc m ≡ length xs - m = omega (arith, length-append xs (x ∷ [])) in
    ap (λ n. drop n (keep_last m xs ++ x ∷ [])) short
    ∙ (sym (drop-append-le (length xs - m) xs (x ∷ []) (omega arith)) ∙ ap (λ n. drop n (xs ++ x ∷ [])) (sym cut))

last_in : (n : ℕ) (placed : List Placed) → rows_in (keep_last n placed) ≡ keep_last n (rows_in placed)
last_in n placed =
    let size : length (rows_in placed) ≡ length placed = length-map placed (λ (x : Placed). x.row) in
    sym (drop-map (λ (x : Placed). x.row) (length placed - n) placed) ∙ ap (λ m. drop (m - n) (rows_in placed)) (sym size)

last_of_key : (by : By) (n : ℕ) (before : List Placed) (r : Placed) → 1 ≤ n
    → keep_last n (rows_with by (items_in (keep_last (n - 1) (of_its_key by r before))) (key_of by r.row) ++ r.row ∷ []) ≡ keep_last n (rows_with by (items_in before) (key_of by r.row) ++ r.row ∷ [])
last_of_key by zero before r some = absurd (omega arith)
last_of_key by (suc m) before r some =
    let k = key_of by r.row in
    let mine = of_its_key by r before in
    let less : suc m - 1 ≡ m = omega arith in
    ap (λ (j : ℕ). keep_last (suc m) (rows_with by (items_in (keep_last j mine)) k ++ r.row ∷ [])) less
    ∙ (ap (λ (rows : List Row). keep_last (suc m) (rows ++ r.row ∷ [])) (with_own_key by k (keep_last m mine) (All-drop (IsOfKey by k) (length mine - m) mine (all_of_key by k before)) ∙ last_in m mine)
    ∙ (last_more m (rows_in mine) r.row ∙ ap (λ (rows : List Row). keep_last (suc m) (rows ++ r.row ∷ [])) (sym (with_key by k before))))

last_alone : (by : By) (n : ℕ) (before : List Placed) (r : Placed) → 1 ≤ n → one_by_one (row_answer (op.Last by n) (items_in before) r.row) ≡ map (alone (op.Last by n)) (row_causes (op.Last by n) before r)
last_alone by n before r some =
    ap (λ (rows : List Row). (sums_row r.row.time (key_of by r.row) (sums_of rows) ∷ []) ∷ []) (sym (last_of_key by n before r some))

-- ---- `window`

window_by : (by : By) (width : ℤ) (r x : Placed) (placed : List Placed) (t : Bool) → int_lt (level width (rows_in (x ∷ placed))) (level width (rows_in (x ∷ placed) ++ r.row ∷ [])) ≡ t
    → All (IsOfKey by (key_of by r.row)) (x ∷ placed)
    → one_by_one (cond t (window_row width (key_of by r.row) (rows_in (x ∷ placed)) ∷ []) []) ≡ map (alone (op.Window by width)) (cond t (said_by r (open_rows width (x ∷ placed)) ∷ []) [])
window_by by width r x placed true closes mine =
    let k = key_of by r.row in
    let opened = open_rows width (x ∷ placed) in
    ap (λ rows. rows ∷ [])
    (sym (ap (λ (rows : List Row). window_answer width k rows r.row) (with_own_key by k opened (open_all (IsOfKey by k) width (x ∷ placed) mine) ∙ open_placed width (x ∷ placed))
    ∙ closed_alone width k x.row (rows_in placed) r.row closes))
window_by by width r x placed false closes mine = refl

window_from : (by : By) (width : ℤ) (r : Placed) (placed : List Placed) → All (IsOfKey by (key_of by r.row)) placed
    → one_by_one (window_answer width (key_of by r.row) (rows_in placed) r.row) ≡ map (alone (op.Window by width)) (window_causes width placed r)
window_from by width r [] mine = refl
window_from by width r (x ∷ placed) mine =
    window_by by width r x placed (int_lt (level width (rows_in (x ∷ placed))) (level width (rows_in (x ∷ placed) ++ r.row ∷ []))) refl mine

window_alone : (by : By) (width : ℤ) (before : List Placed) (r : Placed) → one_by_one (row_answer (op.Window by width) (items_in before) r.row) ≡ map (alone (op.Window by width)) (row_causes (op.Window by width) before r)
window_alone by width before r =
    ap (λ (rows : List Row). one_by_one (window_answer width (key_of by r.row) rows r.row)) (with_key by (key_of by r.row) before)
    ∙ window_from by width r (of_its_key by r before) (all_of_key by (key_of by r.row) before)

-- ---- `crossing`

crossing_by : (by : By) (limit : ℤ) (r : Placed) (placed : List Placed) (t : Bool) → crosses limit (sums_of (rows_in placed)).value (sums_of (rows_in placed ++ r.row ∷ [])).value ≡ t
    → All (IsOfKey by (key_of by r.row)) placed
    → one_by_one (cond t (sums_row r.row.time (key_of by r.row) (sums_of (rows_in placed ++ r.row ∷ [])) ∷ []) []) ≡ map (alone (op.Crossing by limit)) (cond t (said_by r placed ∷ []) [])
crossing_by by limit r placed true is mine =
    let k = key_of by r.row in
    ap (λ rows. rows ∷ []) (sym (ap (λ (rows : List Row). crossing_answer limit k rows r.row) (with_own_key by k placed mine) ∙ rw is refl))
crossing_by by limit r placed false is mine = refl

crossing_alone : (by : By) (limit : ℤ) (before : List Placed) (r : Placed) → one_by_one (row_answer (op.Crossing by limit) (items_in before) r.row) ≡ map (alone (op.Crossing by limit)) (row_causes (op.Crossing by limit) before r)
crossing_alone by limit before r =
    let mine = of_its_key by r before in
    ap (λ (rows : List Row). one_by_one (crossing_answer limit (key_of by r.row) rows r.row)) (with_key by (key_of by r.row) before)
    ∙ crossing_by by limit r mine (crosses limit (sums_of (rows_in mine)).value (sums_of (rows_in mine ++ r.row ∷ [])).value) refl (all_of_key by (key_of by r.row) before)

-- ---- `join`

-- the rows of the other side, with places and without
across_in : (left : Row → Bool) (r : Placed) (placed : List Placed) (t : Bool) → left r.row ≡ t → rows_across left r.row (rows_in placed) ≡ rows_in (across left r placed)
across_in left r placed true is = rw is (filter_mapped (λ (x : Placed). x.row) (λ x. not (left x)) placed)
across_in left r placed false is = rw is (filter_mapped (λ (x : Placed). x.row) left placed)

-- a row is of the other side than another, and in its window
abbrev is_across : (Row → Bool) → Row → Row → Bool
is_across left r x = cond (left r) (not (left x)) (left x)

-- the row that is paired
record IsPartner (by : By) (width : ℤ) (left : Row → Bool) (r x : Placed) : Type 0 where
  pub key : is_key (key_of by x.row) (key_of by r.row) ≡ true
  pub across : is_across left r.row x.row ≡ true
  pub window : int_eq (window_of width x.row) (window_of width r.row) ≡ true

across_all : (left : Row → Bool) (r : Placed) (placed : List Placed) (t : Bool) → left r.row ≡ t → All (λ (x : Placed). is_across left r.row x.row ≡ true) (across left r placed)
across_all left r placed true is = rw is (filter_passes (λ (x : Placed). not (left x.row)) placed)
across_all left r placed false is = rw is (filter_passes (λ (x : Placed). left x.row) placed)

across_kept : (P : Placed → Type 0) (left : Row → Bool) (r : Placed) (placed : List Placed) (t : Bool) → left r.row ≡ t → All P placed → All P (across left r placed)
across_kept P left r placed true is h = rw is (All-filter (λ (x : Placed). not (left x.row)) P placed h)
across_kept P left r placed false is h = rw is (All-filter (λ (x : Placed). left x.row) P placed h)

-- three facts on each of some
all_three : (P Q R S : Placed → Type 0) → ((x : Placed) → P x → Q x → R x → S x) → (placed : List Placed) → All P placed → All Q placed → All R placed → All S placed
all_three P Q R S f [] p q r = All-nil S
all_three P Q R S f (x ∷ placed) p q r =
    All-cons S x placed (f x (All-head P x placed p) (All-head Q x placed q) (All-head R x placed r))
    (all_three P Q R S f placed (All-tail P x placed p) (All-tail Q x placed q) (All-tail R x placed r))

partners_are : (by : By) (width : ℤ) (n : ℕ) (left : Row → Bool) (r : Placed) (placed : List Placed) → All (IsOfKey by (key_of by r.row)) placed
    → All (IsPartner by width left r) (partners width n left placed r)
partners_are by width n left r placed mine =
    let others = across left r placed in
    let test : Placed → Bool = λ x. int_eq (window_of width x.row) (window_of width r.row) in
    let OfKey : Placed → Type 0 = IsOfKey by (key_of by r.row) in
    let Across : Placed → Type 0 = λ x. is_across left r.row x.row ≡ true in
    all_three OfKey Across (λ x. test x ≡ true) (IsPartner by width left r) (λ x p q w. record { key = p; across = q; window = w }) (partners width n left placed r)
    (All-filter test OfKey (keep_last n others) (All-drop OfKey (length others - n) others (across_kept OfKey left r placed (left r.row) refl mine)))
    (All-filter test Across (keep_last n others) (All-drop Across (length others - n) others (across_all left r placed (left r.row) refl)))
    (filter_passes test (keep_last n others))

-- the one row of the other side is there
across_one : (left : Row → Bool) (r x : Row) (t : Bool) → left r ≡ t → is_across left r x ≡ true → rows_across left r (x ∷ []) ≡ x ∷ []
across_one left r x true is h = rw is (rw (rw is at h) refl)
across_one left r x false is h = rw is (rw (rw is at h) refl)

keep_one : {X : Type 0} (n : ℕ) (x : X) → 1 ≤ n → keep_last n (x ∷ []) ≡ x ∷ []
keep_one zero x some = absurd (omega arith)
keep_one (suc n) x some = let none : length (x ∷ []) - suc n ≡ 0 = omega arith in ap (λ m. drop m (x ∷ [])) none

pair_alone : (by : By) (width : ℤ) (n : ℕ) (column : Column) (compare : Compare) (limit : ℤ) (r x : Placed) → 1 ≤ n → IsPartner by width (is_left column compare limit) r x
    → pair_row (key_of by r.row) r.row x.row ∷ [] ≡ alone (op.Join by width n column compare limit) (said_by r (x ∷ []))
pair_alone by width n column compare limit r x some p =
    let k = key_of by r.row in
    let left = is_left column compare limit in
    let mine : rows_with by (items_in (x ∷ [])) k ≡ x.row ∷ [] = with_own_key by k (x ∷ []) (All-cons (IsOfKey by k) x [] p.key (All-nil (IsOfKey by k))) in
    sym (ap (λ (rows : List Row). join_answer width n left k rows r.row) mine
    ∙ (ap (λ (rows : List Row). map (pair_row k r.row) (filter (λ other. int_eq (window_of width other) (window_of width r.row)) (keep_last n rows))) (across_one left r.row x.row (left r.row) refl p.across)
    ∙ (ap (λ (rows : List Row). map (pair_row k r.row) (filter (λ other. int_eq (window_of width other) (window_of width r.row)) rows)) (keep_one n x.row some)
    ∙ rw p.window refl)))

pairs_alone : (by : By) (width : ℤ) (n : ℕ) (column : Column) (compare : Compare) (limit : ℤ) (r : Placed) → 1 ≤ n → (others : List Placed) → All (IsPartner by width (is_left column compare limit) r) others
    → one_by_one (map (pair_row (key_of by r.row) r.row) (rows_in others)) ≡ map (alone (op.Join by width n column compare limit)) (map (λ other. said_by r (other ∷ [])) others)
pairs_alone by width n column compare limit r some [] h = refl
pairs_alone by width n column compare limit r some (x ∷ others) h =
    let P : Placed → Type 0 = IsPartner by width (is_left column compare limit) r in
    ap (λ (rows : List Row). rows ∷ one_by_one (map (pair_row (key_of by r.row) r.row) (rows_in others))) (pair_alone by width n column compare limit r x some (All-head P x others h))
    ∙ ap (λ (rest : List (List Row)). alone (op.Join by width n column compare limit) (said_by r (x ∷ [])) ∷ rest) (pairs_alone by width n column compare limit r some others (All-tail P x others h))

join_alone : (by : By) (width : ℤ) (n : ℕ) (column : Column) (compare : Compare) (limit : ℤ) (before : List Placed) (r : Placed) → 1 ≤ n
    → one_by_one (row_answer (op.Join by width n column compare limit) (items_in before) r.row) ≡ map (alone (op.Join by width n column compare limit)) (row_causes (op.Join by width n column compare limit) before r)
join_alone by width n column compare limit before r some =
    let k = key_of by r.row in
    let left = is_left column compare limit in
    let mine = of_its_key by r before in
    let others = across left r mine in
    ap (λ (rows : List Row). one_by_one (join_answer width n left k rows r.row)) (with_key by k before)
    ∙ (ap (λ (rows : List Row). one_by_one (map (pair_row k r.row) (filter (λ other. int_eq (window_of width other) (window_of width r.row)) (keep_last n rows)))) (across_in left r mine (left r.row) refl)
    ∙ (ap (λ (rows : List Row). one_by_one (map (pair_row k r.row) (filter (λ other. int_eq (window_of width other) (window_of width r.row)) rows))) (sym (last_in n others))
    ∙ (ap (λ (rows : List Row). one_by_one (map (pair_row k r.row) rows)) (filter_mapped (λ (x : Placed). x.row) (λ other. int_eq (window_of width other) (window_of width r.row)) (keep_last n others))
    ∙ pairs_alone by width n column compare limit r some (partners width n left mine r) (partners_are by width n left r mine (all_of_key by k before)))))

-- ---- all

pub rows_rest : RowsRestOnCauses
rows_rest (op.Keep column compare limit) before r limits =
    keep_by (holds compare (column_of column r.row) limit) r.row (said_by r []) (alone (op.Keep column compare limit)) refl
rows_rest (op.Total by) before r limits = total_alone by before r
rows_rest (op.Last by n) before r limits = last_alone by n before r limits.0
rows_rest (op.Window by width) before r limits = window_alone by width before r
rows_rest (op.Crossing by limit) before r limits = crossing_alone by limit before r
rows_rest (op.Join by width n column compare limit) before r limits = join_alone by width n column compare limit before r limits.2
