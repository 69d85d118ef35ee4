-- What answers to marks tell is whether a row of the cause is marked.
use Rattle.std.proofs.Common.{ℕ, ℤ, zero, suc, pos, ◌≡◌, ◌≤◌, ◌≤ℤ◌, ◌-◌, Bool, true, false, not, cond, ◌||◌, List, [], ◌∷◌, ◌++◌, drop, fold, int_lt, length, map, refl, sym, ap, ◌∙◌, arith, length-append}
use Rattle.std.specs.Int.{int_max}
use Rattle.std.specs.List.{filter, list_any}
use Rattle.std.specs.Ordering.{int_eq}
use Rattle.std.proofs.lemmas.Int.{ints, clamps}
use Rattle.std.proofs.lemmas.List.{append-nil, drop-append-le, drop-map, length-map, map-append}
use Rattle.std.proofs.lemmas.List.Folds.{list_any-append}
use Rattle.circular_buffer.specs.Buffer.{keep_last}
use Rattle.tuple_edge.specs.Row.{column_of}
use Rattle.tuple_edge.specs.Sum.{saturating_sum}
use Rattle.tuple_edge.specs.declared.row.Column.{Column}
use Rattle.tuple_edge.specs.declared.row.Column.TheVariants as column
use Rattle.tuple_edge.specs.declared.row.Key.{Key}
use Rattle.tuple_edge.specs.declared.row.Row.{Row}
use Rattle.op_spec.specs.Compares.{holds}
use Rattle.op_spec.specs.Keys.{is_key, key_of}
use Rattle.op_spec.specs.Spec.{IsSpec}
use Rattle.op_spec.specs.declared.spec.By.{By}
use Rattle.op_spec.specs.declared.spec.By.TheVariants as by
use Rattle.op_spec.specs.declared.spec.Compare.{Compare}
use Rattle.op_spec.specs.declared.spec.OpSpec.{OpSpec}
use Rattle.op_spec.specs.declared.spec.OpSpec.TheVariants as op
use Rattle.stream_ops.specs.Answers.{end_answer, row_answer, window_answer, window_row}
use Rattle.stream_ops.specs.Joins.{is_left, join_answer, pair_row, rows_across}
use Rattle.stream_ops.specs.Rows.{keys_among, keys_in, rows_with, with_key}
use Rattle.stream_ops.specs.Sums.{crosses, sums_of, sums_row}
use Rattle.stream_ops.specs.Windows.{first_window, level, level_from, rows_at, rows_at_from, window_of}
use Rattle.evaluation.specs.StageRows.{alike}
use Rattle.row_cause.specs.Causes.{Cause, across, end_causes, items_in, of_its_key, of_key, open_rows, partners, placed_at_from, row_causes, rows_in, said_at_end, said_by, window_causes}
use Rattle.row_cause.specs.declared.placed.Placed.{Placed}
use Rattle.row_cause.proofs.Filters as f
use Rattle.row_cause.proofs.Filters.{rows_of-items}
use Rattle.row_reach.specs.Reach.{is_marked, touched}
use Rattle.reach_finder.specs.Shades.{compares_value, marking, shaded, tells, traced, traced_by, weight}
use Rattle.reach_finder.specs.Traced.{marks_in}
use Rattle.reach_finder.specs.declared.shades.Traced.{Traced}

-- a row with its place, as it is traced where rows have these marks
abbrev pub traced_at : List Bool → Placed → Traced
traced_at marks x = traced x.row (is_marked marks x)

-- and as the second run is given it
abbrev pub shade_at : OpSpec → List Bool → Placed → Row
shade_at op marks x = shaded op (traced_at marks x)

-- ---- booleans

or_false : (a : Bool) → (a || false) ≡ a
or_false true = refl
or_false false = refl

or_true : (a : Bool) → (a || true) ≡ true
or_true true = refl
or_true false = refl

or_assoc : (a b c : Bool) → ((a || b) || c) ≡ (a || (b || c))
or_assoc true b c = refl
or_assoc false b c = refl

own_twice : (m b : Bool) → (m || (b || (m || false))) ≡ (b || (m || false))
own_twice true true = refl
own_twice true false = refl
own_twice false b = refl

own_once : (m b : Bool) → (m || b) ≡ (b || (m || false))
own_once true true = refl
own_once true false = refl
own_once false true = refl
own_once false false = refl

-- ---- the rows of a cause

rests_with : (marks : List Bool) (before : List Placed) (r : Placed) → list_any (is_marked marks) (before ++ r ∷ []) ≡ (list_any (is_marked marks) before || (is_marked marks r || false))
rests_with marks before r = list_any-append (is_marked marks) before (r ∷ [])

-- what is told counts the row that spoke
with_speaker : (marks : List Bool) (before : List Placed) (r : Placed) (t : Bool) → t ≡ list_any (is_marked marks) (before ++ r ∷ []) → (is_marked marks r || t) ≡ touched marks (said_by r before)
with_speaker marks before r t e =
    ap (λ (b : Bool). is_marked marks r || b) (e ∙ rests_with marks before r) ∙ (own_twice (is_marked marks r) (list_any (is_marked marks) before) ∙ sym (rests_with marks before r))

-- or it counts those before alone
without_speaker : (marks : List Bool) (before : List Placed) (r : Placed) (t : Bool) → t ≡ list_any (is_marked marks) before → (is_marked marks r || t) ≡ touched marks (said_by r before)
without_speaker marks before r t e =
    ap (λ (b : Bool). is_marked marks r || b) e ∙ (own_once (is_marked marks r) (list_any (is_marked marks) before) ∙ sym (rests_with marks before r))

-- ---- answers by pairs

one_by : (op : OpSpec) (marks : List Bool) (spoke t : Bool) (a s : Row) (c : Cause) → (spoke || tells op s) ≡ touched marks c
    → marks_in (traced_by op spoke (cond t (a ∷ []) []) (cond t (s ∷ []) [])) ≡ map (touched marks) (cond t (c ∷ []) [])
one_by op marks spoke true a s c e = ap (λ (b : Bool). b ∷ []) e
one_by op marks spoke false a s c e = refl

-- where the operator may keep silent
perhaps_by : (op : OpSpec) (marks : List Bool) (spoke t : Bool) (a s : Row) (c : Cause) → (spoke || tells op s) ≡ touched marks c
    → marks_in (traced_by op spoke (cond t (a ∷ []) []) (s ∷ [])) ≡ map (touched marks) (cond t (c ∷ []) [])
perhaps_by op marks spoke true a s c e = ap (λ (b : Bool). b ∷ []) e
perhaps_by op marks spoke false a s c e = refl

paired : {X : Type 0} (op : OpSpec) (marks : List Bool) (spoke : Bool) (f g : X → Row) (h : X → Cause) (xs : List X) → ((x : X) → (spoke || tells op (g x)) ≡ touched marks (h x))
    → marks_in (traced_by op spoke (map f xs) (map g xs)) ≡ map (touched marks) (map h xs)
paired op marks spoke f g h [] e = refl
paired op marks spoke f g h (x ∷ xs) e =
    ap (λ (b : Bool). b ∷ marks_in (traced_by op spoke (map f xs) (map g xs))) (e x) ∙ ap (λ (bs : List Bool). touched marks (h x) ∷ bs) (paired op marks spoke f g h xs e)

-- ---- sums of marks

stays_positive : (a : ℤ) (m : Bool) → pos 0 ≤ℤ a → pos 0 ≤ℤ saturating_sum a (weight m)
stays_positive a true l = omega (arith, ints, clamps)
stays_positive a false l = omega (arith, ints, clamps)

one_more : (a : ℤ) → pos 0 ≤ℤ a → int_lt (pos 0) (saturating_sum a (pos 1)) ≡ true
one_more a l = grind (arith, ints, clamps)

none_more : (a : ℤ) → pos 0 ≤ℤ a → int_lt (pos 0) (saturating_sum a (pos 0)) ≡ int_lt (pos 0) a
none_more a l = grind (arith, ints, clamps)

sum_step : (a : ℤ) (m : Bool) → pos 0 ≤ℤ a → int_lt (pos 0) (saturating_sum a (weight m)) ≡ (int_lt (pos 0) a || m)
sum_step a true l = one_more a l ∙ sym (or_true (int_lt (pos 0) a))
sum_step a false l = none_more a l ∙ sym (or_false (int_lt (pos 0) a))

-- the value of each row is its mark
abbrev Weighs : List Bool → (Placed → Row) → Type 0
Weighs marks g = (x : Placed) → (g x).value ≡ weight (is_marked marks x)

sum_from : (marks : List Bool) (g : Placed → Row) (a : ℤ) (placed : List Placed) → Weighs marks g → pos 0 ≤ℤ a
    → int_lt (pos 0) (fold saturating_sum a (map (λ (r : Row). r.value) (map g placed))) ≡ (int_lt (pos 0) a || list_any (is_marked marks) placed)
sum_from marks g a [] weighs l = sym (or_false (int_lt (pos 0) a))
sum_from marks g a (x ∷ placed) weighs l =
    let m = is_marked marks x in
    let rest : ℤ → Bool = λ w. int_lt (pos 0) (fold saturating_sum (saturating_sum a w) (map (λ (r : Row). r.value) (map g placed))) in
    ap rest (weighs x)
    ∙ (sum_from marks g (saturating_sum a (weight m)) placed weighs (stays_positive a m l)
    ∙ (ap (λ (b : Bool). b || list_any (is_marked marks) placed) (sum_step a m l) ∙ or_assoc (int_lt (pos 0) a) m (list_any (is_marked marks) placed)))

sum_tells : (marks : List Bool) (g : Placed → Row) (placed : List Placed) → Weighs marks g → int_lt (pos 0) (sums_of (map g placed)).value ≡ list_any (is_marked marks) placed
sum_tells marks g placed weighs = sum_from marks g (pos 0) placed weighs (omega (arith, ints))

-- ---- rows of a key

filter_case : {X Y : Type 0} (f : X → Y) (p : Y → Bool) (q : X → Bool) (x : X) (xs : List X) (t : Bool) → p (f x) ≡ t → q x ≡ t → filter p (map f xs) ≡ map f (filter q xs)
    → filter p (map f (x ∷ xs)) ≡ map f (filter q (x ∷ xs))
filter_case f p q x xs true a b later = rw a (rw b (ap (λ ys. f x ∷ ys) later))
filter_case f p q x xs false a b later = rw a (rw b later)

filter_by : {X Y : Type 0} (f : X → Y) (p : Y → Bool) (q : X → Bool) (xs : List X) → ((x : X) → p (f x) ≡ q x) → filter p (map f xs) ≡ map f (filter q xs)
filter_by f p q [] e = refl
filter_by f p q (x ∷ xs) e = filter_case f p q x xs (q x) (e x) refl (filter_by f p q xs e)

-- rows that a function gives are of the keys of those that it is given
abbrev KeepsKeys : By → (Placed → Row) → Type 0
KeepsKeys by g = (x : Placed) → key_of by (g x) ≡ key_of by x.row

keyed : (by : By) (g : Placed → Row) (placed : List Placed) (k : Key) → KeepsKeys by g → rows_with by (alike (map g placed)) k ≡ map g (of_key by k placed)
keyed by g placed k same =
    ap (filter (λ r. is_key (key_of by r) k)) (rows_of-items (map g placed))
    ∙ filter_by g (λ r. is_key (key_of by r) k) (λ (x : Placed). is_key (key_of by x.row) k) placed (λ x. ap (λ (q : Key). is_key q k) (same x))

key_kept : (by : By) (op : OpSpec) (x : Traced) → key_of by (shaded op x) ≡ key_of by x.row
key_kept by.Account op x = refl
key_kept by.Symbol op x = refl
key_kept by.Both op x = refl

-- those of the key of one of them
own_key : (by : By) (g : Placed → Row) (placed : List Placed) (r : Placed) → KeepsKeys by g → rows_with by (alike (map g placed)) (key_of by (g r)) ≡ map g (of_its_key by r placed)
own_key by g placed r same = keyed by g placed (key_of by (g r)) same ∙ ap (λ (k : Key). map g (of_key by k placed)) (same r)

-- ---- `keep`

keep_column : (column : Column) (compare : Compare) (limit : ℤ) (x : Traced) → column_of column (shaded (op.Keep column compare limit) x) ≡ column_of column x.row
keep_column column.Time compare limit x = refl
keep_column column.Account compare limit x = refl
keep_column column.Symbol compare limit x = refl
keep_column column.Qty compare limit x = refl
keep_column column.Value compare limit x = refl

tells_by : (t m : Bool) (qty value : ℤ) → int_lt (pos 0) (cond t (cond t (weight m) qty) (cond t value (weight m))) ≡ m
tells_by true true qty value = refl
tells_by true false qty value = refl
tells_by false true qty value = refl
tells_by false false qty value = refl

tells_own : (op : OpSpec) (x : Traced) → tells op (shaded op x) ≡ x.reached
tells_own op x = tells_by (compares_value op) x.reached x.row.qty x.row.value

-- ---- `last`

last_counted : {X : Type 0} (m : ℕ) (xs : List X) (x : X) → keep_last (suc m) (xs ++ x ∷ []) ≡ keep_last m xs ++ x ∷ []
last_counted m xs x =
    let cut : length (xs ++ x ∷ []) - suc m ≡ length xs - m = omega (arith, length-append xs (x ∷ [])) in
    ap (λ n. drop n (xs ++ x ∷ [])) cut ∙ drop-append-le (length xs - m) xs (x ∷ []) (omega arith)

last_mapped : {X Y : Type 0} (f : X → Y) (n : ℕ) (xs : List X) → keep_last n (map f xs) ≡ map f (keep_last n xs)
last_mapped f n xs = ap (λ m. drop (m - n) (map f xs)) (length-map xs f) ∙ drop-map f (length xs - n) xs

last_tells : (by : By) (n : ℕ) (marks : List Bool) (g : Placed → Row) (B : List Placed) (r : Placed) → 1 ≤ n → KeepsKeys by g → Weighs marks g
    → int_lt (pos 0) (sums_of (keep_last n (rows_with by (alike (map g B)) (key_of by (g r)) ++ g r ∷ []))).value ≡ list_any (is_marked marks) (keep_last (n - 1) (of_its_key by r B) ++ r ∷ [])
last_tells by zero marks g B r some same weighs = absurd (omega arith)
last_tells by (suc m) marks g B r some same weighs =
    let mine = of_its_key by r B in
    let less : m ≡ suc m - 1 = omega arith in
    ap (λ (rows : List Row). int_lt (pos 0) (sums_of (keep_last (suc m) (rows ++ g r ∷ []))).value) (own_key by g B r same)
    ∙ (ap (λ (rows : List Row). int_lt (pos 0) (sums_of rows).value)
    (ap (keep_last (suc m)) (sym (map-append g mine (r ∷ []))) ∙ (last_mapped g (suc m) (mine ++ r ∷ []) ∙ ap (map g) (last_counted m mine r)))
    ∙ (sum_tells marks g (keep_last m mine ++ r ∷ []) weighs ∙ ap (λ (j : ℕ). list_any (is_marked marks) (keep_last j mine ++ r ∷ [])) less))

-- ---- `total` and `crossing`

total_tells : (by : By) (marks : List Bool) (g : Placed → Row) (B : List Placed) (r : Placed) → KeepsKeys by g → Weighs marks g
    → int_lt (pos 0) (sums_of (rows_with by (alike (map g B)) (key_of by (g r)) ++ g r ∷ [])).value ≡ list_any (is_marked marks) (of_its_key by r B ++ r ∷ [])
total_tells by marks g B r same weighs =
    let mine = of_its_key by r B in
    ap (λ (rows : List Row). int_lt (pos 0) (sums_of (rows ++ g r ∷ [])).value) (own_key by g B r same)
    ∙ (ap (λ (rows : List Row). int_lt (pos 0) (sums_of rows).value) (sym (map-append g mine (r ∷ []))) ∙ sum_tells marks g (mine ++ r ∷ []) weighs)

-- ---- `window`

-- rows that a function gives lie in the windows of those that it is given
abbrev KeepsWindows : ℤ → (Placed → Row) → Type 0
KeepsWindows width g = (x : Placed) → window_of width (g x) ≡ window_of width x.row

level_from_is : (width high : ℤ) (g : Placed → Row) (placed : List Placed) → KeepsWindows width g → level_from width high (map g placed) ≡ level_from width high (rows_in placed)
level_from_is width high g [] same = refl
level_from_is width high g (x ∷ placed) same =
    ap (λ w. level_from width (int_max high w) (map g placed)) (same x) ∙ level_from_is width (int_max high (window_of width x.row)) g placed same

first_is : (width : ℤ) (g : Placed → Row) (placed : List Placed) → KeepsWindows width g → first_window width (map g placed) ≡ first_window width (rows_in placed)
first_is width g [] same = refl
first_is width g (x ∷ placed) same = same x

level_is : (width : ℤ) (g : Placed → Row) (placed : List Placed) → KeepsWindows width g → level width (map g placed) ≡ level width (rows_in placed)
level_is width g placed same =
    ap (λ w. level_from width w (map g placed)) (first_is width g placed same) ∙ level_from_is width (first_window width (rows_in placed)) g placed same

at_case : (width high at : ℤ) (g : Placed → Row) (x : Placed) (rest : List Placed) (rows : List Row) (t : Bool) → rows ≡ map g rest → cond t (g x ∷ []) [] ++ rows ≡ map g (cond t (x ∷ []) [] ++ rest)
at_case width high at g x rest rows true later = ap (λ (rs : List Row). g x ∷ rs) later
at_case width high at g x rest rows false later = later

at_is : (width high at : ℤ) (g : Placed → Row) (placed : List Placed) → KeepsWindows width g → rows_at_from width high at (map g placed) ≡ map g (placed_at_from width high at placed)
at_is width high at g [] same = refl
at_is width high at g (x ∷ placed) same =
    ap (λ w. cond (int_eq (int_max high w) at) (g x ∷ []) [] ++ rows_at_from width (int_max high w) at (map g placed)) (same x)
    ∙ at_case width high at g x (placed_at_from width (int_max high (window_of width x.row)) at placed) (rows_at_from width (int_max high (window_of width x.row)) at (map g placed))
    (int_eq (int_max high (window_of width x.row)) at) (at_is width (int_max high (window_of width x.row)) at g placed same)

open_is : (width : ℤ) (g : Placed → Row) (placed : List Placed) → KeepsWindows width g → rows_at width (level width (map g placed)) (map g placed) ≡ map g (open_rows width placed)
open_is width g placed same =
    ap (λ w. rows_at_from width w (level width (map g placed)) (map g placed)) (first_is width g placed same)
    ∙ (ap (λ at. rows_at_from width (first_window width (rows_in placed)) at (map g placed)) (level_is width g placed same)
    ∙ at_is width (first_window width (rows_in placed)) (level width (rows_in placed)) g placed same)

open_tells : (width : ℤ) (marks : List Bool) (g : Placed → Row) (placed : List Placed) → KeepsWindows width g → Weighs marks g
    → int_lt (pos 0) (sums_of (rows_at width (level width (map g placed)) (map g placed))).value ≡ list_any (is_marked marks) (open_rows width placed)
open_tells width marks g placed same weighs = ap (λ (rows : List Row). int_lt (pos 0) (sums_of rows).value) (open_is width g placed same) ∙ sum_tells marks g (open_rows width placed) weighs

closes_is : (width : ℤ) (g : Placed → Row) (placed : List Placed) (r : Placed) → KeepsWindows width g
    → int_lt (level width (map g placed)) (level width (map g placed ++ g r ∷ [])) ≡ int_lt (level width (rows_in placed)) (level width (rows_in placed ++ r.row ∷ []))
closes_is width g placed r same =
    let more : level width (map g placed ++ g r ∷ []) ≡ level width (rows_in placed ++ r.row ∷ []) =
    ap (level width) (sym (map-append g placed (r ∷ []))) ∙ (level_is width g (placed ++ r ∷ []) same ∙ ap (level width) (map-append (λ (x : Placed). x.row) placed (r ∷ []))) in
    ap (λ w. int_lt w (level width (map g placed ++ g r ∷ []))) (level_is width g placed same) ∙ ap (int_lt (level width (rows_in placed))) more

window_marks : (by : By) (width : ℤ) (marks : List Bool) (k q : Key) (g : Placed → Row) (placed : List Placed) (r : Placed) → KeepsWindows width g → Weighs marks g
    → marks_in (traced_by (op.Window by width) (is_marked marks r) (window_answer width k (rows_in placed) r.row) (window_answer width q (map g placed) (g r))) ≡ map (touched marks) (window_causes width placed r)
window_marks by width marks k q g [] r same weighs = refl
window_marks by width marks k q g (x ∷ placed) r same weighs =
    let o = op.Window by width in
    let xs = x ∷ placed in
    let t = int_lt (level width (rows_in xs)) (level width (rows_in xs ++ r.row ∷ [])) in
    let a = window_row width k (rows_in xs) in
    let s = window_row width q (map g xs) in
    ap (λ (b : Bool). marks_in (traced_by o (is_marked marks r) (cond t (a ∷ []) []) (cond b (s ∷ []) []))) (closes_is width g xs r same)
    ∙ one_by o marks (is_marked marks r) t a s (said_by r (open_rows width xs)) (without_speaker marks (open_rows width xs) r (tells o s) (open_tells width marks g xs same weighs))

-- ---- `join`

map_again : {X Y Z : Type 0} (f : X → Y) (h : Y → Z) (xs : List X) → map h (map f xs) ≡ map (λ x. h (f x)) xs
map_again f h [] = refl
map_again f h (x ∷ xs) = ap (λ ys. h (f x) ∷ ys) (map_again f h xs)

-- rows that a function gives are of the sides of those that it is given
abbrev KeepsSides : (Row → Bool) → (Placed → Row) → Type 0
KeepsSides left g = (x : Placed) → left (g x) ≡ left x.row

across_case : (left : Row → Bool) (g : Placed → Row) (placed : List Placed) (t : Bool) → KeepsSides left g
    → cond t (filter (λ r. not (left r)) (map g placed)) (filter left (map g placed)) ≡ map g (cond t (filter (λ (x : Placed). not (left x.row)) placed) (filter (λ (x : Placed). left x.row) placed))
across_case left g placed true same = filter_by g (λ r. not (left r)) (λ (x : Placed). not (left x.row)) placed (λ x. ap not (same x))
across_case left g placed false same = filter_by g left (λ (x : Placed). left x.row) placed same

across_is : (left : Row → Bool) (g : Placed → Row) (placed : List Placed) (r : Placed) → KeepsSides left g → rows_across left (g r) (map g placed) ≡ map g (across left r placed)
across_is left g placed r same =
    ap (λ (t : Bool). cond t (filter (λ r. not (left r)) (map g placed)) (filter left (map g placed))) (same r) ∙ across_case left g placed (left r.row) same

pairs_are : (width : ℤ) (n : ℕ) (left : Row → Bool) (k : Key) (g : Placed → Row) (placed : List Placed) (r : Placed) → KeepsSides left g → KeepsWindows width g
    → join_answer width n left k (map g placed) (g r) ≡ map (λ (other : Placed). pair_row k (g r) (g other)) (partners width n left placed r)
pairs_are width n left k g placed r sides same =
    let others = keep_last n (across left r placed) in
    let test : Row → Bool = λ other. int_eq (window_of width other) (window_of width (g r)) in
    let kept : keep_last n (rows_across left (g r) (map g placed)) ≡ map g others = ap (keep_last n) (across_is left g placed r sides) ∙ last_mapped g n (across left r placed) in
    let tested : (x : Placed) → test (g x) ≡ int_eq (window_of width x.row) (window_of width r.row) =
    λ x. ap (λ w. int_eq w (window_of width (g r))) (same x) ∙ ap (int_eq (window_of width x.row)) (same r) in
    ap (λ (rows : List Row). map (pair_row k (g r)) (filter test rows)) kept
    ∙ (ap (map (pair_row k (g r))) (filter_by g test (λ (x : Placed). int_eq (window_of width x.row) (window_of width r.row)) others tested)
    ∙ map_again g (pair_row k (g r)) (partners width n left placed r))

join_column : (by : By) (width : ℤ) (n : ℕ) (column : Column) (compare : Compare) (limit : ℤ) (x : Traced) → column_of column (shaded (op.Join by width n column compare limit) x) ≡ column_of column x.row
join_column by width n column.Time compare limit x = refl
join_column by width n column.Account compare limit x = refl
join_column by width n column.Symbol compare limit x = refl
join_column by width n column.Qty compare limit x = refl
join_column by width n column.Value compare limit x = refl

pair_told : (m other : Bool) → (m || int_lt (pos 0) (saturating_sum (weight m) (weight other))) ≡ (other || (m || false))
pair_told true true = refl
pair_told true false = refl
pair_told false true = refl
pair_told false false = refl

join_told : (by : By) (width : ℤ) (n : ℕ) (column : Column) (compare : Compare) (limit : ℤ) (k : Key) (x y : Traced)
    → (x.reached || tells (op.Join by width n column compare limit) (pair_row k (shaded (op.Join by width n column compare limit) x) (shaded (op.Join by width n column compare limit) y))) ≡ (y.reached || (x.reached || false))
join_told by width n column.Time compare limit k x y = pair_told x.reached y.reached
join_told by width n column.Account compare limit k x y = pair_told x.reached y.reached
join_told by width n column.Symbol compare limit k x y = pair_told x.reached y.reached
join_told by width n column.Qty compare limit k x y = pair_told x.reached y.reached
join_told by width n column.Value compare limit k x y = pair_told x.reached y.reached

-- ---- the answers to a row

pub row_marks : (op : OpSpec) (marks : List Bool) (B : List Placed) (r : Placed) → IsSpec op
    → marks_in (traced_by op (is_marked marks r) (row_answer op (items_in B) r.row) (row_answer (marking op) (alike (map (shade_at op marks) B)) (shade_at op marks r))) ≡ map (touched marks) (row_causes op B r)
row_marks (op.Keep column compare limit) marks B r limits =
    let o = op.Keep column compare limit in
    let t = holds compare (column_of column r.row) limit in
    let s = shade_at o marks r in
    ap (λ (z : ℤ). marks_in (traced_by o (is_marked marks r) (cond t (r.row ∷ []) []) (cond (holds compare z limit) (s ∷ []) []))) (keep_column column compare limit (traced_at marks r))
    ∙ one_by o marks (is_marked marks r) t r.row s (said_by r []) (with_speaker marks [] r (tells o s) (tells_own o (traced_at marks r) ∙ sym (or_false (is_marked marks r))))
row_marks (op.Total by) marks B r limits =
    let o = op.Total by in
    let g = shade_at o marks in
    one_by o marks (is_marked marks r) true (sums_row r.row.time (key_of by r.row) (sums_of (rows_with by (items_in B) (key_of by r.row) ++ r.row ∷ [])))
    (sums_row r.row.time (key_of by (g r)) (sums_of (rows_with by (alike (map g B)) (key_of by (g r)) ++ g r ∷ []))) (said_by r (of_its_key by r B))
    (with_speaker marks (of_its_key by r B) r _ (total_tells by marks g B r (λ x. key_kept by o (traced_at marks x)) (λ x. refl)))
row_marks (op.Last by n) marks B r limits =
    let o = op.Last by n in
    let g = shade_at o marks in
    one_by o marks (is_marked marks r) true (sums_row r.row.time (key_of by r.row) (sums_of (keep_last n (rows_with by (items_in B) (key_of by r.row) ++ r.row ∷ []))))
    (sums_row r.row.time (key_of by (g r)) (sums_of (keep_last n (rows_with by (alike (map g B)) (key_of by (g r)) ++ g r ∷ [])))) (said_by r (keep_last (n - 1) (of_its_key by r B)))
    (with_speaker marks (keep_last (n - 1) (of_its_key by r B)) r _ (last_tells by n marks g B r limits.0 (λ x. key_kept by o (traced_at marks x)) (λ x. refl)))
row_marks (op.Window by width) marks B r limits =
    let o = op.Window by width in
    let g = shade_at o marks in
    let mine = of_its_key by r B in
    ap (λ (rows : List Row). marks_in (traced_by o (is_marked marks r) (window_answer width (key_of by r.row) rows r.row) (window_answer width (key_of by (g r)) (rows_with by (alike (map g B)) (key_of by (g r))) (g r))))
    (f.with_key by (key_of by r.row) B)
    ∙ (ap (λ (rows : List Row). marks_in (traced_by o (is_marked marks r) (window_answer width (key_of by r.row) (rows_in mine) r.row) (window_answer width (key_of by (g r)) rows (g r))))
    (own_key by g B r (λ x. key_kept by o (traced_at marks x)))
    ∙ window_marks by width marks (key_of by r.row) (key_of by (g r)) g mine r (λ x. refl) (λ x. refl))
row_marks (op.Crossing by limit) marks B r limits =
    let o = op.Crossing by limit in
    let g = shade_at o marks in
    let mine = of_its_key by r B in
    let k = key_of by r.row in
    let s = sums_row r.row.time (key_of by (g r)) (sums_of (rows_with by (alike (map g B)) (key_of by (g r)) ++ g r ∷ [])) in
    ap (λ (rows : List Row). marks_in (traced_by o (is_marked marks r) (cond (crosses limit (sums_of rows).value (sums_of (rows ++ r.row ∷ [])).value) (sums_row r.row.time k (sums_of (rows ++ r.row ∷ [])) ∷ []) []) (s ∷ [])))
    (f.with_key by k B)
    ∙ perhaps_by o marks (is_marked marks r) (crosses limit (sums_of (rows_in mine)).value (sums_of (rows_in mine ++ r.row ∷ [])).value) (sums_row r.row.time k (sums_of (rows_in mine ++ r.row ∷ []))) s (said_by r mine)
    (with_speaker marks mine r (tells o s) (total_tells by marks g B r (λ x. key_kept by o (traced_at marks x)) (λ x. refl)))
row_marks (op.Join by width n column compare limit) marks B r limits =
    let o = op.Join by width n column compare limit in
    let g = shade_at o marks in
    let mine = of_its_key by r B in
    let left = is_left column compare limit in
    let k = key_of by r.row in
    let q = key_of by (g r) in
    let alone : Placed → Row = λ x. x.row in
    let pairs = partners width n left mine r in
    ap (λ (rows : List Row). marks_in (traced_by o (is_marked marks r) (join_answer width n left k rows r.row) (join_answer width n left q (rows_with by (alike (map g B)) q) (g r)))) (f.with_key by k B)
    ∙ (ap (λ (rows : List Row). marks_in (traced_by o (is_marked marks r) (join_answer width n left k (rows_in mine) r.row) (join_answer width n left q rows (g r)))) (own_key by g B r (λ x. key_kept by o (traced_at marks x)))
    ∙ (ap (λ (rows : List Row). marks_in (traced_by o (is_marked marks r) rows (join_answer width n left q (map g mine) (g r)))) (pairs_are width n left k alone mine r (λ x. refl) (λ x. refl))
    ∙ (ap (λ (rows : List Row). marks_in (traced_by o (is_marked marks r) (map (λ (other : Placed). pair_row k r.row other.row) pairs) rows))
    (pairs_are width n left q g mine r (λ x. ap (λ (z : ℤ). holds compare z limit) (join_column by width n column compare limit (traced_at marks x))) (λ x. refl))
    ∙ paired o marks (is_marked marks r) (λ (other : Placed). pair_row k r.row other.row) (λ (other : Placed). pair_row q (g r) (g other)) (λ (other : Placed). said_by r (other ∷ [])) pairs
    (λ x. join_told by width n column compare limit q (traced_at marks r) (traced_at marks x)))))

-- ---- the answers to the end

keys_from : (by : By) (g : Placed → Row) (placed : List Placed) (keys : List Key) → KeepsKeys by g
    → fold (λ keys r. with_key (key_of by r) keys) keys (map g placed) ≡ fold (λ keys r. with_key (key_of by r) keys) keys (rows_in placed)
keys_from by g [] keys same = refl
keys_from by g (x ∷ placed) keys same =
    ap (λ (k : Key). fold (λ keys r. with_key (key_of by r) keys) (with_key k keys) (map g placed)) (same x) ∙ keys_from by g placed (with_key (key_of by x.row) keys) same

keys_are : (by : By) (g : Placed → Row) (placed : List Placed) → KeepsKeys by g → keys_in by (alike (map g placed)) ≡ keys_in by (items_in placed)
keys_are by g placed same =
    ap (keys_among by) (rows_of-items (map g placed)) ∙ (keys_from by g placed [] same ∙ ap (keys_among by) (sym (rows_of-items (rows_in placed))))

pub end_marks : (op : OpSpec) (marks : List Bool) (B : List Placed) → marks_in (traced_by op false (end_answer op (items_in B)) (end_answer (marking op) (alike (map (shade_at op marks) B)))) ≡ map (touched marks) (end_causes op B)
end_marks (op.Keep column compare limit) marks B = refl
end_marks (op.Total by) marks B = refl
end_marks (op.Last by n) marks B = refl
end_marks (op.Window by width) marks B =
    let o = op.Window by width in
    let g = shade_at o marks in
    let same : KeepsKeys by g = λ x. key_kept by o (traced_at marks x) in
    let f : Key → Row = λ k. window_row width k (rows_with by (items_in B) k) in
    let h : Key → Row = λ k. window_row width k (rows_with by (alike (map g B)) k) in
    let told : (k : Key) → (false || tells o (h k)) ≡ touched marks (said_at_end (open_rows width (of_key by k B))) = λ k.
    ap (λ (rows : List Row). int_lt (pos 0) (sums_of (rows_at width (level width rows) rows)).value) (keyed by g B k same)
    ∙ (open_tells width marks g (of_key by k B) (λ x. refl) (λ x. refl) ∙ ap (list_any (is_marked marks)) (sym (append-nil (open_rows width (of_key by k B))))) in
    ap (λ (keys : List Key). marks_in (traced_by o false (map f (keys_in by (items_in B))) (map h keys))) (keys_are by g B same)
    ∙ paired o marks false f h (λ k. said_at_end (open_rows width (of_key by k B))) (keys_in by (items_in B)) told
end_marks (op.Crossing by limit) marks B = refl
end_marks (op.Join by width n column compare limit) marks B = refl
