-- Windows: their bounds, and what one more row does to a key's level and to the rows of that level.
use Rattle.std.proofs.Common.{◌≡◌, ℤ, pos, negsuc, ◌*ℤ◌, ◌≤ℤ◌, Bool, true, false, cond, List, [], ◌∷◌, ◌++◌, refl, sym, ap, ◌∙◌, Some, arith, FitsSigned, w64, int_lt, append_assoc}
use Rattle.std.specs.Int.{int_max, int_div_euclid}
use Rattle.std.specs.Ordering.{int_eq}
use Rattle.std.proofs.lemmas.Int.{ints, clamps}
use Rattle.std.proofs.lemmas.Nat.{div-add-mod'}
use Rattle.std.proofs.lemmas.List.{append-nil}
use Rattle.std.proofs.lemmas.List.Sums.{fold-append}
use Rattle.tuple_edge.specs.declared.row.Key.{Key}
use Rattle.tuple_edge.specs.declared.row.Row.{Row}
use Rattle.stream_ops.proofs.Lasts.{sums_of-with}
use Rattle.stream_ops.specs.Answers.{window_answer}
use Rattle.stream_ops.specs.Kept.{open_window, window_of_rows}
use Rattle.stream_ops.specs.Steps.{closed_by, opened_by, told_closed, window_with}
use Rattle.stream_ops.specs.Sums.{amounts, sums_of, sums_with}
use Rattle.stream_ops.specs.Windows.{level, level_from, rows_at, rows_at_from, window_of}
use Rattle.stream_ops.specs.declared.sums.Sums.{Sums}
use Rattle.stream_ops.specs.declared.window.OpenWindow.{OpenWindow}

pub window_fits : (t w : ℤ) → pos 0 ≤ℤ t → t ≤ℤ pos 9999999999 → pos 1 ≤ℤ w → w ≤ℤ pos 1000000 → FitsSigned w64 (int_div_euclid t w *ℤ w)
window_fits (pos a) (pos n) _ high low _ = omega (arith, ints, div-add-mod' a n)
window_fits (pos a) (negsuc n) _ _ low _ = absurd (omega (arith, ints))
window_fits (negsuc a) w low _ _ _ = absurd (omega (arith, ints))

-- the greater of two numbers
pub max_of_less : (x y : ℤ) → int_lt x y ≡ true → int_max x y ≡ y
max_of_less x y is = grind (arith, ints)

pub max_of_more : (x y : ℤ) → int_lt x y ≡ false → int_max x y ≡ x
max_of_more x y is = grind (arith, ints)

pub eq_self : (x : ℤ) → int_eq x x ≡ true
eq_self x = grind (arith, ints)

pub less_self : (x : ℤ) → int_lt x x ≡ false
less_self x = grind (arith, ints)

-- below, a number at most x differs from y
pub lower_differs : (x y z : ℤ) → x ≤ℤ y → int_lt y z ≡ true → int_eq x z ≡ false
lower_differs x y z below less = grind (arith, ints)

pub le_max : (x y : ℤ) → x ≤ℤ int_max x y
le_max x y = omega (arith, ints, clamps)

pub level_grows : (width high : ℤ) (rows : List Row) → high ≤ℤ level_from width high rows
level_grows width high [] = omega (arith, ints)
level_grows width high (r ∷ rows) =
    let here : high ≤ℤ int_max high (window_of width r) = le_max high (window_of width r) in
    let later : int_max high (window_of width r) ≤ℤ level_from width (int_max high (window_of width r)) rows = level_grows width (int_max high (window_of width r)) rows in
    omega (arith, ints)

pub level_from-push : (width high : ℤ) (rows : List Row) (r : Row) → level_from width high (rows ++ r ∷ []) ≡ int_max (level_from width high rows) (window_of width r)
level_from-push width high rows r = fold-append (λ high r. int_max high (window_of width r)) high rows (r ∷ [])

pub rows_at_from-push : (width high at : ℤ) (rows : List Row) (r : Row)
    → rows_at_from width high at (rows ++ r ∷ []) ≡ rows_at_from width high at rows ++ cond (int_eq (int_max (level_from width high rows) (window_of width r)) at) (r ∷ []) []
rows_at_from-push width high at [] r = append-nil _
rows_at_from-push width high at (x ∷ rows) r =
    ap (λ later. cond (int_eq (int_max high (window_of width x)) at) (x ∷ []) [] ++ later) (rows_at_from-push width (int_max high (window_of width x)) at rows r)
    ∙ sym (append_assoc (cond (int_eq (int_max high (window_of width x)) at) (x ∷ []) []) (rows_at_from width (int_max high (window_of width x)) at rows) _)

-- no row is of a higher level
pub rows_at_from-above : (width high at : ℤ) (rows : List Row) → int_lt (level_from width high rows) at ≡ true → rows_at_from width high at rows ≡ []
rows_at_from-above width high at [] above = refl
rows_at_from-above width high at (x ∷ rows) above =
    rw (lower_differs (int_max high (window_of width x)) (level_from width (int_max high (window_of width x)) rows) at (level_grows width (int_max high (window_of width x)) rows) above)
    (rows_at_from-above width (int_max high (window_of width x)) at rows above)

-- the level, with one more row
pub level-push : (width : ℤ) (x : Row) (rows : List Row) (r : Row) → level width (x ∷ rows ++ r ∷ []) ≡ int_max (level width (x ∷ rows)) (window_of width r)
level-push width x rows r = level_from-push width (window_of width x) (x ∷ rows) r

pub rows_at-push : (width at : ℤ) (x : Row) (rows : List Row) (r : Row)
    → rows_at width at (x ∷ rows ++ r ∷ []) ≡ rows_at width at (x ∷ rows) ++ cond (int_eq (int_max (level width (x ∷ rows)) (window_of width r)) at) (r ∷ []) []
rows_at-push width at x rows r = rows_at_from-push width (window_of width x) at (x ∷ rows) r

pub max_self : (x : ℤ) → int_max x x ≡ x
max_self x = grind (arith, ints)

-- the open window of a key's first row
pub first_open : (width : ℤ) (r : Row) → open_window width (r ∷ []) ≡ opened_by width r
first_open width r =
    let e : int_max (window_of width r) (window_of width r) ≡ window_of width r = max_self (window_of width r) in
    rw e (rw (eq_self (window_of width r)) refl)

-- a window with these rows
abbrev opening : ℤ → ℤ → List Row → OpenWindow
opening width l rows = record { number = l; start = l *ℤ width; sums = sums_of rows }

-- a row above the level opens a window of its own
pub open-rises : (width : ℤ) (x : Row) (rows : List Row) (r : Row) → int_lt (level width (x ∷ rows)) (window_of width r) ≡ true
    → open_window width (x ∷ rows ++ r ∷ []) ≡ opened_by width r
open-rises width x rows r above =
    let high : level width (x ∷ rows ++ r ∷ []) ≡ window_of width r = level-push width x rows r ∙ max_of_less (level width (x ∷ rows)) (window_of width r) above in
    let here : rows_at width (window_of width r) (x ∷ rows ++ r ∷ []) ≡ r ∷ [] =
    rows_at-push width (window_of width r) x rows r
    ∙ rw (max_of_less (level width (x ∷ rows)) (window_of width r) above, eq_self (window_of width r), rows_at_from-above width (window_of width x) (window_of width r) (x ∷ rows) above) refl in
    ap (λ (l : ℤ). opening width l (rows_at width l (x ∷ rows ++ r ∷ []))) high ∙ ap (opening width (window_of width r)) here

-- any other row counts into the open one
pub open-stays : (width : ℤ) (x : Row) (rows : List Row) (r : Row) → int_lt (level width (x ∷ rows)) (window_of width r) ≡ false
    → level width (x ∷ rows ++ r ∷ []) ≡ level width (x ∷ rows)
open-stays width x rows r late = level-push width x rows r ∙ max_of_more (level width (x ∷ rows)) (window_of width r) late

pub open-counts : (width : ℤ) (x : Row) (rows : List Row) (r : Row) → int_lt (level width (x ∷ rows)) (window_of width r) ≡ false
    → rows_at width (level width (x ∷ rows)) (x ∷ rows ++ r ∷ []) ≡ rows_at width (level width (x ∷ rows)) (x ∷ rows) ++ r ∷ []
open-counts width x rows r late = rows_at-push width (level width (x ∷ rows)) x rows r
    ∙ rw (max_of_more (level width (x ∷ rows)) (window_of width r) late, eq_self (level width (x ∷ rows))) refl

pub open-late : (width : ℤ) (x : Row) (rows : List Row) (r : Row) → int_lt (level width (x ∷ rows)) (window_of width r) ≡ false
    → open_window width (x ∷ rows ++ r ∷ []) ≡ record { number = level width (x ∷ rows); start = level width (x ∷ rows) *ℤ width; sums = sums_with (sums_of (rows_at width (level width (x ∷ rows)) (x ∷ rows))) (amounts r) }
open-late width x rows r late =
    ap (λ (l : ℤ). opening width l (rows_at width l (x ∷ rows ++ r ∷ []))) (open-stays width x rows r late)
    ∙ (ap (λ (s : Sums). let o : OpenWindow = record { number = level width (x ∷ rows); start = level width (x ∷ rows) *ℤ width; sums = s } in o)
    (ap sums_of (open-counts width x rows r late) ∙ sums_of-with (rows_at width (level width (x ∷ rows)) (x ∷ rows)) r))

open-push_by : (width : ℤ) (x : Row) (rows : List Row) (r : Row) (t : Bool) → int_lt (level width (x ∷ rows)) (window_of width r) ≡ t
    → open_window width (x ∷ rows ++ r ∷ []) ≡ window_with (Some (open_window width (x ∷ rows))) (opened_by width r) r
open-push_by width x rows r true is = rw is (open-rises width x rows r is)
open-push_by width x rows r false is = rw is (open-late width x rows r is)

-- the open window, with one more row
pub window-push : (width : ℤ) (rows : List Row) (r : Row) → window_of_rows width (rows ++ r ∷ []) ≡ Some (window_with (window_of_rows width rows) (opened_by width r) r)
window-push width [] r = ap Some (first_open width r)
window-push width (x ∷ rows) r = ap Some (open-push_by width x rows r (int_lt (level width (x ∷ rows)) (window_of width r)) refl)

answer_by : (width : ℤ) (k : Key) (x : Row) (rows : List Row) (r : Row) (t : Bool) → int_lt (level width (x ∷ rows)) (window_of width r) ≡ t
    → told_closed k (closed_by (window_of_rows width (x ∷ rows)) (opened_by width r)) ≡ window_answer width k (x ∷ rows) r
answer_by width k x rows r true is = rw (level-push width x rows r, max_of_less (level width (x ∷ rows)) (window_of width r) is, is) refl
answer_by width k x rows r false is = rw (level-push width x rows r, max_of_more (level width (x ∷ rows)) (window_of width r) is, is, less_self (level width (x ∷ rows))) refl

-- the answer to it
pub window_answers : (width : ℤ) (k : Key) (rows : List Row) (r : Row)
    → told_closed k (closed_by (window_of_rows width rows) (opened_by width r)) ≡ window_answer width k rows r
window_answers width k [] r = refl
window_answers width k (x ∷ rows) r = answer_by width k x rows r (int_lt (level width (x ∷ rows)) (window_of width r)) refl
