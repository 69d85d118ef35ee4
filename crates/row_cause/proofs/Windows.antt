-- The rows of a key's open window, taken alone, are those of one window.
use Rattle.std.proofs.Common.{◌≡◌, ◌≤ℤ◌, ◌*ℤ◌, ℤ, Bool, true, false, cond, List, [], ◌∷◌, ◌++◌, map, int_lt, refl, sym, ap, ◌∙◌, subst, arith}
use Rattle.std.specs.Prelude.{All}
use Rattle.std.specs.Int.{int_max}
use Rattle.std.specs.Ordering.{int_eq}
use Rattle.std.proofs.lemmas.Int.{ints, clamps}
use Rattle.std.proofs.lemmas.List.Elements.{All-append, All-cons, All-head, All-nil, All-tail}
use Rattle.tuple_edge.specs.declared.row.Key.{Key}
use Rattle.tuple_edge.specs.declared.row.Row.{Row}
use Rattle.stream_ops.specs.Answers.{window_answer, window_row}
use Rattle.stream_ops.specs.Sums.{sums_of, sums_row}
use Rattle.stream_ops.specs.Windows.{first_window, level, level_from, rows_at, rows_at_from, window_of}
use Rattle.stream_ops.proofs.Levels.{eq_self, le_max, level-push, level_grows}
use Rattle.row_cause.specs.Causes.{open_rows, placed_at_from, rows_in}
use Rattle.row_cause.specs.declared.placed.Placed.{Placed}

-- ---- numbers

equal_is : (x y : ℤ) → int_eq x y ≡ true → x ≡ y
equal_is x y e = grind (arith, ints)

less_where_unequal : (x y : ℤ) → x ≤ℤ y → int_eq x y ≡ false → int_lt x y ≡ true
less_where_unequal x y below unequal = grind (arith, ints)

same_where_not_less : (x y : ℤ) → x ≤ℤ y → int_lt x y ≡ false → x ≡ y
same_where_not_less x y below late = grind (arith, ints)

high_one : (high w at : ℤ) → int_lt high at ≡ true → int_max high w ≡ at → w ≡ at
high_one high w at below is = grind (arith, ints)

max_below : (x at : ℤ) → x ≤ℤ at → int_max at x ≡ at
max_below x at below = grind (arith, ints)

-- ---- rows of a level

-- a row's window is at most this one
abbrev IsWithin : ℤ → ℤ → Row → Type 0
IsWithin width at r = window_of width r ≤ℤ at

-- rows of which the first lies in this window, and none in a later one
record AreOpen (width at : ℤ) (rows : List Row) : Type 0 where
  pub head : Row
  pub tail : List Row
  pub whole : rows ≡ head ∷ tail
  pub first : window_of width head ≡ at
  pub within : All (IsWithin width at) rows

-- no row is above the level
all_within : (width high at : ℤ) (rows : List Row) → level_from width high rows ≡ at → All (IsWithin width at) rows
all_within width high at [] is = All-nil (IsWithin width at)
all_within width high at (r ∷ rows) is =
    let later : int_max high (window_of width r) ≤ℤ level_from width (int_max high (window_of width r)) rows = level_grows width (int_max high (window_of width r)) rows in
    let top : int_max high (window_of width r) ≤ℤ at = subst (λ z. int_max high (window_of width r) ≤ℤ z) is later in
    let here : window_of width r ≤ℤ at = omega (arith, ints, clamps) in
    All-cons (IsWithin width at) r rows here (all_within width (int_max high (window_of width r)) at rows is)

-- so is none of those at the level
cond_within : (width at : ℤ) (r : Row) (t : Bool) → IsWithin width at r → All (IsWithin width at) (cond t (r ∷ []) [])
cond_within width at r true h = All-cons (IsWithin width at) r [] h (All-nil (IsWithin width at))
cond_within width at r false h = All-nil (IsWithin width at)

some_within : (width high at : ℤ) (rows : List Row) → All (IsWithin width at) rows → All (IsWithin width at) (rows_at_from width high at rows)
some_within width high at [] h = h
some_within width high at (r ∷ rows) h =
    All-append (IsWithin width at) (cond (int_eq (int_max high (window_of width r)) at) (r ∷ []) []) (rows_at_from width (int_max high (window_of width r)) at rows)
    (cond_within width at r (int_eq (int_max high (window_of width r)) at) (All-head (IsWithin width at) r rows h))
    (some_within width (int_max high (window_of width r)) at rows (All-tail (IsWithin width at) r rows h))

-- the first row at a level that rises to it opens the window
rising_by : (width high at : ℤ) (r : Row) (rows : List Row) (t : Bool) → int_eq (int_max high (window_of width r)) at ≡ t → level_from width high (r ∷ rows) ≡ at → int_lt high at ≡ true
    → (level_from width (int_max high (window_of width r)) rows ≡ at → int_lt (int_max high (window_of width r)) at ≡ true → AreOpen width at (rows_at_from width (int_max high (window_of width r)) at rows))
    → All (IsWithin width at) (rows_at_from width high at (r ∷ rows)) → AreOpen width at (rows_at_from width high at (r ∷ rows))
rising_by width high at r rows true is level_is below later within = record {
  head = r;
  tail = rows_at_from width (int_max high (window_of width r)) at rows;
  whole = rw is refl;
  first = high_one high (window_of width r) at below (equal_is (int_max high (window_of width r)) at is);
  within = within;
}
rising_by width high at r rows false is level_is below later within =
    let grows : int_max high (window_of width r) ≤ℤ level_from width (int_max high (window_of width r)) rows = level_grows width (int_max high (window_of width r)) rows in
    let top : int_max high (window_of width r) ≤ℤ at = subst (λ z. int_max high (window_of width r) ≤ℤ z) level_is grows in
    rw is (later level_is (less_where_unequal (int_max high (window_of width r)) at top is))

rising : (width high at : ℤ) (rows : List Row) → level_from width high rows ≡ at → int_lt high at ≡ true → AreOpen width at (rows_at_from width high at rows)
rising width high at [] is below = absurd (grind (arith, ints))
rising width high at (r ∷ rows) is below =
    rising_by width high at r rows (int_eq (int_max high (window_of width r)) at) refl is below (λ e b. rising width (int_max high (window_of width r)) at rows e b)
    (some_within width high at (r ∷ rows) (all_within width high at (r ∷ rows) is))

-- the rows of the last level
open_by : (width : ℤ) (x : Row) (rows : List Row) (t : Bool) → int_lt (window_of width x) (level width (x ∷ rows)) ≡ t → AreOpen width (level width (x ∷ rows)) (rows_at width (level width (x ∷ rows)) (x ∷ rows))
open_by width x rows true is = rising width (window_of width x) (level width (x ∷ rows)) (x ∷ rows) refl is
open_by width x rows false is =
    let at = level width (x ∷ rows) in
    let grows : window_of width x ≤ℤ level width (x ∷ rows) = level_grows width (window_of width x) (x ∷ rows) in
    let same : window_of width x ≡ at = same_where_not_less (window_of width x) at grows is in
    let here : int_eq (int_max (window_of width x) (window_of width x)) at ≡ true = grind (arith, ints) in
    record {
      head = x;
      tail = rows_at_from width (int_max (window_of width x) (window_of width x)) at rows;
      whole = rw here refl;
      first = same;
      within = some_within width (window_of width x) at (x ∷ rows) (all_within width (window_of width x) at (x ∷ rows) refl);
    }

are_open : (width : ℤ) (x : Row) (rows : List Row) → AreOpen width (level width (x ∷ rows)) (rows_at width (level width (x ∷ rows)) (x ∷ rows))
are_open width x rows = open_by width x rows (int_lt (window_of width x) (level width (x ∷ rows))) refl

-- ---- rows of one window

level_stays : (width at : ℤ) (rows : List Row) → All (IsWithin width at) rows → level_from width at rows ≡ at
level_stays width at [] h = refl
level_stays width at (r ∷ rows) h =
    ap (λ z. level_from width z rows) (max_below (window_of width r) at (All-head (IsWithin width at) r rows h)) ∙ level_stays width at rows (All-tail (IsWithin width at) r rows h)

rows_stay : (width at : ℤ) (rows : List Row) → All (IsWithin width at) rows → rows_at_from width at at rows ≡ rows
rows_stay width at [] h = refl
rows_stay width at (r ∷ rows) h =
    rw (max_below (window_of width r) at (All-head (IsWithin width at) r rows h)) (rw (eq_self at) (ap (λ rest. r ∷ rest) (rows_stay width at rows (All-tail (IsWithin width at) r rows h))))

-- the level of open rows
open_level : (width at : ℤ) (rows : List Row) → AreOpen width at rows → level width rows ≡ at
open_level width at rows o =
    let first : first_window width rows ≡ at = ap (first_window width) o.whole ∙ o.first in
    ap (λ z. level_from width z rows) first ∙ level_stays width at rows o.within

-- they are all at it
open_whole : (width at : ℤ) (rows : List Row) → AreOpen width at rows → rows_at width at rows ≡ rows
open_whole width at rows o =
    let first : first_window width rows ≡ at = ap (first_window width) o.whole ∙ o.first in
    ap (λ z. rows_at_from width z at rows) first ∙ rows_stay width at rows o.within

-- the row that tells of them
same_row : (width at : ℤ) (k : Key) (rows : List Row) → AreOpen width at rows → window_row width k rows ≡ sums_row (at *ℤ width) k (sums_of rows)
same_row width at k rows o = rw (open_level width at rows o) (rw (open_whole width at rows o) refl)

-- a key's window tells what its open rows alone tell
pub row_alone : (width : ℤ) (k : Key) (x : Row) (rows : List Row) → window_row width k (rows_at width (level width (x ∷ rows)) (x ∷ rows)) ≡ window_row width k (x ∷ rows)
row_alone width k x rows = same_row width (level width (x ∷ rows)) k (rows_at width (level width (x ∷ rows)) (x ∷ rows)) (are_open width x rows)

-- and a row closes it where it closes them
closes_by : (width at : ℤ) (k : Key) (r : Row) (whole rows : List Row) (o : AreOpen width at rows) → window_row width k rows ≡ window_row width k whole
    → int_lt at (int_max at (window_of width r)) ≡ true → window_answer width k rows r ≡ window_row width k whole ∷ []
closes_by width at k r whole rows o told closes =
    ap (λ (ys : List Row). window_answer width k ys r) o.whole
    ∙ (ap (λ (b : Bool). cond b (window_row width k (o.head ∷ o.tail) ∷ []) [])
    (ap (λ z. int_lt (level width (o.head ∷ o.tail)) z) (level-push width o.head o.tail r)
    ∙ (ap (λ z. int_lt z (int_max z (window_of width r))) (ap (level width) (sym o.whole) ∙ open_level width at rows o) ∙ closes))
    ∙ ap (λ (row : Row). row ∷ []) (ap (window_row width k) (sym o.whole) ∙ told))

pub closed_alone : (width : ℤ) (k : Key) (x : Row) (rows : List Row) (r : Row) → int_lt (level width (x ∷ rows)) (level width (x ∷ rows ++ r ∷ [])) ≡ true
    → window_answer width k (rows_at width (level width (x ∷ rows)) (x ∷ rows)) r ≡ window_row width k (x ∷ rows) ∷ []
closed_alone width k x rows r closes =
    closes_by width (level width (x ∷ rows)) k r (x ∷ rows) (rows_at width (level width (x ∷ rows)) (x ∷ rows)) (are_open width x rows) (row_alone width k x rows)
    (ap (λ z. int_lt (level width (x ∷ rows)) z) (sym (level-push width x rows r)) ∙ closes)

-- there is one
pub open_some : (width : ℤ) (x : Row) (rows : List Row) → (head : Row) × (tail : List Row) × (rows_at width (level width (x ∷ rows)) (x ∷ rows) ≡ head ∷ tail)
open_some width x rows = let o = are_open width x rows in (o.head, o.tail, o.whole)

-- ---- with places

placed_by : (width high at : ℤ) (x : Placed) (placed : List Placed) (t : Bool) → rows_in (placed_at_from width (int_max high (window_of width x.row)) at placed) ≡ rows_at_from width (int_max high (window_of width x.row)) at (rows_in placed)
    → rows_in (cond t (x ∷ []) [] ++ placed_at_from width (int_max high (window_of width x.row)) at placed) ≡ cond t (x.row ∷ []) [] ++ rows_at_from width (int_max high (window_of width x.row)) at (rows_in placed)
placed_by width high at x placed true later = ap (λ rest. x.row ∷ rest) later
placed_by width high at x placed false later = later

rows_placed : (width high at : ℤ) (placed : List Placed) → rows_in (placed_at_from width high at placed) ≡ rows_at_from width high at (rows_in placed)
rows_placed width high at [] = refl
rows_placed width high at (x ∷ placed) =
    placed_by width high at x placed (int_eq (int_max high (window_of width x.row)) at) (rows_placed width (int_max high (window_of width x.row)) at placed)

pub open_placed : (width : ℤ) (placed : List Placed) → rows_in (open_rows width placed) ≡ rows_at width (level width (rows_in placed)) (rows_in placed)
open_placed width placed = rows_placed width (first_window width (rows_in placed)) (level width (rows_in placed)) placed

-- what holds of all holds of those at a level
cond_all : (P : Placed → Type 0) (x : Placed) (t : Bool) → P x → All P (cond t (x ∷ []) [])
cond_all P x true h = All-cons P x [] h (All-nil P)
cond_all P x false h = All-nil P

placed_all : (P : Placed → Type 0) (width high at : ℤ) (placed : List Placed) → All P placed → All P (placed_at_from width high at placed)
placed_all P width high at [] h = h
placed_all P width high at (x ∷ placed) h =
    All-append P (cond (int_eq (int_max high (window_of width x.row)) at) (x ∷ []) []) (placed_at_from width (int_max high (window_of width x.row)) at placed)
    (cond_all P x (int_eq (int_max high (window_of width x.row)) at) (All-head P x placed h)) (placed_all P width (int_max high (window_of width x.row)) at placed (All-tail P x placed h))

pub open_all : (P : Placed → Type 0) (width : ℤ) (placed : List Placed) → All P placed → All P (open_rows width placed)
open_all P width placed h = placed_all P width (first_window width (rows_in placed)) (level width (rows_in placed)) placed h
