-- The last rows of both sides of a key, with one row more.
use Rattle.std.proofs.Common.{ℕ, zero, suc, ◌≡◌, ◌≤◌, ◌+◌, ◌-◌, Bool, true, false, not, cond, List, [], ◌∷◌, ◌++◌, length, map, drop, refl, sym, ap, ◌∙◌, Option, Some, None, arith, length-append, length-drop}
use Rattle.std.proofs.lemmas.List.{append-nil, drop-append-le, drop-drop, length-map, map-append}
use Rattle.std.proofs.lemmas.List.Elements.{filter-append}
use Rattle.std.specs.List.{filter}
use Rattle.std.specs.Option.{IfSome}
use Rattle.std.specs.Ordering.{int_eq}
use Rattle.circular_buffer.specs.Buffer.{buffer, keep_last}
use Rattle.keyed_store.specs.Join.{AreSides, last_sides, no_sides, other_side, pairs_with, rows_of_side, sides_after, sides_of, sides_with}
use Rattle.keyed_store.specs.declared.rows.Pair.{Pair}
use Rattle.keyed_store.specs.declared.rows.SideRow.{SideRow}
use Rattle.keyed_store.specs.declared.rows.SidedRow.{SidedRow}
use Rattle.keyed_store.specs.declared.rows.Sides.{Sides}

-- the last n of the last n and one more
pub keep_last-push : {X : Type 0} (n : ℕ) (xs : List X) (x : X) → keep_last n (keep_last n xs ++ x ∷ []) ≡ keep_last n (xs ++ x ∷ [])
keep_last-push n xs x =
    let front : keep_last n xs ++ x ∷ [] ≡ drop (length xs - n) (xs ++ x ∷ []) = sym (drop-append-le (length xs - n) xs (x ∷ []) (omega arith)) in
    let size : length (drop (length xs - n) (xs ++ x ∷ [])) ≡ (length xs + 1) - (length xs - n) = simp (length-drop, length-append) refl in
    let all : length (xs ++ x ∷ []) ≡ length xs + 1 = simp length-append refl in
    ap (keep_last n) front
    ∙ ap (λ m. drop (m - n) (drop (length xs - n) (xs ++ x ∷ []))) size
    ∙ drop-drop ((length xs + 1) - (length xs - n) - n) (length xs - n) (xs ++ x ∷ [])
    ∙ ap (λ m. drop m (xs ++ x ∷ [])) (let e : (length xs - n) + ((length xs + 1) - (length xs - n) - n) ≡ (length xs + 1) - n = omega arith in e)
    ∙ ap (λ m. drop (m - n) (xs ++ x ∷ [])) (sym all)

drop-none : {X : Type 0} (m : ℕ) → drop {A = X} m [] ≡ []
drop-none zero = refl
drop-none (suc m) = refl

side-push : (left : Bool) (rows : List SidedRow) (m : SidedRow) → rows_of_side left (rows ++ m ∷ []) ≡ rows_of_side left rows ++ rows_of_side left (m ∷ [])
side-push true rows m =
    ap (map (λ (m : SidedRow). m.row)) (filter-append (λ (m : SidedRow). m.left) rows (m ∷ []))
    ∙ map-append (λ (m : SidedRow). m.row) (filter (λ (m : SidedRow). m.left) rows) (filter (λ (m : SidedRow). m.left) (m ∷ []))
side-push false rows m =
    ap (map (λ (m : SidedRow). m.row)) (filter-append (λ (m : SidedRow). not m.left) rows (m ∷ []))
    ∙ map-append (λ (m : SidedRow). m.row) (filter (λ (m : SidedRow). not m.left) rows) (filter (λ (m : SidedRow). not m.left) (m ∷ []))

abbrev both : ℕ → List SideRow → List SideRow → Sides
both n left other = record { left = buffer left n; right = buffer other n }

last_sides-push : (n : ℕ) (rows : List SidedRow) (left : Bool) (r : SideRow) → last_sides n (rows ++ record { left = left; row = r } ∷ []) ≡ sides_after (last_sides n rows) (record { left = left; row = r })
last_sides-push n rows true r =
    let m : SidedRow = record { left = true; row = r } in
    ap (λ rs. both n (keep_last n rs) (keep_last n (rows_of_side false (rows ++ m ∷ [])))) (side-push true rows m)
    ∙ ap (λ rs. both n (keep_last n (rows_of_side true rows ++ r ∷ [])) (keep_last n rs)) (side-push false rows m ∙ append-nil (rows_of_side false rows))
    ∙ ap (λ rs. both n rs (keep_last n (rows_of_side false rows))) (sym (keep_last-push n (rows_of_side true rows) r))
last_sides-push n rows false r =
    let m : SidedRow = record { left = false; row = r } in
    ap (λ rs. both n (keep_last n rs) (keep_last n (rows_of_side false (rows ++ m ∷ [])))) (side-push true rows m ∙ append-nil (rows_of_side true rows))
    ∙ ap (λ rs. both n (keep_last n (rows_of_side true rows)) (keep_last n rs)) (side-push false rows m)
    ∙ ap (λ rs. both n (keep_last n (rows_of_side true rows)) rs) (sym (keep_last-push n (rows_of_side false rows) r))

last_sides-none : (n : ℕ) → last_sides n [] ≡ no_sides n
last_sides-none n = ap (λ rs. both n rs (drop (0 - n) [])) (drop-none (0 - n)) ∙ ap (λ rs. both n [] rs) (drop-none (0 - n))

-- what is kept of a key's rows, with one row more
pub sides_of-push : (n : ℕ) (rows : List SidedRow) (m : SidedRow) → sides_of n (rows ++ m ∷ []) ≡ Some (sides_with n (sides_of n rows) m)
sides_of-push n [] m = ap Some (last_sides-push n [] m.left m.row ∙ ap (λ s. sides_after s m) (last_sides-none n))
sides_of-push n (x ∷ rows) m = ap Some (last_sides-push n (x ∷ rows) m.left m.row)

-- the rows that are kept of the other side are its last ones
pub other_last : (n : ℕ) (left : Bool) (rows : List SidedRow) → other_side left (sides_of n rows) ≡ keep_last n (rows_of_side (not left) rows)
other_last n true [] = sym (drop-none (0 - n))
other_last n false [] = sym (drop-none (0 - n))
other_last n true (m ∷ rows) = refl
other_last n false (m ∷ rows) = refl

pub length-filter : {X : Type 0} (test : X → Bool) (xs : List X) → length (filter test xs) ≤ length xs
length-filter test [] = omega arith
length-filter test (x ∷ xs) = by_test (test x) (length-filter test xs)
  where
    by_test : (t : Bool) → length (filter test xs) ≤ length xs → length (cond t (x ∷ filter test xs) (filter test xs)) ≤ suc (length xs)
    by_test true later = omega arith
    by_test false later = omega arith

other_few : (n : ℕ) (left : Bool) (o : Option Sides) → IfSome o (AreSides n) → length (other_side left o) ≤ n
other_few n left None sides = omega arith
other_few n true (Some s) sides = sides.right_fits
other_few n false (Some s) sides = sides.left_fits

-- a row has at most as many pairs as rows are kept of the other side
pub length-pairs : (n : ℕ) (left : Bool) (o : Option Sides) (r : SideRow) → IfSome o (AreSides n) → length (pairs_with r (other_side left o)) ≤ n
length-pairs n left o r sides =
    let few : length (other_side left o) ≤ n = other_few n left o sides in
    let hit : length (filter (λ (other : SideRow). int_eq other.window r.window) (other_side left o)) ≤ length (other_side left o) = length-filter _ (other_side left o) in
    simp length-map (omega arith)

pub length-answered : (n : ℕ) (left : Bool) (o : Option Sides) (r : SideRow) (old new : List Pair) → IfSome o (AreSides n) → new ≡ old ++ pairs_with r (other_side left o) → length new ≤ length old + n
length-answered n left o r old new sides is =
    let some : length (pairs_with r (other_side left o)) ≤ n = length-pairs n left o r sides in
    let size : length (old ++ pairs_with r (other_side left o)) ≡ length old + length (pairs_with r (other_side left o)) = simp length-append refl in
    let grown : length new ≡ length (old ++ pairs_with r (other_side left o)) = ap (λ (ps : List Pair). length ps) is in
    omega arith
