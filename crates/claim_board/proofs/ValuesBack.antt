-- A board that is closed.
use Rattle.std.proofs.Common.{◌≡◌, ◌≢◌, ℕ, zero, suc, ◌+◌, ◌<◌, Bool, true, false, ⊎_elim, List, [], ◌∷◌, ◌++◌, map, length, get_or, set, take, Option, Some, IsSome, get_or-set_other, refl, sym, ap, ◌∙◌, subst, true≢false, arith}
use mathlib.Core.Option.{some, some-injective, some-ne-none}
use mathlib.Core.Logic.{dite}
use mathlib.Core.List.{map-append}
use Rattle.std.proofs.lemmas.List.{take_more}
use native.Mathlib.Decide.{ℕ_discrete}
use lib.ListN.{get_elem?}
use Rattle.atomic_table.specs.Table.{Final, Seen}
use Rattle.claim_board.specs.declared.view.SeatView.{SeatView}
use Rattle.claim_board.specs.declared.board.Board.{Board}
use Rattle.claim_board.specs.declared.seat.BoardSeat.{BoardSeat}
use Rattle.claim_board.specs.Rule.{IsLive, has_number, BoardRule, IsNamedAt}
use Rattle.claim_board.specs.Board.{seat_view, opening_of, seats_of, HoldsNone, AreAll, HasValue}
use Rattle.claim_board.proofs.Lists.{or_cases}
use Rattle.claim_board.proofs.Joining.{all_home}

-- where one seat is all seats of the board and holds nothing, each value is at home
pub closes : {T Name : Type 0} (name : T → Name) (b : Board T) (s : BoardSeat T) → (seat_view s).live ≡ true → AreAll b (s ∷ []) → HoldsNone s → (ws : List ℕ) (xs : List (Option T))
    → Final (Seen (BoardRule name (opening_of b) (seats_of b)) s.seat.id (seat_view s)) ws xs → (k : ℕ) → k < length (opening_of b) → HasValue name (opening_of b) xs k
closes name b s live a none ws xs f k lt =
    let v : SeatView _ = seat_view s in
    let me : IsLive f.0.views s.seat.id v = record { at = f.1.1; live = live } in
    let home = all_home name (opening_of b) (seats_of b) f.0 f.1.0 s.seat.id v me
    (λ m above le. ⊎_elim (λ (p : has_number m v ≡ true). p) (λ (p : false ≡ true). absurd (true≢false (sym p))) (or_cases (has_number m v) false (a.numbers m above le)))
    none k lt in
    (home.0, f.4 k (Some home.0) home.1, home.2)

module _ {A B : Type 0} (f : A → B) where
  pub get_mapped : (xs : List A) (k : ℕ) (y : A) (d : B) → get_elem? xs k ≡ some y → get_or (map f xs) k d ≡ f y
  get_mapped [] k y d e = absurd (some-ne-none y (sym e))
  get_mapped (x ∷ xs) zero y d e = ap f (some-injective x y e)
  get_mapped (x ∷ xs) (suc k) y d e = get_mapped xs k y d e

pub set_false : (l : List Bool) (i : ℕ) → get_or (set l i false) i false ≡ false
set_false [] i = refl
set_false (x ∷ l) zero = refl
set_false (x ∷ l) (suc i) = set_false l i

-- the value that is taken out of its slot
pub found : {T Name : Type 0} (name : T → Name) (opening : List T) (xs ys : List (Option T)) (k : ℕ) (r : Option T) → xs ≡ ys → get_elem? xs k ≡ some r → HasValue name opening ys k → (x : T) × (r ≡ Some x) × IsNamedAt name opening k x
found name opening xs ys k r e at h = (h.0, some-injective r (Some h.0) (sym at ∙ (ap (λ l. get_elem? l k) e ∙ h.1)), h.2)

pub is_some_at : {T : Type 0} (r : Option T) (x : T) → r ≡ Some x → IsSome r
is_some_at r x e = subst IsSome (sym e) refl

pub some_both : {T : Type 0} (r : Option T) (x y : T) → r ≡ Some x → r ≡ Some y → x ≡ y
some_both r x y e f = cc

-- one more value is out, with its name
pub named_more : {T Name : Type 0} (name : T → Name) (out more_out opening : List T) (k : ℕ) (x y : T) → more_out ≡ out ++ x ∷ [] → map name out ≡ take k (map name opening) → get_elem? opening k ≡ some y → name x ≡ name y → map name more_out ≡ take (k + 1) (map name opening)
named_more name out more_out opening k x y e h at same =
    let d = name y in
    let more : take (k + 1) (map name opening) ≡ take k (map name opening) ++ get_or (map name opening) k d ∷ [] = take_more (map name opening) k d (there opening k y at) in
    ap (map name) e ∙ (map-append name out (x ∷ []) ∙ (ap (λ l. l ++ name x ∷ []) h ∙ (ap (λ n. take k (map name opening) ++ n ∷ []) (same ∙ sym (get_mapped name opening k y d at)) ∙ sym more)))
  where
    there : (xs : List _) (k : ℕ) (y : _) → get_elem? xs k ≡ some y → k < length (map name xs)
    there [] k y e = absurd (some-ne-none y (sym e))
    there (x ∷ xs) zero y e = omega arith
    there (x ∷ xs) (suc k) y e = let r = there xs k y e in omega arith

pub taken_at : (l : List Bool) (i k : ℕ) → (k ≢ i → get_or l k false ≡ false) → get_or (set l i false) k false ≡ false
taken_at l i k f = dite (ℕ_discrete k i)
    (λ e. ap (λ j. get_or (set l i false) j false) e ∙ set_false l i)
    (λ d. get_or-set_other l i k false false d ∙ f d)
