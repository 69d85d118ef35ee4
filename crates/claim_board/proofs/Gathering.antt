-- Seats that are joined one after another.
use Rattle.std.proofs.Common.{◌≡◌, ℕ, zero, suc, ◌<◌, true, false, ◌⊎◌, ⊎_elim, List, [], ◌∷◌, ◌++◌, length, refl, sym, ap, ◌∙◌, subst, inl, inr, true≢false, Option, None, IsSome, ◌↔◌, arith}
use mathlib.Core.Option.{some, some-injective}
use lib.ListN.{get_elem?}
use Rattle.atomic_table.proofs.Lists.{at_longer, at_last}
use Rattle.claim_board.specs.declared.view.SeatView.{SeatView}
use Rattle.claim_board.specs.declared.board.Board.{Board}
use Rattle.claim_board.specs.declared.seat.BoardSeat.{BoardSeat}
use Rattle.claim_board.specs.Lists.{is_in, places_of}
use Rattle.claim_board.specs.Rule.{has_number}
use Rattle.claim_board.specs.Steps.{with_seat}
use Rattle.claim_board.specs.Board.{seat_view, seats_of, IsSeatOf, HoldsNone, AllHoldNone, any_has_number, AreAll}
use Rattle.claim_board.proofs.Lists.{in_head, or_cases, or_left, or_right}
use Rattle.claim_board.proofs.Joining.{joined_has}

-- a seat that holds no place has no slot
pub holds_no_slot : {S : Type 0} (l : List (ℕ × S)) (xs : List ℕ) → places_of l ≡ xs → ((k : ℕ) → is_in k xs ≡ false) → l ≡ []
holds_no_slot [] xs e n = refl
holds_no_slot (x ∷ l) [] e n = absurd cc
holds_no_slot (x ∷ l) (y ∷ xs) e n = absurd (true≢false (sym (in_head y xs) ∙ n y))

module _ {T : Type 0} where
  any_of_two : (m : ℕ) (s : BoardSeat T) (ss : List (BoardSeat T)) → (has_number m (seat_view s) ≡ true) ⊎ (any_has_number m ss ≡ true) → any_has_number m (s ∷ ss) ≡ true
  any_of_two m s ss h = ⊎_elim (or_left (has_number m (seat_view s)) (any_has_number m ss)) (or_right (has_number m (seat_view s)) (any_has_number m ss)) h

  any_last : (m : ℕ) (ys : List (BoardSeat T)) (w : BoardSeat T) → any_has_number m (ys ++ w ∷ []) ≡ true → (has_number m (seat_view w) ≡ true) ⊎ (any_has_number m ys ≡ true)
  any_last m [] w h = ⊎_elim inl (λ f. absurd (true≢false (sym f))) (or_cases (has_number m (seat_view w)) false h)
  any_last m (y ∷ ys) w h = ⊎_elim
      (λ p. inr (or_left (has_number m (seat_view y)) (any_has_number m ys) p))
      (λ p. ⊎_elim inl (λ q. inr (or_right (has_number m (seat_view y)) (any_has_number m ys) q)) (any_last m ys w p))
      (or_cases (has_number m (seat_view y)) (any_has_number m (ys ++ w ∷ [])) h)

  -- what holds of a seat and of each of the others holds of each
  each_of_two : (P : BoardSeat T → Type 0) (u : BoardSeat T) (ys : List (BoardSeat T)) → P u → ((j : ℕ) (s : BoardSeat T) → get_elem? ys j ≡ some s → P s) → (j : ℕ) (s : BoardSeat T) → get_elem? (u ∷ ys) j ≡ some s → P s
  each_of_two P u ys mine others zero s e = subst P (some-injective u s e) mine
  each_of_two P u ys mine others (suc j) s e = others j s e

  -- these are all seats, and none of them holds a place
  abbrev pub AreAllIdle : Board T → List (BoardSeat T) → Type 0
  AreAllIdle b seats = AreAll b seats × AllHoldNone seats

  -- the last one goes to the front
  pub all_swapped : (b : Board T) (ss ys : List (BoardSeat T)) (w : BoardSeat T) → ss ≡ ys ++ w ∷ [] → AreAllIdle b ss → AreAllIdle b (w ∷ ys)
  all_swapped b ss ys w is a =
      let l : AreAllIdle b (ys ++ w ∷ []) = subst (AreAllIdle b) is a in
      let at : get_elem? (ys ++ w ∷ []) (length ys) ≡ some w = at_last ys w (length ys) refl in (
        record {
          each = each_of_two (IsSeatOf b) w ys (l.0.each (length ys) w at) (λ j s e. l.0.each j s (at_longer ys (w ∷ []) j s e));
          numbers = λ m above le. any_of_two m w ys (any_last m ys w (l.0.numbers m above le));
        },
        each_of_two HoldsNone w ys (l.1 (length ys) w at) (λ j s e. l.1 j s (at_longer ys (w ∷ []) j s e)),
      )

  -- the seat v takes in the last one, w, and becomes u
  pub all_joined : (b : Board T) (v u w : BoardSeat T) (ss ys : List (BoardSeat T)) → ss ≡ ys ++ w ∷ [] → IsSeatOf b u → seat_view u ≡ with_seat (seat_view v) (seat_view w) → AreAllIdle b (v ∷ ss) → AreAllIdle b (u ∷ ys)
  all_joined b v u w ss ys is seat joined a =
      let l : AreAllIdle b (v ∷ (ys ++ w ∷ [])) = subst (λ l. AreAllIdle b (v ∷ l)) is a in
      let has : (m : ℕ) → (has_number m (seat_view v) ≡ true) ⊎ (has_number m (seat_view w) ≡ true) → has_number m (seat_view u) ≡ true = λ m h. ap (has_number m) joined ∙ joined_has (seat_view v) (seat_view w) m h in (
        record {
          each = each_of_two (IsSeatOf b) u ys seat (λ j s e. l.0.each (suc j) s (at_longer ys (w ∷ []) j s e));
          numbers = λ m above le. any_of_two m u ys (⊎_elim
              (λ p. inl (has m (inl p)))
              (λ p. ⊎_elim (λ q. inl (has m (inr q))) (λ q. inr q) (any_last m ys w p))
              (or_cases (has_number m (seat_view v)) (any_has_number m (ys ++ w ∷ [])) (l.0.numbers m above le)));
        },
        each_of_two HoldsNone u ys (λ k. ap (λ (x : SeatView T). is_in k x.holds) joined ∙ l.1 0 v refl k) (λ j s e. l.1 (suc j) s (at_longer ys (w ∷ []) j s e)),
      )

  -- the seat in front, and the last one
  pub first_of : (b : Board T) (v : BoardSeat T) (ss : List (BoardSeat T)) → AreAllIdle b (v ∷ ss) → IsSeatOf b v × HoldsNone v
  first_of b v ss a = (a.0.each 0 v refl, a.1 0 v refl)

  pub last_of : (b : Board T) (v w : BoardSeat T) (ss ys : List (BoardSeat T)) → ss ≡ ys ++ w ∷ [] → AreAllIdle b (v ∷ ss) → IsSeatOf b w × HoldsNone w
  last_of b v w ss ys is a =
      let l : AreAllIdle b (v ∷ (ys ++ w ∷ [])) = subst (λ l. AreAllIdle b (v ∷ l)) is a in
      let at : get_elem? (ys ++ w ∷ []) (length ys) ≡ some w = at_last ys w (length ys) refl in
      (l.0.each (suc (length ys)) w at, l.1 (suc (length ys)) w at)

  -- a board with a seat has one in the list of all
  pub some_there : (b : Board T) (ss : List (BoardSeat T)) → 0 < seats_of b → AreAll b ss → 0 < length ss
  some_there b [] positive a = absurd (true≢false (sym (a.numbers 1 (omega arith) (omega (arith, positive)))))
  some_there b (s ∷ ss) positive a = omega arith

-- where nothing is popped, nothing was there
pub all_popped : {A : Type 0} (l : List A) (n : ℕ) → n ≡ length l → (popped : Option A) → popped ≡ None → (IsSome popped ↔ (0 < n)) → l ≡ []
all_popped [] n long popped e h = refl
all_popped (x ∷ l) n long popped e h = absurd (true≢false (sym (subst IsSome e (h.1 (omega (arith, long))))))
