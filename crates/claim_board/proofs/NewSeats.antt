-- Seats that are split off one after another.
use Rattle.std.proofs.Common.{◌≡◌, ◌≢◌, ℕ, zero, suc, ◌+◌, ◌<◌, ◌≤◌, eqb, Bool, true, false, if◌then◌else◌, ne_eqb, List, [], ◌∷◌, ◌++◌, length, drop, take, refl, sym, ap, ◌∙◌, subst, arith}
use mathlib.Core.Option.{some, some-injective, some-ne-none}
use mathlib.Core.Logic.{dite}
use native.Mathlib.Decide.{ℕ_discrete}
use lib.ListN.{get_elem?}
use Rattle.claim_board.specs.declared.view.SeatView.{SeatView}
use Rattle.claim_board.specs.declared.board.Board.{Board}
use Rattle.claim_board.specs.declared.seat.BoardSeat.{BoardSeat}
use Rattle.claim_board.specs.Lists.{is_in}
use Rattle.claim_board.specs.Rule.{has_number}
use Rattle.claim_board.specs.Steps.{fresh, first_seat, new_seat, with_next, next_seat}
use Rattle.claim_board.specs.Board.{seat_view, opening_of, seats_of, IsSeatOf, AllHoldNone, any_has_number, AreAll, AreNew}
use Rattle.claim_board.proofs.Lists.{or_left, or_right}
use Rattle.claim_board.proofs.Seats.{has_own}

-- the first seat has split off the others, which have the numbers from 2
pub record IsMaking {T : Type 0} (b : Board T) (others : List (BoardSeat T)) (first : BoardSeat T) (made : ℕ) : Type 0 where
  pub count : length others + 1 ≡ made
  pub first_of : IsSeatOf b first
  pub first_is : seat_view first ≡ first_seat (opening_of b) (seats_of b) made
  pub each : (j : ℕ) (s : BoardSeat T) → get_elem? others j ≡ some s → IsSeatOf b s × (seat_view s ≡ fresh (opening_of b) (seats_of b) (j + 2) false 0)

module _ {T : Type 0} where
  pub making_begins : (b : Board T) (first : BoardSeat T) → IsSeatOf b first → seat_view first ≡ first_seat (opening_of b) (seats_of b) 1 → IsMaking b [] first 1
  making_begins b first seat is = record { count = refl; first_of = seat; first_is = is; each = λ j s e. absurd (some-ne-none s (sym e)) }

  at_end : (l : List (BoardSeat T)) (a s : BoardSeat T) (j : ℕ) (P : ℕ → BoardSeat T → Type 0) → ((j : ℕ) (s : BoardSeat T) → get_elem? l j ≡ some s → P j s) → P (length l) a → get_elem? (l ++ a ∷ []) j ≡ some s → P j s
  at_end [] a s zero P each last e = subst (P 0) (some-injective a s e) last
  at_end [] a s (suc j) P each last e = absurd (some-ne-none s (sym e))
  at_end (x ∷ l) a s zero P each last e = each 0 s e
  at_end (x ∷ l) a s (suc j) P each last e = at_end l a s j (λ i. P (suc i)) (λ i t f. each (suc i) t f) last e

  pub making_next : (b : Board T) (others : List (BoardSeat T)) (old first next : BoardSeat T) (made : ℕ) → IsMaking b others old made → IsSeatOf b first → seat_view first ≡ with_next (seat_view old) → IsSeatOf b next → seat_view next ≡ next_seat (seat_view old)
      → IsMaking b (others ++ next ∷ []) first (made + 1)
  making_next b others old first next made h seat is other is_next =
      let new : seat_view next ≡ next_seat (first_seat (opening_of b) (seats_of b) made) = is_next ∙ ap next_seat h.first_is in
      let number : made + 1 ≡ length others + 2 = omega (arith, h.count) in
      record {
        count = omega (arith, longer others next, h.count);
        first_of = seat;
        first_is = is ∙ ap with_next h.first_is;
        each = λ j s. at_end others next s j (λ i t. IsSeatOf b t × (seat_view t ≡ fresh (opening_of b) (seats_of b) (i + 2) false 0)) h.each (other, new ∙ ap (λ n. fresh (opening_of b) (seats_of b) n false 0) number);
      }
    where
      longer : (l : List (BoardSeat T)) (a : BoardSeat T) → length (l ++ a ∷ []) ≡ length l + 1
      longer [] a = refl
      longer (x ∷ l) a = omega (arith, longer l a)

  any_at : (m : ℕ) (ss : List (BoardSeat T)) (j : ℕ) (s : BoardSeat T) → get_elem? ss j ≡ some s → has_number m (seat_view s) ≡ true → any_has_number m ss ≡ true
  any_at m [] j s e h = absurd (some-ne-none s (sym e))
  any_at m (x ∷ ss) zero s e h = or_left (has_number m (seat_view x)) (any_has_number m ss) (ap (λ (y : BoardSeat T). has_number m (seat_view y)) (some-injective x s e) ∙ h)
  any_at m (x ∷ ss) (suc j) s e h = or_right (has_number m (seat_view x)) (any_has_number m ss) (any_at m ss j s e h)

  there : (ss : List (BoardSeat T)) (j : ℕ) → j < length ss → (s : BoardSeat T) × (get_elem? ss j ≡ some s)
  there [] j lt = absurd (omega arith)
  there (x ∷ ss) zero lt = (x, refl)
  there (x ∷ ss) (suc j) lt = there ss j (omega arith)

  new_number : (opening : List T) (seats number : ℕ) → (new_seat opening seats number).number ≡ number
  new_number opening seats number = dite (ℕ_discrete number 1)
      (λ (e : number ≡ 1). ap (λ n. (new_seat opening seats n).number) e ∙ sym e)
      (λ (d : number ≢ 1). ap (λ b. (if b then first_seat opening seats seats else fresh opening seats number false 0).number) (ne_eqb number 1 d))

  new_holds : (opening : List T) (seats number : ℕ) → (new_seat opening seats number).holds ≡ []
  new_holds opening seats number = if_both (eqb number 1)
    where
      if_both : (b : Bool) → (if b then first_seat opening seats seats else fresh opening seats number false 0).holds ≡ []
      if_both true = refl
      if_both false = refl

  -- the seats of a new board hold no place
  pub new_hold_none : (b : Board T) (ss : List (BoardSeat T)) → AreNew b ss → AllHoldNone ss
  new_hold_none b ss new j s e k = ap (is_in k) (ap (λ (v : SeatView T). v.holds) (new j s e).1 ∙ new_holds (opening_of b) (seats_of b) (j + 1))

  -- the seats of a new board are all its seats
  pub new_are_all : (b : Board T) (ss : List (BoardSeat T)) → length ss ≡ seats_of b → AreNew b ss → AreAll b ss
  new_are_all b ss long new = record {
    each = λ j s e. (new j s e).0;
    numbers = λ m above le. by_number m above le;
  }
    where
      plus_one : (j : ℕ) → j + 1 ≡ suc j
      plus_one j = omega arith

      by_number : (m : ℕ) → 0 < m → m ≤ seats_of b → any_has_number m ss ≡ true
      by_number zero above le = absurd (omega arith)
      by_number (suc j) above le =
          let at = there ss j (omega (arith, long, le)) in
          let number : (seat_view at.0).number ≡ suc j = ap (λ (v : SeatView T). v.number) (new j at.0 at.1).1 ∙ (new_number (opening_of b) (seats_of b) (j + 1) ∙ plus_one j) in
          any_at (suc j) ss j at.0 at.1 (ap (λ n. has_number n (seat_view at.0)) (sym number) ∙ has_own (seat_view at.0))

  -- once as many were made as the board was to have, the first and the others are the seats of a new board
  pub making_ends : (b : Board T) (others : List (BoardSeat T)) (first : BoardSeat T) (made : ℕ) → made ≡ seats_of b → IsMaking b others first made → AreNew b (first ∷ others)
  making_ends b others first made all h zero s e =
      subst (λ (x : BoardSeat T). IsSeatOf b x × (seat_view x ≡ new_seat (opening_of b) (seats_of b) 1)) (some-injective first s e) (h.first_of, h.first_is ∙ ap (first_seat (opening_of b) (seats_of b)) all)
  making_ends b others first made all h (suc j) s e =
      let t = h.each j s e in
      let number : j + 2 ≡ suc j + 1 = omega arith in
      (t.0, t.1 ∙ (ap (λ n. fresh (opening_of b) (seats_of b) n false 0) number ∙ sym (ap (λ c. if c then first_seat (opening_of b) (seats_of b) (seats_of b) else fresh (opening_of b) (seats_of b) (suc j + 1) false 0) (ne_eqb (suc j + 1) 1 (λ e. absurd (omega arith))))))

-- the last element goes to the front
pub rotated_right : {A : Type 0} (xs : List A) (x : A) (n : ℕ) → n ≡ length xs → drop n (xs ++ x ∷ []) ++ take n (xs ++ x ∷ []) ≡ x ∷ xs
rotated_right xs x n is = ap (λ m. drop m (xs ++ x ∷ []) ++ take m (xs ++ x ∷ [])) is ∙ (ap (λ l. l ++ take (length xs) (xs ++ x ∷ [])) (dropped xs) ∙ ap (λ l. x ∷ l) (taken xs))
  where
    dropped : (xs : List _) → drop (length xs) (xs ++ x ∷ []) ≡ x ∷ []
    dropped [] = refl
    dropped (y ∷ ys) = dropped ys

    taken : (xs : List _) → take (length xs) (xs ++ x ∷ []) ≡ xs
    taken [] = refl
    taken (y ∷ ys) = ap (λ l. y ∷ l) (taken ys)
