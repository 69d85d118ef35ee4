-- All seats of a board are still all its seats after turns that gave back what they took.
use Rattle.std.proofs.Common.{◌≡◌, ℕ, zero, suc, ◌<◌, ◌||◌, false, List, [], ◌∷◌, length, get_or, refl, subst, ap, sym, ◌∙◌, arith}
use mathlib.Core.Option.{some, some-injective, some-ne-none}
use mathlib.Core.Logic.{dite}
use native.Mathlib.Decide.{ℕ_discrete}
use lib.ListN.{get_elem?}
use Rattle.claim_board.specs.declared.view.SeatView.{SeatView}
use Rattle.claim_board.specs.declared.board.Board.{Board}
use Rattle.claim_board.specs.declared.seat.BoardSeat.{BoardSeat}
use Rattle.claim_board.specs.Lists.{is_in}
use Rattle.claim_board.specs.Rule.{has_number}
use Rattle.claim_board.specs.Steps.{with_place, without_place, with_loss, with_load, with_halt}
use Rattle.claim_board.specs.Board.{seat_view, IsSeatOf, HoldsNone, AllHoldNone, any_has_number, AreAll, IsBack}
use Rattle.claim_board.proofs.Lists.{in_other, in_without_other, in_without_same}
use Rattle.claim_board.proofs.Seats.{same_numbers}

at_index : {A : Type 0} (l : List A) (i : ℕ) (a : A) → i < length l → a ≡ get_or l i a → get_elem? l i ≡ some a
at_index [] i a lt is = absurd (omega arith)
at_index (x ∷ xs) zero a lt is = ap some (sym is)
at_index (x ∷ xs) (suc i) a lt is = at_index xs i a (omega arith) is

module _ {T : Type 0} (b : Board T) where
  pub back_self : (s : BoardSeat T) → IsSeatOf b s → IsBack b s s
  back_self s seat = record { seat = seat; number = refl; joined = refl; holds = λ k. refl }

  pub back_then : (s t u : BoardSeat T) → IsBack b s t → IsBack b t u → IsBack b s u
  back_then s t u f g = record {
    seat = g.seat;
    number = g.number ∙ f.number;
    joined = g.joined ∙ f.joined;
    holds = λ k. g.holds k ∙ f.holds k;
  }

  -- a place was taken and given back
  pub back_given : (s t u : BoardSeat T) (k : ℕ) → is_in k (seat_view s).holds ≡ false → seat_view t ≡ with_place k (seat_view s) → IsSeatOf b u → seat_view u ≡ without_place k (seat_view t) → IsBack b s u
  back_given s t u k away taken seat given =
      let is : seat_view u ≡ without_place k (with_place k (seat_view s)) = given ∙ ap (without_place k) taken in
      record {
        seat = seat;
        number = ap (λ (v : SeatView T). v.number) is;
        joined = ap (λ (v : SeatView T). v.joined) is;
        holds = λ j. ap (λ (v : SeatView T). is_in j v.holds) is ∙ dite (ℕ_discrete j k)
            (λ (e : j ≡ k). ap (λ i. is_in i (without_place k (with_place k (seat_view s))).holds) e ∙ (in_without_same k (k ∷ (seat_view s).holds) ∙ sym (ap (λ i. is_in i (seat_view s).holds) e ∙ away)))
            (λ d. in_without_other j k (k ∷ (seat_view s).holds) d ∙ in_other j k (seat_view s).holds d);
      }

  -- a step left the numbers and the places
  back_same : (s t : BoardSeat T) (w : SeatView T) → IsSeatOf b t → seat_view t ≡ w → w.number ≡ (seat_view s).number → w.joined ≡ (seat_view s).joined → w.holds ≡ (seat_view s).holds → IsBack b s t
  back_same s t w seat is number joined holds = record {
    seat = seat;
    number = ap (λ (v : SeatView T). v.number) is ∙ number;
    joined = ap (λ (v : SeatView T). v.joined) is ∙ joined;
    holds = λ k. ap (λ (v : SeatView T). is_in k v.holds) is ∙ ap (is_in k) holds;
  }

  -- a claim was lost
  pub back_lost : (s t : BoardSeat T) (k owner : ℕ) → IsSeatOf b t → seat_view t ≡ with_loss k owner (seat_view s) → IsBack b s t
  back_lost s t k owner seat is = back_same s t (with_loss k owner (seat_view s)) seat is refl refl refl

  -- the halt word was loaded
  pub back_loaded : (s t : BoardSeat T) (found : ℕ) → IsSeatOf b t → seat_view t ≡ with_load found (seat_view s) → IsBack b s t
  back_loaded s t found seat is = back_same s t (with_load found (seat_view s)) seat is refl refl refl

  -- the halt word was set
  pub back_halted : (s t : BoardSeat T) → IsSeatOf b t → seat_view t ≡ with_halt (seat_view s) → IsBack b s t
  back_halted s t seat is = back_same s t (with_halt (seat_view s)) seat is refl refl refl

  -- a seat that a call found at an index of a slice of all seats
  pub seat_at : (seats : List (BoardSeat T)) → AreAll b seats → (i : ℕ) (s : BoardSeat T) → i < length seats → s ≡ get_or seats i s → IsSeatOf b s
  seat_at seats all i s lt is = all.each i s (at_index seats i s lt is)

  pub none_at : (seats : List (BoardSeat T)) → AllHoldNone seats → (i : ℕ) (s : BoardSeat T) → i < length seats → s ≡ get_or seats i s → HoldsNone s
  none_at seats none i s lt is = none i s (at_index seats i s lt is)

  -- each seat is back
  abbrev pub AllBack : List (BoardSeat T) → List (BoardSeat T) → Type 0
  AllBack old new = (j : ℕ) (s : BoardSeat T) → get_elem? new j ≡ some s → (o : BoardSeat T) × (get_elem? old j ≡ some o) × IsBack b o s

  same_any : (m : ℕ) (old new : List (BoardSeat T)) → length old ≡ length new → AllBack old new → any_has_number m new ≡ any_has_number m old
  same_any m [] [] n h = refl
  same_any m [] (y ∷ ys) n h = absurd (omega arith)
  same_any m (x ∷ xs) [] n h = absurd (omega arith)
  same_any m (x ∷ xs) (y ∷ ys) n h =
      let t = h 0 y refl in
      let e : t.0 ≡ x = some-injective t.0 x (sym t.1) in
      let first : has_number m (seat_view y) ≡ has_number m (seat_view x) = same_numbers m (seat_view t.0) (seat_view y) t.2.number t.2.joined ∙ ap (λ (s : BoardSeat T). has_number m (seat_view s)) e in
      ap (λ c. c || any_has_number m ys) first ∙ ap (λ c. has_number m (seat_view x) || c) (same_any m xs ys (omega arith) (λ j s f. h (suc j) s f))

  pub all_back : (old new : List (BoardSeat T)) → length old ≡ length new → AllBack old new → AreAll b old → AreAll b new
  all_back old new n h a = record {
    each = λ j s e. (h j s e).2.seat;
    numbers = λ m above le. same_any m old new n h ∙ a.numbers m above le;
  }

  pub none_back : (old new : List (BoardSeat T)) → AllBack old new → AllHoldNone old → AllHoldNone new
  none_back old new h none j s e k = let t = h j s e in t.2.holds k ∙ none j t.0 t.1 k

  -- the same by index, as a call that changes each seat of a slice tells it
  pub back_by_index : (old new : List (BoardSeat T)) → length old ≡ length new → ((i : ℕ) (d : BoardSeat T) → i < length old → IsBack b (get_or old i d) (get_or new i d)) → AllBack old new
  back_by_index old new n h j s e =
      let r = got new j s s e in
      let lt : j < length old = omega arith in
      let o = get_or old j s in
      (o, there old j s lt, subst (λ x. IsBack b o x) r.1 (h j s lt))
    where
      got : (l : List (BoardSeat T)) (i : ℕ) (a d : BoardSeat T) → get_elem? l i ≡ some a → (i < length l) × (get_or l i d ≡ a)
      got [] i a d e = absurd (some-ne-none a (sym e))
      got (x ∷ xs) zero a d e = (omega arith, some-injective x a e)
      got (x ∷ xs) (suc i) a d e = let r = got xs i a d e in let k : suc i < length (x ∷ xs) = omega arith in (k, r.1)

      there : (l : List (BoardSeat T)) (i : ℕ) (d : BoardSeat T) → i < length l → get_elem? l i ≡ some (get_or l i d)
      there [] i d lt = absurd (omega arith)
      there (x ∷ l) zero d lt = refl
      there (x ∷ l) (suc i) d lt = there l i d (omega arith)

  -- the same of two seats
  pub pair_back : (x y u v : BoardSeat T) → AreAll b (x ∷ y ∷ []) → AllHoldNone (x ∷ y ∷ []) → IsBack b x u → IsBack b y v → AreAll b (u ∷ v ∷ []) × AllHoldNone (u ∷ v ∷ [])
  pair_back x y u v all none f g = (all_back (x ∷ y ∷ []) (u ∷ v ∷ []) refl each all, none_back (x ∷ y ∷ []) (u ∷ v ∷ []) each none)
    where
      each : AllBack (x ∷ y ∷ []) (u ∷ v ∷ [])
      each zero s e = (x, refl, subst (IsBack b x) (some-injective u s e) f)
      each (suc zero) s e = (y, refl, subst (IsBack b y) (some-injective v s e) g)
      each (suc (suc j)) s e = absurd (some-ne-none s (sym e))
