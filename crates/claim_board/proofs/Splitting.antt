-- A seat that is split false≢true.
use Rattle.std.proofs.Common.{◌≡◌, ℕ, ◌+◌, ◌<◌, ◌≤◌, true, false, List, [], ◌∷◌, ◌++◌, length, set, refl, sym, ap, ◌∙◌, subst, ⊎_elim, true≢false, arith}
use Rattle.std.specs.Prelude.{slice_index}
use mathlib.Core.Option.{some}
use mathlib.Core.Logic.{dite}
use native.Mathlib.Decide.{ℕ_discrete}
use lib.ListN.{get_elem?}
use Rattle.atomic_table.specs.Table.{Splits}
use Rattle.atomic_table.proofs.Lists.{at_longer, at_last}
use Rattle.claim_board.specs.declared.view.SeatView.{SeatView}
use Rattle.claim_board.specs.Lists.{is_in}
use Rattle.claim_board.specs.Rule.{Homes, IsLive, has_number, Numbers, NoneLost, SpentHoldNothing, Claims, Halts, BoardRule, halt_word_of}
use Rattle.claim_board.specs.Steps.{with_next, next_seat}
use Rattle.claim_board.proofs.Lists.{false≢true, zero_not_one, at_end}
use Rattle.claim_board.proofs.Seats.{SameSeat, each_after, was, same_numbers, has_own, own_or_joined, numbers_moved, none_lost_kept, spent_kept}
use Rattle.claim_board.proofs.Places.{claims_same}
use Rattle.claim_board.proofs.Moves.{halts_same}

-- a live seat that holds nothing, has the next number alone and has done nothing
record IsNew {T : Type 0} (opening : List T) (seats next : ℕ) (w : SeatView T) : Type 0 where
  live : w.live ≡ true
  opened : w.opening ≡ opening
  counted : w.seats ≡ seats
  number : w.number ≡ next
  joined : w.joined ≡ []
  holds : w.holds ≡ []
  makes : w.makes ≡ false
  stored : w.stored ≡ false
  found : w.last_load ≡ 0

module _ {T : Type 0} (opening : List T) (seats made : ℕ) (views : List (SeatView T)) (w : SeatView T) (new : IsNew opening seats (made + 1) w) where
  -- what holds of each seat that was there before, and of the new one, holds of each seat
  each_added : (P : ℕ → SeatView T → Type 0) → ((j : ℕ) (u : SeatView T) → IsLive views j u → P j u) → P (length views) w → (j : ℕ) (u : SeatView T) → IsLive (views ++ w ∷ []) j u → P j u
  each_added P others mine j u l = ⊎_elim
      (λ (e : get_elem? views j ≡ some u). others j u record { at = e; live = l.live })
      (λ (t : (j ≡ length views) × (w ≡ u)). subst (λ i. P i u) (sym t.0) (subst (P (length views)) t.1 mine))
      (at_end views w u j l.at)

  next_alone : (m : ℕ) → has_number m w ≡ true → m ≡ made + 1
  next_alone m h = ⊎_elim
      (λ (p : m ≡ w.number). p ∙ new.number)
      (λ (p : is_in m w.joined ≡ true). absurd (false≢true (ap (is_in m) (sym new.joined) ∙ p)))
      (own_or_joined m w h)

  numbers_added : Numbers opening seats (made + 1) views → ((j : ℕ) (u : SeatView T) (m : ℕ) → IsLive views j u → has_number m u ≡ true → m ≤ made) → Numbers opening seats (made + 1) (views ++ w ∷ [])
  numbers_added r within = record {
    made_fits = r.made_fits;
    opened = each_added (λ j u. u.opening ≡ opening) r.opened new.opened;
    counted = each_added (λ j u. u.seats ≡ seats) r.counted new.counted;
    within = λ j u m. each_added (λ j u. has_number m u ≡ true → (0 < m) × (m ≤ made + 1))
        (λ j u l. r.within j u m l)
        (λ h. let e : m ≡ made + 1 = next_alone m h in (omega (arith, e), omega (arith, e)))
        j u;
    apart = λ i j u x m l k. each_added (λ i u. has_number m u ≡ true → has_number m x ≡ true → i ≡ j)
        (λ i u p. each_added (λ j x. has_number m u ≡ true → has_number m x ≡ true → i ≡ j) (λ j x q. r.apart i j u x m p q) (λ h g. absurd (too_great m (within i u m p h) g)) j x k)
        (each_added (λ j x. has_number m w ≡ true → has_number m x ≡ true → length views ≡ j) (λ j x q h g. absurd (too_great m (within j x m q g) h)) (λ h g. refl) j x k)
        i u l;
    never_both = each_added (λ j u. is_in u.number u.joined ≡ false) r.never_both (ap (is_in w.number) new.joined);
    one_maker = λ i j u x l k. each_added (λ i u. u.makes ≡ true → x.makes ≡ true → i ≡ j)
        (λ i u p. each_added (λ j x. u.makes ≡ true → x.makes ≡ true → i ≡ j) (λ j x q. r.one_maker i j u x p q) (λ h g. absurd (makes_none g)) j x k)
        (λ h g. absurd (makes_none h))
        i u l;
    maker_counts = each_added (λ j u. u.makes ≡ true → u.made ≡ made + 1) r.maker_counts (λ h. absurd (makes_none h));
  }
    where
      makes_none : w.makes ≡ true → ⊥
      makes_none h = false≢true (sym new.makes ∙ h)

      too_great : (m : ℕ) → m ≤ made → has_number m w ≡ true → ⊥
      too_great m le h = let e : m ≡ made + 1 = next_alone m h in omega (arith, le, e)

  none_lost_added : NoneLost made views → NoneLost (made + 1) (views ++ w ∷ [])
  none_lost_added there m above le = dite (ℕ_discrete m (made + 1))
      (λ e. (length views, w, record { at = at_last views w (length views) refl; live = new.live }, ap (λ n. has_number n w) (e ∙ sym new.number) ∙ has_own w))
      (λ d. let o = there m above (omega (arith, d, le)) in (o.0, o.1, record { at = at_longer views (w ∷ []) o.0 o.1 o.2.at; live = o.2.live }, o.3))

  spent_added : SpentHoldNothing views → SpentHoldNothing (views ++ w ∷ [])
  spent_added nothing j u at not_live = ⊎_elim
      (λ (e : get_elem? views j ≡ some u). nothing j u e not_live)
      (λ (t : (j ≡ length views) × (w ≡ u)). absurd (true≢false (sym new.live ∙ (ap (λ (x : SeatView T). x.live) t.1 ∙ not_live))))
      (at_end views w u j at)

  claims_added : {Name : Type 0} (name : T → Name) (words : List ℕ) (homes : Homes T) → Claims name opening words homes views → Claims name opening words homes (views ++ w ∷ [])
  claims_added name words homes c = record {
    free = c.free;
    claimed = λ k lt nz. let o = c.claimed k lt nz in (o.0, o.1, record { at = at_longer views (w ∷ []) o.0 o.1 o.2.at; live = o.2.live }, o.3, o.4, o.5);
    held = λ j u k. each_added (λ j u. is_in k u.holds ≡ true → (k < length opening) × (slice_index words k ≡ u.number)) (λ j u l. c.held j u k l) (λ h. absurd (false≢true (ap (is_in k) (sym new.holds) ∙ h))) j u;
  }

  halts_added : (words : List ℕ) → Halts opening words views → Halts opening words (views ++ w ∷ [])
  halts_added words h = record {
    word = h.word;
    stored = each_added (λ j u. u.stored ≡ true → slice_index words (halt_word_of (length opening)) ≡ 1) h.stored (λ e. absurd (false≢true (sym new.stored ∙ e)));
    found = each_added (λ j u. u.last_load ≡ 1 → slice_index words (halt_word_of (length opening)) ≡ 1) h.found (λ e. absurd (zero_not_one w.last_load new.found e));
  }

module _ {T Name : Type 0} (name : T → Name) (opening : List T) (seats : ℕ) where
  -- the seat that makes the others splits one false≢true
  pub splits : (id : ℕ) (v : SeatView T) → v.live ≡ true → v.makes ≡ true → v.opening ≡ opening → v.seats ≡ seats → v.made < seats → Splits (BoardRule name opening seats) id v (with_next v) (next_seat v)
  splits id v live makes opened counted fewer s h at =
      let w = with_next v in
      let new = next_seat v in
      let moved = set s.views id w in
      let me : IsLive s.views id v = record { at = at; live = live } in
      let made : v.made ≡ h.made = h.numbers.maker_counts id v me makes in
      let is_new : IsNew opening seats (h.made + 1) new = record { live = refl; opened = opened; counted = counted; number = ap (λ n. n + 1) made; joined = refl; holds = refl; makes = refl; stored = refl; found = refl } in
      let numbers : Numbers opening seats (h.made + 1) moved = numbers_moved s.views id v w at same_seat opening seats h.made (h.made + 1) (omega arith) (omega (arith, made, fewer))
      (each_after s.views id v w at same_seat (λ j u. u.makes ≡ true → u.made ≡ h.made + 1) (λ me m. ap (λ n. n + 1) made) (λ j u n l m. absurd (n (h.numbers.one_maker j id u v l me m makes))))
      h.numbers in
      record {
        made = h.made + 1;
        word_count = h.word_count;
        slot_count = h.slot_count;
        numbers = numbers_added opening seats h.made moved new is_new numbers
            (λ j u m l g. let t = was s.views id v w at same_seat j u l in (h.numbers.within j t.0 m t.1 (sym (same_numbers m t.0 u t.2.number t.2.joined) ∙ g)).1);
        none_lost = none_lost_added opening seats h.made moved new is_new (none_lost_kept s.views id v w at same_seat h.made h.none_lost);
        spent = spent_added opening seats h.made moved new is_new (spent_kept s.views id v w at same_seat live h.spent);
        claims = claims_added opening seats h.made moved new is_new name s.words s.homes (claims_same name opening s.words s.homes s.views id v at h.claims w s.words same_seat refl (λ k lt. refl));
        halts = halts_added opening seats h.made moved new is_new s.words (halts_same opening s.words s.words s.views id v w at same_seat refl refl refl h.halts);
      }
    where
      same_seat : SameSeat v (with_next v)
      same_seat = record { live = refl; number = refl; joined = refl; opening = refl; seats = refl; makes = refl }
