-- A seat that is joined into another.
use Rattle.std.proofs.Common.{◌≡◌, ◌≢◌, ℕ, ◌<◌, ◌≤◌, eqb, eq-eqb, Bool, true, false, ◌||◌, ◌⊎◌, if◌then◌else◌, List, ◌∷◌, ◌++◌, length, set, refl, sym, ap, ◌∙◌, subst, inl, inr, ⊎_elim, true≢false, Option, arith}
use Rattle.std.specs.Prelude.{slice_index}
use mathlib.Core.Option.{some}
use mathlib.Core.Logic.{dite}
use native.Mathlib.Decide.{ℕ_discrete}
use lib.ListN.{get_elem?}
use Rattle.atomic_table.specs.Table.{State, Joins}
use Rattle.atomic_table.proofs.Lists.{at_set, set_else}
use Rattle.claim_board.specs.declared.view.SeatView.{SeatView}
use Rattle.claim_board.specs.Lists.{is_in}
use Rattle.claim_board.specs.Rule.{Homes, IsLive, has_number, Numbers, NoneLost, SpentHoldNothing, IsHome, Claims, Halts, BoardRule, halt_word_of}
use Rattle.claim_board.specs.Steps.{with_seat, spent}
use Rattle.claim_board.proofs.Lists.{false≢true, in_head, in_more, in_front, in_back, in_append, in_split, one_at, put_at, or_cases, or_left, or_right, not_so}
use Rattle.claim_board.proofs.Seats.{has_own, own_or_joined, own_within}

-- what was either's is the one's that stays
pub joined_has : {T : Type 0} (v w : SeatView T) (m : ℕ) → (has_number m v ≡ true) ⊎ (has_number m w ≡ true) → has_number m (with_seat v w) ≡ true
joined_has v w m h =
    let all : List ℕ = w.number ∷ (w.joined ++ v.joined) in
    ⊎_elim
    (λ (p : has_number m v ≡ true). ⊎_elim
    (λ (e : m ≡ v.number). or_left (eqb m v.number) (is_in m all) (eq-eqb m v.number e))
    (λ (g : is_in m v.joined ≡ true). or_right (eqb m v.number) (is_in m all) (in_more m w.number (w.joined ++ v.joined) (in_back m w.joined v.joined g)))
    (own_or_joined m v p))
    (λ (p : has_number m w ≡ true). or_right (eqb m v.number) (is_in m all) (⊎_elim
    (λ (e : m ≡ w.number). ap (λ n. is_in n all) e ∙ in_head w.number (w.joined ++ v.joined))
    (λ (g : is_in m w.joined ≡ true). in_more m w.number (w.joined ++ v.joined) (in_front m w.joined v.joined g))
    (own_or_joined m w p)))
    h

module _ {T : Type 0} (views : List (SeatView T)) (id other : ℕ) (v w : SeatView T) (at : get_elem? views id ≡ some v) (apart : ¬ (other ≡ id)) (at_other : get_elem? (set views id (with_seat v w)) other ≡ some w) where
  abbrev after : List (SeatView T)
  after = set (set views id (with_seat v w)) other spent

  there : get_elem? views other ≡ some w
  there = sym (set_else views id other (with_seat v w) apart) ∙ at_other

  -- the seat that stays, or one that is neither
  left : (j : ℕ) (u : SeatView T) → IsLive after j u → ((j ≡ id) × (with_seat v w ≡ u)) ⊎ ((j ≢ id) × (j ≢ other) × IsLive views j u)
  left j u l = ⊎_elim
      (λ (t : (j ≡ other) × (spent ≡ u)). absurd (false≢true (ap (λ (x : SeatView T). x.live) t.1 ∙ l.live)))
      (λ (t : (j ≢ other) × (get_elem? (set views id (with_seat v w)) j ≡ some u)). ⊎_elim
      (λ (s : (j ≡ id) × (with_seat v w ≡ u)). inl s)
      (λ (s : (j ≢ id) × (get_elem? views j ≡ some u)). inr (s.0, t.0, record { at = s.1; live = l.live }))
      (at_set views id j (with_seat v w) u t.1))
      (at_set (set views id (with_seat v w)) other j spent u l.at)

  module _ (live : v.live ≡ true) (live_other : w.live ≡ true) (opening : List T) (seats made : ℕ) (r : Numbers opening seats made views) where
    me : IsLive views id v
    me = record { at = at; live = live }

    them : IsLive views other w
    unfolding there
    them = record { at = there; live = live_other }

    -- what holds of the seat that stays, and of each that is neither, holds of each live seat
    each_left : (P : ℕ → SeatView T → Type 0) → P id (with_seat v w) → ((j : ℕ) (u : SeatView T) → j ≢ id → j ≢ other → IsLive views j u → P j u) → (j : ℕ) (u : SeatView T) → IsLive after j u → P j u
    each_left P mine others j u l = ⊎_elim
        (λ (t : (j ≡ id) × (with_seat v w ≡ u)). subst (λ i. P i u) (sym t.0) (subst (P id) t.1 mine))
        (λ (t : (j ≢ id) × (j ≢ other) × IsLive views j u). others j u t.0 t.1 t.2)
        (left j u l)

    -- the seat that stays has the numbers of both
    both_have : (m : ℕ) → has_number m (with_seat v w) ≡ true → (has_number m v ≡ true) ⊎ (has_number m w ≡ true)
    both_have m h = ⊎_elim
        (λ (e : m ≡ v.number). inl (ap (λ n. has_number n v) e ∙ has_own v))
        (λ (p : is_in m (w.number ∷ (w.joined ++ v.joined)) ≡ true). ⊎_elim
        (λ (e : m ≡ w.number). inr (ap (λ n. has_number n w) e ∙ has_own w))
        (λ (q : is_in m (w.joined ++ v.joined) ≡ true). ⊎_elim
        (λ (g : is_in m w.joined ≡ true). inr (or_right (eqb m w.number) (is_in m w.joined) g))
        (λ (g : is_in m v.joined ≡ true). inl (or_right (eqb m v.number) (is_in m v.joined) g))
        (in_append m w.joined v.joined q))
        (in_split m w.number (w.joined ++ v.joined) p))
        (own_or_joined m (with_seat v w) h)

    -- no number of the one seat is one of the other
    not_shared : (m : ℕ) → has_number m v ≡ true → has_number m w ≡ true → ⊥
    not_shared m h g = apart (sym (r.apart id other v w m me them h g))

    numbers_joined : Numbers opening seats made after
    numbers_joined = record {
      made_fits = r.made_fits;
      opened = each_left (λ j u. u.opening ≡ opening) (r.opened id v me) (λ j u n o. r.opened j u);
      counted = each_left (λ j u. u.seats ≡ seats) (r.counted id v me) (λ j u n o. r.counted j u);
      within = λ j u m. each_left (λ j u. has_number m u ≡ true → (0 < m) × (m ≤ made)) (λ h. ⊎_elim (r.within id v m me) (r.within other w m them) (both_have m h)) (λ j u n o l. r.within j u m l) j u;
      apart = λ i j u x m l k. each_left (λ i u. has_number m u ≡ true → has_number m x ≡ true → i ≡ j)
          (each_left (λ j x. has_number m (with_seat v w) ≡ true → has_number m x ≡ true → id ≡ j) (λ h g. refl) (λ j x n o q h g. absurd (lone j x m n o q g h)) j x k)
          (λ i u n o p. each_left (λ j x. has_number m u ≡ true → has_number m x ≡ true → i ≡ j) (λ h g. absurd (lone i u m n o p h g)) (λ j x n o q. r.apart i j u x m p q) j x k)
          i u l;
      never_both = each_left (λ j u. is_in u.number u.joined ≡ false) (not_so (is_in v.number (w.number ∷ (w.joined ++ v.joined))) own_once) (λ j u n o. r.never_both j u);
      one_maker = λ i j u x l k. each_left (λ i u. u.makes ≡ true → x.makes ≡ true → i ≡ j)
          (each_left (λ j x. (v.makes || w.makes) ≡ true → x.makes ≡ true → id ≡ j) (λ h g. refl) (λ j x n o q h g. absurd (lone_maker j x n o q g h)) j x k)
          (λ i u n o p. each_left (λ j x. u.makes ≡ true → x.makes ≡ true → i ≡ j) (λ h g. absurd (lone_maker i u n o p h g)) (λ j x n o q. r.one_maker i j u x p q) j x k)
          i u l;
      maker_counts = each_left (λ j u. u.makes ≡ true → u.made ≡ made) (made_of v.makes refl) (λ j u n o. r.maker_counts j u);
    }
      where
        -- a third seat shares no number with the one that stays
        lone : (j : ℕ) (u : SeatView T) (m : ℕ) → j ≢ id → j ≢ other → IsLive views j u → has_number m u ≡ true → has_number m (with_seat v w) ≡ true → ⊥
        lone j u m n o l h g = ⊎_elim (λ p. n (r.apart j id u v m l me h p)) (λ p. o (r.apart j other u w m l them h p)) (both_have m g)

        own_once : is_in v.number (w.number ∷ (w.joined ++ v.joined)) ≡ true → ⊥
        own_once h = ⊎_elim
            (λ (e : v.number ≡ w.number). not_shared v.number (has_own v) (ap (λ n. has_number n w) e ∙ has_own w))
            (λ (q : is_in v.number (w.joined ++ v.joined) ≡ true). ⊎_elim
            (λ (g : is_in v.number w.joined ≡ true). not_shared v.number (has_own v) (or_right (eqb v.number w.number) (is_in v.number w.joined) g))
            (λ (g : is_in v.number v.joined ≡ true). true≢false (sym g ∙ r.never_both id v me))
            (in_append v.number w.joined v.joined q))
            (in_split v.number w.number (w.joined ++ v.joined) h)

        lone_maker : (j : ℕ) (u : SeatView T) → j ≢ id → j ≢ other → IsLive views j u → u.makes ≡ true → (v.makes || w.makes) ≡ true → ⊥
        lone_maker j u n o l h m = ⊎_elim (λ p. n (r.one_maker j id u v l me h p)) (λ p. o (r.one_maker j other u w l them h p)) (or_cases v.makes w.makes m)

        made_of : (b : Bool) → v.makes ≡ b → (v.makes || w.makes) ≡ true → (if v.makes then v.made else w.made) ≡ made
        made_of true e h = ap (λ c. if c then v.made else w.made) e ∙ r.maker_counts id v me e
        made_of false e h = ap (λ c. if c then v.made else w.made) e ∙ ⊎_elim (λ p. absurd (true≢false (sym p ∙ e))) (λ p. r.maker_counts other w them p) (or_cases v.makes w.makes h)

    none_lost_joined : NoneLost made views → NoneLost made after
    unfolding there
    none_lost_joined all m above le =
        let o = all m above le in
        let stays : IsLive after id (with_seat v w) = record { at = set_else (set views id (with_seat v w)) other id spent (λ f. apart (sym f)) ∙ put_at views id v (with_seat v w) at; live = live } in
        dite (ℕ_discrete o.0 other)
        (λ (e : o.0 ≡ other).
        let is : o.1 ≡ w = one_at views other o.1 w (ap (λ i. get_elem? views i) (sym e) ∙ o.2.at) there in
        (id, with_seat v w, stays, joined_has v w m (inr (sym (ap (has_number m) is) ∙ o.3))))
        (λ (d : o.0 ≢ other). dite (ℕ_discrete o.0 id)
        (λ (e : o.0 ≡ id).
        let is : o.1 ≡ v = one_at views id o.1 v (ap (λ i. get_elem? views i) (sym e) ∙ o.2.at) at in
        (id, with_seat v w, stays, joined_has v w m (inl (sym (ap (has_number m) is) ∙ o.3))))
        (λ (n : o.0 ≢ id). (o.0, o.1, record { at = set_else (set views id (with_seat v w)) other o.0 spent d ∙ (set_else views id o.0 (with_seat v w) n ∙ o.2.at); live = o.2.live }, o.3)))

    spent_joined : SpentHoldNothing views → SpentHoldNothing after
    spent_joined nothing j u there_after not_live = ⊎_elim
        (λ (t : (j ≡ other) × (spent ≡ u)). sym (ap (λ (x : SeatView T). x.holds) t.1))
        (λ (t : (j ≢ other) × (get_elem? (set views id (with_seat v w)) j ≡ some u)). ⊎_elim
        (λ (s : (j ≡ id) × (with_seat v w ≡ u)). absurd (true≢false (sym live ∙ (ap (λ (x : SeatView T). x.live) s.1 ∙ not_live))))
        (λ (s : (j ≢ id) × (get_elem? views j ≡ some u)). nothing j u s.1 not_live)
        (at_set views id j (with_seat v w) u t.1))
        (at_set (set views id (with_seat v w)) other j spent u there_after)

    claims_joined : {Name : Type 0} (name : T → Name) (words : List ℕ) (homes : Homes T) → ((k : ℕ) → is_in k w.holds ≡ false) → Claims name opening words homes views → Claims name opening words homes after
    unfolding there
    claims_joined name words homes empty c = record {
      free = c.free;
      claimed = λ k lt nz.
          let o = c.claimed k lt nz in
          dite (ℕ_discrete o.0 other)
          (λ (e : o.0 ≡ other). let same : o.1 ≡ w = one_at views other o.1 w (ap (λ i. get_elem? views i) (sym e) ∙ o.2.at) there in absurd (false≢true (sym (empty k) ∙ (ap (λ (x : SeatView T). is_in k x.holds) (sym same) ∙ o.4))))
          (λ (d : o.0 ≢ other). dite (ℕ_discrete o.0 id)
          (λ (e : o.0 ≡ id). let same : o.1 ≡ v = one_at views id o.1 v (ap (λ i. get_elem? views i) (sym e) ∙ o.2.at) at in
          (id, with_seat v w, record { at = set_else (set views id (with_seat v w)) other id spent (λ f. apart (sym f)) ∙ put_at views id v (with_seat v w) at; live = live }, sym (ap (λ (x : SeatView T). x.number) same) ∙ o.3, sym (ap (λ (x : SeatView T). is_in k x.holds) same) ∙ o.4, o.5))
          (λ (n : o.0 ≢ id). (o.0, o.1, record { at = set_else (set views id (with_seat v w)) other o.0 spent d ∙ (set_else views id o.0 (with_seat v w) n ∙ o.2.at); live = o.2.live }, o.3, o.4, o.5)));
      held = λ j u k. each_left (λ j u. is_in k u.holds ≡ true → (k < length opening) × (slice_index words k ≡ u.number)) (c.held id v k me) (λ j u n o l. c.held j u k l) j u;
    }

    halts_joined : (words : List ℕ) → Halts opening words views → Halts opening words after
    halts_joined words h = record {
      word = h.word;
      stored = each_left (λ j u. u.stored ≡ true → slice_index words (halt_word_of (length opening)) ≡ 1) (λ e. ⊎_elim (h.stored id v me) (h.stored other w them) (or_cases v.stored w.stored e)) (λ j u n o. h.stored j u);
      found = each_left (λ j u. u.last_load ≡ 1 → slice_index words (halt_word_of (length opening)) ≡ 1) (h.found id v me) (λ j u n o. h.found j u);
    }

module _ {T Name : Type 0} (name : T → Name) (opening : List T) (seats : ℕ) where
  -- a seat that holds nothing is joined into another
  pub joins : (id : ℕ) (v : SeatView T) (other : ℕ) (w : SeatView T) → v.live ≡ true → w.live ≡ true → ((k : ℕ) → is_in k w.holds ≡ false) → Joins (BoardRule name opening seats) id v other w (with_seat v w) spent
  joins id v other w live live_other empty s h at apart at_other = record {
    made = h.made;
    word_count = h.word_count;
    slot_count = h.slot_count;
    numbers = numbers_joined s.views id other v w at apart at_other live live_other opening seats h.made h.numbers;
    none_lost = none_lost_joined s.views id other v w at apart at_other live live_other opening seats h.made h.numbers h.none_lost;
    spent = spent_joined s.views id other v w at apart at_other live live_other opening seats h.made h.numbers h.spent;
    claims = claims_joined s.views id other v w at apart at_other live live_other opening seats h.made h.numbers name s.words s.homes empty h.claims;
    halts = halts_joined s.views id other v w at apart at_other live live_other opening seats h.made h.numbers s.words h.halts;
  }

  -- where one seat has all numbers and holds nothing, each value is at home
  pub all_home : (s : State (Option T) (SeatView T)) → BoardRule name opening seats s → (id : ℕ) (v : SeatView T) → IsLive s.views id v → ((m : ℕ) → 0 < m → m ≤ seats → has_number m v ≡ true) → ((k : ℕ) → is_in k v.holds ≡ false)
      → (k : ℕ) → k < length opening → IsHome name opening s.homes k
  all_home s h id v me covers empty k lt = dite (ℕ_discrete (slice_index s.words k) 0)
      (λ z. h.claims.free k lt z)
      (λ nz.
      let o = h.claims.claimed k lt nz in
      let own = own_within opening seats h.made s.views h.numbers o.0 o.1 o.2 in
      let here : o.0 ≡ id = h.numbers.apart o.0 id o.1 v o.1.number o.2 me (has_own o.1) (covers o.1.number own.0 (omega (arith, own.1, h.numbers.made_fits))) in
      let is : o.1 ≡ v = one_at s.views id o.1 v (ap (λ i. get_elem? s.views i) (sym here) ∙ o.2.at) me.at in
      absurd (true≢false (sym o.4 ∙ (ap (λ (x : SeatView T). is_in k x.holds) is ∙ empty k))))
