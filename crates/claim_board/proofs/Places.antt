-- The claims after a step.
use Rattle.std.proofs.Common.{◌≡◌, ◌≢◌, ℕ, ◌<◌, true, List, ◌∷◌, length, set, refl, sym, ap, ◌∙◌, subst, true≢false, Some, arith}
use Rattle.std.specs.Prelude.{slice_index}
use mathlib.Core.Option.{some, none}
use mathlib.Core.Logic.{dite}
use native.Mathlib.Decide.{ℕ_discrete}
use lib.ListN.{get_elem?}
use Rattle.atomic_table.proofs.Lists.{set_here, set_else}
use Rattle.claim_board.specs.declared.view.SeatView.{SeatView}
use Rattle.claim_board.specs.Lists.{is_in, without}
use Rattle.claim_board.specs.Rule.{Homes, IsLive, Numbers, IsNamedAt, Claims}
use Rattle.claim_board.specs.Steps.{with_place, without_place}
use Rattle.claim_board.proofs.Lists.{in_head, in_other, in_more, in_without_other, in_without_same, written_else, written_here, put_at}
use Rattle.claim_board.proofs.Seats.{SameSeat, each_after, still, own_within, own_apart}

module _ {T Name : Type 0} (name : T → Name) (opening : List T) (words : List ℕ) (homes : Homes T) (views : List (SeatView T)) (id : ℕ) (v : SeatView T) (at : get_elem? views id ≡ some v) (c : Claims name opening words homes views) where
  -- the seat keeps its places, and no claim changes
  pub claims_same : (w : SeatView T) (after : List ℕ) → SameSeat v w → w.holds ≡ v.holds → ((k : ℕ) → k < length opening → slice_index after k ≡ slice_index words k) → Claims name opening after homes (set views id w)
  claims_same w after same_seat same agree = record {
    free = λ k lt z. c.free k lt (sym (agree k lt) ∙ z);
    claimed = λ k lt nz.
        let o = c.claimed k lt (λ z. nz (agree k lt ∙ z)) in
        let n = still views id v w at same_seat (λ u x. x.holds ≡ u.holds) (λ u. refl) same o.0 o.1 o.2 in
        (o.0, n.0, n.1, n.2.number ∙ (o.3 ∙ sym (agree k lt)), ap (is_in k) n.3 ∙ o.4, o.5);
    held = λ j u k l. each_after views id v w at same_seat (λ j u. is_in k u.holds ≡ true → (k < length opening) × (slice_index after k ≡ u.number))
        (λ me h. let p = c.held id v k me (ap (is_in k) (sym same) ∙ h) in (p.0, agree k p.0 ∙ (p.1 ∙ sym same_seat.number)))
        (λ j u n l h. let p = c.held j u k l h in (p.0, agree k p.0 ∙ p.1))
        j u l;
  }

  module _ (k : ℕ) (live : v.live ≡ true) (seats made : ℕ) (r : Numbers opening seats made views) (lt : k < length opening) where
    me : IsLive views id v
    me = record { at = at; live = live }

    -- the seat claims a free place
    pub claims_won : k < length words → k < length homes → slice_index words k ≡ 0 → Claims name opening (set words k v.number) (set homes k none) (set views id (with_place k v))
    unfolding me
    claims_won wide slots z = record {
      free = λ j ltj zj. dite (ℕ_discrete j k)
          (λ (e : j ≡ k). absurd (let n : v.number ≡ 0 = sym (written_here words k v.number wide) ∙ (ap (λ i. slice_index (set words k v.number) i) (sym e) ∙ zj) in let p = (own_within opening seats made views r id v me).0 in omega arith))
          (λ (d : j ≢ k). let h = c.free j ltj (sym (written_else words k j v.number d) ∙ zj) in (h.0, set_else homes k j none d ∙ h.1, h.2));
      claimed = λ j ltj nz. dite (ℕ_discrete j k)
          (λ (e : j ≡ k). (id, with_place k v, record { at = put_at views id v (with_place k v) at; live = live }, sym (written_here words k v.number wide) ∙ ap (λ i. slice_index (set words k v.number) i) (sym e), ap (λ i. is_in i (k ∷ v.holds)) e ∙ in_head k v.holds, ap (λ i. get_elem? (set homes k none) i) e ∙ set_here homes k none slots))
          (λ (d : j ≢ k).
          let o = c.claimed j ltj (λ zj. nz (written_else words k j v.number d ∙ zj)) in
          let n = still views id v (with_place k v) at same_seat (λ u x. is_in j u.holds ≡ true → is_in j x.holds ≡ true) (λ u h. h) (in_more j k v.holds) o.0 o.1 o.2 in
          (o.0, n.0, n.1, n.2.number ∙ (o.3 ∙ sym (written_else words k j v.number d)), n.3 o.4, set_else homes k j none d ∙ o.5));
      held = λ i u j l. each_after views id v (with_place k v) at same_seat (λ i u. is_in j u.holds ≡ true → (j < length opening) × (slice_index (set words k v.number) j ≡ u.number))
          (λ me h. dite (ℕ_discrete j k)
          (λ (e : j ≡ k). (subst (λ i. i < length opening) (sym e) lt, ap (λ i. slice_index (set words k v.number) i) e ∙ written_here words k v.number wide))
          (λ (d : j ≢ k). let p = c.held id v j me (sym (in_other j k v.holds d) ∙ h) in (p.0, written_else words k j v.number d ∙ p.1)))
          (λ i u n l h.
          let p = c.held i u j l h in
          let d : j ≢ k = λ (e : j ≡ k). let n : 0 ≡ u.number = sym z ∙ (ap (λ i. slice_index words i) (sym e) ∙ p.1) in let q = (own_within opening seats made views r i u l).0 in omega arith in
          (p.0, written_else words k j v.number d ∙ p.1))
          i u l;
    }
      where
        same_seat : SameSeat v (with_place k v)
        same_seat = record { live = refl; number = refl; joined = refl; opening = refl; seats = refl; makes = refl }

    -- the seat gives a place back, with a value of its name
    pub claims_released : k < length words → k < length homes → is_in k v.holds ≡ true → (x : T) → IsNamedAt name opening k x → Claims name opening (set words k 0) (set homes k (some (Some x))) (set views id (without_place k v))
    unfolding me
    claims_released wide slots holds x named = record {
      free = λ j ltj zj. dite (ℕ_discrete j k)
          (λ (e : j ≡ k). (x, ap (λ i. get_elem? (set homes k (some (Some x))) i) e ∙ set_here homes k (some (Some x)) slots, subst (λ i. IsNamedAt name opening i x) (sym e) named))
          (λ (d : j ≢ k). let h = c.free j ltj (sym (written_else words k j 0 d) ∙ zj) in (h.0, set_else homes k j (some (Some x)) d ∙ h.1, h.2));
      claimed = λ j ltj nz. dite (ℕ_discrete j k)
          (λ (e : j ≡ k). absurd (nz (ap (λ i. slice_index (set words k 0) i) e ∙ written_here words k 0 wide)))
          (λ (d : j ≢ k).
          let o = c.claimed j ltj (λ zj. nz (written_else words k j 0 d ∙ zj)) in
          let n = still views id v (without_place k v) at same_seat (λ u x. is_in j u.holds ≡ true → is_in j x.holds ≡ true) (λ u h. h) (λ h. in_without_other j k v.holds d ∙ h) o.0 o.1 o.2 in
          (o.0, n.0, n.1, n.2.number ∙ (o.3 ∙ sym (written_else words k j 0 d)), n.3 o.4, set_else homes k j (some (Some x)) d ∙ o.5));
      held = λ i u j l. each_after views id v (without_place k v) at same_seat (λ i u. is_in j u.holds ≡ true → (j < length opening) × (slice_index (set words k 0) j ≡ u.number))
          (λ me h. dite (ℕ_discrete j k)
          (λ (e : j ≡ k). absurd (true≢false (sym h ∙ (ap (λ i. is_in i (without k v.holds)) e ∙ in_without_same k v.holds))))
          (λ (d : j ≢ k). let p = c.held id v j me (sym (in_without_other j k v.holds d) ∙ h) in (p.0, written_else words k j 0 d ∙ p.1)))
          (λ i u n l h.
          let p = c.held i u j l h in
          let mine = c.held id v k me holds in
          let d : j ≢ k = λ (e : j ≡ k). n (own_apart opening seats made views r i id u v l me (sym p.1 ∙ (ap (λ i. slice_index words i) e ∙ mine.1))) in
          (p.0, written_else words k j 0 d ∙ p.1))
          i u l;
    }
      where
        same_seat : SameSeat v (without_place k v)
        same_seat = record { live = refl; number = refl; joined = refl; opening = refl; seats = refl; makes = refl }
