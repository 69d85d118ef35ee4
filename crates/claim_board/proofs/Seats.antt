-- The seats after a step of one of them.
use Rattle.std.proofs.Common.{◌≡◌, ◌≢◌, ℕ, ◌<◌, ◌≤◌, eqb, eq-eqb, Bool, true, false, ◌||◌, ◌⊎◌, List, set, refl, sym, ap, ◌∙◌, subst, inl, inr, ⊎_elim, le_refl, true≢false, arith}
use mathlib.Core.Option.{some}
use mathlib.Core.Logic.{dite}
use native.Mathlib.Decide.{ℕ_discrete}
use lib.ListN.{get_elem?}
use store.Seg.{eqb→≡}
use Rattle.atomic_table.proofs.Lists.{at_set, set_else}
use Rattle.claim_board.specs.declared.view.SeatView.{SeatView}
use Rattle.claim_board.specs.Lists.{is_in}
use Rattle.claim_board.specs.Rule.{IsLive, has_number, Numbers, NoneLost, SpentHoldNothing}
use Rattle.claim_board.proofs.Lists.{put_at, one_at, or_cases}

module _ {T : Type 0} where
  -- what no step of a seat changes
  pub record SameSeat (v w : SeatView T) : Type 0 where
    pub live : w.live ≡ v.live
    pub number : w.number ≡ v.number
    pub joined : w.joined ≡ v.joined
    pub opening : w.opening ≡ v.opening
    pub seats : w.seats ≡ v.seats
    pub makes : w.makes ≡ v.makes

  pub same_self : (v : SeatView T) → SameSeat v v
  same_self v = record { live = refl; number = refl; joined = refl; opening = refl; seats = refl; makes = refl }

  pub has_own : (v : SeatView T) → has_number v.number v ≡ true
  has_own v = ap (λ b. b || is_in v.number v.joined) (eq-eqb v.number v.number refl)

  -- a seat's number is its own or joined
  pub own_or_joined : (m : ℕ) (v : SeatView T) → has_number m v ≡ true → (m ≡ v.number) ⊎ (is_in m v.joined ≡ true)
  own_or_joined m v h = ⊎_elim (λ (e : eqb m v.number ≡ true). inl (eqb→≡ m v.number e)) inr (or_cases (eqb m v.number) (is_in m v.joined) h)

  pub same_numbers : (m : ℕ) (v w : SeatView T) → w.number ≡ v.number → w.joined ≡ v.joined → has_number m w ≡ has_number m v
  same_numbers m v w number joined = ap (λ n. eqb m n || is_in m w.joined) number ∙ ap (λ l. eqb m v.number || is_in m l) joined

  -- the own numbers of live seats
  module _ (opening : List T) (seats made : ℕ) (views : List (SeatView T)) (r : Numbers opening seats made views) where
    pub own_within : (j : ℕ) (v : SeatView T) → IsLive views j v → (0 < v.number) × (v.number ≤ made)
    own_within j v l = r.within j v v.number l (has_own v)

    pub own_apart : (i j : ℕ) (v w : SeatView T) → IsLive views i v → IsLive views j w → v.number ≡ w.number → i ≡ j
    own_apart i j v w l k e = r.apart i j v w v.number l k (has_own v) (ap (λ n. has_number n w) e ∙ has_own w)

  module _ (views : List (SeatView T)) (id : ℕ) (v w : SeatView T) (at : get_elem? views id ≡ some v) (same : SameSeat v w) where
    -- what holds of the seat that stepped, and of each other live seat, holds of each live seat after the step
    pub each_after : (P : ℕ → SeatView T → Type 0) → (IsLive views id v → P id w) → ((j : ℕ) (u : SeatView T) → j ≢ id → IsLive views j u → P j u) → (j : ℕ) (u : SeatView T) → IsLive (set views id w) j u → P j u
    each_after P mine others j u l = ⊎_elim
        (λ (t : (j ≡ id) × (w ≡ u)). subst (λ i. P i u) (sym t.0) (subst (P id) t.1 (mine record { at = at; live = sym same.live ∙ (ap (λ (x : SeatView T). x.live) t.1 ∙ l.live) })))
        (λ (t : (j ≢ id) × (get_elem? views j ≡ some u)). others j u t.0 record { at = t.1; live = l.live })
        (at_set views id j w u l.at)

    -- each live seat was there before
    pub was : (j : ℕ) (u : SeatView T) → IsLive (set views id w) j u → (before : SeatView T) × IsLive views j before × SameSeat before u
    was = each_after (λ j u. (before : SeatView T) × IsLive views j before × SameSeat before u) (λ me. (v, me, same)) (λ j u n l. (u, l, same_self u))

    -- each live seat is still there, as R tells
    pub still : (R : SeatView T → SeatView T → Type 0) → ((u : SeatView T) → R u u) → R v w → (j : ℕ) (u : SeatView T) → IsLive views j u
        → (after : SeatView T) × IsLive (set views id w) j after × SameSeat u after × R u after
    still R self related j u l = dite (ℕ_discrete j id)
        (λ (e : j ≡ id).
        let is : v ≡ u = one_at views id v u at (ap (λ i. get_elem? views i) (sym e) ∙ l.at) in
        (w, record { at = ap (λ i. get_elem? (set views id w) i) e ∙ put_at views id v w at; live = same.live ∙ (ap (λ (x : SeatView T). x.live) is ∙ l.live) }, subst (λ (x : SeatView T). SameSeat x w) is same, subst (λ (x : SeatView T). R x w) is related))
        (λ d. (u, record { at = set_else views id j w d ∙ l.at; live = l.live }, same_self u, self u))

    -- the numbers after a step, at which the number of seats made may rise
    pub numbers_moved : (opening : List T) (seats made made_after : ℕ) → made ≤ made_after → made_after ≤ seats → ((j : ℕ) (u : SeatView T) → IsLive (set views id w) j u → u.makes ≡ true → u.made ≡ made_after)
        → Numbers opening seats made views → Numbers opening seats made_after (set views id w)
    numbers_moved opening seats made made_after more fits counts r = record {
      made_fits = fits;
      opened = λ j u l. let t = was j u l in t.2.opening ∙ r.opened j t.0 t.1;
      counted = λ j u l. let t = was j u l in t.2.seats ∙ r.counted j t.0 t.1;
      within = λ j u m l h.
          let t = was j u l in
          let p = r.within j t.0 m t.1 (sym (same_numbers m t.0 u t.2.number t.2.joined) ∙ h) in
          (p.0, le_then m made p.1);
      apart = λ i j u x m l k h g.
          let t = was i u l in
          let s = was j x k in
          r.apart i j t.0 s.0 m t.1 s.1 (sym (same_numbers m t.0 u t.2.number t.2.joined) ∙ h) (sym (same_numbers m s.0 x s.2.number s.2.joined) ∙ g);
      never_both = λ j u l. let t = was j u l in ap (λ n. is_in n u.joined) t.2.number ∙ (ap (is_in t.0.number) t.2.joined ∙ r.never_both j t.0 t.1);
      one_maker = λ i j u x l k h g. let t = was i u l in let s = was j x k in r.one_maker i j t.0 s.0 t.1 s.1 (sym t.2.makes ∙ h) (sym s.2.makes ∙ g);
      maker_counts = counts;
    }
      where
        le_then : (m n : ℕ) → m ≤ made → m ≤ made_after
        le_then m n p = omega arith

    pub numbers_kept : (opening : List T) (seats made : ℕ) → w.made ≡ v.made → Numbers opening seats made views → Numbers opening seats made (set views id w)
    numbers_kept opening seats made agree r = numbers_moved opening seats made made (le_refl made) r.made_fits
        (each_after (λ j u. u.makes ≡ true → u.made ≡ made) (λ me h. agree ∙ r.maker_counts id v me (sym same.makes ∙ h)) (λ j u n l. r.maker_counts j u l))
        r

    -- no number is lost by a step
    pub none_lost_kept : (made : ℕ) → NoneLost made views → NoneLost made (set views id w)
    none_lost_kept made there m above le =
        let o = there m above le in
        let n = still (λ u after. has_number m u ≡ true → has_number m after ≡ true) (λ u h. h) (λ h. same_numbers m v w same.number same.joined ∙ h) o.0 o.1 o.2 in
        (o.0, n.0, n.1, n.3 o.3)

    -- a live seat's step leaves the spent ones alone
    pub spent_kept : v.live ≡ true → SpentHoldNothing views → SpentHoldNothing (set views id w)
    spent_kept live nothing j u there not_live = ⊎_elim
        (λ (t : (j ≡ id) × (w ≡ u)). absurd (contrary u.live (sym (ap (λ (x : SeatView T). x.live) t.1) ∙ (same.live ∙ live)) not_live))
        (λ (t : (j ≢ id) × (get_elem? views j ≡ some u)). nothing j u t.1 not_live)
        (at_set views id j w u there)
      where
        contrary : (b : Bool) → b ≡ true → b ≡ false → ⊥
        contrary b p q = true≢false (sym p ∙ q)
