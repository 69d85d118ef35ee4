-- What the rule comes to.
use Rattle.std.proofs.Common.{◌≡◌, ◌≢◌, sym, ◌∙◌, inl, inr, arith}
use Rattle.std.specs.Prelude.{slice_index}
use mathlib.Core.Logic.{dite}
use native.Mathlib.Decide.{ℕ_discrete}
use Rattle.claim_board.specs.Lists.{is_in}
use Rattle.claim_board.specs.Laws.{EachIsOnce, AllJoinedIsAlone}
use Rattle.claim_board.proofs.Lists.{not_so}
use Rattle.claim_board.proofs.Seats.{has_own, own_within, own_apart}

module _ {T Name : Type 0} (name : T → Name) where
  pub each_is_once : EachIsOnce name
  each_is_once opening seats s h k lt = dite (ℕ_discrete (slice_index s.words k) 0)
      (λ (z : slice_index s.words k ≡ 0). inl (
        h.claims.free k lt z,
        λ j v l. not_so (is_in k v.holds) (λ held.
            let number : slice_index s.words k ≡ v.number = (h.claims.held j v k l held).1 in
            let above = (own_within opening seats h.made s.views h.numbers j v l).0 in
            omega (arith, z, number, above)),
      ))
      (λ (nz : slice_index s.words k ≢ 0).
      let o = h.claims.claimed k lt nz in
      inr (o.5, (o.0, o.1, o.2, o.4, λ i w l held. own_apart opening seats h.made s.views h.numbers i o.0 w o.1 l o.2 (sym (h.claims.held i w k l held).1 ∙ sym o.3))))

  pub all_joined_is_alone : AllJoinedIsAlone name
  all_joined_is_alone opening seats s h id v me all j w l =
      let own = own_within opening seats h.made s.views h.numbers j w l in
      h.numbers.apart j id w v w.number l me (has_own w) (all w.number own.0 (omega (arith, own.1, h.numbers.made_fits)))
