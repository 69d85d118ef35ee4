use Rattle.flux_link.proofs.Numbered.{numbered_next}
use Rattle.flux_link.proofs.rings.RingInInlet.pass.Goals as goal
use Rattle.flux_link.specs.Arrivals.{next_after, numbered}
use Rattle.flux_link.specs.RingViews.{RingInView}
use Rattle.rtrb.specs.Ring.{received}
use Rattle.std.proofs.Common.{◌≡◌, ◌++◌, ◌∷◌, [], length, subst}
use Rattle.std.specs.Prelude.{IfSome}

pub returns-clause-place : goal.returns-clause-place
returns-clause-place c =
    let popped = c.pop_known.ensures.received in
    subst (λ (v : RingInView). IfSome (next_after (length v.given) v.known_waiting) (λ arrival.
    numbered (received c.pop_known.new.self) ≡ numbered v.given ++ arrival ∷ [])) c.self.view_is
    (numbered_next _ _ _ _ _ popped.1 popped.0)
