use Rattle.flux_link.proofs.Fronts.{gives_one_more}
use Rattle.flux_link.proofs.Numbered.{next_first, numbered_next}
use Rattle.flux_link.proofs.memory.MemLinkInlet.pass.Goals as goal
use Rattle.flux_link.specs.Arrivals.{next_after, numbered}
use Rattle.flux_link.specs.MemLinkView.{MemLinkView, inside_of}
use Rattle.rtrb.specs.Ring.{sent, received, known_items}
use Rattle.std.proofs.Common.{◌≡◌, ◌++◌, ◌∷◌, [], length, drop, ap, subst, sym, ◌∙◌}
use Rattle.std.specs.Prelude.{IfSome}

pub returns-clause-place : goal.returns-clause-place
returns-clause-place c =
    let popped = c.pop_known.ensures.received in
    let more = gives_one_more (sent c.self.inside.producer) (received c.self.inside.consumer) (known_items c.self.inside.consumer)
    c.pop_known.result (known_items c.pop_known.new.self) c.self.invariant.in_order popped.1 in
    subst (λ (v : MemLinkView). IfSome (next_after (length v.given) v.waiting) (λ arrival.
    numbered (received c.pop_known.new.self) ≡ numbered v.given ++ arrival ∷ [])) c.self.view_is
    (numbered_next _ _ _ _ _ more.before popped.0)

pub returns-clause-first : goal.returns-clause-first
returns-clause-first c =
    let popped = c.pop_known.ensures.received in
    let more = gives_one_more (sent c.self.inside.producer) (received c.self.inside.consumer) (known_items c.self.inside.consumer)
    c.pop_known.result (known_items c.pop_known.new.self) c.self.invariant.in_order popped.1 in
    let later : inside_of c.self.inside.producer c.pop_known.new.self ≡ known_items c.pop_known.new.self =
    ap (λ l. drop (length l) (sent c.self.inside.producer)) popped.0 ∙ more.after in
    subst (λ (v : MemLinkView). IfSome (next_after (length v.given) v.waiting) (λ arrival.
    v.waiting ≡ arrival.packet ∷ inside_of c.self.inside.producer c.pop_known.new.self)) c.self.view_is
    (next_first _ _ _ _ (more.before ∙ ap (λ l. c.pop_known.result ∷ l) (sym later)))
