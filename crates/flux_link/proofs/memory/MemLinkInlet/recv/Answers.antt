use Rattle.flux_link.proofs.Fronts.{gives_one_more}
use Rattle.flux_link.proofs.memory.MemLinkInlet.recv.Goals as goal
use Rattle.flux_link.specs.MemLinkView.{inside_of}
use Rattle.rtrb.specs.Ring.{sent, received, known_items}
use Rattle.std.proofs.Common.{◌≡◌, ◌∷◌, length, drop, ap, sym, ◌∙◌}

-- the packet popped is the first of those that wait
pub returns-clause-first : goal.returns-clause-first
returns-clause-first c =
    let popped = c.pop_known-packet.ensures.received in
    let more = gives_one_more (sent c.self.inside.producer) (received c.self.inside.consumer) (known_items c.self.inside.consumer)
    c.pop_known-packet.result (known_items c.pop_known-packet.new.self) c.self.invariant.in_order popped.1 in
    let later : inside_of c.self.inside.producer c.pop_known-packet.new.self ≡ known_items c.pop_known-packet.new.self =
    ap (λ l. drop (length l) (sent c.self.inside.producer)) popped.0 ∙ more.after in
    ap (λ v. v.waiting) (sym c.self.view_is) ∙ (more.before ∙ ap (λ l. c.pop_known-packet.result ∷ l) (sym later))
