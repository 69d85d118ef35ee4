use Rattle.std.proofs.Common.{◌∙◌, ap, length, subst}
use Rattle.flux_core.specs.Sent.{AreListed, bodies_to, listed_for}
use Rattle.flux_core.proofs.Listing.{count-listed}
use Rattle.flux_core.proofs.sent.Sent.count_to.Goals as goal

pub returns-clause-value : goal.returns-clause-value
returns-clause-value c =
    let packets = c.self.inside.log.packets in
    let lists = listed_for c.list_all.new.places in
    let all : AreListed packets lists (length packets) = subst (AreListed packets lists) c.in_ok-list_all.ensures.whole c.in_ok-list_all.ensures.listed in
    ap length c.list_of.ensures ∙ count-listed packets lists c.args.to all ∙ ap (λ l. length (bodies_to c.args.to l)) c.self.view_is
