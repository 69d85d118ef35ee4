use Rattle.std.proofs.Common.{sym}
use Rattle.flux_core.proofs.Listing.{listed-put}
use Rattle.flux_core.proofs.sent.push_place.Goals as goal

pub returns-clause-listed : goal.returns-clause-listed
returns-clause-listed c =
    listed-put c.args.places.now (c.get_mut.follows.lender c.push.new.self) c.args.to c.in-Some.of_node.now c.push.new.self c.args.place (sym c.in-Some.ensures.value)
    c.in_ok-push.ensures.items ((c.get_mut.follows.holds c.push.new.self).3 c.requires).0
