use Rattle.std.proofs.Common.{sym}
use Rattle.flux_core.proofs.Listing.{listed-next}
use Rattle.flux_core.specs.Sent.{listed_for}
use Rattle.flux_core.proofs.sent.list_next.Goals as goal

pub returns-clause-listed : goal.returns-clause-listed
returns-clause-listed c = listed-next _ _ (listed_for c.list.new.places) _ (c.in-Some.to, c.in-Some._body) c.requires.listed (sym c.in-Some.ensures) c.requires.next c.in_ok-list.ensures.listed
