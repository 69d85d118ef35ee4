use Rattle.std.proofs.Common.{sym}
use Rattle.trio_core.specs.Sent.{listed_for}
use Rattle.trio_core.proofs.Acting.{on_ok-map}
use Rattle.trio_core.proofs.Listed.{listed_next}
use Rattle.trio_core.proofs.sent.list_next.Goals as goal

pub returns-clause-listed : goal.returns-clause-listed
returns-clause-listed c =
    on_ok-map c.list.result _ _
    (λ h. listed_next c.args.log.now.packets (listed_for c.args.links.now.items) (listed_for c.list.new.links.items) c.args.nth (c.in-Some.to, c.in-Some._body) c.requires.listed (sym c.in-Some.ensures) c.requires.next h)
    c.list.ensures.listed
