use Rattle.std.proofs.Common.{ap, subst}
use Rattle.trio_core.specs.CoreView.{StationView}
use Rattle.trio_core.specs.Sent.{bodies_to}
use Rattle.trio_core.specs.Taken.{IsMissing, IsPacketOf}
use Rattle.trio_core.proofs.Acting.{if_err-map, if_ok-map}
use Rattle.trio_core.proofs.OnLinks.{taken_found, taken_missing}
use Rattle.trio_core.proofs.nodes.TrioCore.packet_of.Goals as goal

pub returns-clause-asked : goal.returns-clause-asked
returns-clause-asked c = if_ok-map c.taken.result _ _
    (λ t h. taken_found c.args.self.now c.args.from c.args.to c.args.index c.requires.sender c.station-sender.result.now c.station-sender.ensures t
    (subst (λ l. IsPacketOf (bodies_to c.args.to l) c.args.from c.args.index t) (ap (λ (k : StationView). k.sent) c.sender.view_is) h))
    c.taken.ensures.found

pub returns-clause-refused : goal.returns-clause-refused
returns-clause-refused c = if_err-map c.taken.result _ _
    (λ x h. taken_missing c.args.self.now c.args.from c.args.to c.args.index c.requires.sender c.station-sender.result.now c.station-sender.ensures x
    (subst (λ l. IsMissing (bodies_to c.args.to l) c.args.index x) (ap (λ (k : StationView). k.sent) c.sender.view_is) h))
    c.taken.ensures.refused
