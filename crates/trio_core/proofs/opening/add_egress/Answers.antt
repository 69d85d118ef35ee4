use Rattle.std.proofs.Common.{refl}
use Rattle.trio_machine.specs.declared.node.TrioNode.TheVariants as node
use Rattle.trio_core.specs.declared.member.Member.TheVariants as member
use Rattle.trio_core.proofs.Acting.{on_ok-map}
use Rattle.trio_core.proofs.Opened.{joins}
use Rattle.trio_core.proofs.opening.add_egress.Goals as goal

pub returns-clause-more : goal.returns-clause-more
returns-clause-more c =
    on_ok-map c.add.result _ _
    (λ list. (joins c.args.plan.now node.Egress c.id-name.result (member.Egress c.in_ok-egress.egress) c.args.stations.now.items c.add.new.stations.items list c.id-name.ensures refl c.in_ok-egress.ensures.stands).more)
    c.add.ensures

pub returns-clause-there : goal.returns-clause-there
returns-clause-there c =
    on_ok-map c.add.result _ _
    (λ list. (joins c.args.plan.now node.Egress c.id-name.result (member.Egress c.in_ok-egress.egress) c.args.stations.now.items c.add.new.stations.items list c.id-name.ensures refl c.in_ok-egress.ensures.stands).there)
    c.add.ensures
