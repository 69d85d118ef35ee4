use Rattle.trio_machine.specs.declared.node.TrioNode.TheVariants as node
use Rattle.trio_core.specs.declared.member.Member.TheVariants as member
use Rattle.trio_core.proofs.Acting.{on_ok-map}
use Rattle.trio_core.proofs.Opened.{joins}
use Rattle.trio_core.proofs.opening.add_replica.Goals as goal

pub returns-clause-more : goal.returns-clause-more
returns-clause-more c =
    on_ok-map c.add.result _ _
    (λ list. (joins c.args.plan.now (node.Replica c.args.stage c.args.part c.args.copy) c.id-name.result (member.Replica c.in_ok-replica.replica) c.args.stations.now.items c.add.new.stations.items list c.id-name.ensures
    c.in_ok-replica.ensures.named c.in_ok-replica.ensures.stands).more)
    c.add.ensures

pub returns-clause-there : goal.returns-clause-there
returns-clause-there c =
    on_ok-map c.add.result _ _
    (λ list. (joins c.args.plan.now (node.Replica c.args.stage c.args.part c.args.copy) c.id-name.result (member.Replica c.in_ok-replica.replica) c.args.stations.now.items c.add.new.stations.items list c.id-name.ensures
    c.in_ok-replica.ensures.named c.in_ok-replica.ensures.stands).there)
    c.add.ensures
