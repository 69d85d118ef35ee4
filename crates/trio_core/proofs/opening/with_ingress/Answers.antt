use Rattle.tuple_edge.specs.Input.{from_first}
use Rattle.trio_machine.specs.declared.node.TrioNode.TheVariants as node
use Rattle.trio_core.specs.Opening.{new_station}
use Rattle.trio_core.specs.declared.member.Member.TheVariants as member
use Rattle.trio_core.proofs.Opened.{first_opens, has_last}
use Rattle.trio_core.proofs.opening.with_ingress.Goals as goal

pub returns-clause-opens : goal.returns-clause-opens
returns-clause-opens c =
    first_opens c.args.plan.now (from_first c.args.rows.now) c.id-name.result (member.Ingress c.in_ok-ingress.ingress) c.new-stations.result.items c.add.new.stations.items c.in_ok-add.ensures c.new-stations.ensures.items
    c.id-name.ensures (c.in_ok-ingress.ensures.stands c.requires)

pub returns-clause-there : goal.returns-clause-there
returns-clause-there c = has_last node.Ingress c.new-stations.result.items c.add.new.stations.items (new_station c.id-name.result (member.Ingress c.in_ok-ingress.ingress)) c.in_ok-add.ensures c.id-name.ensures
