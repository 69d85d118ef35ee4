use Rattle.std.proofs.Common.{◌%◌, Some, subst, sym}
use Rattle.pair_machine.specs.CountLaws.{made_for}
use Rattle.pair_machine.specs.Edges.{edge_to}
use Rattle.pair_machine.proofs.Tests.{nat_not}
use Rattle.node_edges.specs.OutEdges.{HasMade}
use Rattle.ingress_egress.specs.IngressView.{producer_in}
use Rattle.ingress_egress.proofs.EachSource.{row_alone}
use Rattle.ingress_egress.proofs.EgressSteps.{when_ok}
use Rattle.ingress_egress.proofs.making.make_with_room.Goals as goal

pub returns-clause-made : goal.returns-clause-made
returns-clause-made c = when_ok c.make_row_alone.result _ _
    (λ m q l.
    let old = producer_in c.args.producers.now.items q in
    let new = producer_in c.make_row_alone.new.producers.items q in
    subst (λ o. HasMade (λ t. edge_to (Some c.args.first.now) t (made_for q c.args.mark c.args.stamp o)) old new) (sym c.in-Some.is)
    (row_alone c.args.first.now q c.args.mark c.args.stamp c.in-Some.given old new (nat_not (c.args.stamp % c.args.mark) 0 c.if-stamp-mark-eq0.false) (m q l)))
    c.make_row_alone.ensures.made
