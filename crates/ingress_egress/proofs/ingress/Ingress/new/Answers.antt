use Rattle.std.proofs.Common.{◌∙◌, ap, refl, subst, sym, true}
use Rattle.ingress_egress.specs.IngressStands.{StandsFor}
use Rattle.ingress_egress.specs.IngressView.{IngressView, ended_at}
use Rattle.pair_machine.specs.Machine.{new_node}
use Rattle.tuple_edge.specs.declared.node.NodeId.TheVariants as node
use Rattle.trade_text.specs.TradesView.{inputs_in}
use Rattle.ingress_egress.proofs.Coming.{come_stands}
use Rattle.ingress_egress.proofs.ingress.Ingress.new.Goals as goal

pub returns-clause-stands : goal.returns-clause-stands
returns-clause-stands c =
    let rows = inputs_in c.args.trades.now in
    subst (λ (i : IngressView). StandsFor c.args.plan.now rows i (new_node node.Ingress)) (sym (c.end.ensures.ended ∙ ap ended_at c.in_ok-feed_all.ensures))
    (come_stands c.args.plan.now rows rows true c.in_ok-ingress.ingress (new_node node.Ingress) refl (c.in_ok-ingress.ensures.stands rows))
