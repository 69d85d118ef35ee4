use Rattle.std.proofs.Common.{subst, sym}
use Rattle.ingress_egress.specs.IngressStands as ingress
use Rattle.pair_machine.specs.Machine.{new_node}
use Rattle.trade_text.specs.TradesView.{inputs_in}
use Rattle.plan_nodes.proofs.Coming.{these_alone}
use Rattle.plan_nodes.proofs.opening.opening_state.Goals as goal

pub returns-in_ok-new-in-Ingress-clause-stands : goal.returns-in_ok-new-in-Ingress-clause-stands
returns-in_ok-new-in-Ingress-clause-stands c =
    subst (λ n. ingress.StandsFor c.args.plan.now (inputs_in c.args.trades.now) c.in_ok-new-in-Ingress.field-0 (new_node n)) (sym c.in-Ingress.is) c.in_ok-new-in-Ingress.ensures.stands

pub returns-in_ok-new-in-Ingress-clause-only : goal.returns-in_ok-new-in-Ingress-clause-only
returns-in_ok-new-in-Ingress-clause-only c = λ here. these_alone c.in_ok-new-in-Ingress.field-0 (inputs_in c.args.trades.now) c.in_ok-new-in-Ingress.ensures.ended c.in_ok-new-in-Ingress.ensures.inputs
