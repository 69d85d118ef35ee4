use Rattle.std.proofs.Common.{subst, sym}
use Rattle.ingress_egress.specs.IngressStands as ingress
use Rattle.pair_control.specs.StandsFor as control
use Rattle.pair_machine.specs.Counts.{flow_of}
use Rattle.pair_machine.specs.Machine.{new_node}
use Rattle.plan_nodes.proofs.opening.streamed_state.Goals as goal

pub returns-in_ok-control_of-in-Control-clause-stands : goal.returns-in_ok-control_of-in-Control-clause-stands
returns-in_ok-control_of-in-Control-clause-stands c =
    λ inputs. subst (λ n. control.StandsFor (flow_of c.args.plan.now inputs) c.in_ok-control_of-in-Control.field-0 (new_node n)) (sym c.in-Control.is) (c.in_ok-control_of-in-Control.ensures.stands inputs)

pub returns-in_ok-streamed-in-Ingress-clause-stands : goal.returns-in_ok-streamed-in-Ingress-clause-stands
returns-in_ok-streamed-in-Ingress-clause-stands c =
    λ inputs. subst (λ n. ingress.StandsFor c.args.plan.now inputs c.in_ok-streamed-in-Ingress.field-0 (new_node n)) (sym c.in-Ingress.is) (c.in_ok-streamed-in-Ingress.ensures.stands inputs)
