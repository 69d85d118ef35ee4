use Rattle.std.proofs.Common.{subst, sym}
use Rattle.plan_nodes.specs.States.{HasActedBehind, IsIdle}
use Rattle.plan_nodes.specs.declared.state.NodeState.{NodeState}
use Rattle.plan_nodes.specs.declared.state.NodeState.TheVariants as state
use Rattle.flux_core.proofs.acts.came_of.Goals as goal

pub returns-in-Ingress-clause-acted : goal.returns-in-Ingress-clause-acted
returns-in-Ingress-clause-acted c = subst (λ (s : NodeState). HasActedBehind s (state.Ingress c.ingress_acts.new.node) c.args.task.now c.ingress_acts.result c.args.out.now.packets c.ingress_acts.new.out.packets) (sym c.in-Ingress.is) c.ingress_acts.ensures.acted

pub returns-in-Ingress-clause-idle : goal.returns-in-Ingress-clause-idle
returns-in-Ingress-clause-idle c = λ idle. subst (λ (s : NodeState). IsIdle 1 s c.args.task.now) (sym c.in-Ingress.is) (c.ingress_acts.ensures.idle idle 1)

pub returns-in-Replica-clause-acted : goal.returns-in-Replica-clause-acted
returns-in-Replica-clause-acted c = subst (λ (s : NodeState). HasActedBehind s (state.Replica c.came_of_replica.new.node) c.args.task.now c.came_of_replica.result c.args.out.now.packets c.came_of_replica.new.out.packets) (sym c.in-Replica.is) c.came_of_replica.ensures.acted

pub returns-in-Replica-clause-idle : goal.returns-in-Replica-clause-idle
returns-in-Replica-clause-idle c = λ idle. subst (λ (s : NodeState). IsIdle 1 s c.args.task.now) (sym c.in-Replica.is) (c.came_of_replica.ensures.idle idle)

pub returns-in-Control-clause-acted : goal.returns-in-Control-clause-acted
returns-in-Control-clause-acted c = subst (λ (s : NodeState). HasActedBehind s (state.Control c.control_acts.new.node) c.args.task.now c.control_acts.result c.args.out.now.packets c.control_acts.new.out.packets) (sym c.in-Control.is) c.control_acts.ensures.acted

pub returns-in-Control-clause-idle : goal.returns-in-Control-clause-idle
returns-in-Control-clause-idle c = λ idle. subst (λ (s : NodeState). IsIdle 1 s c.args.task.now) (sym c.in-Control.is) (c.control_acts.ensures.idle idle 1)

pub returns-in-Egress-clause-acted : goal.returns-in-Egress-clause-acted
returns-in-Egress-clause-acted c = subst (λ (s : NodeState). HasActedBehind s (state.Egress c.came_of_egress.new.node) c.args.task.now c.came_of_egress.result c.args.out.now.packets c.came_of_egress.new.out.packets) (sym c.in-Egress.is) c.came_of_egress.ensures.acted

pub returns-in-Egress-clause-idle : goal.returns-in-Egress-clause-idle
returns-in-Egress-clause-idle c = λ idle. subst (λ (s : NodeState). IsIdle 1 s c.args.task.now) (sym c.in-Egress.is) (c.came_of_egress.ensures.idle idle)
