use Rattle.std.proofs.Common.{subst, sym}
use Rattle.plan_nodes.specs.States.{HasActedBehind, IsIdle}
use Rattle.plan_nodes.specs.declared.state.NodeState.{NodeState}
use Rattle.plan_nodes.specs.declared.state.NodeState.TheVariants as state
use Rattle.plan_nodes.proofs.state.NodeState.do_task.Goals as goal

pub returns-in-Ingress-clause-acted : goal.returns-in-Ingress-clause-acted
returns-in-Ingress-clause-acted c = subst (λ (s : NodeState). HasActedBehind s (state.Ingress c.ingress_acts.new.node) c.args.task.now c.ingress_acts.result c.args.out.now.packets c.ingress_acts.new.out.packets) (sym c.in-Ingress.is) c.ingress_acts.ensures.acted

pub returns-in-Ingress-clause-idle : goal.returns-in-Ingress-clause-idle
returns-in-Ingress-clause-idle c = λ idle. subst (λ (s : NodeState). IsIdle c.args.rise s c.args.task.now) (sym c.in-Ingress.is) (c.ingress_acts.ensures.idle idle c.args.rise)

pub returns-in-Replica-clause-acted : goal.returns-in-Replica-clause-acted
returns-in-Replica-clause-acted c = subst (λ (s : NodeState). HasActedBehind s (state.Replica c.replica_acts.new.node) c.args.task.now c.replica_acts.result c.args.out.now.packets c.replica_acts.new.out.packets) (sym c.in-Replica.is) c.replica_acts.ensures.acted

pub returns-in-Replica-clause-idle : goal.returns-in-Replica-clause-idle
returns-in-Replica-clause-idle c = λ idle. subst (λ (s : NodeState). IsIdle c.args.rise s c.args.task.now) (sym c.in-Replica.is) (c.replica_acts.ensures.idle idle)

pub returns-in-Control-clause-acted : goal.returns-in-Control-clause-acted
returns-in-Control-clause-acted c = subst (λ (s : NodeState). HasActedBehind s (state.Control c.control_acts.new.node) c.args.task.now c.control_acts.result c.args.out.now.packets c.control_acts.new.out.packets) (sym c.in-Control.is) c.control_acts.ensures.acted

pub returns-in-Control-clause-idle : goal.returns-in-Control-clause-idle
returns-in-Control-clause-idle c = λ idle. subst (λ (s : NodeState). IsIdle c.args.rise s c.args.task.now) (sym c.in-Control.is) (c.control_acts.ensures.idle idle c.args.rise)

pub returns-in-Egress-clause-acted : goal.returns-in-Egress-clause-acted
returns-in-Egress-clause-acted c = subst (λ (s : NodeState). HasActedBehind s (state.Egress c.egress_acts.new.node) c.args.task.now c.egress_acts.result c.args.out.now.packets c.egress_acts.new.out.packets) (sym c.in-Egress.is) c.egress_acts.ensures.acted

pub returns-in-Egress-clause-idle : goal.returns-in-Egress-clause-idle
returns-in-Egress-clause-idle c = λ idle. subst (λ (s : NodeState). IsIdle c.args.rise s c.args.task.now) (sym c.in-Egress.is) (c.egress_acts.ensures.idle idle c.args.rise)
