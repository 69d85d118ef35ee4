use Rattle.std.proofs.Common.{[], subst, sym}
use Rattle.plan_nodes.specs.States.{HasTaken, MayNotTake}
use Rattle.plan_nodes.specs.declared.state.NodeState.{NodeState}
use Rattle.plan_nodes.specs.declared.state.NodeState.TheVariants as state
use Rattle.plan_nodes.proofs.Acting.{taken_quietly}
use Rattle.plan_nodes.proofs.state.NodeState.take_packet.Goals as goal

pub returns-in-Ingress-clause-taken : goal.returns-in-Ingress-clause-taken
returns-in-Ingress-clause-taken c = taken_quietly _ _ c.args.from c.args.packet.now c.ingress_takes.result c.args.out.now.packets
    (subst (λ (s : NodeState). HasTaken s (state.Ingress c.ingress_takes.new.node) c.args.from c.args.packet.now c.ingress_takes.result [] []) (sym c.in-Ingress.is) c.ingress_takes.ensures.taken)

pub returns-in-Replica-clause-taken : goal.returns-in-Replica-clause-taken
returns-in-Replica-clause-taken c = subst (λ (s : NodeState). HasTaken s (state.Replica c.replica_takes.new.node) c.args.from c.args.packet.now c.replica_takes.result c.args.out.now.packets c.replica_takes.new.out.packets) (sym c.in-Replica.is) c.replica_takes.ensures.taken

pub returns-in-Control-clause-taken : goal.returns-in-Control-clause-taken
returns-in-Control-clause-taken c = subst (λ (s : NodeState). HasTaken s (state.Control c.control_takes.new.node) c.args.from c.args.packet.now c.control_takes.result c.args.out.now.packets c.control_takes.new.out.packets) (sym c.in-Control.is) c.control_takes.ensures.taken

pub returns-in-Egress-clause-taken : goal.returns-in-Egress-clause-taken
returns-in-Egress-clause-taken c = taken_quietly _ _ c.args.from c.args.packet.now c.egress_takes.result c.args.out.now.packets
    (subst (λ (s : NodeState). HasTaken s (state.Egress c.egress_takes.new.node) c.args.from c.args.packet.now c.egress_takes.result [] []) (sym c.in-Egress.is) c.egress_takes.ensures.taken)

pub returns-in-Control-clause-left : goal.returns-in-Control-clause-left
returns-in-Control-clause-left c = λ idle. subst (λ (s : NodeState). MayNotTake s c.args.from c.args.packet.now) (sym c.in-Control.is) (c.control_takes.ensures.left idle)

pub returns-in-Egress-clause-left : goal.returns-in-Egress-clause-left
returns-in-Egress-clause-left c = λ idle. subst (λ (s : NodeState). MayNotTake s c.args.from c.args.packet.now) (sym c.in-Egress.is) (c.egress_takes.ensures.left idle)

pub returns-in-Ingress-clause-left : goal.returns-in-Ingress-clause-left
returns-in-Ingress-clause-left c = λ idle. subst (λ (s : NodeState). MayNotTake s c.args.from c.args.packet.now) (sym c.in-Ingress.is) (c.ingress_takes.ensures.left idle)

pub returns-in-Replica-clause-left : goal.returns-in-Replica-clause-left
returns-in-Replica-clause-left c = λ idle. subst (λ (s : NodeState). MayNotTake s c.args.from c.args.packet.now) (sym c.in-Replica.is) (c.replica_takes.ensures.left idle)
