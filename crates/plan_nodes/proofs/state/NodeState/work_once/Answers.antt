use Rattle.std.proofs.Common.{subst, sym}
use Rattle.node_tasks.specs.declared.task.Task.TheVariants as task
use Rattle.plan_nodes.specs.States.{HasWorkedOnce, MayDo}
use Rattle.plan_nodes.specs.declared.state.NodeState.{NodeState}
use Rattle.plan_nodes.specs.declared.state.NodeState.TheVariants as state
use Rattle.plan_nodes.proofs.state.NodeState.work_once.Goals as goal

pub returns-in-Ingress : goal.returns-in-Ingress
returns-in-Ingress c = subst (λ (s : NodeState). HasWorkedOnce s (state.Ingress c.ingress_works.new.node) c.ingress_works.result c.args.out.now.packets c.ingress_works.new.out.packets) (sym c.in-Ingress.is) c.ingress_works.ensures.worked

pub returns-in-Replica : goal.returns-in-Replica
returns-in-Replica c = subst (λ (s : NodeState). HasWorkedOnce s (state.Replica c.replica_works.new.node) c.replica_works.result c.args.out.now.packets c.replica_works.new.out.packets) (sym c.in-Replica.is) c.replica_works.ensures.worked

pub returns-in-Control : goal.returns-in-Control
returns-in-Control c = absurd (subst (λ (s : NodeState). MayDo s task.Work) c.in-Control.is c.requires.may)

pub returns-in-Egress : goal.returns-in-Egress
returns-in-Egress c = subst (λ (s : NodeState). HasWorkedOnce s (state.Egress c.egress_works.new.node) c.egress_works.result c.args.out.now.packets c.egress_works.new.out.packets) (sym c.in-Egress.is) c.egress_works.ensures.worked
