use Rattle.std.proofs.Common.{subst}
use Rattle.node_tasks.specs.Acted.{HasActed}
use Rattle.node_tasks.specs.declared.task.Task.TheVariants as task
use Rattle.plan_nodes.specs.States.{Admits, IsOfPlan, StandsFor, gone_of, id_of, rows_of}
use Rattle.plan_nodes.specs.declared.state.NodeState.{NodeState}
use Rattle.partition_runner.proofs.fed.FedActs.take.Goals as goal

pub invariant_of-self : goal.invariant_of-self
invariant_of-self g c = g.met.F.Feed.still c.self.inside.feed c.self.inside.state c.take.new.self c.take.ensures.acted.id c.take.ensures.acted.inputs c.self.invariant

pub returns-clause-acted : goal.returns-clause-acted
returns-clause-acted g c = subst (λ (s : NodeState). HasActed id_of IsOfPlan StandsFor rows_of gone_of Admits s c.take.new.self (task.Take c.args.«from» c.args.index c.args.packet.now) c.take.result c.take.new.out.packets)
    c.self.view_is c.take.ensures.acted
