use Rattle.std.proofs.Common.{subst}
use Rattle.node_tasks.specs.Acted.{HasActed}
use Rattle.plan_nodes.specs.States.{Admits, IsOfPlan, StandsFor, gone_of, id_of, rows_of}
use Rattle.plan_nodes.specs.declared.state.NodeState.{NodeState}
use Rattle.partition_runner.proofs.fed.FedActs.act.Goals as goal

pub invariant_of-self : goal.invariant_of-self
invariant_of-self g c = g.met.F.Feed.still c.self.inside.feed c.self.inside.state c.act.new.self c.act.ensures.id c.act.ensures.inputs c.self.invariant

pub returns : goal.returns
returns g c = subst (λ (s : NodeState). HasActed id_of IsOfPlan StandsFor rows_of gone_of Admits s c.act.new.self c.args.task.now c.act.result c.act.new.out.packets) c.self.view_is c.act.ensures
