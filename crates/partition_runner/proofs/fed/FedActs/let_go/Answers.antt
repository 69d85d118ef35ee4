use Rattle.std.proofs.Common.{subst, sym}
use Rattle.plan_nodes.specs.States.{IsOfPlan}
use Rattle.partition_runner.proofs.fed.FedActs.let_go.Goals as goal

pub invariant_of-self : goal.invariant_of-self
invariant_of-self g c = g.met.F.Feed.still c.self.inside.feed c.self.inside.state c.let_go.new.self c.let_go.ensures.id c.let_go.ensures.inputs c.self.invariant

pub returns-clause-of_plan : goal.returns-clause-of_plan
returns-clause-of_plan g c = λ plan old. c.let_go.ensures.of_plan plan (subst (IsOfPlan plan) (sym c.self.view_is) old)
