use Rattle.std.proofs.Common.{subst, sym}
use Rattle.plan_nodes.specs.States.{IsOfPlan}
use Rattle.partition_runner.proofs.fed.FedActs.work.Goals as goal

pub invariant_of-self : goal.invariant_of-self
invariant_of-self g c = g.met.F.Feed.still c.self.inside.feed c.self.inside.state c.work.new.self c.work.ensures.id c.work.ensures.inputs c.self.invariant

pub returns-clause-of_plan : goal.returns-clause-of_plan
returns-clause-of_plan g c = λ plan old. c.work.ensures.of_plan plan (subst (IsOfPlan plan) (sym c.self.view_is) old)
