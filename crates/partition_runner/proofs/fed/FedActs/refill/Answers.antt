use Rattle.std.proofs.Common.{subst, sym}
use Rattle.plan_nodes.specs.States.{IsOfPlan}
use Rattle.partition_runner.proofs.fed.FedActs.refill.Goals as goal

pub returns-clause-of_plan : goal.returns-clause-of_plan
returns-clause-of_plan g c = λ plan old. c.refill.ensures.of_plan plan (subst (IsOfPlan plan) (sym c.self.view_is) old)
