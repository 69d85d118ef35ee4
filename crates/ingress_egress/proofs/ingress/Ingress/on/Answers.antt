use Rattle.std.proofs.Common.{subst, sym}
use Rattle.ingress_egress.specs.IngressStands.{IsOfPlan, IsTaken}
use Rattle.ingress_egress.proofs.IngressPlan.{takes_of_plan}
use Rattle.ingress_egress.proofs.IngressSteps.{take_course}
use Rattle.ingress_egress.proofs.ingress.Ingress.on.Goals as goal

pub returns-clause-course : goal.returns-clause-course
returns-clause-course c = λ plan rows is. subst (λ z. IsTaken plan rows c.args.self.now z c.args.from c.args.body.now) (sym c.take.ensures)
    (take_course plan rows c.args.self.now c.args.from c.args.body.now c.requires.admitted)

pub returns-clause-of_plan : goal.returns-clause-of_plan
returns-clause-of_plan c = λ plan is. subst (IsOfPlan plan) (sym c.take.ensures) (takes_of_plan plan c.args.self.now c.args.from c.args.body.now is)
