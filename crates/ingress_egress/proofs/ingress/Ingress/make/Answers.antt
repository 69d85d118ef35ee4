use Rattle.ingress_egress.proofs.IngressPlan.{make_of_plan}
use Rattle.ingress_egress.proofs.IngressSteps.{make_done}
use Rattle.ingress_egress.proofs.ingress.Ingress.make.Goals as goal

pub returns-clause-of_plan : goal.returns-clause-of_plan
returns-clause-of_plan c = make_of_plan c.make_next.result c.args.self.now c.make_next.new.self c.make_next.ensures.made c.make_next.ensures.unchanged

pub returns-clause-course : goal.returns-clause-course
returns-clause-course c = make_done c.make_next.result c.args.self.now c.make_next.new.self c.make_next.ensures.made
