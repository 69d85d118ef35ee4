use Rattle.ingress_egress.specs.IngressView.{working}
use Rattle.plan_nodes.proofs.Pieces.{ingress_has_worked}
use Rattle.plan_nodes.proofs.Refusing.{ingress_none_due}
use Rattle.plan_nodes.proofs.working.ingress_works.Goals as goal

pub returns-clause-worked : goal.returns-clause-worked
returns-clause-worked c = let e = c.work.ensures in ingress_has_worked c.args.node.now c.work.new.self c.work.result c.args.out.now c.work.new.out e.after e.packets e.one e.idle e.unchanged e.linked e.of_plan e.course

pub returns-clause-idle : goal.returns-clause-idle
returns-clause-idle c = ingress_none_due c.args.node.now c.work.new.self c.work.result (working c.args.node.now).sent c.work.ensures.course
