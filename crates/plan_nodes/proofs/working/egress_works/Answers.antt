use Rattle.ingress_egress.specs.EgressView.{working}
use Rattle.plan_nodes.proofs.Pieces.{egress_has_worked}
use Rattle.plan_nodes.proofs.Refusing.{egress_none_due}
use Rattle.plan_nodes.proofs.working.egress_works.Goals as goal

pub returns-clause-worked : goal.returns-clause-worked
returns-clause-worked c = let e = c.work.ensures in egress_has_worked c.args.node.now c.work.new.self c.work.result c.args.out.now c.work.new.out e.worked e.packets e.idle e.unchanged e.few e.linked e.of_plan e.emitted e.gone e.course

pub returns-clause-idle : goal.returns-clause-idle
returns-clause-idle c = egress_none_due c.args.node.now c.work.new.self c.work.result (working c.args.node.now).sent c.work.ensures.course
