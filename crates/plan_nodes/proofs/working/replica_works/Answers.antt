use Rattle.pair_machine.specs.Receivers.{appended}
use Rattle.plan_nodes.proofs.Pieces.{replica_has_worked}
use Rattle.plan_nodes.proofs.Refusing.{replica_none_due}
use Rattle.plan_nodes.proofs.working.replica_works.Goals as goal

pub returns-clause-worked : goal.returns-clause-worked
returns-clause-worked c = let e = c.work_or_wait.ensures in replica_has_worked c.args.node.now c.work_or_wait.new.self c.args.rise c.work_or_wait.result c.args.out.now c.work_or_wait.new.out e.packets e.as_many e.idle e.unchanged e.few e.linked e.role e.course

pub returns-clause-idle : goal.returns-clause-idle
returns-clause-idle c = replica_none_due c.args.node.now c.work_or_wait.new.self c.work_or_wait.result c.args.rise (appended c.args.out.now.packets c.work_or_wait.new.out.packets) c.work_or_wait.ensures.course
