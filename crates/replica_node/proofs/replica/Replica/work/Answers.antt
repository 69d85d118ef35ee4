use Rattle.std.specs.Prelude.{IfOk}
use Rattle.pair_machine.specs.Receivers.{appended}
use Rattle.replica_node.specs.Rules.{IsWorkOf}
use Rattle.replica_node.proofs.Merging.{merges_come}
use Rattle.replica_node.proofs.WorkCourse.{waits_for_none, work_done, work_few, work_linked}
use Rattle.replica_node.proofs.replica.Replica.work.Goals as goal

-- what it did, as it waits for no mark to rise
done : (c : goal.After-do_first) → IfOk c.do_first.result (IsWorkOf c.args.self.now c.do_first.new.self (appended c.args.out.now.packets c.do_first.new.out.packets))
done c = waits_for_none c.do_first.result (IsWorkOf c.args.self.now c.do_first.new.self (appended c.args.out.now.packets c.do_first.new.out.packets)) c.do_first.ensures.worked

pub returns-clause-worked : goal.returns-clause-worked
returns-clause-worked c = done c

pub returns-clause-few : goal.returns-clause-few
returns-clause-few c = work_few c.do_first.result c.args.self.now c.do_first.new.self c.args.out.now.packets c.do_first.new.out.packets (done c) c.do_first.ensures.unchanged c.do_first.ensures.packets

pub returns-clause-linked : goal.returns-clause-linked
returns-clause-linked c =
    work_linked c.do_first.result c.args.self.now c.do_first.new.self c.args.out.now.packets c.do_first.new.out.packets c.do_first.ensures.sound (done c) c.do_first.ensures.unchanged

pub returns-clause-course : goal.returns-clause-course
returns-clause-course c =
    work_done c.do_first.result c.args.self.now c.do_first.new.self (appended c.args.out.now.packets c.do_first.new.out.packets)
    (λ plan rows is_plan of_plan r x running. merges_come plan rows c.args.self.now.role is_plan of_plan r x running)
    c.do_first.ensures.sound (done c)
