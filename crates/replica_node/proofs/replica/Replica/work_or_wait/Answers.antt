use Rattle.std.proofs.Common.{◌≡◌}
use Rattle.std.specs.Prelude.{IfOk}
use Rattle.tuple_edge.specs.declared.event.Worked.TheVariants as worked
use Rattle.pair_machine.specs.Receivers.{appended}
use Rattle.replica_node.specs.Rules.{IsWorkOf}
use Rattle.replica_node.proofs.Merging.{merges_come}
use Rattle.replica_node.proofs.WorkCourse.{waited_done, waited_few, waited_linked, waited_worked}
use Rattle.replica_node.proofs.replica.Replica.work_or_wait.Goals as goal

-- what it did, where it didn't wait
done : (c : goal.After-do_first) → IfOk c.do_first.result (λ w. w ≡ worked.Did → IsWorkOf c.args.self.now c.do_first.new.self (appended c.args.out.now.packets c.do_first.new.out.packets) w)
done c = waited_worked c.do_first.result c.args.rise (IsWorkOf c.args.self.now c.do_first.new.self (appended c.args.out.now.packets c.do_first.new.out.packets)) c.do_first.ensures.worked

pub returns-clause-worked : goal.returns-clause-worked
returns-clause-worked c = done c

pub returns-clause-few : goal.returns-clause-few
returns-clause-few c = waited_few c.do_first.result c.args.self.now c.do_first.new.self c.args.out.now c.do_first.new.out (done c) c.do_first.ensures.idle c.do_first.ensures.unchanged c.do_first.ensures.packets

pub returns-clause-linked : goal.returns-clause-linked
returns-clause-linked c =
    waited_linked c.do_first.result c.args.self.now c.do_first.new.self c.args.out.now c.do_first.new.out c.do_first.ensures.sound (done c) c.do_first.ensures.idle c.do_first.ensures.unchanged

pub returns-clause-course : goal.returns-clause-course
returns-clause-course c =
    waited_done c.do_first.result c.args.rise c.args.self.now c.do_first.new.self (appended c.args.out.now.packets c.do_first.new.out.packets)
    (λ plan rows is_plan of_plan r x running. merges_come plan rows c.args.self.now.role is_plan of_plan r x running)
    c.do_first.ensures.sound c.do_first.ensures.worked
