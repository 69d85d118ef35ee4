use Rattle.std.proofs.Common.{subst}
use Rattle.trio_machine.specs.Messages.{NothingDue, Works}
use Rattle.trio_nodes.specs.Contents.{appended}
use Rattle.trio_nodes.specs.Replica.{IsWorked}
use Rattle.trio_core.specs.declared.member.Member.TheVariants as member
use Rattle.trio_core.specs.declared.task.TrioTask.TheVariants as task
use Rattle.trio_core.proofs.Acting.{did, refuses}
use Rattle.trio_core.proofs.acts.replica_works.Goals as goal

pub returns-in-Did-clause-acts : goal.returns-in-Did-clause-acts
returns-in-Did-clause-acts c =
    let v = c.args.node.now in
    let sent = appended c.args.out.now.packets c.work.new.out.packets in
    did task.Work Works (member.Replica v) (member.Replica c.work.new.self) sent (λ plan inputs x a e. e)
    (λ plan inputs is. subst (λ w. IsWorked plan inputs v c.work.new.self sent w) c.in-Did.is (c.in_ok-work.ensures.step plan inputs is.within))

pub returns-in-Idle-clause-refused : goal.returns-in-Idle-clause-refused
returns-in-Idle-clause-refused c =
    let v = c.args.node.now in
    refuses task.Work Works (member.Replica v) NothingDue (λ plan inputs x a e. e)
    (λ plan inputs is. subst (λ w. IsWorked plan inputs v c.work.new.self (appended c.args.out.now.packets c.work.new.out.packets) w) c.in-Idle.is (c.in_ok-work.ensures.step plan inputs is.within))
