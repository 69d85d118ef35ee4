use Rattle.std.proofs.Common.{subst, sym}
use Rattle.trio_machine.specs.Messages.{NothingDue, Works}
use Rattle.trio_nodes.specs.Ingress.{IsWorked}
use Rattle.trio_nodes.specs.IngressView.{working}
use Rattle.trio_core.specs.Acts.{ActsSo}
use Rattle.trio_core.specs.declared.member.Member.TheVariants as member
use Rattle.trio_core.specs.declared.task.TrioTask.TheVariants as task
use Rattle.trio_core.proofs.Acting.{appended_is, did, refuses}
use Rattle.trio_core.proofs.acts.ingress_works.Goals as goal

pub returns-in-Did-clause-acts : goal.returns-in-Did-clause-acts
returns-in-Did-clause-acts c =
    let v = c.args.node.now in
    let sent = (working v).sent in
    subst (λ s. ActsSo task.Work (member.Ingress v) (member.Ingress c.work.new.self) s) (sym (appended_is c.args.out.now.packets c.work.new.out.packets sent c.in_ok-work.ensures.packets))
    (did task.Work Works (member.Ingress v) (member.Ingress c.work.new.self) sent (λ plan inputs x a e. e)
    (λ plan inputs is. subst (λ w. IsWorked plan inputs v c.work.new.self sent w) c.in-Did.is (c.in_ok-work.ensures.step plan inputs is)))

pub returns-in-Idle-clause-refused : goal.returns-in-Idle-clause-refused
returns-in-Idle-clause-refused c =
    let v = c.args.node.now in
    refuses task.Work Works (member.Ingress v) NothingDue (λ plan inputs x a e. e)
    (λ plan inputs is. subst (λ w. IsWorked plan inputs v c.work.new.self (working v).sent w) c.in-Idle.is (c.in_ok-work.ensures.step plan inputs is))
