use Rattle.std.proofs.Common.{[], subst}
use Rattle.trio_machine.specs.Messages.{Makes, NoMoreRows}
use Rattle.trio_nodes.specs.Ingress.{IsMadeIn}
use Rattle.trio_core.specs.declared.member.Member.TheVariants as member
use Rattle.trio_core.specs.declared.task.TrioTask.TheVariants as task
use Rattle.trio_core.proofs.Acting.{did, refuses}
use Rattle.trio_core.proofs.acts.ingress_makes.Goals as goal

pub returns-in-Did-clause-acts : goal.returns-in-Did-clause-acts
returns-in-Did-clause-acts c =
    let v = c.args.node.now in
    did task.Make Makes (member.Ingress v) (member.Ingress c.make.new.self) [] (λ plan inputs x a e. e)
    (λ plan inputs is. subst (λ m. IsMadeIn plan inputs v c.make.new.self m) c.in-Did.is (c.in_ok-make.ensures.step plan inputs is))

pub returns-in-Idle-clause-refused : goal.returns-in-Idle-clause-refused
returns-in-Idle-clause-refused c =
    let v = c.args.node.now in
    refuses task.Make Makes (member.Ingress v) NoMoreRows (λ plan inputs x a e. e)
    (λ plan inputs is. subst (λ m. IsMadeIn plan inputs v c.make.new.self m) c.in-Idle.is (c.in_ok-make.ensures.step plan inputs is))
