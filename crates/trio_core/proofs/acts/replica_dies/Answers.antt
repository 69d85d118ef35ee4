use Rattle.std.proofs.Common.{subst, sym}
use Rattle.trio_machine.specs.Messages.{Dies}
use Rattle.trio_nodes.specs.ReplicaView.{down_sent}
use Rattle.trio_core.specs.Acts.{ActsSo}
use Rattle.trio_core.specs.declared.member.Member.TheVariants as member
use Rattle.trio_core.specs.declared.task.TrioTask.TheVariants as task
use Rattle.trio_core.proofs.Acting.{appended_is, did}
use Rattle.trio_core.proofs.acts.replica_dies.Goals as goal

pub returns-clause-acts : goal.returns-clause-acts
returns-clause-acts c =
    let v = c.args.node.now in
    let sent = down_sent v.role in
    subst (λ s. ActsSo task.Kill (member.Replica v) (member.Replica c.kill.new.self) s) (sym (appended_is c.args.out.now.packets c.kill.new.out.packets sent c.kill.ensures.packets))
    (did task.Kill Dies (member.Replica v) (member.Replica c.kill.new.self) sent (λ plan inputs x a e. e) (λ plan inputs is. c.kill.ensures.step plan inputs))
