use Rattle.std.proofs.Common.{◌<◌, ◌+◌, arith, subst, sym}
use Rattle.tuple_edge.specs.Limits.{number_limit}
use Rattle.trio_nodes.specs.ControllerPackets.{packets_of, taking}
use Rattle.trio_core.specs.Acts.{ActsSo}
use Rattle.trio_core.specs.declared.member.Member.TheVariants as member
use Rattle.trio_core.specs.declared.task.TrioTask.TheVariants as task
use Rattle.trio_core.proofs.Acting.{appended_is, took}
use Rattle.trio_core.proofs.Asking as asking
use Rattle.trio_core.proofs.acts.control_takes.Goals as goal

pub on-requires-clause-admitted : goal.on-requires-clause-admitted
on-requires-clause-admitted c =
    let rises : c.args.node.now.term + 1 < number_limit = omega (arith, c.if-term.false, c.term.ensures) in
    asking.control_takes c.args.node.now c.args.from c.args.body.now c.requires.asked rises

pub returns-clause-acts : goal.returns-clause-acts
returns-clause-acts c =
    let v = c.args.node.now in
    let sent = packets_of (taking v c.args.from c.args.body.now).1 in
    subst (λ s. ActsSo (task.Take c.args.from c.args.body.now) (member.Control v) (member.Control c.on.new.self) s)
    (sym (appended_is c.args.out.now.packets c.on.new.out.packets sent c.on.ensures.packets))
    (took (member.Control v) (member.Control c.on.new.self) c.args.from c.args.body.now sent (λ plan inputs is. c.on.ensures.step plan inputs))
