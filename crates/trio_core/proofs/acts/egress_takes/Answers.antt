use Rattle.std.proofs.Common.{[]}
use Rattle.trio_core.specs.declared.member.Member.TheVariants as member
use Rattle.trio_core.proofs.Acting.{took}
use Rattle.trio_core.proofs.Asking as asking
use Rattle.trio_core.proofs.acts.egress_takes.Goals as goal

pub on-requires : goal.on-requires
on-requires c = record { admitted = asking.egress_takes c.args.node.now c.args.from c.args.body.now c.requires.asked }

pub returns-clause-acts : goal.returns-clause-acts
returns-clause-acts c = took (member.Egress c.args.node.now) (member.Egress c.on.new.self) c.args.from c.args.body.now [] (λ plan inputs is. c.in_ok-on.ensures.step plan inputs)
