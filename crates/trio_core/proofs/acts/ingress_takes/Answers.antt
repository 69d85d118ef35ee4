use Rattle.std.proofs.Common.{[]}
use Rattle.trio_core.specs.declared.member.Member.TheVariants as member
use Rattle.trio_core.proofs.Acting.{took}
use Rattle.trio_core.proofs.Asking as asking
use Rattle.trio_core.proofs.acts.ingress_takes.Goals as goal

pub on-requires : goal.on-requires
on-requires c = record { admitted = asking.ingress_takes c.args.node.now c.args.from c.args.body.now c.requires.asked (c.fits.ensures.0 c.if-fits.true) }

pub returns-then-fits-clause-acts : goal.returns-then-fits-clause-acts
returns-then-fits-clause-acts c = took (member.Ingress c.args.node.now) (member.Ingress c.on.new.self) c.args.from c.args.body.now [] (λ plan inputs is. c.on.ensures.step plan inputs)
