use Rattle.std.proofs.Common.{subst}
use Rattle.plan_reader.specs.PlanView.{IsPlan}
use Rattle.pair_machine.specs.Machine.{opening}
use Rattle.pair_machine.proofs.MachineLaws.{plan_opens_sound}
use Rattle.flux_core.specs.CoreView.{inputs_of}
use Rattle.rehearse_command.proofs.Wants.{wants}
use Rattle.rehearse_command.proofs.watching.watched.Goals as goal

pub want_of-requires : goal.want_of-requires
want_of-requires c =
    wants c.args.core.now c.watch.new.core c.args.lines.now c.in-Err.error (subst IsPlan c.watch.ensures.plan c.watch.ensures.core.plan) c.requires.opens c.requires.legal c.in-Err.ensures.stopped

pub returns-in-Ok-clause-told : goal.returns-in-Ok-clause-told
returns-in-Ok-clause-told c =
    c.in-Ok.ensures.told opening c.requires.opens (plan_opens_sound c.args.core.now.plan (inputs_of c.args.core.now) (subst IsPlan c.watch.ensures.plan c.watch.ensures.core.plan))

pub returns-in-Ok-clause-frames : goal.returns-in-Ok-clause-frames
returns-in-Ok-clause-frames c =
    c.in-Ok.ensures.frames opening c.requires.opens (plan_opens_sound c.args.core.now.plan (inputs_of c.args.core.now) (subst IsPlan c.watch.ensures.plan c.watch.ensures.core.plan))
