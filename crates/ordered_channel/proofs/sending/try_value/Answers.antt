use Rattle.crossbeam_channel.specs.Claims.{view}
use Rattle.ordered_channel.proofs.Rules.{fits, sends}
use Rattle.ordered_channel.proofs.sending.try_value.Goals as goal

pub try_send_as-requires-clause-rule : goal.try_send_as-requires-clause-rule
try_send_as-requires-clause-rule g c =
    (sends _ _ _ _ c.requires.role (fits (view c.args.pass.now).sent c.args.number c.args.value c.requires.number c.ranges.number.fits), λ items views h at. tt)
