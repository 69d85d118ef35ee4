use Rattle.std.proofs.Common.{◌<◌, ◌^◌, length, sym, subst}
use Rattle.std.proofs.lemmas.List.{append-nil}
use Rattle.crossbeam_channel.specs.Claims.{view}
use Rattle.ordered_channel.proofs.Rules.{sends}
use Rattle.ordered_channel.proofs.sending.send_stop.Goals as goal

pub try_send_as-requires-clause-rule : goal.try_send_as-requires-clause-rule
try_send_as-requires-clause-rule g c =
    (sends _ _ _ _ c.requires.role (subst (λ l. length l < 2 ^ 64) (sym (append-nil (view c.args.pass.now).sent)) c.requires.few), λ items views h at. tt)
