use Rattle.ordered_channel.proofs.Rules.{gets}
use Rattle.ordered_channel.proofs.receiving.look.Goals as goal

pub try_recv_as-requires-clause-rule : goal.try_recv_as-requires-clause-rule
try_recv_as-requires-clause-rule g c = (gets _ _ c.requires.role, λ items views h at. tt)
