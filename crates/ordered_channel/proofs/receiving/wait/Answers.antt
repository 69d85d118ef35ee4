use Rattle.ordered_channel.proofs.Rules.{gets}
use Rattle.ordered_channel.proofs.receiving.wait.Goals as goal

pub recv_as-requires-clause-rule : goal.recv_as-requires-clause-rule
recv_as-requires-clause-rule g c = (gets _ _ c.requires.role, λ items views h at. tt)
