use Rattle.ordered_channel.proofs.Rules.{gets, totals}
use Rattle.ordered_channel.proofs.settling.Settled.next.Goals as goal

pub try_recv_as-requires-clause-rule : goal.try_recv_as-requires-clause-rule
try_recv_as-requires-clause-rule g c = (gets _ _ c.loop.self.gets, totals _ _ c.loop.self.sends c.loop.self.gets)
