use Rattle.ordered_channel.proofs.Rules.{merges}
use Rattle.ordered_channel.proofs.ends.Sender.settle.Goals as goal

pub absorb-requires-clause-rule : goal.absorb-requires-clause-rule
absorb-requires-clause-rule g c = merges _ _ _ _ c.args.self.role c.args.receiver.role
