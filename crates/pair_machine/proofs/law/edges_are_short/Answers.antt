use Rattle.pair_machine.proofs.EdgeLaws.{are_short}
use Rattle.pair_machine.proofs.law.edges_are_short.Goals as goal

pub returns : goal.returns
returns c = are_short
