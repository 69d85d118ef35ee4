use Rattle.pair_machine.proofs.EdgeLaws.{times_stay}
use Rattle.pair_machine.proofs.law.times_stay.Goals as goal

pub returns : goal.returns
returns c = times_stay
