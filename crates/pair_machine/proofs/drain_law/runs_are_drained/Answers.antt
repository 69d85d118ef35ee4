use Rattle.pair_machine.proofs.DrainAfter.{runs_drained}
use Rattle.pair_machine.proofs.drain_law.runs_are_drained.Goals as goal

pub returns : goal.returns
returns c = runs_drained
