use Rattle.pair_machine.proofs.DrainAfter.{safe_runs_drained}
use Rattle.pair_machine.proofs.drain_law.safe_runs_are_drained.Goals as goal

pub returns : goal.returns
returns c = safe_runs_drained
