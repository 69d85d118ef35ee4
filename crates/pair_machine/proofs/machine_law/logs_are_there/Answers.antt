use Rattle.pair_machine.proofs.Logs.{logs_there}
use Rattle.pair_machine.proofs.machine_law.logs_are_there.Goals as goal

pub returns : goal.returns
returns c = logs_there
