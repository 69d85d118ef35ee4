use Rattle.pair_machine.proofs.WithinLogs.{logs_within}
use Rattle.pair_machine.proofs.machine_law.logs_are_within.Goals as goal

pub returns : goal.returns
returns c = logs_within
