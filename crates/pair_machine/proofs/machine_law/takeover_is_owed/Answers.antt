use Rattle.pair_machine.proofs.MachineLaws.{plan_owed}
use Rattle.pair_machine.proofs.machine_law.takeover_is_owed.Goals as goal

pub returns : goal.returns
returns c = plan_owed
