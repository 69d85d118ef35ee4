use Rattle.pair_machine.proofs.MachineLaws.{plan_safe}
use Rattle.pair_machine.proofs.machine_law.no_pair_is_lost.Goals as goal

pub returns : goal.returns
returns c = plan_safe
