use Rattle.pair_machine.proofs.MachineLaws.{plan_opens_sound}
use Rattle.pair_machine.proofs.machine_law.the_opening_is_sound.Goals as goal

pub returns : goal.returns
returns c = plan_opens_sound
