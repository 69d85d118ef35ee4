use Rattle.pair_machine.proofs.MachineLaws.{steps_keep_sound}
use Rattle.pair_machine.proofs.machine_law.steps_keep_sound.Goals as goal

pub returns : goal.returns
returns c = steps_keep_sound
