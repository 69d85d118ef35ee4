use Rattle.pair_machine.proofs.SmallKept.{numbers_small}
use Rattle.pair_machine.proofs.machine_law.numbers_stay_small.Goals as goal

pub returns : goal.returns
returns c = numbers_small
