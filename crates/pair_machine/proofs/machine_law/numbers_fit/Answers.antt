use Rattle.pair_machine.proofs.SmallKept.{numbers_fit}
use Rattle.pair_machine.proofs.machine_law.numbers_fit.Goals as goal

pub returns : goal.returns
returns c = numbers_fit
