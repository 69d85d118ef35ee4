use Rattle.trio_machine.proofs.SmallKept.{numbers_fit}
use Rattle.trio_machine.proofs.small_law.numbers_fit.Goals as goal

pub returns : goal.returns
returns c = numbers_fit
