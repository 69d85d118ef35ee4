use Rattle.trio_drain.proofs.Ending.{endings_are_exact}
use Rattle.trio_drain.proofs.law.endings_are_exact.Goals as goal

pub returns : goal.returns
returns c = endings_are_exact
