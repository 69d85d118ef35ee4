use Rattle.trio_machine.proofs.DrainWhole.{drain_whole}
use Rattle.trio_machine.proofs.drain_law.drain_is_whole.Goals as goal

pub returns : goal.returns
returns c = drain_whole
