use Rattle.pair_machine.proofs.DrainWhole.{keep_owed}
use Rattle.pair_machine.proofs.drain_law.drain_events_keep_owed.Goals as goal

pub returns : goal.returns
returns c = keep_owed
