use Rattle.pair_machine.proofs.EdgeLaws.{marks_are_shared}
use Rattle.pair_machine.proofs.law.marks_are_shared.Goals as goal

pub returns : goal.returns
returns c = marks_are_shared
