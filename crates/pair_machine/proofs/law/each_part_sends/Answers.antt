use Rattle.pair_machine.proofs.EdgeLaws.{each_part_sends}
use Rattle.pair_machine.proofs.law.each_part_sends.Goals as goal

pub returns : goal.returns
returns c = each_part_sends
