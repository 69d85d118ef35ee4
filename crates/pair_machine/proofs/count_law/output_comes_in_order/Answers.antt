use Rattle.pair_machine.proofs.CountLaws.{in_order}
use Rattle.pair_machine.proofs.count_law.output_comes_in_order.Goals as goal

pub returns : goal.returns
returns c = in_order
