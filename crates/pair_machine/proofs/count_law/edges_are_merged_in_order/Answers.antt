use Rattle.pair_machine.proofs.CountLaws.{in_their_order}
use Rattle.pair_machine.proofs.count_law.edges_are_merged_in_order.Goals as goal

pub returns : goal.returns
returns c = in_their_order
