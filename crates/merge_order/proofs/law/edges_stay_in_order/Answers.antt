use Rattle.merge_order.proofs.Counts.{stay_in_order}
use Rattle.merge_order.proofs.law.edges_stay_in_order.Goals as goal

pub returns : goal.returns
returns c = stay_in_order
