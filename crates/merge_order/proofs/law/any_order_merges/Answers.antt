use Rattle.merge_order.proofs.RunLaw.{any_order}
use Rattle.merge_order.proofs.law.any_order_merges.Goals as goal

pub returns : goal.returns
returns c = any_order
