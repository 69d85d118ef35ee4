use Rattle.merge_order.proofs.Counts.{all_are_used}
use Rattle.merge_order.proofs.law.all_are_used.Goals as goal

pub returns : goal.returns
returns c = all_are_used
