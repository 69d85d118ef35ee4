use Rattle.std.proofs.Common.{◌∙◌, ap, ℕ}
use Rattle.std.specs.Prelude.{◌==◌}
use Rattle.merge_order.specs.MergeView.{all_wait}
use Rattle.merge_order.proofs.HeadStamps.{none_empty}
use Rattle.merge_order.proofs.queues.Queues.all_wait.Goals as goal

pub returns : goal.returns
returns c = ap (λ (n : ℕ). n == 0) c.self.invariant.1 ∙ (none_empty c.self.inside.queues.items ∙ ap all_wait c.self.view_is)
