use Rattle.std.proofs.Common.{◌∙◌, ap}
use Rattle.merge_order.specs.MergeView.{MergeView, least}
use Rattle.merge_order.proofs.LeastStamp.{least_waits}
use Rattle.merge_order.proofs.merge.Merge.take_head.Goals as goal

pub pop-requires-clause-there : goal.pop-requires-clause-there
pop-requires-clause-there c = (least_waits c.self.inside.waiting c.args.head.now (ap (λ (v : MergeView). least v.waiting) c.self.view_is ∙ c.requires.next)).0

pub pop-requires-clause-waits : goal.pop-requires-clause-waits
pop-requires-clause-waits c = (least_waits c.self.inside.waiting c.args.head.now (ap (λ (v : MergeView). least v.waiting) c.self.view_is ∙ c.requires.next)).1
