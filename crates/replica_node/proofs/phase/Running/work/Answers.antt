use Rattle.std.proofs.Common.{◌∙◌, ap, sym}
use Rattle.merge_order.specs.MergeView.{item_of}
use Rattle.replica_node.proofs.Merging.{timely_next}
use Rattle.replica_node.proofs.phase.Running.work.Goals as goal

pub merge-requires-clause-timely : goal.merge-requires-clause-timely
merge-requires-clause-timely c = timely_next c.args.role.now c.in-Some.head.item c.args.self.now c.requires.ready.1 (ap item_of (sym c.least.ensures.value ∙ c.in-Some.is))
