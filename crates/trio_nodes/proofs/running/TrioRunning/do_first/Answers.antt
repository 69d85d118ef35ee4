use Rattle.std.proofs.Common.{◌∙◌, ap, sym}
use Rattle.merge_order.specs.MergeView.{item_of}
use Rattle.trio_nodes.proofs.ReplicaKept.{timely_next}
use Rattle.trio_nodes.proofs.running.TrioRunning.do_first.Goals as goal

pub merge-requires-clause-timely : goal.merge-requires-clause-timely
merge-requires-clause-timely c = timely_next c.args.role.now c.in-Some.head.item c.args.self.now c.requires.running (ap item_of (sym c.least.ensures.value ∙ c.in-Some.is))
