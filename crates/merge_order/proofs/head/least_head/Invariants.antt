use Rattle.std.proofs.Common.{◌≡◌, Some, drop}
use Rattle.merge_order.specs.MergeView.{least}
use Rattle.merge_order.proofs.Heads.{head_at, least_from}
use Rattle.merge_order.proofs.head.least_head.Given as goal

abbrev pub invariant-loop-place : goal.invariant-loop-place
invariant-loop-place l = least l.queues ≡ least_from l.place (Some (head_at l.source l.least)) (drop l.place l.queues)
