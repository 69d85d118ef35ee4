use Rattle.std.proofs.Common.{◌≡◌, ◌++◌, map, take, drop}
use Rattle.merge_order.specs.MergeView.{without}
use Rattle.merge_order.proofs.queues.Queues.pop_signs.Given as goal

abbrev pub invariant-loop-edge : goal.invariant-loop-edge
invariant-loop-edge l = l.self ≡ map (without l.sign) (take l.edge l.initial.self) ++ drop l.edge l.initial.self
