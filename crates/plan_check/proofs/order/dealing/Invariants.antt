use Rattle.std.proofs.Common.{◌≡◌, ◌+◌, drop}
use Rattle.plan_check.specs.Order.{dealing}
use Rattle.plan_check.proofs.order.dealing.Given as goal

abbrev pub invariant-loop-place : goal.invariant-loop-place
invariant-loop-place l = dealing l.key (l.place + 1) (drop l.place l.stages) ≡ dealing l.key 1 l.stages
