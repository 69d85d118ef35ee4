use Rattle.std.proofs.Common.{◌≡◌, ◌+◌, drop}
use Rattle.plan_check.specs.Order.{first_dealing}
use Rattle.plan_check.proofs.order.first_dealing.Given as goal

abbrev pub invariant-loop-place : goal.invariant-loop-place
invariant-loop-place l = first_dealing l.key (l.place + 1) (drop l.place l.stages) ≡ first_dealing l.key (l.from + 1) (drop l.from l.stages)
