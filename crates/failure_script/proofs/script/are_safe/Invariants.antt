use Rattle.std.proofs.Common.{◌≡◌, length}
use Rattle.failure_script.specs.Orders.{are_safe}
use Rattle.failure_script.proofs.script.are_safe.Given as goal

abbrev pub invariant-loop-first : goal.invariant-loop-first
invariant-loop-first l = are_safe l.rest ≡ are_safe l.orders

abbrev pub decreases-loop-first : goal.decreases-loop-first
decreases-loop-first l = length l.rest
