use Rattle.std.proofs.Common.{◌≤◌, ◌<◌}
use Rattle.trio_core.specs.Sent.{Counted}
use Rattle.trio_core.proofs.taking.taken_from.Given as goal

abbrev pub invariant-loop-nth : goal.invariant-loop-nth
invariant-loop-nth l = record { counted : Counted l.fn.to l.fn.log.packets l.nth l.sent; below : 1 ≤ l.fn.index → l.sent < l.fn.index }
