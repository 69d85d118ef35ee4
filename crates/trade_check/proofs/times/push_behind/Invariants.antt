use Rattle.std.proofs.Common.{◌≡◌, ◌+◌, ◌++◌, drop}
use Rattle.trade_check.specs.Times.{falls_behind}
use Rattle.trade_check.proofs.times.push_behind.Given as goal

abbrev pub invariant-loop-place : goal.invariant-loop-place
invariant-loop-place l = l.found.items ++ falls_behind (l.place + 3) l.time (drop l.place l.rows) ≡ l.initial.found.items ++ falls_behind 3 l.first l.rows
