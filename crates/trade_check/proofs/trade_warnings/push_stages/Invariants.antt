use Rattle.std.proofs.Common.{◌≡◌, ◌+◌, ◌++◌, drop}
use Rattle.trade_check.specs.Warnings.{few_warnings}
use Rattle.trade_check.proofs.trade_warnings.push_stages.Given as goal

abbrev pub invariant-loop-place : goal.invariant-loop-place
invariant-loop-place l = l.warnings.items ++ few_warnings l.given (l.place + 1) (drop l.place l.stages) ≡ l.initial.warnings.items ++ few_warnings l.given 1 l.stages
