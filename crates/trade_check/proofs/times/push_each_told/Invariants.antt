use Rattle.std.proofs.Common.{◌≡◌, ◌++◌, take}
use Rattle.std.specs.Prelude.{filter}
use Rattle.trade_check.specs.Times.{is_told}
use Rattle.trade_check.proofs.times.push_each_told.Given as goal

abbrev pub invariant-loop-fall : goal.invariant-loop-fall
invariant-loop-fall l = l.told.items ≡ l.initial.told.items ++ filter (is_told l.plan) (take l.fall-index l.found)
