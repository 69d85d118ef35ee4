use Rattle.std.proofs.Common.{◌≡◌, ◌++◌, take}
use Rattle.std.specs.Prelude.{flat_map}
use Rattle.plan_check.specs.Warnings.{two_warnings}
use Rattle.plan_check.proofs.script_warnings.push_beside.Given as goal

abbrev pub invariant-loop-second : goal.invariant-loop-second
invariant-loop-second l = l.found.items ≡ l.initial.found.items ++ flat_map (two_warnings l.first) (take l.second-index l.others)
