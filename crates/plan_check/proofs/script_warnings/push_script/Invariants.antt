use Rattle.std.proofs.Common.{◌≡◌, ◌++◌, length}
use Rattle.plan_check.specs.Warnings.{script_warnings}
use Rattle.plan_check.proofs.script_warnings.push_script.Given as goal

abbrev pub invariant-loop-first : goal.invariant-loop-first
invariant-loop-first l = l.found.items ++ script_warnings l.rest ≡ l.initial.found.items ++ script_warnings l.orders

abbrev pub decreases-loop-first : goal.decreases-loop-first
decreases-loop-first l = length l.rest
