use Rattle.std.proofs.Common.{◌≡◌, length}
use Rattle.std.specs.Prelude.{All}
use Rattle.failure_script.specs.Orders.{IsOrderOf}
use Rattle.failure_script.specs.Script.{orders_after}
use Rattle.failure_script.proofs.read.take_all.Given as goal

abbrev pub invariant-loop-line : goal.invariant-loop-line
invariant-loop-line l = record {
  value : orders_after l.plan l.script l.lines ≡ orders_after l.plan l.initial.script l.initial.lines;
  of_plan : All (IsOrderOf l.plan) l.script;
}

abbrev pub decreases-loop-line : goal.decreases-loop-line
decreases-loop-line l = length l.lines
