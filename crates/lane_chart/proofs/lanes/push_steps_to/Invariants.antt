use Rattle.std.proofs.Common.{◌≡◌, ◌++◌, length, drop}
use Rattle.lane_chart.specs.Places.{placed}
use Rattle.lane_chart.specs.SvgText.{step_drawn}
use Rattle.lane_chart.proofs.lanes.push_steps_to.Given as goal

abbrev pub invariant-loop-column : goal.invariant-loop-column
invariant-loop-column l = l.out.items ++ placed (step_drawn (length l.steps) l.all) l.column (drop l.column l.steps) ≡ l.initial.out.items ++ placed (step_drawn (length l.steps) l.all) 0 l.steps
