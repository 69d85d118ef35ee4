use Rattle.std.proofs.Common.{◌≡◌, ◌++◌, drop}
use Rattle.lane_chart.specs.Places.{placed}
use Rattle.look_json.specs.ChartJson.{step_line}
use Rattle.look_json.proofs.chart.push_steps.Given as goal

abbrev pub invariant-loop-column : goal.invariant-loop-column
invariant-loop-column l = l.text.items ++ placed (step_line l.counted) l.column (drop l.column l.steps) ≡ l.initial.text.items ++ placed (step_line l.counted) 0 l.steps
