use Rattle.std.proofs.Common.{◌≡◌, ◌++◌, map, drop}
use Rattle.lane_chart.specs.ChartView.{lane_shown}
use Rattle.lane_chart.specs.Places.{placed}
use Rattle.lane_chart.specs.SvgText.{lane_drawn}
use Rattle.lane_chart.proofs.lanes.push_lanes_drawn.Given as goal

abbrev pub invariant-loop-place : goal.invariant-loop-place
invariant-loop-place l = l.out.items ++ placed (lane_drawn l.layout l.columns) l.place (map lane_shown (drop l.place l.lanes)) ≡ l.initial.out.items ++ placed (lane_drawn l.layout l.columns) 0 (map lane_shown l.lanes)
