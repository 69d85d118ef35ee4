use Rattle.std.proofs.Common.{◌≡◌, ◌++◌, drop, map}
use Rattle.std.specs.List.{flat_map}
use Rattle.lane_chart.specs.ChartView.{lane_shown}
use Rattle.look_json.specs.ChartJson.{lane_lines}
use Rattle.look_json.proofs.chart.push_lanes.Given as goal

abbrev pub invariant-loop-lane : goal.invariant-loop-lane
invariant-loop-lane l = l.text.items ++ flat_map lane_lines (map lane_shown (drop l.lane-index l.lanes)) ≡ l.initial.text.items ++ flat_map lane_lines (map lane_shown l.lanes)
