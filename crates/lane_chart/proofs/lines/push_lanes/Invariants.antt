use Rattle.std.proofs.Common.{◌≡◌, ◌++◌, map, take}
use Rattle.std.specs.Prelude.{string_bytes}
use Rattle.std.specs.List.{flat_map}
use Rattle.lane_chart.specs.ChartView.{lane_shown}
use Rattle.lane_chart.specs.Text.{lane_line}
use Rattle.lane_chart.proofs.lines.push_lanes.Given as goal

abbrev pub invariant-loop-lane : goal.invariant-loop-lane
invariant-loop-lane l = string_bytes l.text ≡ string_bytes l.initial.text ++ flat_map lane_line (map lane_shown (take l.lane-index l.lanes))
