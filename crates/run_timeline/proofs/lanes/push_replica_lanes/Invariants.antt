use Rattle.std.proofs.Common.{◌≡◌, ◌++◌, drop, map}
use Rattle.lane_chart.specs.ChartView.{lane_shown}
use Rattle.lane_chart.specs.Places.{placed}
use Rattle.run_timeline.specs.Timeline.{one_lane}
use Rattle.run_timeline.proofs.lanes.push_replica_lanes.Given as goal

abbrev pub invariant-loop-place : goal.invariant-loop-place
invariant-loop-place l = map lane_shown l.lanes.items ++ placed (one_lane l.only l.frames l.told) l.place (drop l.place l.nodes) ≡ map lane_shown l.initial.lanes.items ++ placed (one_lane l.only l.frames l.told) 0 l.nodes
