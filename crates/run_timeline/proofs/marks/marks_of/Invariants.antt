use Rattle.std.proofs.Common.{◌≡◌, map, take}
use Rattle.std.specs.List.{flat_map}
use Rattle.lane_chart.specs.ChartView.{mark_shown}
use Rattle.run_timeline.specs.Marks.{mark_in}
use Rattle.run_timeline.proofs.marks.marks_of.Given as goal

abbrev pub invariant-loop-happened : goal.invariant-loop-happened
invariant-loop-happened l = map mark_shown l.marks.items ≡ flat_map (mark_in l.frames l.node) (take l.happened-index l.told)
