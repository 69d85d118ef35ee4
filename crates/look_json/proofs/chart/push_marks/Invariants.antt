use Rattle.std.proofs.Common.{◌≡◌, ◌++◌, drop, map}
use Rattle.std.specs.List.{flat_map}
use Rattle.lane_chart.specs.ChartView.{mark_shown}
use Rattle.look_json.specs.ChartJson.{mark_line}
use Rattle.look_json.proofs.chart.push_marks.Given as goal

abbrev pub invariant-loop-mark : goal.invariant-loop-mark
invariant-loop-mark l = l.text.items ++ flat_map (mark_line l.lane) (map mark_shown (drop l.mark-index l.marks)) ≡ l.initial.text.items ++ flat_map (mark_line l.lane) (map mark_shown l.marks)
