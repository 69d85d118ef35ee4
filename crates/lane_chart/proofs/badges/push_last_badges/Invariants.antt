use Rattle.std.proofs.Common.{◌≡◌, ◌++◌, drop, map}
use Rattle.lane_chart.specs.ChartView.{mark_shown}
use Rattle.lane_chart.specs.SvgText.{last_badges}
use Rattle.lane_chart.proofs.badges.push_last_badges.Given as goal

abbrev pub invariant-loop-mark : goal.invariant-loop-mark
invariant-loop-mark l = l.out.items ++ last_badges l.layout l.columns (mark_shown l.held) (map mark_shown (drop l.mark-index l.marks)) ≡ l.initial.out.items ++ last_badges l.layout l.columns (mark_shown l.first) (map mark_shown l.marks)
