use Rattle.std.proofs.Common.{◌≡◌, ◌≤◌, ◌++◌, drop, map}
use Rattle.lane_chart.specs.ChartView.{mark_shown}
use Rattle.lane_chart.specs.SvgText.{badges}
use Rattle.lane_chart.proofs.badges.push_badges.Given as goal

abbrev pub invariant-loop-place : goal.invariant-loop-place
invariant-loop-place l = (l.free ≤ 1085) × (l.out.items ++ badges l.layout l.columns l.free (map mark_shown (drop l.place l.marks)) ≡ l.initial.out.items ++ badges l.layout l.columns 0 (map mark_shown l.marks))
