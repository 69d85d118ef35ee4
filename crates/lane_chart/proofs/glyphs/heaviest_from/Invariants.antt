use Rattle.std.proofs.Common.{◌≡◌, drop, map}
use Rattle.lane_chart.specs.ChartView.{mark_shown}
use Rattle.lane_chart.specs.Heaviest.{heaviest, in_column}
use Rattle.lane_chart.proofs.glyphs.heaviest_from.Given as goal

abbrev pub invariant-loop-mark : goal.invariant-loop-mark
invariant-loop-mark l = heaviest (mark_shown l.held) (in_column l.column (map mark_shown (drop l.mark-index l.marks))) ≡ heaviest (mark_shown l.first) (in_column l.column (map mark_shown l.marks))
