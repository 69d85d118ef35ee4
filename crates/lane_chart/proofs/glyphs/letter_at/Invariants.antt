use Rattle.std.proofs.Common.{◌≡◌, drop, map}
use Rattle.lane_chart.specs.ChartView.{mark_shown}
use Rattle.lane_chart.specs.Text.{letter_at}
use Rattle.lane_chart.proofs.glyphs.letter_at.Given as goal

abbrev pub invariant-loop-place : goal.invariant-loop-place
invariant-loop-place l = letter_at (map mark_shown (drop l.place l.marks)) l.column l.cell ≡ letter_at (map mark_shown l.marks) l.column l.cell
