use Rattle.std.proofs.Common.{◌≡◌, ◌++◌, map, drop}
use Rattle.std.specs.Prelude.{string_bytes}
use Rattle.lane_chart.specs.ChartView.{mark_shown}
use Rattle.lane_chart.specs.Places.{placed}
use Rattle.lane_chart.specs.Text.{letter_at}
use Rattle.lane_chart.proofs.lines.push_letters.Given as goal

abbrev pub invariant-loop-column : goal.invariant-loop-column
invariant-loop-column l = string_bytes l.text ++ placed (letter_at (map mark_shown l.marks)) l.column (drop l.column l.cells) ≡ string_bytes l.initial.text ++ placed (letter_at (map mark_shown l.marks)) 0 l.cells
