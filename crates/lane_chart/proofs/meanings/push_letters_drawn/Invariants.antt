use Rattle.std.proofs.Common.{◌≡◌, ◌++◌, map, drop}
use Rattle.lane_chart.specs.ChartView.{letter_key_shown}
use Rattle.lane_chart.specs.Places.{placed}
use Rattle.lane_chart.specs.SvgText.{letter_drawn}
use Rattle.lane_chart.proofs.meanings.push_letters_drawn.Given as goal

abbrev pub invariant-loop-place : goal.invariant-loop-place
invariant-loop-place l = l.out.items ++ placed letter_drawn l.place (map letter_key_shown (drop l.place l.letters)) ≡ l.initial.out.items ++ placed letter_drawn 0 (map letter_key_shown l.letters)
