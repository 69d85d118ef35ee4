use Rattle.std.proofs.Common.{◌≡◌, ◌++◌, map, drop}
use Rattle.std.specs.Prelude.{string_bytes}
use Rattle.lane_chart.specs.ChartView.{letter_key_shown}
use Rattle.lane_chart.specs.Places.{placed}
use Rattle.lane_chart.specs.Text.{letter_meaning}
use Rattle.lane_chart.proofs.keys.push_letter_meanings.Given as goal

abbrev pub invariant-loop-place : goal.invariant-loop-place
invariant-loop-place l = string_bytes l.text ++ placed letter_meaning l.place (map letter_key_shown (drop l.place l.letters)) ≡ string_bytes l.initial.text ++ placed letter_meaning 0 (map letter_key_shown l.letters)
