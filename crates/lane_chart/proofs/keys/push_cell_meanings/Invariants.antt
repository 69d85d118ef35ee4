use Rattle.std.proofs.Common.{◌≡◌, ◌++◌, map, drop}
use Rattle.std.specs.Prelude.{string_bytes}
use Rattle.lane_chart.specs.ChartView.{cell_key_shown}
use Rattle.lane_chart.specs.Places.{placed}
use Rattle.lane_chart.specs.Text.{cell_meaning}
use Rattle.lane_chart.proofs.keys.push_cell_meanings.Given as goal

abbrev pub invariant-loop-place : goal.invariant-loop-place
invariant-loop-place l = string_bytes l.text ++ placed cell_meaning l.place (map cell_key_shown (drop l.place l.cells)) ≡ string_bytes l.initial.text ++ placed cell_meaning 0 (map cell_key_shown l.cells)
