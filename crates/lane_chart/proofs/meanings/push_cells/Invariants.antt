use Rattle.std.proofs.Common.{◌≡◌, ◌++◌, map, drop}
use Rattle.lane_chart.specs.ChartView.{cell_key_shown}
use Rattle.lane_chart.specs.Places.{placed}
use Rattle.lane_chart.specs.SvgText.{cell_drawn}
use Rattle.lane_chart.proofs.meanings.push_cells.Given as goal

abbrev pub invariant-loop-place : goal.invariant-loop-place
invariant-loop-place l = l.out.items ++ placed cell_drawn l.place (map cell_key_shown (drop l.place l.cells)) ≡ l.initial.out.items ++ placed cell_drawn 0 (map cell_key_shown l.cells)
