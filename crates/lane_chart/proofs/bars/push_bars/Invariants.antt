use Rattle.std.proofs.Common.{◌≡◌, ◌++◌, take}
use Rattle.std.specs.List.{flat_map}
use Rattle.lane_chart.specs.SvgText.{bar}
use Rattle.lane_chart.proofs.bars.push_bars.Given as goal

abbrev pub invariant-loop-run : goal.invariant-loop-run
invariant-loop-run l = l.out.items ≡ l.initial.out.items ++ flat_map (bar l.layout l.columns) (take l.run-index l.run-items)
