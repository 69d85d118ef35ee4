use Rattle.std.proofs.Common.{◌≡◌, ◌++◌, take}
use Rattle.std.specs.List.{flat_map}
use Rattle.lane_chart.specs.SvgText.{tick_drawn}
use Rattle.lane_chart.proofs.lanes.push_ticks.Given as goal

abbrev pub invariant-loop-tick : goal.invariant-loop-tick
invariant-loop-tick l = l.out.items ≡ l.initial.out.items ++ flat_map (tick_drawn l.columns l.bottom) (take l.tick-index l.ticks)
