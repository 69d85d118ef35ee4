use Rattle.std.proofs.Common.{◌≡◌, ◌++◌, take}
use Rattle.std.specs.Prelude.{string_bytes}
use Rattle.std.specs.List.{flat_map}
use Rattle.lane_chart.specs.Text.{tick_number}
use Rattle.lane_chart.proofs.lines.push_tick_numbers.Given as goal

abbrev pub invariant-loop-tick : goal.invariant-loop-tick
invariant-loop-tick l = string_bytes l.text ≡ string_bytes l.initial.text ++ flat_map tick_number (take l.tick-index l.ticks)
