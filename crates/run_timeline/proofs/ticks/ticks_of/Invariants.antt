use Rattle.std.proofs.Common.{◌≡◌, map}
use Rattle.std.specs.List.{range_with_len}
use Rattle.run_timeline.specs.Ticks.{tick_at}
use Rattle.run_timeline.proofs.ticks.ticks_of.Given as goal

abbrev pub invariant-loop-part : goal.invariant-loop-part
invariant-loop-part l = l.ticks.items ≡ map (tick_at l.frames) (range_with_len 0 l.part)
