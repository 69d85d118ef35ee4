use Rattle.std.proofs.Common.{◌≡◌, ◌++◌, ◌≤◌, drop}
use Rattle.std.specs.List.{range_with_len}
use Rattle.catch_up.specs.Rebuild.{lows_in}
use Rattle.catch_up.proofs.rebuild.tell_lows.Given as goal

abbrev pub invariant-loop-entry : goal.invariant-loop-entry
invariant-loop-entry l = record {
  rest : range_with_len 0 l.told ++ lows_in (drop l.entry-index l.entries) ≡ lows_in l.entries;
  few : l.told ≤ l.entry-index;
}
