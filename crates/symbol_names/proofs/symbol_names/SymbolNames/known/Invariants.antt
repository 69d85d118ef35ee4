use Rattle.std.proofs.Common.{◌≤◌, ◌-◌, length, take}
use Rattle.std.specs.List.{All}
use Rattle.symbol_names.specs.Names.{IsKnown, names_of}
use Rattle.symbol_names.proofs.symbol_names.SymbolNames.known.Given as goal

abbrev pub invariant-loop-count : goal.invariant-loop-count
invariant-loop-count l = (l.count ≤ length l.rows) × All (IsKnown (names_of l.self)) (take l.count l.rows)

abbrev pub decreases-loop-count : goal.decreases-loop-count
decreases-loop-count l = length l.rows - l.count
