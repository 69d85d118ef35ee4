use Rattle.std.proofs.Common.{◌≡◌, ◌++◌, drop}
use Rattle.run_timeline.specs.Cells.{rising_cells}
use Rattle.run_timeline.proofs.cells.rising_cells.Given as goal

abbrev pub invariant-loop-count : goal.invariant-loop-count
invariant-loop-count l = l.cells.items ++ rising_cells l.before (drop l.count-index l.counts) ≡ rising_cells 0 l.counts
