use Rattle.std.proofs.Common.{◌≡◌, map, take}
use Rattle.run_timeline.specs.Cells.{cell_at}
use Rattle.run_timeline.proofs.cells.replica_cells.Given as goal

abbrev pub invariant-loop-frame : goal.invariant-loop-frame
invariant-loop-frame l = l.cells.items ≡ map (cell_at l.place) (take l.frame-index l.frames)
