use Rattle.std.proofs.Common.{◌≡◌, map, take}
use Rattle.run_timeline.proofs.cells.rows_of.Given as goal

abbrev pub invariant-loop-frame : goal.invariant-loop-frame
invariant-loop-frame l = l.rows.items ≡ map (λ f. f.emitted) (take l.frame-index l.frames)
