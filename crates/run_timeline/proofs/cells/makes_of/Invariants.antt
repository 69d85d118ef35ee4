use Rattle.std.proofs.Common.{◌≡◌, map, take}
use Rattle.run_timeline.proofs.cells.makes_of.Given as goal

abbrev pub invariant-loop-frame : goal.invariant-loop-frame
invariant-loop-frame l = l.makes.items ≡ map (λ f. f.made) (take l.frame-index l.frames)
