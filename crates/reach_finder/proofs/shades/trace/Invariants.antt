use Rattle.std.proofs.Common.{◌≡◌, ◌++◌, drop}
use Rattle.reach_finder.specs.Shades.{traced_by}
use Rattle.reach_finder.proofs.shades.trace.Given as goal

abbrev pub invariant-loop-nth : goal.invariant-loop-nth
invariant-loop-nth l = l.out.items ++ traced_by l.op l.spoke (drop l.nth l.rows) (drop l.nth l.shades) ≡ l.initial.out.items ++ traced_by l.op l.spoke l.rows l.shades
