use Rattle.std.proofs.Common.{◌≡◌}
use Rattle.run_watch.specs.Looks.{held_below}
use Rattle.run_watch.proofs.looking.held.Given as goal

abbrev pub invariant-loop-edge : goal.invariant-loop-edge
invariant-loop-edge l = l.held ≡ held_below l.newcomer l.edge
