use Rattle.test_links.proofs.links.send_most.Given as goal
use Rattle.std.proofs.Common.{◌≡◌}

abbrev pub invariant-loop-at : goal.invariant-loop-at
invariant-loop-at g l = g.O.Outlet.identity l.outlet ≡ g.O.Outlet.identity l.initial.outlet
