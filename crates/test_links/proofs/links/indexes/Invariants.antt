use Rattle.test_links.proofs.links.indexes.Given as goal
use Rattle.std.proofs.Common.{◌≡◌, ◌≤◌, ◌+◌, length}

abbrev pub invariant-loop-turn : goal.invariant-loop-turn
invariant-loop-turn g l =
    (length (g.I.Inlet.given l.inlet) ≤ length (g.I.Inlet.given l.initial.inlet) + l.turn)
    × (g.I.Inlet.identity l.inlet ≡ g.I.Inlet.identity l.initial.inlet)
