use Rattle.std.proofs.Common.{◌≡◌, [], replicate}
use Rattle.catch_up.proofs.newcomer.nothing_held.Given as goal

abbrev pub invariant-loop-edge : goal.invariant-loop-edge
invariant-loop-edge l = l.held.items ≡ replicate l._edge []
