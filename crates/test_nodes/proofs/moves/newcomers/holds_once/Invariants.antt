use Rattle.std.proofs.Common.{◌≡◌, length}
use Rattle.test_nodes.proofs.moves.newcomers.holds_once.Given as goal

abbrev pub invariant-loop-edge : goal.invariant-loop-edge
invariant-loop-edge l = length l.newcomer.held ≡ 2
