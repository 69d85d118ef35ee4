use Rattle.std.proofs.Common.{vec_len, ◌∷◌}
use Rattle.claim_board.proofs.Gathering.{AreAllIdle}
use Rattle.claim_board.proofs.board.Board.gather.Given as goal

abbrev pub invariant-loop-other : goal.invariant-loop-other
invariant-loop-other g l = AreAllIdle l.self (l.all ∷ l.seats.items)

abbrev pub decreases-loop-other : goal.decreases-loop-other
decreases-loop-other g l = vec_len l.seats
