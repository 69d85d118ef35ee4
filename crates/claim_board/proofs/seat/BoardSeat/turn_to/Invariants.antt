use Rattle.claim_board.specs.Board.{IsTurned}
use Rattle.claim_board.proofs.seat.BoardSeat.turn_to.Given as goal
use Rattle.claim_board.proofs.Counted.{count_before}

abbrev pub invariant-loop-self : goal.invariant-loop-self
invariant-loop-self g l = IsTurned l.initial.self l.self

abbrev pub decreases-loop-self : goal.decreases-loop-self
decreases-loop-self g l = count_before l.place l.self.held.items
