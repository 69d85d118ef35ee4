use Rattle.claim_board.specs.Board.{IsBack}
use Rattle.test_links.proofs.boards.turns.Given as goal

abbrev pub invariant-loop-step : goal.invariant-loop-step
invariant-loop-step l = IsBack l.board l.initial.seat l.seat
