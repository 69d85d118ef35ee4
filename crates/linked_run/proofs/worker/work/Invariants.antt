use Rattle.claim_board.specs.Board.{IsBack}
use Rattle.linked_run.proofs.worker.work.Given as goal

abbrev pub invariant-loop-number : goal.invariant-loop-number
invariant-loop-number g l = IsBack l.board l.initial.seat l.seat
