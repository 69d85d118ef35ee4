use Rattle.claim_board.specs.Board.{IsBack}
use Rattle.linked_run.proofs.worker.look.Given as goal

abbrev pub invariant-loop : goal.invariant-loop
invariant-loop g l = IsBack l.board l.initial.seat l.seat
