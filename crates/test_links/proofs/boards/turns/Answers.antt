use Rattle.std.proofs.Common.{◌∙◌}
use Rattle.claim_board.proofs.Turns.{back_self, back_then}
use Rattle.test_links.proofs.boards.turns.Goals as goal

pub loop-step-init : goal.loop-step-init
loop-step-init c = back_self c.args.board.now c.args.seat.now c.requires.seat.0

pub turn-requires-clause-seat : goal.turn-requires-clause-seat
turn-requires-clause-seat c = let h = c.loop-step.invariant in (h.seat, λ k. h.holds k ∙ c.requires.seat.1 k)

pub loop-step-preserved : goal.loop-step-preserved
loop-step-preserved c = back_then c.args.board.now c.args.seat.now c.loop-step.seat c.turn.new.seat c.loop-step.invariant c.turn.ensures
