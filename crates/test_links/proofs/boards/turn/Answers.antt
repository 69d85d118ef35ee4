use Rattle.claim_board.proofs.Turns.{back_given}
use Rattle.test_links.proofs.boards.turn.Goals as goal

pub returns-in-Ok : goal.returns-in-Ok
returns-in-Ok c = back_given c.args.board.now c.args.seat.now c.take.new.seat c.give.new.seat c.args.place (c.requires.seat.1 c.args.place) c.in-Ok.ensures.won c.give.ensures.seat c.give.ensures.view
