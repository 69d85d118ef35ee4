use Rattle.std.proofs.Common.{◌∙◌}
use Rattle.claim_board.proofs.Turns.{back_given}
use Rattle.linked_run.proofs.worker.turn_at.Goals as goal

pub give-requires-clause-name : goal.give-requires-clause-name
give-requires-clause-name g c κs within = let t = c.in-Ok.ensures.named in (t.0, t.1, c.turn-result.ensures ∙ t.2)

pub returns-in-Err : goal.returns-in-Err
returns-in-Err g c = back_given c.args.board.now c.args.seat.now c.take.new.seat c.give.new.seat c.args.place (c.requires.seat.1 c.args.place) c.in-Ok.ensures.won c.give.ensures.seat c.give.ensures.view

pub returns-in-Ok-result : goal.returns-in-Ok-result
returns-in-Ok-result g c = back_given c.args.board.now c.args.seat.now c.take.new.seat c.give.new.seat c.args.place (c.requires.seat.1 c.args.place) c.in-Ok.ensures.won c.give.ensures.seat c.give.ensures.view

pub returns-in-Ok-true : goal.returns-in-Ok-true
returns-in-Ok-true g c = back_given c.args.board.now c.args.seat.now c.take.new.seat c.give.new.seat c.args.place (c.requires.seat.1 c.args.place) c.in-Ok.ensures.won c.give.ensures.seat c.give.ensures.view

pub returns-in-Ok-false : goal.returns-in-Ok-false
returns-in-Ok-false g c = back_given c.args.board.now c.args.seat.now c.take.new.seat c.give.new.seat c.args.place (c.requires.seat.1 c.args.place) c.in-Ok.ensures.won c.give.ensures.seat c.give.ensures.view
