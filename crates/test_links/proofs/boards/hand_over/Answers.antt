use Rattle.std.proofs.Common.{refl, ◌∙◌}
use Rattle.claim_board.proofs.Turns.{back_given, back_lost, back_then, pair_back}
use Rattle.test_links.proofs.boards.hand_over.Goals as goal

pub take-requires-clause-seat : goal.take-requires-clause-seat
take-requires-clause-seat c κs = c.requires.seats.0.each 0 c.args.first.now refl

pub take-requires-clause-free : goal.take-requires-clause-free
take-requires-clause-free c κs = c.requires.seats.1 0 c.args.first.now refl 0

pub take-requires-2-clause-seat : goal.take-requires-2-clause-seat
take-requires-2-clause-seat c κs = c.requires.seats.0.each 1 c.args.second.now refl

pub take-requires-2-clause-free : goal.take-requires-2-clause-free
take-requires-2-clause-free c κs = c.requires.seats.1 1 c.args.second.now refl 0

pub turn-requires-clause-seat : goal.turn-requires-clause-seat
turn-requires-clause-seat c =
    let lost = back_lost c.args.board.now c.args.second.now c.take-2.new.seat 0 c.in-Err.taken.owner c.take-2.ensures.seat c.in-Err.ensures.lost in
    (lost.seat, λ k. lost.holds k ∙ c.requires.seats.1 1 c.args.second.now refl k)

pub returns : goal.returns
returns c =
    let board = c.args.board.now in
    let first = c.args.first.now in
    let second = c.args.second.now in
    let none = c.requires.seats.1 in
    let given = back_given board first c.take.new.seat c.give.new.seat 0 (none 0 first refl 0) c.in-Ok.ensures.won c.give.ensures.seat c.give.ensures.view in
    let lost = back_lost board second c.take-2.new.seat 0 c.in-Err.taken.owner c.take-2.ensures.seat c.in-Err.ensures.lost in
    pair_back board first second c.give.new.seat c.turn.new.seat c.requires.seats.0 none given (back_then board second c.take-2.new.seat c.turn.new.seat lost c.turn.ensures)
