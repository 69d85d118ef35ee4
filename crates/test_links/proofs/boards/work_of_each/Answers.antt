use Rattle.claim_board.proofs.Turns.{seat_at, none_at}
use Rattle.test_links.proofs.boards.work_of_each.Goals as goal

pub for_each_mut-requires-clause-accepts : goal.for_each_mut-requires-clause-accepts
for_each_mut-requires-clause-accepts g c κs within = λ i p lt is.
    let board = c.args.board.now in
    let seats = c.args.seats.now in
    ((seat_at board seats c.requires.seats.0 i p.now lt is, none_at board seats c.requires.seats.1 i p.now lt is), c.requires.places)
