use Rattle.std.proofs.Common.{arith}
use Rattle.claim_board.proofs.Splitting.{splits}
use Rattle.claim_board.proofs.board.Board.split.Goals as goal

pub split_seat-seat-requires : goal.split_seat-seat-requires
split_seat-seat-requires g c =
    let board = c.args.self.now in
    let seat = c.args.seat.now in
    let opening = board.table.shared.key in
    let is = c.requires.seat.0 in
    (is.table, omega (arith, board.word_count), splits g.T.Named.name opening.values.value.items opening.seats seat.seat.id seat.seat.me.0 seat.is_live c.requires.seat.1 is.opening is.seats (omega (arith, c.requires.number.0, c.requires.number.1)))
