use Rattle.std.proofs.Common.{arith}
use Rattle.claim_board.proofs.Moves.{halts_at}
use Rattle.claim_board.proofs.board.Board.halt.Goals as goal

pub store-requires : goal.store-requires
store-requires g c =
    let board = c.args.self.now in
    let opening = board.table.shared.key in
    (c.requires.table, omega arith, halts_at g.T.Named.name opening.values.value.items opening.seats _ _ c.args.seat.now.seat.me c.args.seat.now.is_live board.halt_word (omega (arith, board.halt_place, board.value_count)))
