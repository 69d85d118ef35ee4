use Rattle.std.proofs.Common.{arith, sym, ◌∙◌}
use Rattle.claim_board.proofs.Joining.{joins}
use Rattle.claim_board.proofs.Gathering.{holds_no_slot}
use Rattle.claim_board.proofs.board.Board.join.Goals as goal

pub join_seat-requires : goal.join_seat-requires
join_seat-requires g c =
    let board = c.args.self.now in
    let seat = c.args.seat.now in
    let other = c.args.other in
    let opening = board.table.shared.key in (
      c.requires.seat.table,
      c.requires.other.0.table,
      holds_no_slot other.seat.me.1 other.held.items other.in_order (λ k. sym (other.same k) ∙ c.requires.other.1 k),
      omega (arith, board.word_count),
      joins g.T.Named.name opening.values.value.items opening.seats seat.seat.id seat.seat.me.0 other.seat.id other.seat.me.0 seat.is_live other.is_live c.requires.other.1,
    )
