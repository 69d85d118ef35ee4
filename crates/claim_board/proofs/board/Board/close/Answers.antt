use Rattle.std.proofs.Common.{◌≡◌, ap, sym, subst, refl, arith, length, ◌<◌}
use Rattle.claim_board.specs.Board.{opening_of, seat_view, HasValue}
use Rattle.std.specs.Slots.{slots_items}
use Rattle.claim_board.proofs.ValuesBack.{closes}
use Rattle.claim_board.proofs.board.Board.close.Goals as goal

pub close_with-closed-requires : goal.close_with-closed-requires
close_with-closed-requires g c = (c.in-Some.ensures.all.0.each 0 c.in-Some.all refl).table

pub take_all-requires-clause-values : goal.take_all-requires-clause-values
take_all-requires-clause-values g c κs within = λ k lt.
    let name = g.T.Named.name in
    let board = c.args.self in
    let seat = c.in-Some.all in
    let all = c.in-Some.ensures.all in
    let xs = slots_items c.close_with-closed.result.slots in
    let same : opening_of board ≡ opening_of c.of-before.result.value = sym (ap opening_of c.of-before.ensures) in
    let small : k < length (opening_of board) = omega (arith, board.value_count) in
    subst (λ o. HasValue name o xs k) same (closes name board seat seat.is_live all.0 (all.1 0 seat refl) _ xs c.close_with-closed.ensures.values.2 k small)

pub take_all-requires-clause-list : goal.take_all-requires-clause-list
take_all-requires-clause-list g c κs within =
    let board = c.args.self in
    let seat = c.in-Some.all in
    let of_board : length (seat_view seat).opening ≡ length (opening_of board) = ap length (c.in-Some.ensures.all.0.each 0 seat refl).opening in
    let same : opening_of c.of-before.result.value ≡ opening_of board = ap opening_of c.of-before.ensures in
    (seat.list_room.0, omega (arith, seat.list_room.1, of_board, board.value_count), omega (arith, ap length same, board.value_count))
