use Rattle.std.proofs.Common.{arith, ◌∷◌, ◌<◌, length, Some, sym, ap, ◌∙◌, subst}
use Rattle.atomic_table.specs.Table.{rest}
use Rattle.claim_board.proofs.Moves.{claims_by}
use Rattle.claim_board.proofs.Distinct.{fits}
use Rattle.claim_board.proofs.board.Board.take.Goals as goal

pub compare_exchange-found-requires : goal.compare_exchange-found-requires
compare_exchange-found-requires g c =
    let board = c.args.self.now in
    let seat = c.args.seat.now in
    let opening = board.table.shared.key in
    (c.requires.seat.table, omega arith, claims_by g.T.Named.name opening.values.value.items opening.seats _ _ seat.seat.me seat.is_live c.args.place seat.number seat.is_number c.requires.seat.opening c.requires.place c.requires.free)

pub exchange-requires : goal.exchange-requires
exchange-requires g c =
    let won = c.compare_exchange-found.ensures.2.0 c.if-found-ne0.false in
    (c.compare_exchange-found.ensures.0 ∙ c.requires.seat.table, (Some won.1.0, won.1.1 ∙ ap (λ l. (c.args.place, Some won.1.0) ∷ rest l) (sym won.1.1)))

pub push_front_reserved-requires : goal.push_front_reserved-requires
push_front_reserved-requires g c =
    let seat = c.args.seat.now in
    let lt : c.args.place < length seat.seat.me.0.opening = subst (λ n. c.args.place < n) (sym (ap length c.requires.seat.opening)) c.requires.place in
    let few = fits _ c.args.place seat.held.items seat.distinct seat.below lt (sym (seat.same c.args.place) ∙ c.requires.free) in
    omega (arith, few, seat.room)
