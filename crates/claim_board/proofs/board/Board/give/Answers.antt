use Rattle.std.proofs.Common.{arith, ◌≡◌, length, sym, ap, ◌∙◌, not, nat_lt, ◌<◌}
use Rattle.atomic_table.specs.Table.{rest}
use Rattle.claim_board.specs.Lists.{is_in, places_of, is_distinct, all_below}
use Rattle.claim_board.specs.Steps.{without_place}
use Rattle.claim_board.proofs.Moves.{releases_by}
use Rattle.claim_board.proofs.Turning.{front_of, places_rest, popped, left_of, below_has}
use Rattle.claim_board.proofs.Distinct.{and_parts}
use Rattle.claim_board.proofs.board.Board.give.Given as given
use Rattle.claim_board.proofs.board.Board.give.Goals as goal

pub exchange-requires : goal.exchange-requires
exchange-requires g c =
    let seat = c.turn_to.new.self in
    (c.turn_to.ensures.seat.table ∙ c.requires.seat.table, front_of seat.seat.me.1 c.args.place c.turn_to.ensures.front.0 (seat.in_order ∙ c.turn_to.ensures.front.1))

pub store-requires : goal.store-requires
store-requires g c =
    let board = c.args.self.now in
    let seat = c.turn_to.new.self in
    let before = c.args.seat.now in
    let view = c.turn_to.ensures.seat.view in
    let small : c.args.place < board.table.shared.table_id.words =
    let lt = below_has (length before.seat.me.0.opening) c.args.place before.held.items before.below (sym (before.same c.args.place) ∙ c.requires.holds) in
    let same = ap length c.requires.seat.opening in
    omega (arith, lt, same, board.word_count, board.value_count) in (
      c.exchange.ensures.0 ∙ (c.turn_to.ensures.seat.table ∙ c.requires.seat.table),
      small,
      releases_by g.T.Named.name board.table.shared.key.values.value.items board.table.shared.key.seats _ _ c.args.place c.exchange.new.seat.me seat.seat.me c.args.value c.exchange.ensures.3
          seat.is_live (ap (λ (v : _). v.opening) view ∙ c.requires.seat.opening) (ap (λ (v : _). is_in c.args.place v.holds) view ∙ c.requires.holds) c.requires.name,
    )

others_left : (g : given.Over) (c : goal.After-pop_front g) → c.pop_front.new.self.items ≡ c.turn_to.ensures.front.0
others_left g c =
    let held = c.turn_to.new.self.held in
    let before = c.turn_to.ensures.front.1 in
    popped c.pop_front.result c.args.place c.turn_to.ensures.front.0 c.pop_front.new.self.items (sym before ∙ c.pop_front.ensures.items) (λ p. c.pop_front.ensures.variant.1 (omega (arith, ap length before)))

pub invariant_of-seat-clause-in_order : goal.invariant_of-seat-clause-in_order
invariant_of-seat-clause-in_order g c =
    let seat = c.turn_to.new.self in
    ap places_of (c.store.ensures.2.1 ∙ ap (λ (m : _). rest m.1) c.exchange.ensures.3)
    ∙ (places_rest seat.seat.me.1 c.args.place c.turn_to.ensures.front.0 (seat.in_order ∙ c.turn_to.ensures.front.1) ∙ sym (others_left g c))

pub invariant_of-seat-clause-same : goal.invariant_of-seat-clause-same
invariant_of-seat-clause-same g c = λ k.
    let seat = c.turn_to.new.self in
    ap (λ (v : _). is_in k v.holds) (c.store.ensures.2.0 ∙ ap (λ (m : _). without_place c.args.place m.0) c.exchange.ensures.3)
    ∙ (left_of c.args.place seat.seat.me.0.holds c.turn_to.ensures.front.0 (λ j. seat.same j ∙ ap (is_in j) c.turn_to.ensures.front.1) (ap is_distinct (sym c.turn_to.ensures.front.1) ∙ seat.distinct) k
    ∙ ap (is_in k) (sym (others_left g c)))

pub invariant_of-seat-clause-distinct : goal.invariant_of-seat-clause-distinct
invariant_of-seat-clause-distinct g c =
    let seat = c.turn_to.new.self in
    ap is_distinct (others_left g c) ∙ (and_parts (not (is_in c.args.place c.turn_to.ensures.front.0)) (is_distinct c.turn_to.ensures.front.0) (ap is_distinct (sym c.turn_to.ensures.front.1) ∙ seat.distinct)).1

pub invariant_of-seat-clause-below : goal.invariant_of-seat-clause-below
invariant_of-seat-clause-below g c =
    let seat = c.turn_to.new.self in
    let n = length seat.seat.me.0.opening in
    ap (λ (v : _). all_below (length v.opening) c.pop_front.new.self.items) (c.store.ensures.2.0 ∙ ap (λ (m : _). without_place c.args.place m.0) c.exchange.ensures.3)
    ∙ (ap (all_below n) (others_left g c) ∙ (and_parts (nat_lt c.args.place n) (all_below n c.turn_to.ensures.front.0) (ap (all_below n) (sym c.turn_to.ensures.front.1) ∙ seat.below)).1)
