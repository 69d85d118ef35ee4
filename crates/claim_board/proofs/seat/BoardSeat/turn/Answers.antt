use Rattle.std.proofs.Common.{◌≡◌, length, ap, sym, ◌∙◌, arith}
use Rattle.claim_board.specs.Lists.{is_in, is_distinct, all_below, places_of, rotated}
use Rattle.claim_board.proofs.Turning.{turn_places, in_rotated, distinct_rotated, below_rotated, rotated_once, not_empty}
use Rattle.claim_board.proofs.seat.BoardSeat.turn.Given as given
use Rattle.claim_board.proofs.seat.BoardSeat.turn.Goals as goal

turns : (g : given.Over) (c : goal.After-rotate_left g) → c.rotate_left.new.self.items ≡ rotated c.args.self.now.held.items
turns g c =
    let some = not_empty _ _ c.if-not-is_empty.true c.is_empty.ensures in
    let held = c.args.self.now.held in
    c.rotate_left.ensures.items ∙ rotated_once held.items (omega arith)

pub invariant_of-self-clause-in_order : goal.invariant_of-self-clause-in_order
invariant_of-self-clause-in_order g c = ap (λ (m : _). places_of m.1) c.turn.ensures.2 ∙ (turn_places c.args.self.now.seat.me.1 ∙ (ap rotated c.args.self.now.in_order ∙ sym (turns g c)))

pub invariant_of-self-clause-same : goal.invariant_of-self-clause-same
invariant_of-self-clause-same g c = λ k. ap (λ (m : _). is_in k m.0.holds) c.turn.ensures.2 ∙ (c.args.self.now.same k ∙ (sym (in_rotated k c.args.self.now.held.items) ∙ ap (is_in k) (sym (turns g c))))

pub invariant_of-self-clause-distinct : goal.invariant_of-self-clause-distinct
invariant_of-self-clause-distinct g c = ap is_distinct (turns g c) ∙ distinct_rotated c.args.self.now.held.items c.args.self.now.distinct

pub invariant_of-self-clause-below : goal.invariant_of-self-clause-below
invariant_of-self-clause-below g c = ap (λ (m : _). all_below (length m.0.opening) c.rotate_left.new.self.items) c.turn.ensures.2 ∙ (ap (all_below (length c.args.self.now.seat.me.0.opening)) (turns g c) ∙ below_rotated (length c.args.self.now.seat.me.0.opening) c.args.self.now.held.items c.args.self.now.below)
