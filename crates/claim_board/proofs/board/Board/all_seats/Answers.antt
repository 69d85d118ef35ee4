use Rattle.std.proofs.Common.{◌≡◌, ◌+◌, ◌-◌, vec_len, ◌∷◌, ◌++◌, length, drop, take, sym, ap, ◌∙◌, subst, arith}
use Rattle.claim_board.specs.Board.{AreNew}
use Rattle.claim_board.proofs.NewSeats.{IsMaking, making_next, making_ends, new_are_all, new_hold_none, rotated_right}
use Rattle.claim_board.proofs.board.Board.all_seats.Given as given
use Rattle.claim_board.proofs.board.Board.all_seats.Goals as goal

pub loop-made-preserved : goal.loop-made-preserved
loop-made-preserved g c =
    let h = c.loop-made.invariant in
    let s = c.split-next.ensures in
    record {
      making = subst (λ l. IsMaking c.args.self.now l c.split-next.new.seat (c.loop-made.made + 1)) (sym c.push_reserved.ensures.items)
          (making_next c.args.self.now c.loop-made.all.items c.loop-made.first c.split-next.new.seat c.split-next.result c.loop-made.made h.making s.seat.0 s.seat.1 s.other.0 s.other.1);
      long = omega arith;
      room = omega arith;
    }

-- the first seat and the others, in that order
in_order : (g : given.Over) (c : goal.After-rotate_right g) → c.rotate_right.new.self.items ≡ c.loop-made.first ∷ c.loop-made.all.items
in_order g c =
    let h = c.loop-made.invariant in
    let n = vec_len c.push_reserved-2.new.self - 1 in
    let others : n ≡ length c.loop-made.all.items = omega (arith, h.making.count, h.long, c.push_reserved-2.ensures.len) in
    c.rotate_right.ensures.items ∙ (ap (λ xs. drop n xs ++ take n xs) c.push_reserved-2.ensures.items ∙ rotated_right c.loop-made.all.items c.loop-made.first n others)

new_seats : (g : given.Over) (c : goal.After-rotate_right g) → AreNew c.args.self.now c.rotate_right.new.self.items
new_seats g c =
    let h = c.loop-made.invariant in
    let made : c.loop-made.made ≡ c.args.count = omega arith in
    subst (AreNew c.args.self.now) (sym (in_order g c)) (making_ends c.args.self.now c.loop-made.all.items c.loop-made.first c.loop-made.made (made ∙ c.requires.count.1) h.making)

pub returns-clause-seats : goal.returns-clause-seats
returns-clause-seats g c = new_seats g c

pub returns-clause-all : goal.returns-clause-all
returns-clause-all g c = new_are_all c.args.self.now c.rotate_right.new.self.items (omega (arith, c.requires.count.1)) (new_seats g c)

pub returns-clause-home : goal.returns-clause-home
returns-clause-home g c = new_hold_none c.args.self.now c.rotate_right.new.self.items (new_seats g c)
