use Rattle.std.proofs.Common.{◌≡◌, [], ◌∷◌, length, vec_len, subst, arith}
use Rattle.claim_board.proofs.Gathering.{AreAllIdle, all_swapped, all_joined, first_of, last_of, all_popped}
use Rattle.claim_board.proofs.board.Board.gather.Goals as goal

pub loop-other-init : goal.loop-other-init
loop-other-init g c = all_swapped c.args.self.now c.args.seats.items c.pop.new.self.items c.in_ok-all.all c.in_ok-all.ensures.items (c.requires.all, c.requires.home)

pub join-requires-clause-seat : goal.join-requires-clause-seat
join-requires-clause-seat g c κs within = (first_of c.args.self.now c.loop-other.all c.loop-other.seats.items c.loop-other.invariant).0

pub join-requires-clause-other : goal.join-requires-clause-other
join-requires-clause-other g c κs within =
    last_of c.args.self.now c.loop-other.all c.in-Some.other c.loop-other.seats.items c.pop-in-loop-other.new.self.items c.in-Some.ensures.items c.loop-other.invariant

pub loop-other-preserved : goal.loop-other-preserved
loop-other-preserved g c =
    all_joined c.args.self.now c.loop-other.all c.join.new.seat c.in-Some.other c.loop-other.seats.items c.pop-in-loop-other.new.self.items c.in-Some.ensures.items
    c.join.ensures.seat.0 c.join.ensures.seat.1 c.loop-other.invariant

pub returns-clause-all : goal.returns-clause-all
returns-clause-all g c =
    let long : vec_len c.loop-other.seats ≡ length c.loop-other.seats.items = omega arith in
    let left : c.loop-other.seats.items ≡ [] = all_popped c.loop-other.seats.items _ long c.pop-in-loop-other.result c.in_default.is c.pop-in-loop-other.ensures.variant in
    subst (λ l. AreAllIdle c.args.self.now (c.loop-other.all ∷ l)) left c.loop-other.invariant
