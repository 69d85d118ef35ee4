use Rattle.std.proofs.Common.{refl}
use Rattle.claim_board.proofs.Turns.{back_loaded, pair_back}
use Rattle.test_links.proofs.boards.both_see.Goals as goal

pub halted-second_sees-requires-after_bounds : goal.halted-second_sees-requires-after_bounds
halted-second_sees-requires-after_bounds c κs = c.requires.0.each 1 c.args.second.now refl

pub halted-first_sees-requires-after_bounds : goal.halted-first_sees-requires-after_bounds
halted-first_sees-requires-after_bounds c κs = c.requires.0.each 0 c.args.first.now refl

pub returns : goal.returns
returns c =
    let board = c.args.board.now in
    let first = back_loaded board c.args.first.now c.halted-first_sees.new.seat _ c.halted-first_sees.ensures.seat c.halted-first_sees.ensures.view in
    let second = back_loaded board c.args.second.now c.halted-second_sees.new.seat _ c.halted-second_sees.ensures.seat c.halted-second_sees.ensures.view in
    pair_back board c.args.first.now c.args.second.now c.halted-first_sees.new.seat c.halted-second_sees.new.seat c.requires.0 c.requires.1 first second
