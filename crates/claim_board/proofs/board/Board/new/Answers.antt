use Rattle.std.proofs.Common.{ap, ◌∙◌, arith, ◌+◌}
use Rattle.claim_board.proofs.Opening.{begins_by}
use Rattle.claim_board.proofs.board.Board.new.Goals as goal

pub new-requires : goal.new-requires
new-requires g c =
    begins_by g.T.Named.name c.args.seats c.requires.seat c.args.items.items c.of.result.value.items c.as_slice.result.now c.in_ok-slots.slots.items (c.len-places.result + 15 + 1 + 15)
    (ap (λ (v : _). v.items) c.of.ensures) (c.as_slice.ensures.value ∙ c.in_ok-words.ensures.items_if_clones_equal (λ y e. e)) (omega arith) c.in_ok-slots.ensures
