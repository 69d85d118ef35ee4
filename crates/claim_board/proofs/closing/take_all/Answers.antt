use Rattle.std.proofs.Common.{◌≡◌, get_or, false, ap, ◌∙◌, arith, get_or-set_other}
use Rattle.std.specs.Slots.{slots_items, slots_filled}
use Rattle.claim_board.specs.Board.{opening_of}
use Rattle.claim_board.proofs.ValuesBack.{found, is_some_at, some_both, named_more, taken_at}
use Rattle.claim_board.proofs.closing.take_all.Goals as goal

pub unwrap-requires : goal.unwrap-requires
unwrap-requires g c =
    let f = found g.T.Named.name (opening_of c.args._before.now.value) (slots_items c.loop-place.closed.slots) (slots_items c.args.closed.slots) c.loop-place.place c.take.result c.loop-place.invariant.items c.take.ensures.value (c.requires.values c.loop-place.place c.loop-place-test.true) in
    is_some_at c.take.result f.0 f.1

pub loop-place-preserved : goal.loop-place-preserved
loop-place-preserved g c =
    let name = g.T.Named.name in
    let opening = opening_of c.args._before.now.value in
    let h = c.loop-place.invariant in
    let at = c.loop-place.place in
    let old = slots_filled c.loop-place.closed.slots in
    let filled = c.take.ensures.others.1 in
    let f = found name opening (slots_items c.loop-place.closed.slots) (slots_items c.args.closed.slots) at c.take.result h.items c.take.ensures.value (c.requires.values at c.loop-place-test.true) in
    let x = c.unwrap.result in
    let named : name x ≡ name f.2.0 = ap name (some_both c.take.result x f.0 c.unwrap.ensures f.1) ∙ f.2.2 in
    record {
      count = omega arith;
      room = omega arith;
      long = c.take.ensures.others.2 ∙ h.long;
      items = c.take.ensures.others.0 ∙ h.items;
      names = named_more name c.loop-place.list.items c.push_reserved.new.self.items opening at x f.2.0 c.push_reserved.ensures.items h.names f.2.1 named;
      taken = λ k lt. ap (λ l. get_or l k false) filled ∙ taken_at old at k (λ d. h.taken k (omega arith));
      left = λ k le lt. ap (λ l. get_or l k false) filled ∙ (get_or-set_other old at k false false (λ e. omega arith) ∙ h.left k (omega arith) lt);
    }
