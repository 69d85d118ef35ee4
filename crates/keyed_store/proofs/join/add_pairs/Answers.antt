use Rattle.std.proofs.Common.{◌≡◌, ◌∷◌, List, suc, length, ap, sym, ◌∙◌, arith}
use Rattle.keyed_store.specs.declared.rows.SideRow.{SideRow}
use Rattle.keyed_store.proofs.Pairs.{pairs_more}
use Rattle.keyed_store.proofs.join.add_pairs.Goals as goal

pub loop-other-preserved-then-in_window : goal.loop-other-preserved-then-in_window
loop-other-preserved-then-in_window c =
    let shown : c.loop-other.other-iterator ≡ c.in-Some.other.now ∷ c.next.new.self = c.in-Some.ensures.steps in
    let size : length c.loop-other.other-iterator ≡ suc (length c.next.new.self) = ap (λ (rows : List SideRow). length rows) shown in (
      pairs_more c.args.row.now c.in-Some.other.now c.loop-other.other-iterator c.next.new.self c.loop-other.out.items c.push_reserved.new.self.items _ c.pair_of.result shown (sym c.in_window.ensures ∙ c.if-in_window.true) c.pair_of.ensures c.push_reserved.ensures.items c.loop-other.invariant.0,
      omega (arith, c.push_reserved.ensures.len, c.push_reserved.ensures.capacity, c.loop-other.invariant.1, size),
    )
