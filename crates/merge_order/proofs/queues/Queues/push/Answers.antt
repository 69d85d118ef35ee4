use Rattle.std.proofs.Common.{◌≡◌, ◌<◌, ◌≤◌, ◌∙◌, ℕ, List, [], ◌∷◌, ◌++◌, ap, arith, get_or, length, map, set, sym}
use Rattle.std.proofs.lemmas.List.{get_or_read}
use Rattle.tuple_edge.specs.declared.item.Item.{Item}
use Rattle.merge_order.specs.HeadStamps.{empty_count, head_stamp}
use Rattle.merge_order.proofs.HeadStamps.{count_first, count_more, stamps_first, stamps_more}
use Rattle.merge_order.proofs.queues.Queues.push.Goals as goal

pub invariant_of-self-then-was_empty : goal.invariant_of-self-then-was_empty
invariant_of-self-then-was_empty c =
    let ws = c.self.inside.queues.items in
    let k = c.args.edge in
    let there : k < length ws = omega (arith, ap length c.self.view_is, c.requires) in
    let held = get_or_read ws k c.index_mut-queue.result.now there c.index_mut-queue.ensures.value [] in
    let none : length (get_or ws k []) ≡ 0 = omega (arith, c.if-was_empty.true, c.len-was_empty.ensures, ap length held) in
    let new = c.in_ok-push.ensures.pushed ∙ ap (λ (w : List Item). w ++ c.args.item ∷ []) held in (
      ap (λ (stamps : List ℕ). set stamps k c.stamp.result) c.self.invariant.0
          ∙ (ap (set (map head_stamp ws) k) c.stamp.ensures ∙ (stamps_first ws k c.args.item none ∙ ap (λ (w : List Item). map head_stamp (set ws k w)) (sym new))),
      omega (arith, c.self.invariant.1, count_first ws k c.args.item there none, ap (λ (w : List Item). empty_count (set ws k w)) new),
    )

pub invariant_of-self-else-was_empty : goal.invariant_of-self-else-was_empty
invariant_of-self-else-was_empty c =
    let ws = c.self.inside.queues.items in
    let k = c.args.edge in
    let there : k < length ws = omega (arith, ap length c.self.view_is, c.requires) in
    let held = get_or_read ws k c.index_mut-queue.result.now there c.index_mut-queue.ensures.value [] in
    let some : 1 ≤ length (get_or ws k []) = omega (arith, c.if-was_empty.false, c.len-was_empty.ensures, ap length held) in
    let new = c.in_ok-push.ensures.pushed ∙ ap (λ (w : List Item). w ++ c.args.item ∷ []) held in (
      c.self.invariant.0 ∙ (stamps_more ws k c.args.item some ∙ ap (λ (w : List Item). map head_stamp (set ws k w)) (sym new)),
      omega (arith, c.self.invariant.1, count_more ws k c.args.item there some, ap (λ (w : List Item). empty_count (set ws k w)) new),
    )
