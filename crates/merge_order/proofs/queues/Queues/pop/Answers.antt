use Rattle.std.proofs.Common.{◌<◌, ◌≤◌, ◌+◌, ◌∙◌, ℕ, List, [], ap, arith, get_or, length, set}
use Rattle.tuple_edge.specs.declared.item.Item.{Item}
use Rattle.merge_order.proofs.HeadStamps.{count_last, count_next, count_room, stamps_set}
use Rattle.merge_order.proofs.queues.Queues.pop.Goals as goal

pub overflow_add-self : goal.overflow_add-self
overflow_add-self c =
    let ws = c.self.inside.queues.items in
    let there : c.args.edge < length ws = omega (arith, ap length c.self.view_is, c.requires.there) in
    let waits : 1 ≤ length (get_or ws c.args.edge []) = omega (arith, ap (λ (x : List (List Item)). length (get_or x c.args.edge [])) c.self.view_is, c.requires.waits) in
    let room : c.self.inside.empty_edges + 1 ≤ length ws = omega (arith, c.self.invariant.1, count_room ws c.args.edge there waits) in
    omega (arith, room, c.self.inside.queues.ok.0, c.self.ranges)

pub invariant_of-self : goal.invariant_of-self
invariant_of-self c =
    let ws = c.self.inside.queues.items in
    let k = c.args.edge in
    let there : k < length ws = omega (arith, ap length c.self.view_is, c.requires.there) in
    let waits : 1 ≤ length (get_or ws k []) = omega (arith, ap (λ (x : List (List Item)). length (get_or x k [])) c.self.view_is, c.requires.waits) in (
      ap (λ (stamps : List ℕ). set stamps k c.head_stamp.result) c.self.invariant.0 ∙ stamps_set ws k c.pop.new.self c.head_stamp.result c.head_stamp.ensures,
      omega (arith, c.self.invariant.1, count_last ws k c.pop.new.self there waits (omega (arith, c.if-is_empty.true, c.len-is_empty.ensures))),
    )

pub invariant_of-self-else-is_empty : goal.invariant_of-self-else-is_empty
invariant_of-self-else-is_empty c =
    let ws = c.self.inside.queues.items in
    let k = c.args.edge in
    let there : k < length ws = omega (arith, ap length c.self.view_is, c.requires.there) in
    let waits : 1 ≤ length (get_or ws k []) = omega (arith, ap (λ (x : List (List Item)). length (get_or x k [])) c.self.view_is, c.requires.waits) in (
      ap (λ (stamps : List ℕ). set stamps k c.head_stamp.result) c.self.invariant.0 ∙ stamps_set ws k c.pop.new.self c.head_stamp.result c.head_stamp.ensures,
      omega (arith, c.self.invariant.1, count_next ws k c.pop.new.self there waits (omega (arith, c.if-is_empty.false, c.len-is_empty.ensures))),
    )
