use Rattle.std.proofs.Common.{◌≡◌, ◌<◌, ◌∙◌, List, [], ap, arith, get_or, length, sym, add-one}
use Rattle.std.proofs.lemmas.List.{get_or_read}
use Rattle.tuple_edge.specs.declared.item.Item.{Item}
use Rattle.merge_order.specs.HeadStamps.{starts_with}
use Rattle.merge_order.specs.MergeView.{without}
use Rattle.merge_order.proofs.HeadStamps.{changed_length, sign_passed, sign_popped, start_waits}
use Rattle.merge_order.proofs.queues.Queues.pop_signs.Goals as goal
use Rattle.merge_order.proofs.queues.Queues.pop_signs.Goals.{then-starts_with, else-starts_with}

pub pop-requires-clause-waits : goal.pop-requires-clause-waits
pop-requires-clause-waits c =
    let sign = c.args.sign.now in
    let now = c.loop-edge.self in
    let k = c.loop-edge.edge in
    let long : length now ≡ length c.args.self.now = ap length c.loop-edge.invariant ∙ changed_length (without sign) c.args.self.now k in
    let there : k < length now = omega (arith, c.loop-edge-test.true, c.len-edge-end.ensures, c.self.inside.queues.ok.0, ap length c.self.view_is, long) in
    let inside = c.self-in-loop-edge.inside.queues.items in
    let held = get_or_read inside k c.index.result.now (omega (arith, there, ap length c.self-in-loop-edge.view_is)) c.index.ensures [] ∙ ap (λ (ws : List (List Item)). get_or ws k []) c.self-in-loop-edge.view_is in
    start_waits sign (get_or now k []) (ap (starts_with sign) (sym held) ∙ (sym c.starts_with.ensures ∙ c.if-starts_with.true))

pub loop-edge-preserved : goal.loop-edge-preserved
loop-edge-preserved c =
    let sign = c.args.sign.now in
    let ws = c.args.self.now in
    let now = c.loop-edge.self in
    let k = c.loop-edge.edge in
    let long : length now ≡ length ws = ap length c.loop-edge.invariant ∙ changed_length (without sign) ws k in
    let there : k < length ws = omega (arith, c.loop-edge-test.true, c.len-edge-end.ensures, c.self.inside.queues.ok.0, ap length c.self.view_is) in
    let inside = c.self-in-loop-edge.inside.queues.items in
    let held = get_or_read inside k c.index.result.now (omega (arith, there, long, ap length c.self-in-loop-edge.view_is)) c.index.ensures [] ∙ ap (λ (x : List (List Item)). get_or x k []) c.self-in-loop-edge.view_is in
    let told = ap (starts_with sign) (sym held) ∙ sym c.starts_with.ensures in
    elim c.if-starts_with.branch [
      | then-starts_with w ↦ w.self-is ∙ (w.pop.ensures ∙ rw add-one (sign_popped sign ws now k there c.loop-edge.invariant (told ∙ w.if-starts_with.true)))
      | else-starts_with w ↦ w.self-is ∙ rw add-one (sign_passed sign ws now k there c.loop-edge.invariant (told ∙ w.if-starts_with.false))
    ]
