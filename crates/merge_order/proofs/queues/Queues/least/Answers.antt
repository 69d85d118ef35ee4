use Rattle.std.proofs.Common.{◌≡◌, ◌≤◌, ◌<◌, ◌∙◌, ℕ, List, [], false, true, ap, arith, length, nat_lt, subst, sym}
use Rattle.std.specs.Prelude.{slice_get}
use Rattle.std.specs.List.{IsFirstBest}
use Rattle.std.proofs.lemmas.Bool.{eq-eqb}
use Rattle.std.proofs.lemmas.List.{get_or_read, length-map}
use Rattle.tuple_edge.specs.declared.item.Item.{Item}
use Rattle.tuple_edge.specs.Item.{kind_of}
use Rattle.merge_order.specs.HeadStamps.{empty_count, head_stamp}
use Rattle.merge_order.specs.MergeView.{all_wait, least}
use Rattle.merge_order.proofs.Choices.{nat_not}
use Rattle.merge_order.proofs.HeadStamps.{none_empty}
use Rattle.merge_order.proofs.LeastStamp.{least_row, least_none}
use Rattle.merge_order.proofs.queues.Queues.least.Goals as goal

pub returns-then-self-gt0 : goal.returns-then-self-gt0
returns-then-self-gt0 c =
    let ws = c.self.inside.queues.items in
    let one_lacks : all_wait ws ≡ false = sym (none_empty ws) ∙ nat_not (empty_count ws) 0 (λ e. let z : ⊥ = omega (arith, e, c.if-self-gt0.true, c.self.invariant.1) in z) in
    sym (least_none ws one_lacks) ∙ ap least c.self.view_is

pub returns-in-Row : goal.returns-in-Row
returns-in-Row c =
    let ws = c.self.inside.queues.items in
    let place = c.least_place-edge.result in
    let all : all_wait ws ≡ true = sym (none_empty ws) ∙ eq-eqb (empty_count ws) 0 (omega (arith, c.if-self-gt0.false, c.self.invariant.1)) in
    let some : 1 ≤ length ws = omega (arith, ap length c.self.view_is, c.requires.some) in
    let best = subst (λ (stamps : List ℕ). IsFirstBest nat_lt stamps (length stamps) place) (c.deref.ensures.value ∙ c.self.invariant.0) c.least_place-edge.ensures in
    let there : place < length ws = omega (arith, best.0, length-map ws head_stamp) in
    let held = get_or_read ws place c.index.result.now there c.index.ensures [] in
    let item_is = c.in_ok-item.ensures ∙ ap (λ (w : List Item). slice_get w 0) held in
    sym (least_row ws place c.in_ok-item.item some all best item_is (ap kind_of c.in-Row.is)) ∙ ap least c.self.view_is
