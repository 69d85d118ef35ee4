use Rattle.std.proofs.Common.{◌∙◌, ◌<◌, ◌≤◌, [], ◌∷◌, List, ap, arith, length, sym}
use Rattle.std.specs.Prelude.{is_some, slice_index_or}
use Rattle.tuple_edge.specs.declared.item.Item.{Item}
use Rattle.merge_order.specs.MergeView.{MergeView, item_of, least, waiting_of}
use Rattle.merge_order.proofs.Heads.{known_is}
use Rattle.plan_nodes.proofs.working.has_next.Goals as goal

-- there is an edge where something waits on the first one
has_edge : (waiting : List (List Item)) → 0 < length (slice_index_or waiting 0 []) → 1 ≤ length waiting
has_edge [] some = absurd (let none : 0 < 0 = some in omega (arith, none))
has_edge (items ∷ waiting) some = omega arith

pub returns : goal.returns
returns c =
    let merge = c.merge-merge.result.now in
    let some : 0 < length (waiting_of merge 0) = omega (arith, c.waiting.ensures, c.if-waiting-eq0.false) in
    c.ready.ensures.value ∙ sym (known_is merge.waiting (has_edge merge.waiting some)) ∙ ap (λ (m : MergeView). is_some (item_of (least m.waiting))) c.merge-merge.ensures
