-- How many items a partition merges: the rows that go there, the marks, and the end.
use Rattle.std.proofs.Common.{◌≡◌, ◌<◌, ◌==◌, ◌/◌, ℕ, suc, Bool, true, false, List, [], ◌∷◌, ◌+◌, Some, get_or, length, refl, sym, ap, ◌∙◌, arith, take}
use Rattle.std.specs.Prelude.{filter, if◌then◌else◌}
use Rattle.std.proofs.lemmas.List.{length-map}
use Rattle.tuple_edge.specs.Row.{route_of}
use Rattle.tuple_edge.specs.declared.item.Item.{Item}
use Rattle.tuple_edge.specs.declared.item.Item.TheVariants as item
use Rattle.tuple_edge.specs.declared.row.Row.{Row}
use Rattle.merge_order.specs.Merged.{Place, items, merged}
use Rattle.stream_ops.specs.Answers.{rows_of}
use Rattle.trade_text.specs.TradesView.{IsTrades, TradesView, inputs_in}
use Rattle.plan_reader.specs.PlanView.{IsPlan, PlanView}
use Rattle.plan_reader.specs.declared.stage.Stage.{Stage}
use Rattle.pair_machine.specs.Edges.{edges_to, goes_to, merged_at, sent_by}
use Rattle.pair_machine.specs.Ingress.{last_stamp}
use Rattle.pair_machine.proofs.Egress.{stage_at}
use Rattle.pair_machine.proofs.Sending.{merged_part}
use Rattle.evaluation.specs.StageRows.{rows_to}
use Rattle.row_origin.specs.Origins.{rows_after}
use Rattle.item_counts.proofs.Marks.{ingress_signs, same_signs, signs}
use Rattle.item_counts.proofs.Rows.{rows_before, together}

-- what goes to a partition: its rows, and all marks and the end
length_goes : (stage : Stage) (q : ℕ) (is : List Item) → length (filter (goes_to stage q) is) ≡ length (rows_to stage q (rows_of is)) + signs is
length_goes stage q [] = refl
length_goes stage q (item.Row s r ∷ is) = go (route_of r stage.by stage.parts == q) (length_goes stage q is)
  where
    go : (b : Bool) → length (filter (goes_to stage q) is) ≡ length (rows_to stage q (rows_of is)) + signs is
        → length (if b then item.Row s r ∷ filter (goes_to stage q) is else filter (goes_to stage q) is) ≡ length (if b then r ∷ rows_to stage q (rows_of is) else rows_to stage q (rows_of is)) + signs is
    go true e = omega (arith, e)
    go false e = e
length_goes stage q (item.Mark s ∷ is) = omega (arith, length_goes stage q is)
length_goes stage q (item.End s ∷ is) = omega (arith, length_goes stage q is)

-- a partition of the stage at place s merges the rows that come to the stage and go there, a mark after each so many inputs, and the end
pub merged_count : (plan : PlanView) (trades : TradesView) → IsPlan plan → IsTrades trades → (trades.merged ≡ true → plan.version ≡ 2) → (s q : ℕ) (d : Stage) → s < length plan.stages
    → length (rows_to (get_or plan.stages s d) q (rows_after (take s plan.stages) trades.rows [])) + length trades.rows / plan.mark + 1 ≡ length (merged_at plan (inputs_in trades) (suc s) q)
merged_count plan trades limits good only s q d here =
    let inputs = inputs_in trades in
    let last = last_stamp inputs in
    let stage = get_or plan.stages s d in
    let sent = sent_by plan inputs s in
    let list = items (merged last sent) in
    let into : merged_at plan inputs (suc s) q ≡ merged last (edges_to (Some stage) q sent) = ap (λ found. merged last (edges_to found q sent)) (stage_at plan.stages s d here) in
    let count : length (merged_at plan inputs (suc s) q) ≡ length (filter (goes_to stage q) list) =
    ap length into ∙ sym (length-map (merged last (edges_to (Some stage) q sent)) (λ (place : Place). place.item)) ∙ ap length (merged_part stage q last sent) in
    let rows : length (rows_to stage q (rows_of list)) ≡ length (rows_to stage q (rows_after (take s plan.stages) trades.rows [])) =
    ap (λ (rs : List Row). length (rows_to stage q rs)) (rows_before plan trades limits good only s here) in
    let marks : signs list ≡ length trades.rows / plan.mark + 1 =
    same_signs plan inputs limits s ∙ ap signs (together plan trades limits good only) ∙ ingress_signs plan.mark trades.rows limits.mark_low in
    sums (length (merged_at plan inputs (suc s) q)) (length (filter (goes_to stage q) list)) (length (rows_to stage q (rows_of list))) (signs list)
    (length (rows_to stage q (rows_after (take s plan.stages) trades.rows []))) (length trades.rows / plan.mark) count (length_goes stage q list) rows marks
  where
    sums : (all goes came others rows marks : ℕ) → all ≡ goes → goes ≡ came + others → came ≡ rows → others ≡ marks + 1 → rows + marks + 1 ≡ all
    sums all goes came others rows marks a b c d = omega arith
