use Rattle.std.proofs.Common.{◌≡◌, ◌<◌, ◌≤◌, ◌+◌, ◌-◌, ◌/◌, ◌∙◌, ℕ, suc, true, [], List, ap, arith, drop, get_or, length, take}
use Rattle.std.proofs.lemmas.List.{get_or-drop}
use Rattle.tuple_edge.specs.declared.row.Row.{Row}
use Rattle.plan_reader.specs.PlanView.{IsPlan, PlanView}
use Rattle.plan_reader.specs.declared.stage.Stage.{Stage}
use Rattle.trade_text.specs.TradesView.{IsTrades, TradesView, inputs_in}
use Rattle.pair_machine.specs.Edges.{merged_at}
use Rattle.evaluation.specs.StageRows.{rows_to}
use Rattle.row_origin.specs.Origins.{rows_after}
use Rattle.item_counts.proofs.Counts.{merged_count}
use Rattle.item_counts.proofs.merged.items_merged.Goals as goal

-- the rows of the partition, of those that come to the stage, and the marks and the end
counted : (plan : PlanView) (trades : TradesView) → IsPlan plan → IsTrades trades → (trades.merged ≡ true → plan.version ≡ 2) → (number part : ℕ) (back : List Stage) (rows : List Row) (d : Stage)
    (count inputs mark : ℕ) → 1 ≤ number → number ≤ length plan.stages → back ≡ drop (number - 1) plan.stages → rows ≡ rows_after (take (number - 1) plan.stages) trades.rows []
    → count ≡ length (rows_to (get_or back 0 d) part rows) → inputs ≡ length trades.rows → mark ≡ plan.mark → count + inputs / mark + 1 ≡ length (merged_at plan (inputs_in trades) number part)
counted plan trades limits good only number part back rows d count inputs mark some there behind came is many marked =
    let s : ℕ = number - 1 in
    let here : s < length plan.stages = omega (arith, some, there) in
    let zero_more : s + 0 ≡ s = omega arith in
    let stage : get_or back 0 d ≡ get_or plan.stages s d =
    ap (λ (ss : List Stage). get_or ss 0 d) behind ∙ get_or-drop s plan.stages 0 d ∙ ap (λ (n : ℕ). get_or plan.stages n d) zero_more in
    let to_part : count ≡ length (rows_to (get_or plan.stages s d) part (rows_after (take s plan.stages) trades.rows [])) =
    is ∙ (λ j. length (rows_to (stage j) part (came j))) in
    let next : suc s ≡ number = omega (arith, some) in
    (λ j. to_part j + many j / marked j + 1) ∙ merged_count plan trades limits good only s part d here ∙ ap (λ (n : ℕ). length (merged_at plan (inputs_in trades) n part)) next

pub returns : goal.returns
returns c =
    let stages : c.stages.result.now ≡ c.args.plan.now.stages = c.stages.ensures.value in
    let came = c.deref.ensures.value ∙ c.in_ok-rows.ensures ∙ (λ j. rows_after (c.split_at.ensures.front j) ((c.in_ok-from_slice.ensures.items ∙ c.rows.ensures.rows) j) [])
    ∙ ap (λ (ss : List Stage). rows_after (take (c.args.stage - 1) ss) c.args.trades.now.rows []) stages in
    counted c.args.plan.now c.args.trades.now c.stages.ensures.limits c.rows.ensures.limits c.requires.merged.0 c.args.stage c.args.part c.split_at.result.1.now c.deref.result.now _
    c.count_to.result (length c.rows-2.result.now) c.mark.result c.requires.some c.requires.there (c.split_at.ensures.back ∙ ap (drop (c.args.stage - 1)) stages) came
    c.count_to.ensures.count (ap length c.rows-2.ensures.rows) c.mark.ensures.value
