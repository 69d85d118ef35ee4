-- The rows that the last stage passes on are those that the plan gives.
use Rattle.std.proofs.Common.{◌≡◌, ◌<◌, ◌+◌, ◌-◌, ◌∙◌, ◌∷◌, ℕ, suc, [], List, ap, arith, drop, get_or, length, refl, sym}
use Rattle.std.proofs.lemmas.List.{drop_more}
use Rattle.tuple_edge.specs.Input.{Input}
use Rattle.tuple_edge.specs.declared.row.Row.{Row}
use Rattle.merge_order.specs.Merged.{items, merged}
use Rattle.trade_text.specs.TradesView.{inputs_in}
use Rattle.stream_ops.specs.Answers.{rows_of}
use Rattle.plan_reader.specs.PlanView.{IsPlan, PlanView}
use Rattle.plan_reader.specs.declared.stage.Stage.{Stage}
use Rattle.pair_machine.specs.Edges.{sent_by}
use Rattle.pair_machine.specs.Ingress.{last_stamp}
use Rattle.pair_machine.proofs.Egress.{output-is}
use Rattle.evaluation.specs.StageRows.{early_replies, late_replies}
use Rattle.evaluation.proofs.ComingRows.{ComesTo}
use Rattle.evaluation.proofs.Coming.{first_comes, next_comes}
use Rattle.evaluation.proofs.StageRows.{rows_are}
use Rattle.row_origin.specs.Laws.{RowsAreTheOutput}
use Rattle.row_origin.specs.Origins.{rows_after}

-- the first of what is left
front_is : (xs : List Stage) (s : ℕ) (x : Stage) (rest : List Stage) → s < length xs → drop s xs ≡ x ∷ rest → (get_or xs s x ≡ x) × (drop (s + 1) xs ≡ rest)
front_is xs s x rest l e = let split : get_or xs s x ∷ drop (s + 1) xs ≡ x ∷ rest = sym (drop_more xs s x l) ∙ e in (heads split, tails split)
  where
    heads : {a b : Stage} {more others : List Stage} → a ∷ more ≡ b ∷ others → a ≡ b
    heads e = cc

    tails : {a b : Stage} {more others : List Stage} → a ∷ more ≡ b ∷ others → more ≡ others
    tails e = cc

-- the rows after the stages that are left
after : (plan : PlanView) (inputs : List Input) (limits : IsPlan plan) (stages : List Stage) (s : ℕ) (early late : List Row) → drop s plan.stages ≡ stages → s + length stages ≡ length plan.stages
    → ComesTo plan inputs s early late → rows_after stages early late ≡ rows_of (items (merged (last_stamp inputs) (sent_by plan inputs (length plan.stages))))
after plan inputs limits [] s early late left size h =
    let all : s ≡ length plan.stages = omega arith in
    sym (rows_are (last_stamp inputs) (items (merged (last_stamp inputs) (sent_by plan inputs s))) early late h.has)
    ∙ ap (λ (n : ℕ). rows_of (items (merged (last_stamp inputs) (sent_by plan inputs n)))) all
after plan inputs limits (stage ∷ stages) s early late left size h =
    let here : s < length plan.stages = omega arith in
    let front = front_is plan.stages s stage stages here left in
    let one : suc s ≡ s + 1 = omega arith in
    after plan inputs limits stages (suc s) (early_replies stage [] early) (late_replies stage early late 0 stage.parts) (ap (λ (n : ℕ). drop n plan.stages) one ∙ front.1) (omega arith)
    (next_comes plan inputs s plan.stages stage early late (early_replies stage [] early) (late_replies stage early late 0 stage.parts) refl limits here h
    (ap (λ (st : Stage). early_replies st [] early) (sym front.0)) (ap (λ (st : Stage). late_replies st early late 0 st.parts) (sym front.0)))

pub output_rows : RowsAreTheOutput
output_rows plan trades limits good only =
    after plan (inputs_in trades) limits plan.stages 0 trades.rows [] refl (omega arith) (first_comes plan trades limits good only) ∙ sym (output-is plan (inputs_in trades))
