use Rattle.std.proofs.Common.{◌≡◌, ◌+◌, ◌-◌, ◌∙◌, ◌++◌, ◌∷◌, ℕ, suc, [], All, add-one, ap, arith, get_or, length, subst, sym}
use Rattle.std.proofs.lemmas.List.Elements.{All-weaker}
use Rattle.merge_order.specs.Merged.{items, merged}
use Rattle.trade_text.specs.TradesView.{IsInputRow, IsTrades, TradesView, inputs_in}
use Rattle.trade_text.proofs.Sources.{each_row}
use Rattle.stream_ops.proofs.AnswerLaws.{IsTimelyRow}
use Rattle.stream_ops.specs.Answers.{rows_of}
use Rattle.stream_ops.specs.Times.{IsTimely}
use Rattle.plan_reader.specs.PlanView.{IsPlan, IsStage, PlanView}
use Rattle.pair_machine.specs.Edges.{sent_by}
use Rattle.pair_machine.specs.Ingress.{last_stamp}
use Rattle.pair_machine.proofs.Egress.{output-is}
use Rattle.pair_machine.proofs.Times.{IsTimelyInput, merged_timely, sent_timely}
use Rattle.evaluation.specs.StageRows.{HasTime, early_replies, late_replies}
use Rattle.evaluation.proofs.ComingRows.{ComesTo}
use Rattle.evaluation.proofs.Coming.{first_comes, next_comes}
use Rattle.evaluation.proofs.StageRows.{early_times, late_times, rows_are}
use Rattle.evaluation.proofs.output.evaluate.Goals as goal

pub loop-stage-init : goal.loop-stage-init
loop-stage-init c =
    let plan = c.args.plan.now in
    let trades = c.args.trades.now in
    let stage = c.in-Some.first.now in
    let stages = stage ∷ c.in-Some.later.now in
    let whole : plan.stages ≡ stages = sym c.stages.ensures.value ∙ c.in-Some.ensures.cases.0 in
    next_comes plan (inputs_in trades) 0 stages stage trades.rows [] c.in_ok-rows.rows.early.items c.in_ok-rows.rows.late.items whole c.stages.ensures.limits (omega (arith, ap length whole))
    (first_comes plan trades c.stages.ensures.limits c.rows.ensures.limits c.requires.0)
    (c.in_ok-rows.ensures.early ∙ ap (early_replies stage []) c.rows.ensures.rows) (c.in_ok-rows.ensures.late ∙ ap (λ early. late_replies stage early [] 0 stage.parts) c.rows.ensures.rows)

-- the times of trades are within their limits
timely : (trades : TradesView) → IsTrades trades → All IsTimelyInput (inputs_in trades)
timely trades limits =
    each_row IsTimelyRow trades.rows trades.sources (All-weaker IsInputRow IsTimelyRow (λ row trade. (trade.time.low, trade.time.high)) trades.rows limits.rows)

items_timely : (plan : PlanView) (trades : TradesView) → IsPlan plan → IsTrades trades → (s : ℕ) → All IsTimely (items (merged (last_stamp (inputs_in trades)) (sent_by plan (inputs_in trades) s)))
items_timely plan trades limits good s =
    merged_timely (last_stamp (inputs_in trades)) (sent_by plan (inputs_in trades) s) (sent_timely plan (inputs_in trades) limits (timely trades good) s)

pub passed-requires-in-loop-stage-clause-stage : goal.passed-requires-in-loop-stage-clause-stage
passed-requires-in-loop-stage-clause-stage c =
    let whole : c.args.plan.now.stages ≡ c.in-Some.first.now ∷ c.in-Some.later.now = sym c.stages.ensures.value ∙ c.in-Some.ensures.cases.0 in
    subst (All IsStage) whole c.stages.ensures.limits.stages (suc c.loop-stage.stage-index) _ (omega (arith, c.loop-stage-test.true))

pub passed-requires-in-loop-stage-clause-early_times : goal.passed-requires-in-loop-stage-clause-early_times
passed-requires-in-loop-stage-clause-early_times c =
    let plan = c.args.plan.now in
    let trades = c.args.trades.now in
    let last = last_stamp (inputs_in trades) in
    let s = suc c.loop-stage.stage-index in
    subst (All HasTime) (sym c.deref.ensures.value)
    (early_times last (items (merged last (sent_by plan (inputs_in trades) s))) c.loop-stage.rows.early.items c.loop-stage.rows.late.items c.loop-stage.invariant.has
    (items_timely plan trades c.stages.ensures.limits c.rows.ensures.limits s))

pub passed-requires-in-loop-stage-clause-late_times : goal.passed-requires-in-loop-stage-clause-late_times
passed-requires-in-loop-stage-clause-late_times c =
    let plan = c.args.plan.now in
    let trades = c.args.trades.now in
    let last = last_stamp (inputs_in trades) in
    let s = suc c.loop-stage.stage-index in
    subst (All HasTime) (sym c.deref-in-loop-stage.ensures.value)
    (late_times last (items (merged last (sent_by plan (inputs_in trades) s))) c.loop-stage.rows.early.items c.loop-stage.rows.late.items c.loop-stage.invariant.has
    (items_timely plan trades c.stages.ensures.limits c.rows.ensures.limits s))

pub loop-stage-preserved : goal.loop-stage-preserved
loop-stage-preserved c =
    let plan = c.args.plan.now in
    let inputs = inputs_in c.args.trades.now in
    let k = c.loop-stage.stage-index in
    let later = c.in-Some.later.now in
    let early = c.loop-stage.rows.early.items in
    let late = c.loop-stage.rows.late.items in
    let new_early = c.in_ok-rows-2.rows.early.items in
    let new_late = c.in_ok-rows-2.rows.late.items in
    let whole : plan.stages ≡ c.in-Some.first.now ∷ later = sym c.stages.ensures.value ∙ c.in-Some.ensures.cases.0 in
    let by_row = c.in_ok-rows-2.ensures.early ∙ ap (early_replies (get_or later k _) []) c.deref.ensures.value in
    let at_end = c.in_ok-rows-2.ensures.late ∙ (ap (λ rows. late_replies (get_or later k _) rows c.deref-in-loop-stage.result.now 0 (get_or later k _).parts) c.deref.ensures.value
    ∙ ap (λ rows. late_replies (get_or later k _) early rows 0 (get_or later k _).parts) c.deref-in-loop-stage.ensures.value) in
    subst (λ n. ComesTo plan inputs (suc n) new_early new_late) (sym (add-one k))
    (next_comes plan inputs (suc k) (c.in-Some.first.now ∷ later) _ early late new_early new_late whole c.stages.ensures.limits (omega (arith, c.loop-stage-test.true, ap length whole)) c.loop-stage.invariant by_row at_end)

pub returns : goal.returns
returns c =
    let plan = c.args.plan.now in
    let inputs = inputs_in c.args.trades.now in
    let last = last_stamp inputs in
    let k = c.loop-stage.stage-index in
    let early = c.loop-stage.rows.early.items in
    let late = c.loop-stage.rows.late.items in
    let whole : plan.stages ≡ c.in-Some.first.now ∷ c.in-Some.later.now = sym c.stages.ensures.value ∙ c.in-Some.ensures.cases.0 in
    let all : suc k ≡ length plan.stages = omega (arith, c.loop-stage-test.false, c.loop-stage.auto.stage-index-end, ap length whole) in
    c.in_ok-extend_from_slice.ensures.items
    ∙ (ap (λ x. early ++ x) c.deref-2.ensures.value
    ∙ (sym (rows_are last (items (merged last (sent_by plan inputs (suc k)))) early late c.loop-stage.invariant.has)
    ∙ (ap (λ n. rows_of (items (merged last (sent_by plan inputs n)))) all ∙ sym (output-is plan inputs))))
