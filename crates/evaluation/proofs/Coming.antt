-- What comes to the stages of a plan that is fed with trades, one stage after the other.
use Rattle.std.proofs.Common.{◌≡◌, ◌<◌, ◌≤◌, ◌+◌, ◌-◌, ◌∙◌, ◌++◌, ℕ, suc, true, false, [], List, ap, arith, get_or, length, refl, subst, sym, take}
use Rattle.std.proofs.lemmas.List.{get_or-take, length-map, length-take-le}
use Rattle.tuple_edge.specs.Input.{Input}
use Rattle.tuple_edge.specs.declared.item.Item.{Item}
use Rattle.tuple_edge.specs.declared.row.Row.{Row}
use Rattle.merge_order.specs.Merged.{items, merged}
use Rattle.trade_text.specs.TradesView.{IsTrades, TradesView, inputs_in}
use Rattle.trade_text.proofs.Sources.{rows_paired, sources_within}
use Rattle.stream_ops.proofs.AnswerLaws.{most_rows-plain}
use Rattle.stream_ops.specs.Spec.{most_rows}
use Rattle.plan_reader.specs.PlanView.{IsPlan, PlanView, is_joining}
use Rattle.plan_reader.specs.declared.stage.Stage.{Stage}
use Rattle.pair_machine.specs.Edges.{sent_by, sent_by_stage}
use Rattle.pair_machine.specs.Ingress.{last_stamp, sent_together}
use Rattle.pair_machine.proofs.Egress.{stage_at}
use Rattle.pair_machine.proofs.Stages.{sent_by-next, stages_have_parts}
use Rattle.pair_machine.proofs.Together.{merge_in_order}
use Rattle.evaluation.specs.StageRows.{early_replies, late_replies}
use Rattle.evaluation.proofs.ComingRows.{ComesTo, HasRows, Rises, tail_of}
use Rattle.evaluation.proofs.StageRows.{ingress_rows, stage_rows}

-- the same list and rows
same_rows : (last : ℕ) (list other : List Item) (early first late rest : List Row) (rising : Type 0) → other ≡ list → first ≡ early → rest ≡ late
    → (h : HasRows last list early late) → (rising → Rises last h.front) → (new : HasRows last other first rest) × (rising → Rises last new.front)
same_rows last list other early first late rest rising l e f h rises =
    (record { front = h.front; whole = l ∙ (h.whole ∙ ap (λ x. h.front ++ tail_of last x) (sym f)); rows = h.rows ∙ sym e }, rises)

-- no stage before the last one joins
plain_before : (plan : PlanView) (s : ℕ) (d : Stage) → IsPlan plan → s + 1 < length plan.stages → is_joining (get_or plan.stages s d) ≡ false
plain_before plan s d limits l =
    let front : List Stage = take (length plan.stages - 1) plan.stages in
    let inside : s < length front = omega (arith, length-take-le (length plan.stages - 1) plan.stages (omega arith)) in
    subst (λ (stage : Stage). is_joining stage ≡ false) (get_or-take (length plan.stages - 1) plan.stages s d (omega arith)) (limits.join_last s d inside)

-- What comes to the first stage is the trades' rows.
pub first_comes : (plan : PlanView) (trades : TradesView) → IsPlan plan → IsTrades trades → (trades.merged ≡ true → plan.version ≡ 2) → ComesTo plan (inputs_in trades) 0 trades.rows []
first_comes plan trades limits good only =
    let inputs = inputs_in trades in
    let many : length inputs ≡ length trades.rows = sym (length-map inputs (λ (input : Input). input.row)) ∙ ap length (rows_paired trades.rows trades.sources) in
    let together : items (merged (last_stamp inputs) (sent_by plan inputs 0)) ≡ sent_together plan.mark 1 trades.rows =
    merge_in_order plan inputs limits (sources_within trades plan.version good limits.version_low only) ∙ ap (sent_together plan.mark 1) (rows_paired trades.rows trades.sources) in
    let sent = ingress_rows (last_stamp inputs) plan.mark trades.rows (omega (arith, many)) in
    let comes = same_rows (last_stamp inputs) (sent_together plan.mark 1 trades.rows) (items (merged (last_stamp inputs) (sent_by plan inputs 0))) trades.rows trades.rows [] []
    (0 < length plan.stages) together refl refl sent.0 (λ l. sent.1) in
    record { has = comes.0; rises = comes.1 }

-- one stage more
pub next_comes : (plan : PlanView) (inputs : List Input) (s : ℕ) (stages : List Stage) (d : Stage) (early late new_early new_late : List Row) → plan.stages ≡ stages → IsPlan plan → s < length plan.stages
    → ComesTo plan inputs s early late → new_early ≡ early_replies (get_or stages s d) [] early → new_late ≡ late_replies (get_or stages s d) early late 0 (get_or stages s d).parts
    → ComesTo plan inputs (suc s) new_early new_late
next_comes plan inputs s stages d early late new_early new_late same limits here h by_row at_end =
    let last = last_stamp inputs in
    let stage = get_or plan.stages s d in
    let some : 1 ≤ stage.parts = stages_have_parts plan limits s d here in
    let sends = stage_rows last (sent_by plan inputs s) stage early late (omega arith) some h.has (h.rises here) in
    let few : suc s < length plan.stages → most_rows stage.op ≤ 1 = λ l. omega (arith, most_rows-plain stage.op (plain_before plan s d limits (omega arith))) in
    let comes = same_rows last (items (merged last (sent_by_stage last (sent_by plan inputs s) stage))) (items (merged last (sent_by plan inputs (suc s))))
    (early_replies stage [] early) new_early (late_replies stage early late 0 stage.parts) new_late (suc s < length plan.stages)
    (ap (λ es. items (merged last es)) (sent_by-next plan inputs s stage (stage_at plan.stages s d here)))
    (by_row ∙ ap (λ (ss : List Stage). early_replies (get_or ss s d) [] early) (sym same))
    (at_end ∙ ap (λ (ss : List Stage). late_replies (get_or ss s d) early late 0 (get_or ss s d).parts) (sym same))
    sends.0 (λ l. sends.1 (few l)) in
    record { has = comes.0; rises = comes.1 }
