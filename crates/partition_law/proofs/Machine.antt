-- The output of a plan is what its stages give, one after the other.
use Rattle.std.proofs.Common.{◌≡◌, ◌<◌, ◌≤◌, ◌+◌, ◌-◌, ◌∙◌, ◌++◌, ◌∷◌, ℕ, suc, true, false, [], All, List, add-one, ap, arith, drop, get_or, length, refl, subst, sym, take}
use Rattle.std.proofs.Math.Seq.{drop-cons}
use Rattle.std.proofs.lemmas.List.{get_or-take, length-map, length-take-le}
use Rattle.tuple_edge.specs.Input.{Input}
use Rattle.tuple_edge.specs.declared.item.Item.{Item}
use Rattle.tuple_edge.specs.declared.row.Row.{Row}
use Rattle.merge_order.specs.Merged.{items, merged}
use Rattle.op_spec.specs.Spec.{most_rows}
use Rattle.trade_text.specs.TradesView.{IsTrades, TradesView, inputs_in}
use Rattle.trade_text.proofs.Sources.{rows_paired, sources_within}
use Rattle.stream_ops.proofs.AnswerLaws.{most_rows-plain}
use Rattle.stream_ops.specs.Answers.{rows_of}
use Rattle.plan_reader.specs.PlanView.{IsPlan, PlanView, is_joining}
use Rattle.plan_reader.specs.declared.stage.Stage.{Stage}
use Rattle.pair_machine.specs.Edges.{sent_by, sent_by_stage}
use Rattle.pair_machine.specs.Ingress.{last_stamp, sent_together}
use Rattle.pair_machine.specs.Output.{output}
use Rattle.pair_machine.proofs.Egress.{output-is, stage_at}
use Rattle.pair_machine.proofs.Stages.{sent_by-next, stages_have_parts}
use Rattle.pair_machine.proofs.Together.{merge_in_order}
use Rattle.evaluation.specs.StageRows.{early_replies, late_replies}
use Rattle.evaluation.proofs.StageRows.{ingress_rows, rows_are, stage_rows}
use Rattle.partition_law.proofs.Stages.{early_through, late_through}
use Rattle.evaluation.proofs.ComingRows.{ComesTo, HasRows, Rises, tail_of}

-- the same rows of another list that is equal
of_equal : (last : ℕ) (list other : List Item) (early late : List Row) (rising : Type 0) → other ≡ list → (h : HasRows last list early late) → (rising → Rises last h.front)
    → (new : HasRows last other early late) × (rising → Rises last new.front)
of_equal last list other early late rising same h rises = (record { front = h.front; whole = same ∙ h.whole; rows = h.rows }, rises)

-- no stage before the last one joins
plain_before : (plan : PlanView) (s : ℕ) (d : Stage) → IsPlan plan → s + 1 < length plan.stages → is_joining (get_or plan.stages s d) ≡ false
plain_before plan s d limits l =
    let front : List Stage = take (length plan.stages - 1) plan.stages in
    let inside : s < length front = omega (arith, length-take-le (length plan.stages - 1) plan.stages (omega arith)) in
    subst (λ (stage : Stage). is_joining stage ≡ false) (get_or-take (length plan.stages - 1) plan.stages s d (omega arith)) (limits.join_last s d inside)

-- what comes to the first stage is the trades' rows
first : (plan : PlanView) (trades : TradesView) → IsPlan plan → IsTrades trades → (trades.merged ≡ true → plan.version ≡ 2) → ComesTo plan (inputs_in trades) 0 trades.rows []
first plan trades limits good only =
    let inputs = inputs_in trades in
    let many : length inputs ≡ length trades.rows = sym (length-map inputs (λ (input : Input). input.row)) ∙ ap length (rows_paired trades.rows trades.sources) in
    let together : items (merged (last_stamp inputs) (sent_by plan inputs 0)) ≡ sent_together plan.mark 1 trades.rows =
    merge_in_order plan inputs limits (sources_within trades plan.version good limits.version_low only) ∙ ap (sent_together plan.mark 1) (rows_paired trades.rows trades.sources) in
    let sent = ingress_rows (last_stamp inputs) plan.mark trades.rows (omega (arith, many)) in
    let comes = of_equal (last_stamp inputs) (sent_together plan.mark 1 trades.rows) (items (merged (last_stamp inputs) (sent_by plan inputs 0))) trades.rows []
    (0 < length plan.stages) together sent.0 (λ l. sent.1) in
    record { has = comes.0; rises = comes.1 }

-- what comes to the next one is what a stage answers
next : (plan : PlanView) (inputs : List Input) (s : ℕ) (d : Stage) (early late : List Row) → IsPlan plan → s < length plan.stages → ComesTo plan inputs s early late
    → ComesTo plan inputs (suc s) (early_replies (get_or plan.stages s d) [] early) (late_replies (get_or plan.stages s d) early late 0 (get_or plan.stages s d).parts)
next plan inputs s d early late limits here h =
    let last = last_stamp inputs in
    let stage = get_or plan.stages s d in
    let some : 1 ≤ stage.parts = stages_have_parts plan limits s d here in
    let sends = stage_rows last (sent_by plan inputs s) stage early late (omega arith) some h.has (h.rises here) in
    let few : suc s < length plan.stages → most_rows stage.op ≤ 1 = λ l. omega (arith, most_rows-plain stage.op (plain_before plan s d limits (omega arith))) in
    let comes = of_equal last (items (merged last (sent_by_stage last (sent_by plan inputs s) stage))) (items (merged last (sent_by plan inputs (suc s))))
    (early_replies stage [] early) (late_replies stage early late 0 stage.parts) (suc s < length plan.stages)
    (ap (λ es. items (merged last es)) (sent_by-next plan inputs s stage (stage_at plan.stages s d here)))
    sends.0 (λ l. sends.1 (few l)) in
    record { has = comes.0; rises = comes.1 }

-- the output is what the stages from one on give of the rows that come to it
from_stage : (plan : PlanView) (inputs : List Input) (s : ℕ) (stages : List Stage) (early late : List Row) → IsPlan plan → drop s plan.stages ≡ stages → s + length stages ≡ length plan.stages
    → ComesTo plan inputs s early late → output plan inputs ≡ early_through stages early ++ late_through stages early late
from_stage plan inputs s [] early late limits behind all h =
    let last = last_stamp inputs in
    output-is plan inputs
    ∙ ap (λ n. rows_of (items (merged last (sent_by plan inputs n)))) (omega (arith, all))
    ∙ rows_are last (items (merged last (sent_by plan inputs s))) early late h.has
from_stage plan inputs s (stage ∷ stages) early late limits behind all h =
    let here : s < length plan.stages = omega (arith, all) in
    let two : get_or plan.stages s stage ∷ drop (suc s) plan.stages ≡ stage ∷ stages = sym (drop-cons plan.stages s stage here) ∙ behind in
    let same : get_or plan.stages s stage ≡ stage = cc two in
    let rest : drop (suc s) plan.stages ≡ stages = cc two in
    let comes : ComesTo plan inputs (suc s) (early_replies stage [] early) (late_replies stage early late 0 stage.parts) =
    subst (λ (t : Stage). ComesTo plan inputs (suc s) (early_replies t [] early) (late_replies t early late 0 t.parts)) same (next plan inputs s stage early late limits here h) in
    from_stage plan inputs (suc s) stages (early_replies stage [] early) (late_replies stage early late 0 stage.parts) limits rest (omega (arith, all)) comes

pub output_through : (plan : PlanView) (trades : TradesView) → IsPlan plan → IsTrades trades → (trades.merged ≡ true → plan.version ≡ 2)
    → output plan (inputs_in trades) ≡ early_through plan.stages trades.rows ++ late_through plan.stages trades.rows []
output_through plan trades limits good takes = from_stage plan (inputs_in trades) 0 plan.stages trades.rows [] limits refl (omega arith) (first plan trades limits good takes)
