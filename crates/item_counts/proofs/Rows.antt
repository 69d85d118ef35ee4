-- The rows that come to a stage are those that the stages before it pass on.
use Rattle.std.proofs.Common.{◌≡◌, ◌<◌, ◌%◌, ◌==◌, ℕ, zero, suc, Bool, true, false, List, [], ◌∷◌, ◌++◌, ◌+◌, length, refl, sym, ap, ◌∙◌, arith, take}
use Rattle.std.specs.Prelude.{if◌then◌else◌}
use Rattle.std.proofs.lemmas.List.{append-nil}
use Rattle.tuple_edge.specs.declared.item.Item.{Item}
use Rattle.tuple_edge.specs.declared.item.Item.TheVariants as item
use Rattle.tuple_edge.specs.declared.row.Row.{Row}
use Rattle.merge_order.specs.Merged.{items, merged}
use Rattle.stream_ops.specs.Answers.{rows_of}
use Rattle.trade_text.proofs.Sources.{rows_paired, sources_within}
use Rattle.trade_text.specs.TradesView.{IsTrades, TradesView, inputs_in}
use Rattle.plan_reader.specs.PlanView.{IsPlan, PlanView}
use Rattle.pair_machine.specs.Edges.{sent_by}
use Rattle.pair_machine.specs.Ingress.{last_stamp, sent_together}
use Rattle.pair_machine.proofs.Egress.{output-is}
use Rattle.pair_machine.proofs.Together.{merge_in_order}
use Rattle.row_origin.specs.Origins.{rows_after}
use Rattle.row_origin.proofs.Output.{output_rows}
use Rattle.item_counts.proofs.Front.{front, front_is_plan, front_sends}

-- what the sources of ingress send together, of the trades' rows
pub together : (plan : PlanView) (trades : TradesView) → IsPlan plan → IsTrades trades → (trades.merged ≡ true → plan.version ≡ 2)
    → items (merged (last_stamp (inputs_in trades)) (sent_by plan (inputs_in trades) 0)) ≡ sent_together plan.mark 1 trades.rows
together plan trades limits good only =
    merge_in_order plan (inputs_in trades) limits (sources_within trades plan.version good limits.version_low only) ∙ ap (sent_together plan.mark 1) (rows_paired trades.rows trades.sources)

-- its rows
rows_together : (mark n : ℕ) (rows : List Row) → rows_of (sent_together mark n rows) ≡ rows
rows_together mark n [] = refl
rows_together mark n (r ∷ rows) = ap (λ (rs : List Row). r ∷ rs) (behind (n % mark == 0) ∙ rows_together mark (n + 1) rows)
  where
    behind : (b : Bool) → rows_of ((if b then item.Mark n ∷ [] else []) ++ sent_together mark (n + 1) rows) ≡ rows_of (sent_together mark (n + 1) rows)
    behind true = refl
    behind false = refl

pub rows_before : (plan : PlanView) (trades : TradesView) → IsPlan plan → IsTrades trades → (trades.merged ≡ true → plan.version ≡ 2) → (s : ℕ) → s < length plan.stages
    → rows_of (items (merged (last_stamp (inputs_in trades)) (sent_by plan (inputs_in trades) s))) ≡ rows_after (take s plan.stages) trades.rows []
rows_before plan trades limits good only zero here = ap rows_of (together plan trades limits good only) ∙ rows_together plan.mark 1 trades.rows ∙ sym (append-nil trades.rows)
rows_before plan trades limits good only (suc s) here =
    let inputs = inputs_in trades in
    let first : PlanView = front plan (suc s) in
    ap (λ (sent : List (List Item)). rows_of (items (merged (last_stamp inputs) sent))) (sym (front_sends plan inputs (suc s)))
    ∙ sym (output-is first inputs)
    ∙ sym (output_rows first trades (front_is_plan plan (suc s) limits (omega arith) here) good only)
