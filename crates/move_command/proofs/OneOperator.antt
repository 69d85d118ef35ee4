-- The output of a plan that is by key is what one operator answers.
use Rattle.std.proofs.Common.{ℕ, zero, suc, ◌≡◌, ◌≤◌, ◌<◌, ◌+◌, true, List, [], ◌∷◌, ◌++◌, length, refl, sym, ap, subst, ◌∙◌, arith}
use Rattle.std.specs.Prelude.{All, ◌==◌, ◌&&◌, slice_get}
use Rattle.std.proofs.lemmas.Bool.{and_parts, eqb-true, false≢true}
use Rattle.std.proofs.lemmas.List.{append-nil, length-map}
use Rattle.std.proofs.lemmas.List.Elements.{All-cons, All-head, All-nil}
use Rattle.tuple_edge.specs.Input.{Input, from_first, rows_in}
use Rattle.tuple_edge.specs.declared.item.Item.{Item}
use Rattle.tuple_edge.specs.declared.row.Column.{Column}
use Rattle.tuple_edge.specs.declared.row.Row.{Row}
use Rattle.merge_order.specs.Merged.{items, merged}
use Rattle.op_spec.specs.declared.spec.OpSpec.{OpSpec}
use Rattle.op_spec.specs.declared.spec.OpSpec.TheVariants as op
use Rattle.stream_ops.specs.Answers.{answers, end_answer, row_answer, rows_of}
use Rattle.plan_reader.specs.PlanView.{IsPlan, IsStage, PlanView}
use Rattle.plan_reader.specs.declared.stage.Stage.{Stage}
use Rattle.pair_machine.specs.Edges.{sent_by, sent_by_stage}
use Rattle.pair_machine.specs.Ingress.{last_stamp, sent_by_ingress, sent_together}
use Rattle.pair_machine.specs.Output.{output}
use Rattle.pair_machine.proofs.Egress.{output-is}
use Rattle.pair_machine.proofs.Stages.{sent_by-next}
use Rattle.pair_machine.proofs.Together.{merge_in_order}
use Rattle.trade_text.specs.Inputs.{inputs_of}
use Rattle.evaluation.specs.StageRows.{alike, early_replies, late_replies, rows_to}
use Rattle.evaluation.proofs.StageRows.{ingress_rows, rows_are, stage_rows}
use Rattle.bucket_move.specs.ByKey.{is_by_key, is_keyed, is_one_keyed}
use Rattle.bucket_move.specs.Rows.{items_of}
use Rattle.bucket_move.proofs.ByKeyAnswers.{row_answer-part}
use Rattle.bucket_move.proofs.StatesAfter.{items_of-push}
use Rattle.move_command.specs.Laws.{OneOperatorAnswers}
use Rattle.evaluation.proofs.ComingRows.{HasRows}

-- ---- what the stage answers

no_end_answer : (c : Column) (spec : OpSpec) (before : List Item) → is_keyed c spec ≡ true → end_answer spec before ≡ []
no_end_answer c (op.Keep of compare limit) before keyed = refl
no_end_answer c (op.Total key) before keyed = refl
no_end_answer c (op.Last key n) before keyed = refl
no_end_answer c (op.Window key width) before keyed = absurd (false≢true keyed)
no_end_answer c (op.Crossing key limit) before keyed = refl
no_end_answer c (op.Join key width n of compare limit) before keyed = absurd (false≢true keyed)

module _ (stage : Stage) (keyed : is_keyed stage.by stage.op ≡ true) where
  -- a row is answered from the rows of its partition as from all
  early_are : (before rows : List Row) → early_replies stage before rows ≡ answers stage.op (items_of before) (items_of rows)
  early_are before [] = refl
  early_are before (r ∷ rows) =
      ap (λ (a : List Row). a ++ early_replies stage (before ++ r ∷ []) rows) (row_answer-part stage.by stage.parts stage.op before r keyed)
      ∙ ap (λ (b : List Row). row_answer stage.op (items_of before) r ++ b)
      (early_are (before ++ r ∷ []) rows ∙ ap (λ (had : List Item). answers stage.op had (items_of rows)) (items_of-push before r))

  -- and the end is not answered
  no_late : (early : List Row) (q n : ℕ) → late_replies stage early [] q n ≡ []
  no_late early q zero = refl
  no_late early q (suc n) =
      ap (λ (a : List Row). (a ++ []) ++ late_replies stage early [] (q + 1) n) (no_end_answer stage.by stage.op (alike (rows_to stage q early)) keyed)
      ∙ no_late early (q + 1) n

-- ---- what comes to it

from_first_rows : (rows : List Row) → rows_in (from_first rows) ≡ rows
from_first_rows [] = refl
from_first_rows (r ∷ rows) = ap (λ rs. r ∷ rs) (from_first_rows rows)

all_first : (rows : List Row) → All (λ (input : Input). input.source < 1) (from_first rows)
all_first [] = All-nil (λ (input : Input). input.source < 1)
all_first (r ∷ rows) = All-cons (λ (input : Input). input.source < 1) (record { source = 0; row = r }) (from_first rows) (omega arith) (all_first rows)

-- a plan that is by key is of version 1, and its stage is by key
by_key_parts : (plan : PlanView) (stage : Stage) → is_by_key plan ≡ true → plan.stages ≡ stage ∷ [] → (plan.version ≡ 1) × (is_keyed stage.by stage.op ≡ true)
by_key_parts plan stage by_key one =
    let by_key_one : ((plan.version == 1) && is_one_keyed (stage ∷ [])) ≡ true = ap (λ ss. (plan.version == 1) && is_one_keyed ss) (sym one) ∙ by_key in
    let parts = and_parts (plan.version == 1) (is_keyed stage.by stage.op) by_key_one in
    (eqb-true plan.version 1 parts.0, parts.1)

inputs_are : (plan : PlanView) (rows : List Row) → plan.version ≡ 1 → inputs_of plan.version rows [] ≡ from_first rows
inputs_are plan rows version = ap (λ v. inputs_of v rows []) version

module _ (plan : PlanView) (stage : Stage) (rows : List Row) (limits : IsPlan plan) (version : plan.version ≡ 1) (one : plan.stages ≡ stage ∷ []) where
  abbrev inputs : List Input
  inputs = from_first rows

  many : 1 + length rows ≡ last_stamp inputs
  many = let same : length inputs ≡ length rows = length-map rows (λ (row : Row). let input : Input = record { source = 0; row = row } in input) in omega (arith, same)

  abbrev sent : List (List Item)
  sent = sent_by_ingress plan inputs

  together : items (merged (last_stamp inputs) sent) ≡ sent_together plan.mark 1 rows
  together =
      merge_in_order plan inputs limits (subst (λ (v : ℕ). All (λ (input : Input). input.source < v) inputs) (sym version) (all_first rows))
      ∙ ap (sent_together plan.mark 1) (from_first_rows rows)

  some : 1 ≤ stage.parts
  some = let stages : All IsStage (stage ∷ []) = subst (λ (ss : List Stage). All IsStage ss) one limits.stages in (All-head IsStage stage [] stages).some

  -- what the stage sends
  replies : rows_of (items (merged (last_stamp inputs) (sent_by_stage (last_stamp inputs) sent stage))) ≡ early_replies stage [] rows ++ late_replies stage rows [] 0 stage.parts
  replies =
      let last = last_stamp inputs in
      let given = ingress_rows last plan.mark rows many in
      let h : HasRows last (items (merged last sent)) rows [] = record { front = given.0.front; whole = together ∙ given.0.whole; rows = given.0.rows } in
      let sends = stage_rows last sent stage rows [] (omega (arith, many)) some h given.1 in
      rows_are last (items (merged last (sent_by_stage last sent stage))) (early_replies stage [] rows) (late_replies stage rows [] 0 stage.parts) sends.0

  output_is : output plan inputs ≡ early_replies stage [] rows ++ late_replies stage rows [] 0 stage.parts
  output_is =
      let last = last_stamp inputs in
      output-is plan inputs
      ∙ ap (λ (n : ℕ). rows_of (items (merged last (sent_by plan inputs n)))) (ap length one)
      ∙ ap (λ (es : List (List Item)). rows_of (items (merged last es))) (sent_by-next plan inputs 0 stage (ap (λ (ss : List Stage). slice_get ss 0) one))
      ∙ replies

pub one_operator : OneOperatorAnswers
one_operator plan stage rows limits by_key one =
    let parts = by_key_parts plan stage by_key one in
    ap (output plan) (inputs_are plan rows parts.0)
    ∙ output_is plan stage rows limits parts.0 one
    ∙ ap (λ (back : List Row). early_replies stage [] rows ++ back) (no_late stage parts.1 rows 0 stage.parts)
    ∙ append-nil (early_replies stage [] rows)
    ∙ early_are stage parts.1 [] rows
