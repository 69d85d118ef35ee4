-- What comes to egress is all that the last stage sends.
use Rattle.std.proofs.Common.{◌≡◌, ◌<◌, ℕ, zero, suc, List, [], ◌∷◌, ◌∙◌, None, Some, ap, arith, get_or, length, refl}
use Rattle.std.specs.Prelude.{slice_get}
use Rattle.tuple_edge.specs.declared.item.Item.{Item}
use Rattle.tuple_edge.specs.Input.{Input}
use Rattle.merge_order.specs.Merged.{items, merged}
use Rattle.stream_ops.specs.Answers.{rows_of}
use Rattle.plan_reader.specs.PlanView.{PlanView}
use Rattle.plan_reader.specs.declared.stage.Stage.{Stage}
use Rattle.pair_machine.specs.Ingress.{last_stamp}
use Rattle.pair_machine.specs.Edges.{edges_to, sent_by}
use Rattle.pair_machine.specs.Output.{output}

pub stage_at : (stages : List Stage) (s : ℕ) (d : Stage) → s < length stages → slice_get stages s ≡ Some (get_or stages s d)
stage_at [] s d l = absurd (omega arith)
stage_at (x ∷ stages) zero d l = refl
stage_at (x ∷ stages) (suc s) d l = stage_at stages s d (omega arith)

no_stage : (stages : List Stage) → slice_get stages (length stages) ≡ None
no_stage [] = refl
no_stage (x ∷ stages) = no_stage stages

all_goes : (t : ℕ) (sent : List (List Item)) → edges_to None t sent ≡ sent
all_goes t [] = refl
all_goes t (e ∷ sent) = ap (λ x. e ∷ x) (all_goes t sent)

-- the output is the rows of the merged list of what the last stage sends
pub output-is : (plan : PlanView) (inputs : List Input) → output plan inputs ≡ rows_of (items (merged (last_stamp inputs) (sent_by plan inputs (length plan.stages))))
output-is plan inputs =
    let last = last_stamp inputs in
    let sent = sent_by plan inputs (length plan.stages) in
    ap (λ o. rows_of (items (merged last (edges_to o 0 sent)))) (no_stage plan.stages) ∙ ap (λ es. rows_of (items (merged last es))) (all_goes 0 sent)
