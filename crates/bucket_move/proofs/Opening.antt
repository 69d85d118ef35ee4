-- Buckets at the opening.
use Rattle.std.proofs.Common.{ℕ, ◌≡◌, ◌<◌, ◌%◌, zero, suc, true, false, List, [], ◌∷◌, length, refl, sym, ap, subst, ◌∙◌, arith, get_or, replicate}
use Rattle.std.specs.Prelude.{◌==◌}
use Rattle.std.specs.List.{All, range_with_len}
use Rattle.std.proofs.Math.Nat.{mod-lt}
use Rattle.std.proofs.lemmas.Bool.{false≢true}
use Rattle.std.proofs.lemmas.List.{length-replicate}
use Rattle.std.proofs.lemmas.List.Elements.{All-get_or, All-map, All-replicate}
use Rattle.std.proofs.lemmas.List.FromFn.{length-map-range_with_len}
use Rattle.op_spec.specs.declared.spec.OpSpec.{OpSpec}
use Rattle.op_spec.specs.declared.spec.OpSpec.TheVariants as op
use Rattle.stream_ops.specs.State.{StateView, unseen}
use Rattle.text_words.proofs.LineFacts.{both_true}
use Rattle.plan_reader.specs.PlanView.{IsPlan, IsStage, PlanView}
use Rattle.plan_reader.specs.declared.stage.Stage.{Stage}
use Rattle.bucket_move.specs.BucketsView.{BucketsView, IsAfter, IsRight, opening_table, part_of, state_after, state_at, state_in, table_after}
use Rattle.bucket_move.specs.ByKey.{is_by_key, is_keyed, is_one_keyed}
use Rattle.bucket_move.specs.Limits.{buckets}
use Rattle.bucket_move.proofs.Together.{all_from}

-- an operator that was given nothing
unseen_is : (spec : OpSpec) → unseen spec ≡ state_after spec []
unseen_is (op.Keep column compare limit) = refl
unseen_is (op.Total by) = refl
unseen_is (op.Last by n) = refl
unseen_is (op.Window by width) = refl
unseen_is (op.Crossing by limit) = refl
unseen_is (op.Join by width n column compare limit) = refl

in_unseen : (spec : OpSpec) (n bucket : ℕ) → state_in spec (replicate n (unseen spec)) bucket ≡ unseen spec
in_unseen spec zero bucket = refl
in_unseen spec (suc n) zero = refl
in_unseen spec (suc n) (suc bucket) = in_unseen spec n bucket

at_unseen : (spec : OpSpec) (parts n part bucket : ℕ) → state_at spec (replicate parts (replicate n (unseen spec))) part bucket ≡ unseen spec
at_unseen spec zero n part bucket = refl
at_unseen spec (suc parts) n zero bucket = in_unseen spec n bucket
at_unseen spec (suc parts) n (suc part) bucket = at_unseen spec parts n part bucket

-- the stage of a plan that is by key
one_keyed : (stages : List Stage) (d : Stage) → is_one_keyed stages ≡ true → (stages ≡ get_or stages 0 d ∷ []) × (is_keyed (get_or stages 0 d).by (get_or stages 0 d).op ≡ true)
one_keyed [] d keyed = absurd (false≢true keyed)
one_keyed (s ∷ []) d keyed = (refl, keyed)
one_keyed (s ∷ t ∷ stages) d keyed = absurd (false≢true keyed)

pub stage_of_plan : (plan : PlanView) (d : Stage) → is_by_key plan ≡ true → (plan.stages ≡ get_or plan.stages 0 d ∷ []) × (is_keyed (get_or plan.stages 0 d).by (get_or plan.stages 0 d).op ≡ true)
stage_of_plan plan d keyed = one_keyed plan.stages d (both_true (plan.version == 1) (is_one_keyed plan.stages) keyed).1

pub stage_right : (plan : PlanView) (d : Stage) → IsPlan plan → IsStage (get_or plan.stages 0 d)
stage_right plan d limits = All-get_or IsStage plan.stages 0 d limits.some limits.stages

-- the same of what the plan shows of its stages
pub first_stage : (plan : PlanView) (stages : List Stage) (d : Stage) → stages ≡ plan.stages → IsPlan plan → is_by_key plan ≡ true
    → IsStage (get_or stages 0 d) × (is_keyed (get_or stages 0 d).by (get_or stages 0 d).op ≡ true)
first_stage plan stages d is limits keyed =
    subst (λ (ss : List Stage). IsStage (get_or ss 0 d) × (is_keyed (get_or ss 0 d).by (get_or ss 0 d).op ≡ true)) (sym is) (stage_right plan d limits, (stage_of_plan plan d keyed).1)

module _ (b : BucketsView) (stage : IsStage b.stage) (keyed : is_keyed b.stage.by b.stage.op ≡ true) (table : b.table ≡ opening_table b.stage.parts)
    (kept : b.kept ≡ replicate b.stage.parts (replicate buckets (unseen b.stage.op))) (zero_rows : b.count ≡ 0) where
  pub opened_right : IsRight b
  opened_right = record {
    stage = stage;
    keyed = keyed;
    table = ap length table ∙ length-map-range_with_len (λ bucket. bucket % b.stage.parts) 0 buckets;
    within = subst (λ (t : List ℕ). All (λ part. part < b.stage.parts) t) (sym table)
        (All-map (λ part. part < b.stage.parts) (λ bucket. bucket % b.stage.parts) (range_with_len 0 buckets)
        (all_from (λ (bucket : ℕ). bucket % b.stage.parts < b.stage.parts) (range_with_len 0 buckets) (λ i d below. mod-lt (get_or (range_with_len 0 buckets) i d) stage.some)));
    parts = ap length kept ∙ length-replicate b.stage.parts (replicate buckets (unseen b.stage.op));
    slots = subst (λ (ks : List (List StateView)). All (λ states. length states ≡ buckets) ks) (sym kept)
        (All-replicate (λ (states : List StateView). length states ≡ buckets) b.stage.parts (replicate buckets (unseen b.stage.op)) (length-replicate buckets (unseen b.stage.op)));
    count = omega (arith, zero_rows);
  }

  pub opened : b.emitted ≡ [] → b.failed ≡ false → IsAfter b.stage [] b
  unfolding table_after
  opened none whole = record {
    of_plan = refl;
    whole = whole;
    table = table;
    emitted = none;
    states = λ bucket below.
        ap (λ (ks : List (List StateView)). state_at b.stage.op ks (part_of b.table bucket) bucket) kept
        ∙ at_unseen b.stage.op b.stage.parts buckets (part_of b.table bucket) bucket ∙ unseen_is b.stage.op;
    count = zero_rows;
  }
