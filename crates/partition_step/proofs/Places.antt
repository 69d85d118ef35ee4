-- What a plan says of one of its partitions.
use Rattle.std.proofs.Common.{All, ◌≡◌, ◌<◌, ◌≤◌, ◌+◌, ◌-◌, ◌∙◌, ℕ, zero, suc, List, [], ◌∷◌, ◌++◌, Bor, IfSome, Option, None, Some, is_some, length, map, nat_lt, option_copied, slice_index_or, refl, sym, ap, subst, arith, IsTrue, ◌&&◌}
use Rattle.std.specs.Prelude.{nat_le, slice_get}
use Rattle.std.proofs.lemmas.Bool.{leb-true, ltb-false, ltb-true}
use Rattle.std.proofs.lemmas.List.Elements.{All-head, All-tail}
use Rattle.std.proofs.lemmas.Option.{slice_get-get_or, slice_get_past, slice_get_read}
use Rattle.op_spec.specs.Spec.{IsSpec}
use Rattle.plan_reader.specs.Nodes.{has_pair, parts_of, sources_of}
use Rattle.plan_reader.specs.PlanView.{IsPlan, IsStage, PlanView}
use Rattle.plan_reader.specs.declared.stage.Stage.{Stage}
use Rattle.pair_machine.specs.Lists.{Each}
use Rattle.pair_machine.specs.Numbers.{Partition}
use Rattle.pair_machine.proofs.EdgeLaws.{get_of, parts_at}
use Rattle.pair_machine.proofs.Tests.{both}
use Rattle.partition_step.specs.Answering.{HasParts, targets_of}
use Rattle.partition_step.specs.Merging.{IsPartition}
use Rattle.partition_step.specs.Places.{IsPlace}
use Rattle.partition_step.specs.declared.task.PartitionTask.{PartitionTask}

-- ---- what holds of each of a list

pub each_of : {X : Type 0} (P : X → Type 0) (xs : List X) → All P xs → Each P xs
each_of P [] all = tt
each_of P (x ∷ xs) all = (All-head P x xs all, each_of P xs (All-tail P x xs all))

pub each_get : {X : Type 0} (P : X → Type 0) (xs : List X) → Each P xs → (n : ℕ) (x : X) → slice_get xs n ≡ Some x → P x
each_get P [] all n x e = let z : ⊥ = cc e in absurd z
each_get P (y ∷ xs) all zero x e = let same : y ≡ x = cc e in subst P same all.0
each_get P (y ∷ xs) all (suc n) x e = each_get P xs all.1 n x e

-- ---- its limits

stage_at : (plan : PlanView) → IsPlan plan → (s : ℕ) (stage : Stage) → slice_get plan.stages s ≡ Some stage → IsStage stage
stage_at plan is s stage e = each_get IsStage plan.stages (each_of IsStage plan.stages is.stages) s stage e

-- a stage has at most eight partitions, and ingress at most two sources
few_parts : (plan : PlanView) → IsPlan plan → (s : ℕ) → s ≤ length plan.stages → parts_of plan s ≤ 8
few_parts plan is zero l = let most = is.version_high in omega arith
few_parts plan is (suc s) l =
    let found = get_of plan.stages s (omega arith) in
    let few = (stage_at plan is s found.0 found.1).few in
    subst (λ n. n ≤ 8) (sym (parts_at plan.stages s found.0 found.1)) few

some_parts : (plan : PlanView) → IsPlan plan → (s : ℕ) → s ≤ length plan.stages → 1 ≤ parts_of plan s
some_parts plan is zero l = is.version_low
some_parts plan is (suc s) l =
    let found = get_of plan.stages s (omega arith) in
    let some = (stage_at plan is s found.0 found.1).some in
    subst (λ n. 1 ≤ n) (sym (parts_at plan.stages s found.0 found.1)) some

next_parts : (plan : PlanView) → IsPlan plan → (s : ℕ) (next : Option Stage) → slice_get plan.stages s ≡ next → HasParts next
next_parts plan is s None e = tt
next_parts plan is s (Some next) e = (stage_at plan is s next e).some

-- a partition of a plan is within the limits
pub place_sound : (plan : PlanView) → IsPlan plan → (p : Partition) (task : PartitionTask) → IsPartition plan p task → IsPlace p (sources_of plan p.stage) task
place_sound plan is p task here =
    let last = here.last in
    let few = is.few in
    let before : p.stage - 1 ≤ length plan.stages = omega arith in
    let most : sources_of plan p.stage ≤ 8 = few_parts plan is (p.stage - 1) before in
    record {
      stage = here.first;
      last = omega arith;
      some = some_parts plan is (p.stage - 1) before;
      few = omega arith;
      op = subst IsSpec here.op (stage_at plan is (p.stage - 1) here.own here.own_is).op;
      parts = next_parts plan is p.stage task.next here.next;
    }

-- a plan that has a pair has its stage and its partition
pub there_is : (plan : PlanView) (stage part : ℕ) → IsTrue (has_pair plan stage part) → (1 ≤ stage) × (stage ≤ length plan.stages) × (part < parts_of plan stage)
there_is plan stage part there =
    let most = both (nat_le 1 stage && nat_le stage (length plan.stages)) (nat_lt part (parts_of plan stage)) there in
    let within = both (nat_le 1 stage) (nat_le stage (length plan.stages)) most.0 in
    (leb-true 1 stage within.0, leb-true stage (length plan.stages) within.1, ltb-true part (parts_of plan stage) most.1)

-- what was read of a list by index is its element there
read_is : {X : Type 0} (xs : List X) (n : ℕ) (got : Option (Bor X)) → is_some got ≡ nat_lt n (length xs) → IfSome got (λ x. x.now ≡ slice_index_or xs n x.now) → slice_get xs n ≡ option_copied got
read_is xs n None there at = slice_get_past xs n (ltb-false n (length xs) (sym there))
read_is xs n (Some x) there at = slice_get_read xs (length xs) n x.now refl (ltb-true n (length xs) (sym there)) at

-- what is read of a plan of one of its partitions is what it does
pub place_read : (plan : PlanView) (stages : List Stage) → stages ≡ plan.stages → (p : Partition) (task : PartitionTask) → 1 ≤ p.stage → p.stage ≤ length plan.stages → p.part < parts_of plan p.stage
    → (other : Stage) → (slice_index_or stages (p.stage - 1) other).op ≡ task.op → (got : Option (Bor Stage))
    → is_some got ≡ nat_lt p.stage (length stages) → IfSome got (λ x. x.now ≡ slice_index_or stages p.stage x.now) → task.next ≡ option_copied got → IsPartition plan p task
place_read plan stages same p task first last part other op got there found next =
    let many = ap length same in
    record {
      first = first;
      last = last;
      part = part;
      own = slice_index_or stages (p.stage - 1) other;
      own_is = ap (λ z. slice_get z (p.stage - 1)) (sym same) ∙ slice_get-get_or stages (p.stage - 1) other (omega arith);
      op = op;
      next = ap (λ z. slice_get z p.stage) (sym same) ∙ read_is stages p.stage got there found ∙ sym next;
    }

-- ---- the next stage

-- after the last stage there is one target, and of each other stage as many as the next one has partitions
targets_by : (stages : List Stage) (s : ℕ) (next : Option Stage) → s ≤ length stages → slice_get stages s ≡ next → slice_index_or (map (λ x. x.parts) stages ++ 1 ∷ []) s 0 ≡ targets_of next
targets_by stages s (Some stage) last e = parts_at stages s stage e
targets_by [] zero None last e = refl
targets_by [] (suc s) None last e = absurd (omega arith)
targets_by (x ∷ stages) zero None last e = let z : ⊥ = cc e in absurd z
targets_by (x ∷ stages) (suc s) None last e = targets_by stages s None (omega arith) e

pub targets_are : (plan : PlanView) (p : Partition) (task : PartitionTask) → IsPartition plan p task → parts_of plan (p.stage + 1) ≡ targets_of task.next
targets_are plan p task here =
    let later : suc p.stage ≡ p.stage + 1 = omega arith in
    subst (λ n. parts_of plan n ≡ targets_of task.next) later (targets_by plan.stages p.stage task.next here.last here.next)
