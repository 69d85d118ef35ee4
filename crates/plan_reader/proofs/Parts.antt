-- In how many partitions a stage runs.
use Rattle.std.proofs.Common.{ℕ, suc, ◌≡◌, ◌≤◌, ◌<◌, ◌+◌, ◌-◌, true, nat_lt, List, [], ◌∷◌, length, map, get_or, refl, sym, subst, ◌∙◌, arith}
use Rattle.std.specs.Prelude.{nat_le}
use Rattle.std.proofs.lemmas.Bool.Decides.{nat_tests}
use Rattle.std.proofs.lemmas.List.{get_or-map, get_or_append_left, length-map}
use Rattle.plan_reader.specs.Nodes.{has_pair, parts_of, sources_of}
use Rattle.plan_reader.specs.PlanView.{PlanView, partitions}
use Rattle.plan_reader.specs.declared.stage.Stage.{Stage}

-- the stage at a place from 0 is the one with the next number
partitions_next : (sources : ℕ) (stages : List Stage) (i : ℕ) (d : Stage) → i < length stages → (get_or stages i d).parts ≡ get_or (partitions sources stages) (suc i) 0
partitions_next sources stages i d here =
    let inside : i < length (map (λ s. s.parts) stages) = simp length-map here in
    sym (get_or_append_left (map (λ s. s.parts) stages) (1 ∷ []) 0 i inside ∙ get_or-map (λ s. s.parts) stages i d 0 here)

partitions_at : (sources : ℕ) (stages : List Stage) (i j : ℕ) (d : Stage) → i < length stages → suc i ≡ j → (get_or stages i d).parts ≡ get_or (partitions sources stages) j 0
partitions_at sources stages i j d here next = subst (λ (n : ℕ). (get_or stages i d).parts ≡ get_or (partitions sources stages) n 0) next (partitions_next sources stages i d here)

pub has_pair_there : (plan : PlanView) (stage part : ℕ) → 1 ≤ stage → stage ≤ length plan.stages
    → nat_lt part (parts_of plan stage) ≡ has_pair plan stage part
has_pair_there plan stage part low high =
    let above : nat_le 1 stage ≡ true = grind (arith, nat_tests) in
    let below : nat_le stage (length plan.stages) ≡ true = grind (arith, nat_tests) in
    rw (above, below) refl

pub sources_after : (plan : PlanView) (stage : ℕ) (d : Stage) → 1 ≤ stage → stage ≤ length plan.stages
    → (get_or plan.stages (stage - 1) d).parts ≡ sources_of plan (stage + 1)
sources_after plan stage d low high =
    let here : stage - 1 < length plan.stages = omega (arith, low, high) in
    partitions_at plan.version plan.stages (stage - 1) (stage + 1 - 1) d here (omega (arith, low))

pub sources_of_later : (plan : PlanView) (stage : ℕ) (d : Stage) → 1 < stage → stage ≤ length plan.stages + 1
    → (get_or plan.stages (stage - 2) d).parts ≡ sources_of plan stage
sources_of_later plan stage d low high =
    let here : stage - 2 < length plan.stages = omega (arith, low, high) in
    partitions_at plan.version plan.stages (stage - 2) (stage - 1) d here (omega (arith, low))
