-- How many edges lead into a partition of a plan.
use Rattle.std.proofs.Common.{All, ◌≡◌, ◌≤◌, ◌-◌, ℕ, zero, suc, List, [], ◌∷◌, length, refl, sym, subst, arith}
use Rattle.std.specs.Prelude.{Some, slice_get}
use Rattle.std.proofs.lemmas.List.Elements.{All-head, All-tail}
use Rattle.tuple_edge.specs.Input.{Input}
use Rattle.plan_reader.specs.Nodes.{parts_of, sources_of}
use Rattle.plan_reader.specs.PlanView.{IsPlan, IsStage, PlanView}
use Rattle.plan_reader.specs.declared.stage.Stage.{Stage}
use Rattle.pair_machine.specs.Counts.{flow_of}
use Rattle.pair_machine.proofs.EdgeLaws.{get_of, parts_at}

stage_of : (ss : List Stage) → All IsStage ss → (i : ℕ) (s : Stage) → slice_get ss i ≡ Some s → IsStage s
stage_of [] all i s e = let z : ⊥ = cc e in absurd z
stage_of (x ∷ ss) all zero s e = let same : x ≡ s = cc e in subst IsStage same (All-head IsStage x ss all)
stage_of (x ∷ ss) all (suc i) s e = stage_of ss (All-tail IsStage x ss all) i s e

few_parts : (plan : PlanView) → IsPlan plan → (s : ℕ) → s ≤ length plan.stages → parts_of plan s ≤ 8
few_parts plan is zero l = let most = is.version_high in omega arith
few_parts plan is (suc s) l =
    let found = get_of plan.stages s (omega arith) in
    let few = (stage_of plan.stages is.stages s found.0 found.1).few in
    subst (λ n. n ≤ 8) (sym (parts_at plan.stages s found.0 found.1)) few

some_parts : (plan : PlanView) → IsPlan plan → (s : ℕ) → s ≤ length plan.stages → 1 ≤ parts_of plan s
some_parts plan is zero l = is.version_low
some_parts plan is (suc s) l =
    let found = get_of plan.stages s (omega arith) in
    let some = (stage_of plan.stages is.stages s found.0 found.1).some in
    subst (λ n. 1 ≤ n) (sym (parts_at plan.stages s found.0 found.1)) some

pub few_sources : (plan : PlanView) → IsPlan plan → (s : ℕ) → 1 ≤ s → s ≤ length plan.stages → sources_of plan s ≤ 8
few_sources plan is s low high = few_parts plan is (s - 1) (omega arith)

pub some_sources : (plan : PlanView) → IsPlan plan → (s : ℕ) → 1 ≤ s → s ≤ length plan.stages → 1 ≤ sources_of plan s
some_sources plan is s low high = some_parts plan is (s - 1) (omega arith)

pub sources_at : (plan : PlanView) (inputs : List Input) (s : ℕ) → sources_of plan s ≡ (flow_of plan inputs).sources s
unfolding flow_of
sources_at plan inputs s = refl
