-- The stages of a plan, the partitions that each of them has, and how many edges lead into one.
use Rattle.std.proofs.Common.{◌≡◌, ◌<◌, ◌≤◌, ◌+◌, ◌-◌, ℕ, zero, suc, true, IsTrue, List, [], Some, get_or, length, slice_get, sym, subst, arith}
use Rattle.std.proofs.lemmas.Option.{get_or_from_slice_get, slice_get-get_or}
use Rattle.tuple_edge.specs.Input.{Input}
use Rattle.tuple_edge.specs.declared.node.NodeId.TheVariants as pairs_node
use Rattle.plan_reader.specs.Nodes.{has_pair, parts_of, sources_of}
use Rattle.plan_reader.specs.PlanView.{IsPlan, IsStage, PlanView}
use Rattle.plan_reader.specs.declared.stage.Stage.{Stage}
use Rattle.pair_machine.proofs.EdgeLaws.{get_of, parts_at}
use Rattle.pair_machine.proofs.PlanNodes.{nodes_named}
use Rattle.pair_machine.specs.CountLaws.{IsOfStage}
use Rattle.pair_machine.specs.Counts.{flow_of}
use Rattle.pair_machine.specs.Drain.{partition}
use Rattle.pair_machine.specs.Links.{HasNode}
use Rattle.trio_machine.specs.Flow.{trio_flow}

-- a partition of a plan is one of its stages, and of the stage's partitions
pub pair_within : (plan : PlanView) (s p : ℕ) → IsTrue (has_pair plan s p) → (1 ≤ s) × (s ≤ length plan.stages) × (p < parts_of plan s)
unfolding flow_of
pair_within plan s p has =
    let z : HasNode (flow_of plan []) (pairs_node.Control s p) = (nodes_named plan [] (pairs_node.Control s p)).there has in
    let same : s + 1 - 1 ≡ s = omega arith in
    (z.0.0, z.0.1, subst (λ n. p < parts_of plan n) same z.1)

-- and what is of a stage of the flow is a partition of the plan
pub pair_named : (plan : PlanView) (inputs : List Input) (s p : ℕ) → IsOfStage (trio_flow plan inputs) (partition s p) → has_pair plan s p ≡ true
unfolding flow_of
pair_named plan inputs s p h = (nodes_named plan inputs (pairs_node.Control s p)).named ((h.first, h.last), h.part)

-- the partitions of a stage
stage_parts : (plan : PlanView) (stage : ℕ) (one : Stage) → 1 ≤ stage → slice_get plan.stages (stage - 1) ≡ Some one → parts_of plan stage ≡ one.parts
stage_parts plan stage one low at =
    let next : suc (stage - 1) ≡ stage = omega (arith, low) in
    subst (λ n. parts_of plan n ≡ one.parts) next (parts_at plan.stages (stage - 1) one at)

-- the stage at its place in a list of the plan's stages
module _ (plan : PlanView) (stage : ℕ) (stages : List Stage) (d : Stage) (same : stages ≡ plan.stages) (low : 1 ≤ stage) (high : stage ≤ length plan.stages) where
  stage_at : slice_get plan.stages (stage - 1) ≡ Some (get_or stages (stage - 1) d)
  stage_at = subst (λ ss. slice_get plan.stages (stage - 1) ≡ Some (get_or ss (stage - 1) d)) (sym same) (slice_get-get_or plan.stages (stage - 1) d (omega (arith, low, high)))

  parts_are : parts_of plan stage ≡ (get_or stages (stage - 1) d).parts
  parts_are = stage_parts plan stage (get_or stages (stage - 1) d) low stage_at

  pub is_pair : (part : ℕ) → part < (get_or stages (stage - 1) d).parts → IsTrue (has_pair plan stage part)
  unfolding flow_of
  is_pair part l =
      let same_stage : stage ≡ stage + 1 - 1 = omega arith in
      let here : part < parts_of plan (stage + 1 - 1) = subst (λ n. part < parts_of plan n) same_stage (subst (λ n. part < n) (sym parts_are) l) in
      (nodes_named plan [] (pairs_node.Control stage part)).named ((low, high), here)

  part_below : (part : ℕ) → IsTrue (has_pair plan stage part) → part < (get_or stages (stage - 1) d).parts
  part_below part has = subst (λ n. part < n) parts_are (pair_within plan stage part has).2

  -- what holds of each partition of the stage holds of each that the plan has there
  pub of_each : (P : ℕ → Type 0) (n : ℕ) → (get_or stages (stage - 1) d).parts ≤ n → ((part : ℕ) → part < n → P part) → (part : ℕ) → IsTrue (has_pair plan stage part) → P part
  of_each P n full below part has = let l = part_below part has in below part (omega (arith, l, full))

-- ---- the edges into a partition

edges_within : (plan : PlanView) → IsPlan plan → (s : ℕ) → s ≤ length plan.stages → (1 ≤ parts_of plan s) × (parts_of plan s ≤ 8)
edges_within plan limits zero l = (limits.version_low, omega (arith, limits.version_high))
edges_within plan limits (suc s) l =
    let found = get_of plan.stages s (omega (arith, l)) in
    let one = found.0 in
    let is : IsStage one = subst IsStage (get_or_from_slice_get plan.stages s one one found.1) (limits.stages s one (omega (arith, l))) in
    subst (λ n. (1 ≤ n) × (n ≤ 8)) (sym (parts_at plan.stages s one found.1)) (is.some, is.few)

pub sources_within : (plan : PlanView) → IsPlan plan → (stage part : ℕ) → IsTrue (has_pair plan stage part) → (1 ≤ sources_of plan stage) × (sources_of plan stage ≤ 8)
sources_within plan limits stage part has = let within = pair_within plan stage part has in edges_within plan limits (stage - 1) (omega (arith, within.1))
