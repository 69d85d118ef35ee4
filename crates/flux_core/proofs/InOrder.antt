-- The place that is computed for a node is its place in the order of its plan's nodes.
use Rattle.std.proofs.Common.{◌≡◌, ◌∙◌, ◌⊎◌, inl, inr, ◌<◌, ◌+◌, ◌*◌, ◌-◌, ℕ, zero, suc, List, [], ◌∷◌, ◌++◌, Some, true, length, map, slice_get, sum, take, refl, sym, ap, subst, arith}
use Rattle.std.proofs.lemmas.List.{length-append}
use Rattle.std.proofs.lemmas.List.Sums.{sum_by-cons}
use Rattle.std.proofs.lemmas.Option.{slice_get_within}
use Rattle.tuple_edge.specs.declared.node.NodeId.{NodeId}
use Rattle.tuple_edge.specs.declared.node.NodeId.TheVariants as node
use Rattle.tuple_edge.specs.declared.node.Which.TheVariants.{A}
use Rattle.plan_reader.specs.Nodes.{has_pair, parts_of}
use Rattle.plan_reader.specs.PlanView.{PlanView}
use Rattle.plan_reader.specs.declared.stage.Stage.{Stage}
use Rattle.pair_machine.specs.Counts.{flow_of}
use Rattle.pair_machine.proofs.EdgeLaws.{get_of, parts_at}
use Rattle.pair_machine.proofs.PlanNodes.{nodes_named}
use Rattle.plan_nodes.specs.NodeOrder.{nodes_before_egress, nodes_of, pair_nodes, stage_nodes, stages_nodes}
use Rattle.flux_core.proofs.Lists.{get-left, get-right}

stage_length : (s n : ℕ) → length (stage_nodes s n) ≡ 3 * n
stage_length s zero = refl
stage_length s (suc n) = let e = length-append (stage_nodes s n) (pair_nodes s n) in let h = stage_length s n in omega arith

less_or_last : (p n : ℕ) → p < suc n → (p < n) ⊎ (p ≡ n)
less_or_last zero zero l = inr refl
less_or_last zero (suc n) l = inl (omega arith)
less_or_last (suc p) zero l = absurd (omega arith)
less_or_last (suc p) (suc n) l = elim (less_or_last p n (omega arith)) [ inl k ↦ inl (omega arith) | inr e ↦ inr (ap suc e) ]

-- the j-th node of a pair of a stage
in_stage : (s n p j : ℕ) → p < n → j < 3 → slice_get (stage_nodes s n) (3 * p + j) ≡ slice_get (pair_nodes s p) j
in_stage s zero p j l m = absurd (omega arith)
in_stage s (suc n) p j l m = go (less_or_last p n l) (λ k. in_stage s n p j k m)
  where
    go : (p < n) ⊎ (p ≡ n) → (p < n → slice_get (stage_nodes s n) (3 * p + j) ≡ slice_get (pair_nodes s p) j) → slice_get (stage_nodes s n ++ pair_nodes s n) (3 * p + j) ≡ slice_get (pair_nodes s p) j
    go (inl k) before =
        let long = stage_length s n in
        get-left (stage_nodes s n) (pair_nodes s n) (3 * p + j) (omega (arith, k, m, long)) ∙ before k
    go (inr e) before =
        let long = stage_length s n in
        let place : 3 * p + j ≡ length (stage_nodes s n) + j = omega (arith, e, long) in
        ap (slice_get (stage_nodes s n ++ pair_nodes s n)) place ∙ get-right (stage_nodes s n) (pair_nodes s n) j ∙ ap (λ k. slice_get (pair_nodes s k) j) (sym e)

-- how many pairs the first stages have
abbrev pub pairs_in : ℕ → List Stage → ℕ
pairs_in i ss = sum (map (λ s. s.parts) (take i ss))

in_stages : (k : ℕ) (ss : List Stage) (i p j : ℕ) (st : Stage) → slice_get ss i ≡ Some st → p < st.parts → j < 3 → slice_get (stages_nodes k ss) (3 * (pairs_in i ss + p) + j) ≡ slice_get (pair_nodes (k + i) p) j
in_stages k [] i p j st e l m = let z : ⊥ = cc e in absurd z
in_stages k (x ∷ ss) zero p j st e l m =
    let same : x ≡ st = cc e in
    let few : p < x.parts = subst (λ (t : Stage). p < t.parts) (sym same) l in
    let long = stage_length k x.parts in
    let number : k ≡ k + 0 = omega arith in
    let place : 3 * (0 + p) + j ≡ 3 * p + j = omega arith in
    ap (slice_get (stage_nodes k x.parts ++ stages_nodes (k + 1) ss)) place ∙ get-left (stage_nodes k x.parts) (stages_nodes (k + 1) ss) (3 * p + j) (omega (arith, few, m, long)) ∙ in_stage k x.parts p j few m ∙ ap (λ n. slice_get (pair_nodes n p) j) number
in_stages k (x ∷ ss) (suc i) p j st e l m =
    let long = stage_length k x.parts in
    let more : pairs_in (suc i) (x ∷ ss) ≡ x.parts + pairs_in i ss = sum_by-cons (λ n. n) x.parts (map (λ s. s.parts) (take i ss)) in
    let place : 3 * (pairs_in (suc i) (x ∷ ss) + p) + j ≡ length (stage_nodes k x.parts) + (3 * (pairs_in i ss + p) + j) = omega (arith, more, long) in
    let number : k + 1 + i ≡ k + suc i = omega arith in
    ap (slice_get (stage_nodes k x.parts ++ stages_nodes (k + 1) ss)) place ∙ get-right (stage_nodes k x.parts) (stages_nodes (k + 1) ss) (3 * (pairs_in i ss + p) + j)
    ∙ in_stages (k + 1) ss i p j st e l m ∙ ap (λ n. slice_get (pair_nodes n p) j) number

-- where a pair's nodes begin
abbrev pub first_of : PlanView → ℕ → ℕ → ℕ
first_of plan stage part = 1 + 3 * (pairs_in (stage - 1) plan.stages + part)

-- the j-th node of a pair of the plan stands behind ingress, and behind the three of each pair before it
pub pair_placed : (plan : PlanView) (stage part : ℕ) → has_pair plan stage part ≡ true → (place j : ℕ) (n : NodeId) → place ≡ first_of plan stage part + j → j < 3 → slice_get (pair_nodes stage part) j ≡ Some n
    → slice_get (nodes_of plan) place ≡ Some n
unfolding flow_of
pair_placed plan stage part named place j n is m at_pair =
    let h = (nodes_named plan [] (node.Replica stage part A)).there named in
    let low = h.0.0 in
    let high = h.0.1 in
    let st = get_of plan.stages (stage - 1) (omega (arith, low, high)) in
    let next : stage + 1 - 1 ≡ suc (stage - 1) = omega (arith, low) in
    let parts : parts_of plan (stage + 1 - 1) ≡ st.0.parts = ap (parts_of plan) next ∙ parts_at plan.stages (stage - 1) st.0 st.1 in
    let few : part < st.0.parts = subst (λ k. part < k) parts h.1 in
    let inner = stages_nodes 1 plan.stages in
    let at : ℕ = 3 * (pairs_in (stage - 1) plan.stages + part) + j in
    let number : 1 + (stage - 1) ≡ stage = omega (arith, low) in
    let here : slice_get inner at ≡ Some n = in_stages 1 plan.stages (stage - 1) part j st.0 st.1 few m ∙ ap (λ k. slice_get (pair_nodes k part) j) number ∙ at_pair in
    let behind : place ≡ suc at = omega (arith, is) in
    ap (slice_get (nodes_of plan)) behind ∙ get-left inner (node.Egress ∷ []) at (slice_get_within inner at n here) ∙ here

-- egress stands behind all
pub egress_placed : (plan : PlanView) (count : ℕ) → count ≡ length (nodes_of plan) → slice_get (nodes_of plan) (count - 1) ≡ Some node.Egress
egress_placed plan count e =
    let before = nodes_before_egress plan in
    let all = length-append before (node.Egress ∷ []) in
    let place : count - 1 ≡ length before + 0 = omega (arith, e, all) in
    ap (slice_get (nodes_of plan)) place ∙ get-right before (node.Egress ∷ []) 0
