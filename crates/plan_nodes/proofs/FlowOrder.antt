-- The order of a plan's nodes is the one that the machine's numbers give.
use Rattle.std.proofs.Common.{◌≡◌, ◌∙◌, ◌+◌, ◌-◌, ◌≤◌, ℕ, zero, suc, true, List, [], ◌∷◌, ◌++◌, length, take, refl, sym, ap, arith, append-nil}
use Rattle.std.specs.List.{flat_map}
use Rattle.std.specs.Prelude.{All}
use Rattle.std.proofs.lemmas.List.Elements.{All-cons, All-nil}
use Rattle.std.proofs.lemmas.List.Concat.{flat_map-append}
use Rattle.tuple_edge.specs.Input.{Input}
use Rattle.tuple_edge.specs.declared.node.NodeId.TheVariants as node
use Rattle.plan_reader.specs.Nodes.{has_node, parts_of}
use Rattle.plan_reader.specs.PlanView.{PlanView}
use Rattle.pair_machine.specs.Counts.{flow_of}
use Rattle.pair_machine.specs.Drain.{pairs_up_to, partition, parts_below}
use Rattle.pair_machine.specs.Lists.{Each}
use Rattle.pair_machine.proofs.EdgeLaws.{get_of, parts_at}
use Rattle.plan_nodes.specs.NodeOrder.{nodes_at, nodes_in, nodes_of, pair_nodes, stage_nodes, stages_nodes}
use Rattle.plan_nodes.proofs.NodeOrder.{length_take, nodes_there, stages_more, take_next_of}

stage_parts : (s n : ℕ) → stage_nodes s n ≡ flat_map nodes_at (parts_below s n)
stage_parts s zero = refl
stage_parts s (suc n) =
    ap (λ l. l ++ pair_nodes s n) (stage_parts s n) ∙ ap (λ l. flat_map nodes_at (parts_below s n) ++ l) (sym (append-nil (pair_nodes s n)))
    ∙ sym (flat_map-append nodes_at (parts_below s n) (partition s n ∷ []))

take_whole : {X : Type 0} (xs : List X) → take (length xs) xs ≡ xs
take_whole [] = refl
take_whole (x ∷ xs) = ap (λ r. x ∷ r) (take_whole xs)

take_none : {X : Type 0} (xs : List X) → take 0 xs ≡ []
take_none [] = refl
take_none (x ∷ xs) = refl

module _ (plan : PlanView) (inputs : List Input) where
  up_to : (k : ℕ) → k ≤ length plan.stages → stages_nodes 1 (take k plan.stages) ≡ flat_map nodes_at (pairs_up_to (flow_of plan inputs) k)
  unfolding flow_of
  up_to zero l = ap (stages_nodes 1) (take_none plan.stages)
  up_to (suc k) l =
      let found = get_of plan.stages k (omega arith) in
      let long = length_take plan.stages k (omega arith) in
      let number : 1 + length (take k plan.stages) ≡ suc k = omega arith in
      let place : suc k + 1 - 1 ≡ suc k = omega arith in
      let parts = parts_at plan.stages k found.0 found.1 in
      let next : take (suc k) plan.stages ≡ take k plan.stages ++ found.0 ∷ [] = take_next_of plan.stages k found.0 found.1 in
      ap (stages_nodes 1) next ∙ stages_more 1 (take k plan.stages) found.0 ∙ ap (λ n. stages_nodes 1 (take k plan.stages) ++ stage_nodes n found.0.parts) number
      ∙ ap (λ l. l ++ stage_nodes (suc k) found.0.parts) (up_to k (omega arith))
      ∙ ap (λ l. flat_map nodes_at (pairs_up_to (flow_of plan inputs) k) ++ l) (stage_parts (suc k) found.0.parts
      ∙ ap (λ n. flat_map nodes_at (parts_below (suc k) n)) (sym (ap (λ n. parts_of plan n) place ∙ parts)))
      ∙ sym (flat_map-append nodes_at (pairs_up_to (flow_of plan inputs) k) (parts_below (suc k) ((flow_of plan inputs).sources (suc k + 1))))

  pub in_order : nodes_of plan ≡ nodes_in (flow_of plan inputs)
  unfolding flow_of
  in_order = ap (λ l. node.Ingress ∷ l ++ node.Egress ∷ []) (ap (stages_nodes 1) (sym (take_whole plan.stages)) ∙ up_to (length plan.stages) (omega arith))

-- ---- each is a node of the plan

all_of : {X : Type 0} (P : X → Type 0) (xs : List X) → Each P xs → All P xs
all_of P [] h = All-nil P
all_of P (x ∷ xs) h = All-cons P x xs h.0 (all_of P xs h.1)

pub all_named : (plan : PlanView) → All (λ n. has_node plan n ≡ true) (nodes_of plan)
all_named plan = all_of (λ n. has_node plan n ≡ true) (nodes_of plan) (nodes_there plan)
