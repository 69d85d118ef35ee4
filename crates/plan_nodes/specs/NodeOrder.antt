-- The nodes of a plan in their order: ingress, then the pairs by stage and partition, in each replica A, replica B and the controller, and
-- last egress.
use Rattle.std.specs.Prelude.{ℕ, ◌+◌, zero, suc, List, [], ◌∷◌, ◌++◌}
use Rattle.tuple_edge.specs.declared.node.NodeId.{NodeId}
use Rattle.tuple_edge.specs.declared.node.NodeId.TheVariants as node
use Rattle.tuple_edge.specs.declared.node.Which.TheVariants.{A, B}
use Rattle.plan_reader.specs.PlanView.{PlanView}
use Rattle.plan_reader.specs.declared.stage.Stage.{Stage}
use Rattle.std.specs.List.{flat_map}
use Rattle.pair_machine.specs.Drain.{pairs_up_to}
use Rattle.pair_machine.specs.Flow.{Flow}
use Rattle.pair_machine.specs.Numbers.{Partition, control_at, replica_at}

-- the nodes of a pair: replica A, replica B and the controller
abbrev pub pair_nodes : ℕ → ℕ → List NodeId
pair_nodes stage part = node.Replica stage part A ∷ node.Replica stage part B ∷ node.Control stage part ∷ []

-- the nodes of a stage's first partitions
abbrev pub stage_nodes : ℕ → ℕ → List NodeId
stage_nodes stage zero = []
stage_nodes stage (suc part) = stage_nodes stage part ++ pair_nodes stage part

-- the nodes of stages, of which the first has this number
abbrev pub stages_nodes : ℕ → List Stage → List NodeId
stages_nodes number [] = []
stages_nodes number (s ∷ stages) = stage_nodes number s.parts ++ stages_nodes (number + 1) stages

-- all but egress
abbrev pub nodes_before_egress : PlanView → List NodeId
nodes_before_egress plan = node.Ingress ∷ stages_nodes 1 plan.stages

-- all nodes of a plan, in their order
abbrev pub nodes_of : PlanView → List NodeId
nodes_of plan = nodes_before_egress plan ++ node.Egress ∷ []

-- ---- in the machine's words

-- the nodes of a partition's pair
abbrev pub nodes_at : Partition → List NodeId
nodes_at p = replica_at p A ∷ replica_at p B ∷ control_at p ∷ []

-- the nodes of a plan with these numbers
abbrev pub nodes_in : Flow → List NodeId
nodes_in f = node.Ingress ∷ flat_map nodes_at (pairs_up_to f f.stages) ++ node.Egress ∷ []
