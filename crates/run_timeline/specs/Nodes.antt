-- The replicas of a plan, in node order.
use Rattle.std.specs.Prelude.{ℕ, ◌+◌, List, [], ◌∷◌}
use Rattle.std.specs.List.{flat_map}
use Rattle.tuple_edge.specs.declared.node.NodeId.{NodeId}
use Rattle.tuple_edge.specs.declared.node.Which.TheVariants.{A, B}
use Rattle.plan_reader.specs.PlanView.{PlanView}
use Rattle.plan_reader.specs.declared.stage.Stage.{Stage}
use Rattle.pair_machine.specs.Drain.{parts_below}
use Rattle.pair_machine.specs.Numbers.{Partition, replica_at}
use Rattle.lane_chart.specs.Places.{placed}

-- the replicas of a pair, A before B
abbrev pub pair_replicas : Partition → List NodeId
pair_replicas p = replica_at p A ∷ replica_at p B ∷ []

-- the replicas of a stage, by its place among the stages
abbrev pub stage_replicas : (place : ℕ) → Stage → List NodeId
stage_replicas place stage = flat_map pair_replicas (parts_below (place + 1) stage.parts)

-- the replicas of a plan, stage by stage
abbrev pub replicas_of : PlanView → List NodeId
replicas_of plan = placed stage_replicas 0 plan.stages
