-- How many items a replica has merged: as the machine numbers it, and as a core holds it.
use Rattle.std.specs.Prelude.{ℕ, Option, None, Some, if◌then◌else◌}
use Rattle.tuple_edge.specs.declared.node.NodeId.{NodeId}
use Rattle.plan_reader.specs.Nodes.{has_replica}
use Rattle.plan_reader.specs.PlanView.{PlanView}
use Rattle.pair_machine.specs.Machine.{State, replica_in}
use Rattle.pair_machine.specs.Numbers.{Gathering, Gone, Replica, Running}
use Rattle.replica_node.specs.declared.phase.Phase.{Phase}
use Rattle.replica_node.specs.declared.phase.Phase.TheVariants as phase
use Rattle.plan_nodes.specs.declared.state.NodeState.{NodeState}
use Rattle.plan_nodes.specs.declared.state.NodeState.TheVariants as state
use Rattle.flux_core.specs.CoreView.{CoreView, station}

-- how many items a replica has merged that runs; of one that doesn't nothing is said
abbrev pub merged_by : Replica → Option ℕ
merged_by (Gone inc) = None
merged_by (Running x) = Some x.consumer.count
merged_by (Gathering g) = None

-- the same of a node in a state, where it is a replica of the plan
abbrev pub merged_in : PlanView → State → NodeId → Option ℕ
merged_in plan s n = if has_replica plan n then merged_by (replica_in (s.nodes n)) else None

-- ---- as the code holds it

-- how many items a replica in this phase has merged, where it runs
abbrev pub merged_so_far : Phase → Option ℕ
merged_so_far (phase.Running r) = Some r.consumer.merge.count
merged_so_far (phase.Gathering g) = None
merged_so_far (phase.Gone inc) = None

-- the same of what stands under a name, where that is a replica
abbrev pub merged_at : Option NodeState → Option ℕ
merged_at None = None
merged_at (Some (state.Ingress i)) = None
merged_at (Some (state.Replica v)) = merged_so_far v.phase
merged_at (Some (state.Control c)) = None
merged_at (Some (state.Egress e)) = None

-- the same of a node of a core, where it is a replica of the plan
abbrev pub merged_seen : CoreView → NodeId → Option ℕ
merged_seen core n = if has_replica core.plan n then merged_at (station core n).content else None
