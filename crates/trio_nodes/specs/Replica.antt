-- What a replica stands for in the machine of groups.
use Rattle.std.specs.Prelude.{◌≡◌, List, Option, None, Some}
use Rattle.tuple_edge.specs.Input.{Input}
use Rattle.tuple_edge.specs.declared.event.Worked.{Worked}
use Rattle.tuple_edge.specs.declared.event.Worked.TheVariants as worked
use Rattle.plan_reader.specs.Nodes.{sources_of}
use Rattle.plan_reader.specs.PlanView.{PlanView}
use Rattle.pair_machine.specs.Numbers.{Partition}
use Rattle.partition_step.specs.Merging.{IsPartition, PartsStand}
use Rattle.trio_machine.specs.Flow.{trio_flow}
use Rattle.trio_machine.specs.Machine.{replica_in}
use Rattle.trio_machine.specs.Messages.{NothingDue, Works}
use Rattle.trio_machine.specs.Numbers.{Gone, Node, Replica, Running}
use Rattle.trio_machine.specs.declared.body.TrioBody.{TrioBody}
use Rattle.trio_machine.specs.declared.node.TrioNode.{TrioNode}
use Rattle.trio_nodes.specs.ReplicaView.{ReplicaView, node_of, partition_of, parts_of_run}
use Rattle.trio_nodes.specs.Steps.{IsRefused, IsStep}
use Rattle.trio_nodes.specs.declared.role.TrioRole.{TrioRole}
use Rattle.trio_nodes.specs.declared.running.TrioRunning.{TrioRunning}

-- it is a replica of a partition of the plan
pub record IsOfPlan (plan : PlanView) (role : TrioRole) : Type 0 where
  pub place : IsPartition plan (partition_of role) role.task
  pub sources : role.sources ≡ sources_of plan role.stage

-- what it has stands for the machine's numbers, and one that is gone for one that is gone
abbrev pub RunningStands : PlanView → List Input → Partition → Option TrioRunning → Replica → Type 0
RunningStands plan inputs p (Some r) (Running x) = PartsStand (trio_flow plan inputs) plan inputs p x.consumer x.producer (parts_of_run r)
RunningStands plan inputs p None Gone = Unit {0}
RunningStands plan inputs p r x = ⊥

-- a replica of the plan stands for a node's numbers
pub record StandsFor (plan : PlanView) (inputs : List Input) (v : ReplicaView) (x : Node) : Type 0 where
  pub of_plan : IsOfPlan plan v.role
  pub running : RunningStands plan inputs (partition_of v.role) v.running (replica_in x)

-- a piece of work; where there was none, nothing was due
abbrev pub IsWorked : PlanView → List Input → ReplicaView → ReplicaView → List (TrioNode × TrioBody) → Worked → Type 0
IsWorked plan inputs old new sent worked.Did = IsStep plan inputs (node_of old.role) (StandsFor plan inputs old) (StandsFor plan inputs new) Works sent
IsWorked plan inputs old new sent worked.Idle = IsRefused plan inputs (node_of old.role) (StandsFor plan inputs old) Works NothingDue
