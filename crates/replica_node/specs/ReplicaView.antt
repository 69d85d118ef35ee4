-- What contracts see of a replica.
use Rattle.std.specs.Prelude.{ℕ, Option, None, Some}
use Rattle.tuple_edge.specs.declared.node.NodeId.{NodeId}
use Rattle.tuple_edge.specs.declared.node.NodeId.TheVariants as node
use Rattle.plan_reader.specs.declared.stage.Stage.{Stage}
use Rattle.pair_machine.specs.Numbers.{Partition, other}
pub use Rattle.partition_step.specs.Answering.{targets_of}
use Rattle.replica_node.specs.declared.phase.Phase.{Phase}
use Rattle.replica_node.specs.declared.role.Role.{Role}

-- which replica of which partition it is, and its mode with what it has in it
pub record ReplicaView : Type 0 where
  pub role : Role
  pub phase : Phase

-- the same replica in another phase
abbrev pub with_phase : ReplicaView → Phase → ReplicaView
with_phase v phase = record v { phase = phase }

-- ---- names

-- the partition of which it is a replica
abbrev pub partition_of : Role → Partition
partition_of role = record { stage = role.stage; part = role.part }

-- the name of a replica's node
abbrev pub node_of : Role → NodeId
node_of role = node.Replica role.stage role.part role.which

-- the name of its partner's node
abbrev pub partner_of : Role → NodeId
partner_of role = node.Replica role.stage role.part (other role.which)

-- ---- the next stage; after the last one comes egress, with one copy

-- how many copies each partition of the next stage has: two replicas, and egress one
abbrev pub copies_of : Option Stage → ℕ
copies_of None = 1
copies_of (Some next) = 2
