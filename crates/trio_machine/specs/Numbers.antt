-- The numbers that each node of the machine of groups has, and the names of these nodes. What a producer and a consumer have is as in
-- the pair machine; a replica that failed has nothing, and never comes back. The replicas of a group are counted 0, 1 and 2.
use Rattle.std.specs.Prelude.{ℕ, Bool, true, false, Option, ◌==◌, ◌&&◌}
use Rattle.pair_machine.specs.Numbers.{Consumer, Partition, Producer}
use Rattle.trio_machine.specs.declared.node.TrioNode.{TrioNode}
use Rattle.trio_machine.specs.declared.node.TrioNode.TheVariants as node

-- how many replicas a partition has
abbrev pub group_size : ℕ
group_size = 3

-- ---- nodes

-- what a replica that runs has
pub record RunningNumbers : Type 0 where
  pub consumer : Consumer
  pub producer : Producer

-- a replica of a group: it is gone, or it runs with these numbers
pub data Replica : Type 0 where
  Gone : Replica
  Running : (numbers : RunningNumbers) → Replica

-- what a controller has: which replicas it holds up, what each reported of each in-edge, up to which number it acknowledged each in-edge,
-- the term, and who leads
pub record Controller : Type 0 where
  pub up : ℕ → Bool
  pub reports : ℕ → ℕ → ℕ
  pub acked : ℕ → ℕ
  pub term : ℕ
  pub leader : Option ℕ

-- what ingress has: how many inputs, or the end, it made into items, and the producer of its one source
pub record Ingress : Type 0 where
  pub makes : ℕ
  pub producer : Producer

-- the numbers of a node; egress has those of a consumer
pub data Node : Type 0 where
  IngressNode : (ingress : Ingress) → Node
  ReplicaNode : (replica : Replica) → Node
  ControllerNode : (controller : Controller) → Node
  EgressNode : (consumer : Consumer) → Node

-- ---- names

-- the name of replica c of a partition
abbrev pub replica_at : Partition → ℕ → TrioNode
replica_at p c = node.Replica p.stage p.part c

-- the name of the controller of a partition's group
abbrev pub control_at : Partition → TrioNode
control_at p = node.Control p.stage p.part

-- whether two names are those of one node
abbrev pub is_node : TrioNode → TrioNode → Bool
is_node node.Ingress node.Ingress = true
is_node (node.Replica stage part copy) (node.Replica of_stage of_part of_copy) = (stage == of_stage) && (part == of_part) && (copy == of_copy)
is_node (node.Control stage part) (node.Control of_stage of_part) = (stage == of_stage) && (part == of_part)
is_node node.Egress node.Egress = true
is_node one another = false

-- which replica of its group a node is
abbrev pub copy_of : TrioNode → ℕ
copy_of node.Ingress = 0
copy_of (node.Replica s p c) = c
copy_of (node.Control s p) = 0
copy_of node.Egress = 0

-- the partition of a node
abbrev pub part_of : TrioNode → ℕ
part_of node.Ingress = 0
part_of (node.Replica s p c) = p
part_of (node.Control s p) = p
part_of node.Egress = 0
