-- The numbers that each node of the pair machine has. The machine knows no item: it knows how many items of an edge a node has
-- taken, merged, produced and may forget, and what those items are follows from the plan and the inputs. Each number of an edge is
-- a function, of the source for edges into a partition and of the target for edges out of it, so that the laws need no range.
use Rattle.std.specs.Prelude.{ℕ, zero, suc, Bool, true, false, List, Option, ◌-◌, ◌==◌, ◌&&◌}
use Rattle.tuple_edge.specs.declared.node.EdgeId.{EdgeId}
use Rattle.tuple_edge.specs.declared.node.NodeId.{NodeId}
use Rattle.tuple_edge.specs.declared.node.NodeId.TheVariants as node
use Rattle.tuple_edge.specs.declared.node.Which.{Which}
use Rattle.tuple_edge.specs.declared.node.Which.TheVariants.{A, B}
use Rattle.tuple_edge.specs.declared.status.Status.{Status}
pub use Rattle.tuple_edge.specs.Node.{other}

-- ---- edges

-- what a producer has: for each out-edge up to which number it is acknowledged (low), and for each replica that it sends to, which it
-- counts from 0, the number to send next (cursor); its term, and whether it leads
pub record Producer : Type 0 where
  pub lows : ℕ → ℕ
  pub cursors : ℕ → ℕ → ℕ
  pub term : ℕ
  pub leads : Bool

-- what a consumer has: for each in-edge the number of the last item taken (mark) and what of it was told, and how many items it merged
pub record Consumer : Type 0 where
  pub marks : ℕ → ℕ
  pub told : ℕ → ℕ
  pub count : ℕ

-- ---- moves

-- the numbers of a move, fixed at its beginning
pub record MoveNumbers : Type 0 where
  pub marks : ℕ → ℕ
  pub count : ℕ
  pub lows : ℕ → ℕ

-- a move under way: for which incarnation of the partner, of which numbers, and how many chunks were sent
pub record Move : Type 0 where
  pub target : ℕ
  pub numbers : MoveNumbers
  pub sent : ℕ

-- ---- replicas

-- what a replica that runs has: its incarnation, its consumer and producer, the greatest incarnation of its partner that it served,
-- and at most one move
pub record RunningNumbers : Type 0 where
  pub inc : ℕ
  pub consumer : Consumer
  pub producer : Producer
  pub served : ℕ
  pub move : Option Move

-- what a replica that gathers its partner's state has: its incarnation, how many chunks it took, the numbers of their move once one
-- was taken, and for each in-edge the numbers of the items that it holds meanwhile, rising
pub record GatheringNumbers : Type 0 where
  pub inc : ℕ
  pub taken : ℕ
  pub moved : Option MoveNumbers
  pub held : ℕ → List ℕ

-- a replica, in one of its three modes: gone, running, or gathering its partner's state
pub data Replica : Type 0 where
  Gone : (inc : ℕ) → Replica
  Running : (numbers : RunningNumbers) → Replica
  Gathering : (numbers : GatheringNumbers) → Replica

-- ---- controllers

-- what a controller knows of one replica: its status and incarnation, what it reported of each in-edge, and whether it is to be
-- stopped or brought back
pub record Watched : Type 0 where
  pub status : Status
  pub inc : ℕ
  pub reports : ℕ → ℕ
  pub stop : Bool
  pub back : Bool

-- what a controller has: what it knows of both replicas, up to which number it acknowledged each in-edge, the term, and who leads
pub record Controller : Type 0 where
  pub watched : Which → Watched
  pub acked : ℕ → ℕ
  pub term : ℕ
  pub leader : Option Which

-- ---- nodes

-- what ingress has: how many inputs, or the end, it made into items, and a producer for each source
pub record Ingress : Type 0 where
  pub makes : ℕ
  pub producers : ℕ → Producer

-- the numbers of a node; egress has those of a consumer
pub data Node : Type 0 where
  IngressNode : (ingress : Ingress) → Node
  ReplicaNode : (replica : Replica) → Node
  ControllerNode : (controller : Controller) → Node
  EgressNode : (consumer : Consumer) → Node

-- ---- names

-- a partition of a stage; each source of ingress is a partition of stage 0, and egress is partition 0 of the stage after the last
pub record Partition : Type 0 where
  pub stage : ℕ
  pub part : ℕ

-- whether two names are those of the same replica of a pair
abbrev pub is_which : Which → Which → Bool
is_which A A = true
is_which A B = false
is_which B A = false
is_which B B = true

-- the copy that a replica is, by which the producers of its in-edges have a cursor for it
abbrev pub copy_of : Which → ℕ
copy_of A = 0
copy_of B = 1

-- the replica that a copy is; every number above 0 stands for B, as a pair has no third
abbrev pub which_at : ℕ → Which
which_at zero = A
which_at (suc c) = B

-- the node that is replica w of a partition; ingress and egress are partitions too, and have none in a plan
abbrev pub replica_at : Partition → Which → NodeId
replica_at p w = node.Replica p.stage p.part w

-- the node that is the controller of a partition's pair; ingress and egress have none in a plan
abbrev pub control_at : Partition → NodeId
control_at p = node.Control p.stage p.part

-- the edge into a partition from source q
abbrev pub in_edge : Partition → ℕ → EdgeId
in_edge p q = record { stage = p.stage - 1; from = q; to = p.part }

-- the edge out of a partition to target t
abbrev pub out_edge : Partition → ℕ → EdgeId
out_edge p t = record { stage = p.stage; from = p.part; to = t }

-- the edge from source q of ingress to target t
abbrev pub ingress_edge : ℕ → ℕ → EdgeId
ingress_edge q t = record { stage = 0; from = q; to = t }

-- whether two names are those of one node
abbrev pub is_node : NodeId → NodeId → Bool
is_node node.Ingress node.Ingress = true
is_node (node.Replica stage part which) (node.Replica of_stage of_part of_which) = (stage == of_stage) && (part == of_part) && is_which which of_which
is_node (node.Control stage part) (node.Control of_stage of_part) = (stage == of_stage) && (part == of_part)
is_node node.Egress node.Egress = true
is_node one another = false
