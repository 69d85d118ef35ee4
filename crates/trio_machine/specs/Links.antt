-- Which messages stand on which links. Each message goes between two nodes of the plan, over a link that carries its kind, and its edge
-- lies between these nodes: a tuple goes along its edge, an acknowledgement back, and a report names an in-edge of its own group.
use Rattle.std.specs.Prelude.{◌≡◌, ◌<◌, ◌≤◌, ◌+◌}
use Rattle.tuple_edge.specs.declared.node.EdgeId.{EdgeId}
use Rattle.pair_machine.specs.CountLaws.{IsOfStage}
use Rattle.pair_machine.specs.Drain.{partition}
use Rattle.pair_machine.specs.Flow.{Flow}
use Rattle.trio_machine.specs.Messages.{Message, Tuple, Ack, Report, Lead, Down}
use Rattle.trio_machine.specs.Numbers.{group_size}
use Rattle.trio_machine.specs.declared.event.TrioEvent.{TrioEvent}
use Rattle.trio_machine.specs.declared.event.TrioEvent.TheVariants as event
use Rattle.trio_machine.specs.declared.node.TrioNode.{TrioNode}
use Rattle.trio_machine.specs.declared.node.TrioNode.TheVariants as node

-- ---- nodes and events of the plan

-- a node of the plan
abbrev pub HasNode : Flow → TrioNode → Type 0
HasNode f node.Ingress = Unit {0}
HasNode f (node.Replica s p c) = IsOfStage f (partition s p) × (c < group_size)
HasNode f (node.Control s p) = IsOfStage f (partition s p)
HasNode f node.Egress = Unit {0}

-- the items of an edge come from this node
abbrev pub IsProducer : Flow → EdgeId → TrioNode → Type 0
IsProducer f e node.Ingress = (e.stage ≡ 0) × (e.from ≡ 0)
IsProducer f e (node.Replica s p c) = (1 ≤ s) × (e.stage ≡ s) × (e.from ≡ p)
IsProducer f e (node.Control s p) = ⊥
IsProducer f e node.Egress = ⊥

-- the items of an edge go to this node
abbrev pub IsConsumer : Flow → EdgeId → TrioNode → Type 0
IsConsumer f e node.Ingress = ⊥
IsConsumer f e (node.Replica s p c) = (e.stage + 1 ≡ s) × (e.to ≡ p)
IsConsumer f e (node.Control s p) = ⊥
IsConsumer f e node.Egress = (e.stage ≡ f.stages) × (e.to ≡ 0)

-- this node acknowledges an edge
abbrev pub Acknowledges : Flow → EdgeId → TrioNode → Type 0
Acknowledges f e node.Ingress = ⊥
Acknowledges f e (node.Replica s p c) = ⊥
Acknowledges f e (node.Control s p) = (e.stage + 1 ≡ s) × (e.to ≡ p)
Acknowledges f e node.Egress = (e.stage ≡ f.stages) × (e.to ≡ 0)

-- an edge leads from one node to another
abbrev pub HasEdge : Flow → TrioNode → TrioNode → Type 0
HasEdge f from to = (e : EdgeId) × IsProducer f e from × IsConsumer f e to

-- the event's nodes are the plan's, and an edge leads from a pull's first node to its second
abbrev pub IsThere : Flow → TrioEvent → Type 0
IsThere f (event.Take from to k) = HasNode f to
IsThere f (event.Work n) = HasNode f n
IsThere f event.Make = Unit {0}
IsThere f (event.Kill n) = HasNode f n
IsThere f (event.Pull from to) = HasNode f from × HasNode f to × HasEdge f from to

-- ---- what links carry

-- an in-edge of the group of which the node is the controller
abbrev pub IsInEdge : Flow → EdgeId → TrioNode → Type 0
IsInEdge f e (node.Control s p) = (e.stage + 1 ≡ s) × (e.to ≡ p) × (e.from < f.sources s)
IsInEdge f e n = ⊥

-- from a replica to its controller
abbrev pub IsUp : TrioNode → TrioNode → Type 0
IsUp (node.Replica s p c) (node.Control t q) = (s ≡ t) × (p ≡ q)
IsUp from to = ⊥

-- the link carries such a message, and the message's edge lies between its ends
abbrev pub Carries : Flow → (from to : TrioNode) → Message → Type 0
Carries f from to (Tuple e k) = IsProducer f e from × IsConsumer f e to
Carries f from to (Ack e k) = Acknowledges f e from × IsProducer f e to
Carries f from to (Report e k) = IsUp from to × IsInEdge f e to
Carries f from to (Lead t) = IsUp to from
Carries f from to Down = IsUp from to

-- a message stands where it may: both ends are nodes of the plan, and the link between them carries it
pub record IsCarried (f : Flow) (from to : TrioNode) (m : Message) : Type 0 where
  pub sender : HasNode f from
  pub receiver : HasNode f to
  pub carries : Carries f from to m
