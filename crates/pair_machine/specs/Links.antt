-- Which messages stand on which links. Each message goes between two nodes of the plan, over a link that carries its kind, and its
-- edge lies between these nodes: a tuple goes along its edge, an acknowledgement or a want back, and a report names an in-edge of its
-- own pair.
use Rattle.std.specs.Prelude.{◌≡◌, ◌<◌, ◌≤◌, ◌+◌}
use Rattle.tuple_edge.specs.declared.event.Event.{Event}
use Rattle.tuple_edge.specs.declared.event.Event.TheVariants as event
use Rattle.tuple_edge.specs.declared.node.EdgeId.{EdgeId}
use Rattle.tuple_edge.specs.declared.node.LinkId.{LinkId}
use Rattle.tuple_edge.specs.declared.node.NodeId.{NodeId}
use Rattle.tuple_edge.specs.declared.node.NodeId.TheVariants as node
use Rattle.pair_machine.specs.Numbers.{other}
use Rattle.pair_machine.specs.Messages.{Message, Tuple, Ack, Report, Lead, Serve, Begin, Chunk, ChunkEnd, Caught, Want, Down, Stop, AskStop, AskBack}
use Rattle.pair_machine.specs.Flow.{Flow}
use Rattle.pair_machine.specs.Lists.{Each}
use Rattle.pair_machine.specs.Machine.{State}

-- the link from one node to another; any two nodes have one, also where nothing ever goes over it
abbrev pub link : NodeId → NodeId → LinkId
link from to = record { from = from; to = to }

-- ---- nodes and events of the plan

-- the node's stage is one of the plan
abbrev pub HasStage : Flow → NodeId → Type 0
HasStage f node.Ingress = Unit {0}
HasStage f (node.Replica s p w) = (1 ≤ s) × (s ≤ f.stages)
HasStage f (node.Control s p) = (1 ≤ s) × (s ≤ f.stages)
HasStage f node.Egress = Unit {0}

-- its partition is one of that stage
abbrev pub HasPart : Flow → NodeId → Type 0
HasPart f node.Ingress = Unit {0}
HasPart f (node.Replica s p w) = p < f.sources (s + 1)
HasPart f (node.Control s p) = p < f.sources (s + 1)
HasPart f node.Egress = Unit {0}

-- a node of the plan
abbrev pub HasNode : Flow → NodeId → Type 0
HasNode f n = HasStage f n × HasPart f n

-- the items of an edge come from this node; of ingress, from one of its sources
abbrev pub IsProducer : Flow → EdgeId → NodeId → Type 0
IsProducer f e node.Ingress = (e.stage ≡ 0) × (e.from < f.sources 1)
IsProducer f e (node.Replica s p w) = (1 ≤ s) × (e.stage ≡ s) × (e.from ≡ p)
IsProducer f e (node.Control s p) = ⊥
IsProducer f e node.Egress = ⊥

-- the items of an edge go to this node
abbrev pub IsConsumer : Flow → EdgeId → NodeId → Type 0
IsConsumer f e node.Ingress = ⊥
IsConsumer f e (node.Replica s p w) = (e.stage + 1 ≡ s) × (e.to ≡ p)
IsConsumer f e (node.Control s p) = ⊥
IsConsumer f e node.Egress = (e.stage ≡ f.stages) × (e.to ≡ 0)

-- an edge leads from one node to another
abbrev pub HasEdge : Flow → NodeId → NodeId → Type 0
HasEdge f from to = (e : EdgeId) × IsProducer f e from × IsConsumer f e to

-- the event's nodes are the plan's, and an edge leads from a pull's first node to its second
abbrev pub IsThere : Flow → Event → Type 0
IsThere f (event.Take l k) = HasNode f l.to
IsThere f (event.Work n) = HasNode f n
IsThere f event.Make = Unit {0}
IsThere f (event.Kill n) = HasNode f n
IsThere f (event.AskStop n) = HasNode f n
IsThere f (event.AskBack n) = HasNode f n
IsThere f (event.Pull from to) = HasNode f from × HasNode f to × HasEdge f from to

-- ---- what links carry

-- this node acknowledges an edge
abbrev pub Acknowledges : Flow → EdgeId → NodeId → Type 0
Acknowledges f e node.Ingress = ⊥
Acknowledges f e (node.Replica s p w) = ⊥
Acknowledges f e (node.Control s p) = (e.stage + 1 ≡ s) × (e.to ≡ p)
Acknowledges f e node.Egress = (e.stage ≡ f.stages) × (e.to ≡ 0)

-- this node may want items of an edge again: a replica into whose partition the edge leads; egress never fails, and wants none
abbrev pub Wants : EdgeId → NodeId → Type 0
Wants e node.Ingress = ⊥
Wants e (node.Replica s p w) = (e.stage + 1 ≡ s) × (e.to ≡ p)
Wants e (node.Control s p) = ⊥
Wants e node.Egress = ⊥

-- an in-edge of the pair of which the node is the controller
abbrev pub IsInEdge : Flow → EdgeId → NodeId → Type 0
IsInEdge f e (node.Control s p) = (e.stage + 1 ≡ s) × (e.to ≡ p) × (e.from < f.sources s)
IsInEdge f e n = ⊥

-- from a replica to its controller
abbrev pub IsUp : NodeId → NodeId → Type 0
IsUp (node.Replica s p w) (node.Control t q) = (s ≡ t) × (p ≡ q)
IsUp from to = ⊥

-- from a replica to its partner
abbrev pub IsAcross : NodeId → NodeId → Type 0
IsAcross (node.Replica s p w) (node.Replica t q u) = (s ≡ t) × (p ≡ q) × (w ≡ other u)
IsAcross from to = ⊥

-- the link carries such a message, and the message's edge lies between its ends
abbrev pub Carries : Flow → LinkId → Message → Type 0
Carries f l (Tuple e k) = IsProducer f e l.from × IsConsumer f e l.to
Carries f l (Ack e k) = Acknowledges f e l.from × IsProducer f e l.to
Carries f l (Want e k) = Wants e l.from × IsProducer f e l.to
Carries f l (Report i e k) = IsUp l.from l.to × IsInEdge f e l.to
Carries f l (Lead i t) = IsUp l.to l.from
Carries f l (Serve i t) = IsUp l.to l.from
Carries f l (Begin i) = IsUp l.to l.from
Carries f l (Stop i) = IsUp l.to l.from
Carries f l (Chunk i k m) = IsAcross l.from l.to
Carries f l (ChunkEnd i k m) = IsAcross l.from l.to
Carries f l (Caught i) = IsUp l.from l.to
Carries f l (Down i) = IsUp l.from l.to
Carries f l (AskStop i) = IsUp l.from l.to
Carries f l AskBack = IsUp l.from l.to

-- each message stands on a link that carries it
abbrev pub AreOnTheirLinks : Flow → State → Type 0
AreOnTheirLinks f s = (l : LinkId) → Each (Carries f l) (s.sent l)

-- each message went from a node of the plan to a node of the plan
abbrev pub AreBetweenNodes : Flow → State → Type 0
AreBetweenNodes f s = (l : LinkId) → Each (λ m. HasNode f l.from × HasNode f l.to) (s.sent l)
