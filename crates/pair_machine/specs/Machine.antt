-- The pair machine: the numbers of all nodes and every message ever sent, how it opens, what a step is, and which lists of events are
-- legal. Nothing is ever removed from a link, so a message may be taken again, and in any order. A step is at one node: it changes
-- that node's numbers, and appends what the node sends to its links.
use Rattle.std.specs.Prelude.{◌≡◌, ℕ, zero, suc, Bool, true, false, List, [], ◌∷◌, ◌++◌, ◌-◌, Option, None, Some, Result, Ok, Err, ◌&&◌, if◌then◌else◌, nat_lt, nat_le, length, slice_get, unwrap_or}
use Rattle.tuple_edge.specs.declared.event.Event.{Event}
use Rattle.tuple_edge.specs.declared.event.Event.TheVariants as event
use Rattle.tuple_edge.specs.declared.node.LinkId.{LinkId}
use Rattle.tuple_edge.specs.declared.node.NodeId.{NodeId}
use Rattle.tuple_edge.specs.declared.node.NodeId.TheVariants as node
use Rattle.tuple_edge.specs.declared.node.Which.{Which}
use Rattle.tuple_edge.specs.declared.node.Which.TheVariants.{A, B}
use Rattle.tuple_edge.specs.declared.status.Status.TheVariants as status
use Rattle.tuple_edge.specs.Node.{part_of}
pub use Rattle.tuple_edge.specs.Node.{at_node, partner_node}
use Rattle.pair_machine.specs.Numbers.{Producer, Consumer, RunningNumbers, Replica, Gone, Running, Gathering, Watched, Controller, Ingress, Node, IngressNode, ReplicaNode, ControllerNode, EgressNode, Partition, is_node}
use Rattle.pair_machine.specs.Messages.{Message, Envelope, Act, Takes, Works, Makes, Dies, AsksStop, AsksBack, Pulls, Refusal, NotSent, NothingDue, NotRunning, NotHeld}
use Rattle.pair_machine.specs.Flow.{Flow}
use Rattle.pair_machine.specs.Replicas.{made_by, replica_does, which_of}
use Rattle.pair_machine.specs.Consumers.{first_below}
use Rattle.pair_machine.specs.Controllers.{controller_takes}
use Rattle.pair_machine.specs.Boundary.{egress_does, ingress_does, source_made}

-- a state of the machine: each node's numbers, and all that was ever sent
pub record State : Type 0 where
  pub nodes : NodeId → Node
  -- every message ever sent on a link, in order
  pub sent : LinkId → List Message

-- ---- the opening

-- a consumer that has taken, told and merged nothing
abbrev pub new_consumer : Consumer
new_consumer = record { marks = λ q. 0; told = λ q. 0; count = 0 }

-- a producer of which nothing is acknowledged, and which sends each replica item 1 next
abbrev pub new_producer : ℕ → Bool → Producer
new_producer term leads = record { lows = λ t. 0; cursors = λ t c. 1; term = term; leads = leads }

-- ingress before the first make; each of its sources leads from the start, in term 1
abbrev pub new_ingress : Ingress
new_ingress = record { makes = 0; producers = λ q. new_producer 1 true }

-- whether a replica leads its pair at the opening, where no message has named a leader
abbrev pub leads_first : Which → Bool
leads_first A = true
leads_first B = false

-- the term that a replica has at the opening: A that of its controller, and B, which was never named leader, 0
abbrev pub first_term : Which → ℕ
first_term A = 1
first_term B = 0

-- a replica as it is at the opening: it runs in its first incarnation, and has served nobody
abbrev pub new_running : Which → RunningNumbers
new_running w = record { inc = 1; consumer = new_consumer; producer = new_producer (first_term w) (leads_first w); served = 0; move = None }

-- what a controller knows of either replica at the opening: it is up in incarnation 1, and has reported nothing
abbrev pub new_watched : Watched
new_watched = record { status = status.Up; inc = 1; reports = λ q. 0; stop = false; back = false }

-- a controller at the opening: it has acknowledged nothing, and A leads in term 1
abbrev pub new_controller : Controller
new_controller = record { watched = λ w. new_watched; acked = λ q. 0; term = 1; leader = Some A }

-- a node at the opening; the name alone decides its kind, and need not be one of the plan
abbrev pub new_node : NodeId → Node
new_node node.Ingress = IngressNode new_ingress
new_node (node.Replica s p w) = ReplicaNode (Running (new_running w))
new_node (node.Control s p) = ControllerNode new_controller
new_node node.Egress = EgressNode new_consumer

-- every replica runs, replica A of each pair leads, and nothing was made, taken or sent
abbrev pub opening : State
opening = record { nodes = new_node; sent = λ l. [] }

-- ---- the numbers of a node as those of its kind

-- the replica that a node is; of another kind's node one that is gone in incarnation 0, as none is that began at 1
abbrev pub replica_in : Node → Replica
replica_in (ReplicaNode r) = r
replica_in x = Gone 0

-- the controller that a node is; of another kind's node one as at the opening
abbrev pub controller_in : Node → Controller
controller_in (ControllerNode c) = c
controller_in x = new_controller

-- ingress, where the node is it; of another kind's node ingress as at the opening
abbrev pub ingress_in : Node → Ingress
ingress_in (IngressNode x) = x
ingress_in x = new_ingress

-- egress, where the node is it; of another kind's node a consumer that has taken nothing
abbrev pub egress_in : Node → Consumer
egress_in (EgressNode x) = x
egress_in x = new_consumer

-- ---- what a node is after an act, and what it sends, or why the act is none

-- what a replica's act gives, as that of a node: messages and refusals stay as they are
abbrev pub as_replica : Result (Replica × List Envelope) Refusal → Result (Node × List Envelope) Refusal
as_replica (Ok d) = Ok (ReplicaNode d.0, d.1)
as_replica (Err e) = Err e

-- the same of an act of ingress
abbrev pub as_ingress : Result (Ingress × List Envelope) Refusal → Result (Node × List Envelope) Refusal
as_ingress (Ok d) = Ok (IngressNode d.0, d.1)
as_ingress (Err e) = Err e

-- the same of an act of egress
abbrev pub as_egress : Result (Consumer × List Envelope) Refusal → Result (Node × List Envelope) Refusal
as_egress (Ok d) = Ok (EgressNode d.0, d.1)
as_egress (Err e) = Err e

-- what a controller does: it takes every message, and refuses all else, as it has no work of its own, and never fails
abbrev pub controller_does : Flow → Partition → Act → Controller → Result (Node × List Envelope) Refusal
controller_does f p (Takes from m) c = let d = controller_takes (f.sources p.stage) p (which_of from) m c in Ok (ControllerNode d.0, d.1)
controller_does f p Works c = Err NothingDue
controller_does f p Makes c = Err NothingDue
controller_does f p Dies c = Err NotRunning
controller_does f p AsksStop c = Err NotRunning
controller_does f p AsksBack c = Err NotRunning
controller_does f p (Pulls q) c = Err NotRunning

-- what any node does; its kind is the one that its name says, whatever numbers it has
abbrev pub does : Flow → NodeId → Act → Node → Result (Node × List Envelope) Refusal
does f node.Ingress a n = as_ingress (ingress_does f a (ingress_in n))
does f (node.Replica s p w) a n = as_replica (replica_does f (record { stage = s; part = p }) w a (replica_in n))
does f (node.Control s p) a n = controller_does f (record { stage = s; part = p }) a (controller_in n)
does f node.Egress a n = as_egress (egress_does f a (egress_in n))

-- ---- what an event asks of its node

-- what stands at a place, from 1
abbrev pub nth_from_one : {X : Type 0} → List X → ℕ → Option X
nth_from_one xs zero = None
nth_from_one xs (suc k) = slice_get xs k

-- the taking of a link's message k, if it was sent at all, whether or not it was taken before
abbrev pub taking_of : LinkId → ℕ → List Message → Option Message → Result Act Refusal
taking_of l k sent None = Err (NotSent l k (length sent))
taking_of l k sent (Some m) = Ok (Takes l.from m)

-- the numbers of the items in a producer's buffer: those above low up to produced
pub record Buffer : Type 0 where
  pub low : ℕ
  pub produced : ℕ

-- the buffer of out-edge t of a replica that runs, whether it leads or not; one that gathers or is gone has none
abbrev pub buffer_in : Flow → Partition → ℕ → Replica → Option Buffer
buffer_in f p t (Gone i) = None
buffer_in f p t (Running x) = Some (record { low = x.producer.lows t; produced = made_by f p x.consumer.count t })
buffer_in f p t (Gathering g) = None

-- the buffer of a node's out-edge t, where it runs; of ingress that of its source q
abbrev pub buffer_of : Flow → (q t : ℕ) → NodeId → Node → Option Buffer
buffer_of f q t node.Ingress n = let x = ingress_in n in Some (record { low = (x.producers q).lows t; produced = source_made f x q t })
buffer_of f q t (node.Replica s p w) n = buffer_in f (record { stage = s; part = p }) t (replica_in n)
buffer_of f q t (node.Control s p) n = None
buffer_of f q t node.Egress n = None

-- the mark of in-edge q of a replica that runs; one that gathers or is gone has none
abbrev pub mark_in : ℕ → Replica → Option ℕ
mark_in q (Gone i) = None
mark_in q (Running x) = Some (x.consumer.marks q)
mark_in q (Gathering g) = None

-- the mark of a node's in-edge q, where it runs
abbrev pub mark_of : ℕ → NodeId → Node → Option ℕ
mark_of q node.Ingress n = None
mark_of q (node.Replica s p w) n = mark_in q (replica_in n)
mark_of q (node.Control s p) n = None
mark_of q node.Egress n = Some ((egress_in n).marks q)

-- a node that runs has a mark below what was made
abbrev pub is_behind : Option ℕ → ℕ → Bool
is_behind None made = false
is_behind (Some mark) made = nat_lt mark made

-- The source of ingress whose next item goes straight to a node: the first one that has made an item above the node's mark, or the last
-- one.
abbrev pub pulled_source : Flow → Ingress → NodeId → Node → ℕ
pulled_source f x to n = unwrap_or (first_below (λ q. is_behind (mark_of q to n) (source_made f x q (part_of to))) (f.sources 1 - 1)) (f.sources 1 - 1)

-- the source of the one edge that a pull uses between its two ends
abbrev pub source_pulled : Flow → (from : NodeId) → Node → (to : NodeId) → Node → ℕ
source_pulled f node.Ingress n to m = pulled_source f (ingress_in n) to m
source_pulled f (node.Replica s p w) n to m = p
source_pulled f (node.Control s p) n to m = p
source_pulled f node.Egress n to m = 0

-- a pull is one where both ends run, and the item after the mark is kept
abbrev pub pull_of : ℕ → Option Buffer → Option ℕ → Result Act Refusal
pull_of q None m = Err NotRunning
pull_of q (Some o) None = Err NotRunning
pull_of q (Some o) (Some mark) = if nat_le o.low mark && nat_lt mark o.produced then Ok (Pulls q) else Err (NotHeld o.low mark o.produced)

-- what an event asks of its node, as far as the links and other nodes decide it
abbrev pub act_of : Flow → State → Event → Result Act Refusal
act_of f s (event.Take l k) = taking_of l k (s.sent l) (nth_from_one (s.sent l) k)
act_of f s (event.Work n) = Ok Works
act_of f s event.Make = Ok Makes
act_of f s (event.Kill n) = Ok Dies
act_of f s (event.AskStop n) = Ok AsksStop
act_of f s (event.AskBack n) = Ok AsksBack
act_of f s (event.Pull from to) =
    let q = source_pulled f from (s.nodes from) to (s.nodes to) in pull_of q (buffer_of f q (part_of to) from (s.nodes from)) (mark_of q to (s.nodes to))

-- ---- steps

-- the messages to one node, in order
abbrev pub messages_to : NodeId → List Envelope → List Message
messages_to n [] = []
messages_to n (x ∷ xs) = if is_node x.to n then x.message ∷ messages_to n xs else messages_to n xs

-- all links after node n has sent something: what it sent stands last on its own links, and no other link changes
abbrev pub posted : NodeId → List Envelope → (LinkId → List Message) → LinkId → List Message
posted n out sent l = if is_node l.from n then sent l ++ messages_to l.to out else sent l

-- all nodes once node n has these numbers; every other node keeps its own
abbrev pub changed : NodeId → Node → (NodeId → Node) → NodeId → Node
changed n x nodes m = if is_node m n then x else nodes m

-- the state after a node did something
abbrev pub after : NodeId → State → Result (Node × List Envelope) Refusal → Result State Refusal
after n s (Ok d) = Ok (record { nodes = changed n d.0 s.nodes; sent = posted n d.1 s.sent })
after n s (Err e) = Err e

-- the state after a node did what an event asks of it; an event that the links or other nodes refuse never comes to the node
abbrev pub acted : Flow → NodeId → State → Result Act Refusal → Result State Refusal
acted f n s (Ok a) = after n s (does f n a (s.nodes n))
acted f n s (Err e) = Err e

-- the next state, or why the event is none
unfoldable pub step : Flow → State → Event → Result State Refusal
step f s e = acted f (at_node e) s (act_of f s e)

-- ---- legal lists

-- the state after all events in order, or the first refusal, whatever events come after it
abbrev pub follow : Flow → List Event → Result State Refusal → Result State Refusal
follow f [] s = s
follow f (e ∷ es) (Ok s) = follow f es (step f s e)
follow f (e ∷ es) (Err r) = Err r

-- the events lead from the one state to the other, each without a refusal
abbrev pub Leads : Flow → State → List Event → State → Type 0
Leads f s es t = follow f es (Ok s) ≡ Ok t
