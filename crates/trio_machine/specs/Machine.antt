-- The machine of groups: the numbers of all nodes and every message ever sent, how it opens, what a step is, and where a list of events
-- leads. Nothing that was sent is ever removed, so a message may be taken again, and in any order. A step is at one node: it changes that
-- node's numbers, and appends what the node sends.
use Rattle.std.specs.Prelude.{◌≡◌, ℕ, zero, suc, true, List, [], ◌∷◌, ◌++◌, ◌==◌, Option, None, Some, Result, Ok, Err, ◌&&◌, if◌then◌else◌, nat_lt, nat_le, length}
use Rattle.pair_machine.specs.Flow.{Flow}
use Rattle.pair_machine.specs.Machine.{Buffer, new_consumer, new_producer, nth_from_one}
use Rattle.pair_machine.specs.Drain.{partition}
use Rattle.pair_machine.specs.Numbers.{Consumer, Partition}
use Rattle.pair_machine.specs.Replicas.{made_by}
use Rattle.trio_machine.specs.Boundary.{egress_does, ingress_does, source_made}
use Rattle.trio_machine.specs.Controllers.{controller_takes}
use Rattle.trio_machine.specs.Messages.{Message, Envelope, Act, Takes, Works, Makes, Dies, Pulls, Refusal, NotSent, NothingDue, NotRunning, NotHeld}
use Rattle.trio_machine.specs.Numbers.{Replica, Gone, Running, RunningNumbers, Controller, Ingress, Node, IngressNode, ReplicaNode, ControllerNode, EgressNode, copy_of, is_node, part_of}
use Rattle.trio_machine.specs.Replicas.{replica_does}
use Rattle.trio_machine.specs.declared.event.TrioEvent.{TrioEvent}
use Rattle.trio_machine.specs.declared.event.TrioEvent.TheVariants as event
use Rattle.trio_machine.specs.declared.node.TrioNode.{TrioNode}
use Rattle.trio_machine.specs.declared.node.TrioNode.TheVariants as node

-- the numbers of all nodes, and all messages that they ever sent
pub record State : Type 0 where
  pub nodes : TrioNode → Node
  -- every message ever sent from one node to another, in order
  pub sent : TrioNode → TrioNode → List Message

-- ---- the opening

-- ingress at the opening: it has made nothing, and is the only producer of its edges, so it leads in term 1
abbrev pub new_ingress : Ingress
new_ingress = record { makes = 0; producer = new_producer 1 true }

-- replica 0 leads with term 1, and the others have term 0
abbrev pub first_term : ℕ → ℕ
first_term zero = 1
first_term (suc c) = 0

-- a replica at the opening: it has taken, merged and sent nothing
abbrev pub new_running : ℕ → RunningNumbers
new_running c = record { consumer = new_consumer; producer = new_producer (first_term c) (c == 0) }

-- a controller at the opening: it holds all three up, has acknowledged nothing, and replica 0 leads in term 1
abbrev pub new_controller : Controller
new_controller = record { up = λ c. true; reports = λ c q. 0; acked = λ q. 0; term = 1; leader = Some 0 }

-- a node at the opening; the name alone decides its kind, and need not be one of the plan
abbrev pub new_node : TrioNode → Node
new_node node.Ingress = IngressNode new_ingress
new_node (node.Replica s p c) = ReplicaNode (Running (new_running c))
new_node (node.Control s p) = ControllerNode new_controller
new_node node.Egress = EgressNode new_consumer

-- every replica runs and is held up, replica 0 of each group leads, and nothing was made, taken or sent
abbrev pub opening : State
opening = record { nodes = new_node; sent = λ from to. [] }

-- ---- the numbers of a node as those of its kind; of another kind's name there are none

-- the replica that a node is; of another kind's node one that is gone
abbrev pub replica_in : Node → Replica
replica_in (ReplicaNode r) = r
replica_in x = Gone

-- the controller that a node is; of another kind's node one as at the opening
abbrev pub controller_in : Node → Controller
controller_in (ControllerNode x) = x
controller_in x = new_controller

-- ingress, where the node is it; of another kind's node ingress as at the opening
abbrev pub ingress_in : Node → Ingress
ingress_in (IngressNode x) = x
ingress_in x = new_ingress

-- egress, where the node is it; of another kind's node a consumer that has taken nothing
abbrev pub egress_in : Node → Consumer
egress_in (EgressNode x) = x
egress_in x = new_consumer

-- ---- what a node is after an act, and what it sends, or why the act is none

-- what an act of ingress gives, as that of a node: messages and refusals stay as they are
abbrev pub as_ingress : Result (Ingress × List Envelope) Refusal → Result (Node × List Envelope) Refusal
as_ingress (Ok d) = Ok (IngressNode d.0, d.1)
as_ingress (Err e) = Err e

-- the same of an act of a replica
abbrev pub as_replica : Result (Replica × List Envelope) Refusal → Result (Node × List Envelope) Refusal
as_replica (Ok d) = Ok (ReplicaNode d.0, d.1)
as_replica (Err e) = Err e

-- the same of an act of egress
abbrev pub as_egress : Result (Consumer × List Envelope) Refusal → Result (Node × List Envelope) Refusal
as_egress (Ok d) = Ok (EgressNode d.0, d.1)
as_egress (Err e) = Err e

-- what a controller is after an act, and what it sends: it only ever takes messages, and refuses all else
abbrev pub controller_does : Flow → Partition → Act → Controller → Result (Node × List Envelope) Refusal
controller_does f p (Takes from m) x = let d = controller_takes (f.sources p.stage) p (copy_of from) m x in Ok (ControllerNode d.0, d.1)
controller_does f p Works x = Err NothingDue
controller_does f p Makes x = Err NothingDue
controller_does f p Dies x = Err NotRunning
controller_does f p (Pulls q) x = Err NotRunning

-- what the node of that name is after an act, and what it sends, or why the act is none
abbrev pub does : Flow → TrioNode → Act → Node → Result (Node × List Envelope) Refusal
does f node.Ingress a x = as_ingress (ingress_does f a (ingress_in x))
does f (node.Replica s p c) a x = as_replica (replica_does f (partition s p) a (replica_in x))
does f (node.Control s p) a x = controller_does f (partition s p) a (controller_in x)
does f node.Egress a x = as_egress (egress_does f a (egress_in x))

-- ---- what an event asks of its node

-- the one node that a step changes
abbrev pub at_node : TrioEvent → TrioNode
at_node (event.Take from to k) = to
at_node (event.Work n) = n
at_node event.Make = node.Ingress
at_node (event.Kill n) = n
at_node (event.Pull from to) = to

-- the message found at a place among those sent is taken; where nothing was sent so far, why not
abbrev pub taking_of : TrioNode → ℕ → List Message → Option Message → Result Act Refusal
taking_of from k sent None = Err (NotSent k (length sent))
taking_of from k sent (Some m) = Ok (Takes from m)

-- the buffer of a replica's out-edge t; one that is gone has none
abbrev pub buffer_in : Flow → Partition → ℕ → Replica → Option Buffer
buffer_in f p t Gone = None
buffer_in f p t (Running x) = Some (record { low = x.producer.lows t; produced = made_by f p x.consumer.count t })

-- the buffer of a node's out-edge t, where it runs
abbrev pub buffer_of : Flow → ℕ → TrioNode → Node → Option Buffer
buffer_of f t node.Ingress x = let y = ingress_in x in Some (record { low = y.producer.lows t; produced = source_made f y t })
buffer_of f t (node.Replica s p c) x = buffer_in f (partition s p) t (replica_in x)
buffer_of f t (node.Control s p) x = None
buffer_of f t node.Egress x = None

-- the mark of a replica's in-edge q; one that is gone has none
abbrev pub mark_in : ℕ → Replica → Option ℕ
mark_in q Gone = None
mark_in q (Running x) = Some (x.consumer.marks q)

-- the mark of a node's in-edge q, where it runs
abbrev pub mark_of : ℕ → TrioNode → Node → Option ℕ
mark_of q node.Ingress x = None
mark_of q (node.Replica s p c) x = mark_in q (replica_in x)
mark_of q (node.Control s p) x = None
mark_of q node.Egress x = Some ((egress_in x).marks q)

-- a pull is one where both ends run, and the item after the mark is kept
abbrev pub pull_of : ℕ → Option Buffer → Option ℕ → Result Act Refusal
pull_of q None mark = Err NotRunning
pull_of q (Some o) None = Err NotRunning
pull_of q (Some o) (Some mark) = if nat_le o.low mark && nat_lt mark o.produced then Ok (Pulls q) else Err (NotHeld o.low mark o.produced)

-- what an event asks of its node, as far as what was sent and other nodes decide it
abbrev pub act_of : Flow → State → TrioEvent → Result Act Refusal
act_of f s (event.Take from to k) = taking_of from k (s.sent from to) (nth_from_one (s.sent from to) k)
act_of f s (event.Work n) = Ok Works
act_of f s event.Make = Ok Makes
act_of f s (event.Kill n) = Ok Dies
act_of f s (event.Pull from to) = pull_of (part_of from) (buffer_of f (part_of to) from (s.nodes from)) (mark_of (part_of from) to (s.nodes to))

-- ---- steps

-- the messages to one node, in order
abbrev pub messages_to : TrioNode → List Envelope → List Message
messages_to n [] = []
messages_to n (x ∷ xs) = if is_node x.to n then x.message ∷ messages_to n xs else messages_to n xs

-- what was sent, with these messages of one node behind what it had sent to each receiver; nothing is ever taken away
abbrev pub posted : TrioNode → List Envelope → (TrioNode → TrioNode → List Message) → TrioNode → TrioNode → List Message
posted n out sent from to = if is_node from n then sent from to ++ messages_to to out else sent from to

-- the nodes, with other numbers for one of them
abbrev pub changed : TrioNode → Node → (TrioNode → Node) → TrioNode → Node
changed n x nodes m = if is_node m n then x else nodes m

-- the state where a node has these numbers, and has sent these messages
abbrev pub put : TrioNode → State → Node → List Envelope → State
put n s x out = record { nodes = changed n x s.nodes; sent = posted n out s.sent }

-- the state after a node did something
abbrev pub after : TrioNode → State → Result (Node × List Envelope) Refusal → Result State Refusal
after n s (Ok d) = Ok (put n s d.0 d.1)
after n s (Err e) = Err e

-- the state after a node did what was asked of it, or the reason why nothing was asked
abbrev pub acted : Flow → TrioNode → State → Result Act Refusal → Result State Refusal
acted f n s (Ok a) = after n s (does f n a (s.nodes n))
acted f n s (Err e) = Err e

-- the next state, or why the event is none
unfoldable pub step : Flow → State → TrioEvent → Result State Refusal
step f s e = acted f (at_node e) s (act_of f s e)

-- ---- lists

-- the state that events reach one after another, or the first refusal, behind which nothing happens
abbrev pub follow : Flow → List TrioEvent → Result State Refusal → Result State Refusal
follow f [] s = s
follow f (e ∷ es) (Ok s) = follow f es (step f s e)
follow f (e ∷ es) (Err r) = Err r

-- the events lead from the one state to the other, each without a refusal
abbrev pub Leads : Flow → State → List TrioEvent → State → Type 0
Leads f s es t = follow f es (Ok s) ≡ Ok t
