-- The packets of a controller of a group, and what they are in the machine.
use Rattle.std.specs.Prelude.{◌≡◌, ◌<◌, ◌≤◌, ℕ, List, [], ◌∷◌, ◌++◌, ◌+◌, if◌then◌else◌, length, max, nat_lt, slice_index}
use Rattle.tuple_edge.specs.Limits.{number_limit}
use Rattle.plan_reader.specs.Nodes.{sources_of}
use Rattle.plan_reader.specs.PlanView.{PlanView}
use Rattle.pair_machine.specs.Flow.{Flow}
use Rattle.pair_machine.specs.Numbers.{Partition, in_edge}
use Rattle.trio_machine.specs.Controllers.{controller_takes, least}
use Rattle.trio_machine.specs.Flow.{trio_flow}
use Rattle.trio_machine.specs.Links.{HasNode}
use Rattle.trio_machine.specs.Messages.{Message, Ack, Report, Lead, Down, Envelope}
use Rattle.trio_machine.specs.Numbers.{Controller, ControllerNode, Node, copy_of, group_size}
use Rattle.trio_machine.specs.Replicas.{to_producers}
use Rattle.trio_machine.specs.declared.body.TrioBody.{TrioBody}
use Rattle.trio_machine.specs.declared.body.TrioBody.TheVariants as body
use Rattle.trio_machine.specs.declared.node.TrioNode.{TrioNode}
use Rattle.trio_machine.specs.declared.node.TrioNode.TheVariants as node
use Rattle.trio_nodes.specs.Contents.{message_of}
use Rattle.trio_nodes.specs.ControllerView.{ControllerView, IsUp, node_of, numbers_of, partition_of, watched_in}
use Rattle.trio_nodes.specs.Outbox.{TrioOutboxView}

-- ---- what is heard

-- the sender is one of the controller's three replicas
abbrev pub IsFromReplica : ControllerView → TrioNode → Type 0
IsFromReplica c (node.Replica stage part copy) = (stage ≡ c.stage) × (part ≡ c.part) × (copy < group_size)
IsFromReplica c sender = ⊥

-- a replica sends such a packet to its controller; a report names an in-edge of the group
abbrev pub IsHeard : ControllerView → TrioBody → Type 0
IsHeard c (body.Report e k) = (e.stage + 1 ≡ c.stage) × (e.to ≡ c.part) × (e.from < length c.acked)
IsHeard c body.Down = Unit {0}
IsHeard c b = ⊥

-- all that is asked of a packet and its sender; the term may rise
pub record IsAdmitted (c : ControllerView) (from : TrioNode) (b : TrioBody) : Type 0 where
  pub sender : IsFromReplica c from
  pub heard : IsHeard c b
  pub rises : c.term + 1 < number_limit

-- what a packet does to the controller, and what is sent for it: the machine's own step
abbrev pub taking : ControllerView → TrioNode → TrioBody → (Controller × List Envelope)
taking c from b = controller_takes (length c.acked) (partition_of c) (copy_of from) (message_of b) (numbers_of c)

-- ---- what is sent

-- the body of a message that a controller sends; it sends no other
abbrev pub body_of : Message → TrioBody
body_of (Lead term) = body.Lead term
body_of (Ack e k) = body.Ack e k
body_of m = body.Down

-- the packets of envelopes, each with its receiver
abbrev pub packets_of : List Envelope → List (TrioNode × TrioBody)
packets_of [] = []
packets_of (e ∷ es) = (e.to, body_of e.message) ∷ packets_of es

-- what is sent of an in-edge of which so much is known to be acknowledged, where the least report is above that
abbrev pub ack_due : Partition → (q known least : ℕ) → List Envelope
ack_due p q known least = if nat_lt known least then to_producers p q (Ack (in_edge p q) least) else []

-- an outbox gets at most so many packets more, and uses at most so much of its room
pub record SendsAtMost (n : ℕ) (before after : TrioOutboxView) : Type 0 where
  pub packets : length after.packets ≤ length before.packets + n
  pub spare : before.spare ≤ after.spare + n

-- What the machine's controller does was done: these are its numbers now, just its packets were appended, and the partition and the
-- number of in-edges stay.
pub record IsDone (old new : ControllerView) (before after : TrioOutboxView) (done : Controller × List Envelope) : Type 0 where
  pub numbers : numbers_of new ≡ done.0
  pub packets : after.packets ≡ before.packets ++ packets_of done.1
  pub partition : partition_of new ≡ partition_of old
  pub edges : length new.acked ≡ length old.acked

-- ---- in words of its own

-- Of in-edge q nothing is acknowledged that a replica that is up has not reported, but what was before; and what was acknowledged stays.
pub record IsAcknowledged (old new : ControllerView) (q : ℕ) : Type 0 where
  pub stays : slice_index old.acked q ≤ slice_index new.acked q
  pub reported : (d : ℕ) → IsUp new.watched d → slice_index new.acked q ≤ max (slice_index old.acked q) (slice_index (watched_in new.watched d).reports q)

-- ---- what it stands for

-- the controller stands for a node's numbers, in a plan that has as many in-edges there
pub record StandsFor (f : Flow) (c : ControllerView) (x : Node) : Type 0 where
  pub numbers : x ≡ ControllerNode (numbers_of c)
  pub edges : length c.acked ≡ f.sources c.stage

-- it is the controller of one of the plan's groups, with as many in-edges as that group has
pub record IsOfPlan (plan : PlanView) (c : ControllerView) : Type 0 where
  pub there : HasNode (trio_flow plan []) (node_of c)
  pub edges : length c.acked ≡ sources_of plan c.stage
