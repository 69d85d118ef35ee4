-- What packets stand for in the machine of groups: messages with their receivers.
use Rattle.std.specs.Prelude.{◌≡◌, List, [], ◌∷◌, Some, drop, length}
use Rattle.tuple_edge.specs.Input.{Input}
use Rattle.merge_order.specs.Edges.{item_at}
use Rattle.plan_reader.specs.PlanView.{PlanView}
use Rattle.pair_machine.specs.Counts.{items_on}
use Rattle.pair_machine.specs.Lists.{Each}
use Rattle.trio_machine.specs.Flow.{trio_flow}
use Rattle.trio_machine.specs.Links.{IsCarried}
use Rattle.trio_machine.specs.Messages.{Message, Tuple, Ack, Report, Lead, Down, Envelope, envelope}
use Rattle.trio_machine.specs.declared.body.TrioBody.{TrioBody}
use Rattle.trio_machine.specs.declared.body.TrioBody.TheVariants as body
use Rattle.trio_machine.specs.declared.node.TrioNode.{TrioNode}

-- ---- one packet

-- the message that a body has the numbers of
abbrev pub message_of : TrioBody → Message
message_of (body.Tuple e n i) = Tuple e n
message_of (body.Ack e k) = Ack e k
message_of (body.Report e k) = Report e k
message_of (body.Lead term) = Lead term
message_of body.Down = Down

-- where a body carries an item, that is the one of its number on its edge
abbrev pub HasItem : PlanView → List Input → TrioBody → Type 0
HasItem plan inputs (body.Tuple e n i) = item_at (items_on plan inputs e) n ≡ Some i
HasItem plan inputs b = Unit {0}

-- a body stands for a message
pub record BodyStands (plan : PlanView) (inputs : List Input) (b : TrioBody) (m : Message) : Type 0 where
  pub numbers : message_of b ≡ m
  pub item : HasItem plan inputs b

-- ---- what a node sends

-- the messages of packets, each with its receiver
abbrev pub envelopes_of : List (TrioNode × TrioBody) → List Envelope
envelopes_of [] = []
envelopes_of (p ∷ ps) = envelope p.0 (message_of p.1) ∷ envelopes_of ps

-- packets stand for messages with their receivers, one by one
pub record ArePacketsFor (plan : PlanView) (inputs : List Input) (packets : List (TrioNode × TrioBody)) (envelopes : List Envelope) : Type 0 where
  pub messages : envelopes_of packets ≡ envelopes
  pub items : Each (λ (p : TrioNode × TrioBody). HasItem plan inputs p.1) packets

-- the packets that a call appended to these
abbrev pub appended : List (TrioNode × TrioBody) → List (TrioNode × TrioBody) → List (TrioNode × TrioBody)
appended before after = drop (length before) after

-- each packet goes from this node over a link of the plan that carries it
abbrev pub GoOverLinks : PlanView → TrioNode → List (TrioNode × TrioBody) → Type 0
GoOverLinks plan from packets = Each (λ (p : TrioNode × TrioBody). IsCarried (trio_flow plan []) from p.0 (message_of p.1)) packets
