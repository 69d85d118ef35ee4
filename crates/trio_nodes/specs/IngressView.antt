-- What contracts see of ingress, and what each event makes of it.
use Rattle.std.specs.Prelude.{◌≡◌, ◌<◌, ◌≤◌, ◌+◌, ℕ, List, [], ◌∷◌, Option, None, Some, length, slice_get}
use Rattle.tuple_edge.specs.Input.{Input}
use Rattle.tuple_edge.specs.Limits.{number_limit}
use Rattle.tuple_edge.specs.declared.event.Worked.TheVariants as worked
use Rattle.tuple_edge.specs.declared.item.Item.{Item}
use Rattle.ack_buffer.specs.Buffer.{item_at}
use Rattle.flux_producer.specs.Due.{due_of}
use Rattle.flux_producer.specs.ProducerView.{ProducerView, acked, buffer_at, contents_of, sent_on}
use Rattle.flux_producer.specs.declared.due.Due.{Due}
use Rattle.plan_reader.specs.declared.stage.Stage.{Stage}
use Rattle.pair_machine.specs.CountLaws.{made_for}
use Rattle.pair_machine.specs.Edges.{edge_to}
use Rattle.node_edges.specs.OutEdges.{HasMade}
use Rattle.trio_machine.specs.Numbers.{group_size}
use Rattle.trio_machine.specs.declared.body.TrioBody.{TrioBody}
use Rattle.trio_machine.specs.declared.body.TrioBody.TheVariants as body
use Rattle.trio_machine.specs.declared.node.TrioNode.{TrioNode}
use Rattle.trio_machine.specs.declared.node.TrioNode.TheVariants as node
use Rattle.trio_nodes.specs.Work.{WorkDone}
use Rattle.tuple_edge.specs.declared.event.Worked.{Worked}

-- the inputs, the first stage, after how many inputs there is a mark, how many inputs, or the end, were made into items, and the producer
pub record IngressView : Type 0 where
  pub inputs : List Input
  pub first : Stage
  pub mark : ℕ
  pub makes : ℕ
  pub producer : ProducerView

-- what is true of each ingress: there is an edge to each partition of the first stage, with three replicas there
pub record IsIngress (first : Stage) (every : ℕ) (producer : ProducerView) : Type 0 where
  pub parts : 1 ≤ first.parts
  pub mark : 1 ≤ every
  pub targets : length producer.edges ≡ first.parts
  pub copies : producer.copies ≡ group_size
  pub source : (producer.stage ≡ 0) × (producer.from ≡ 0)

-- ---- packets

-- an acknowledgement comes of the controller of a partition of the first stage, for the edge to that
abbrev pub IsAdmitted : IngressView → TrioNode → TrioBody → Type 0
IsAdmitted i (node.Control stage part) (body.Ack edge upto) = (edge.to ≡ part) × (part < i.first.parts) × (upto < number_limit)
IsAdmitted i from b = ⊥

-- it is for the producer; another packet has no effect
abbrev pub taking : IngressView → TrioBody → IngressView
taking i (body.Ack edge upto) = record i { producer = acked i.producer edge.to upto }
taking i b = i

-- ---- work

-- the packet of an item that is due to a replica
abbrev pub tuples_of : Due → Option Item → List (TrioNode × TrioBody)
tuples_of d None = []
tuples_of d (Some item) = (node.Replica 1 d.to d.copy, body.Tuple (record { stage = 0; from = 0; to = d.to }) d.number item) ∷ []

-- the item that is due is sent, if one is
abbrev pub sending : IngressView → Option Due → WorkDone IngressView
sending i None = record { after = i; sent = []; worked = worked.Idle }
sending i (Some d) = record {
  after = record i { producer = sent_on i.producer d.to d.copy };
  sent = tuples_of d (item_at (buffer_at i.producer d.to) d.number);
  worked = worked.Did;
}

-- what is due is sent
abbrev pub working : IngressView → WorkDone IngressView
working i = sending i (due_of i.producer)

-- ---- makes

-- what the next make gives to a target
abbrev pub made_next : IngressView → ℕ → List Item
made_next i t = edge_to (Some i.first) t (made_for 0 i.mark (i.makes + 1) (slice_get i.inputs i.makes))

-- the next input, or the end, was made into items
pub record HasMadeNext (earlier later : IngressView) : Type 0 where
  pub inputs : later.inputs ≡ earlier.inputs
  pub first : later.first ≡ earlier.first
  pub mark : later.mark ≡ earlier.mark
  pub makes : later.makes ≡ earlier.makes + 1
  pub producer : HasMade (made_next earlier) earlier.producer later.producer

-- that was done where an input, or the end, was left; else nothing
abbrev pub IsMade : IngressView → IngressView → Worked → Type 0
IsMade old new worked.Did = (old.makes ≤ length old.inputs) × HasMadeNext old new
IsMade old new worked.Idle = (length old.inputs < old.makes) × (new ≡ old)

-- ingress, the room of its producer left aside
abbrev pub contents_in : IngressView → IngressView
contents_in i = record i { producer = contents_of i.producer }
