-- What contracts see of ingress, and what each event makes of it.
use Rattle.std.specs.Prelude.{◌≡◌, ◌<◌, ◌≤◌, ◌+◌, ◌*◌, ◌^◌, ℕ, zero, suc, Bool, true, false, List, [], ◌∷◌, ◌++◌, All, Option, None, Some, is_some, drop, length, map, slice_get, slice_index_or, slice_set}
use Rattle.tuple_edge.specs.Input.{Input}
use Rattle.tuple_edge.specs.Limits.{edge_limit}
use Rattle.tuple_edge.specs.declared.event.Worked.TheVariants as worked
use Rattle.tuple_edge.specs.declared.item.Item.{Item}
use Rattle.tuple_edge.specs.declared.node.NodeId.{NodeId}
use Rattle.tuple_edge.specs.declared.node.NodeId.TheVariants as node
use Rattle.tuple_edge.specs.declared.packet.Body.{Body}
use Rattle.tuple_edge.specs.declared.packet.Body.TheVariants as body
use Rattle.ack_buffer.specs.Buffer.{item_at}
use Rattle.flux_producer.specs.Due.{due_of}
use Rattle.flux_producer.specs.ProducerView.{HasRoom, ProducerView, acked, buffer_at, contents_of, opening, sent_on, wanted_from}
use Rattle.flux_producer.specs.declared.due.Due.{Due}
use Rattle.plan_reader.specs.declared.stage.Stage.{Stage}
use Rattle.stream_ops.specs.Times.{IsTime}
use Rattle.pair_machine.specs.Consumers.{first_below}
use Rattle.pair_machine.specs.CountLaws.{made_for}
use Rattle.pair_machine.specs.Edges.{edge_to}
use Rattle.pair_machine.specs.Replicas.{which_of}
use Rattle.node_edges.specs.OutEdges.{HasMade, copy_of, which_at}
pub use Rattle.node_edges.specs.OutEdges.{MayMakeMore}
use Rattle.ingress_egress.specs.EgressView.{WorkDone}

-- the inputs that came, whether they are all, the first stage, after how many inputs there is a mark, how many inputs, or the end, were
-- made into items, and a producer for each source
pub record IngressView : Type 0 where
  pub inputs : List Input
  pub ended : Bool
  pub first : Stage
  pub mark : ℕ
  pub makes : ℕ
  pub producers : List ProducerView

-- the producer of a source before anything was made
abbrev pub new_producer : ℕ → ℕ → ProducerView
new_producer parts q = opening 0 q parts 2 true

-- the producers of so many sources
abbrev pub new_producers : ℕ → ℕ → List ProducerView
new_producers parts zero = []
new_producers parts (suc n) = new_producers parts n ++ new_producer parts n ∷ []

-- the producer of a source; where there is none, one with no edge
abbrev pub producer_in : List ProducerView → ℕ → ProducerView
producer_in producers q = slice_index_or producers q (new_producer 0 0)

-- the producer of a source of ingress
abbrev pub producer_at : IngressView → ℕ → ProducerView
producer_at i q = producer_in i.producers q

-- ingress with this producer of a source
abbrev pub with_producer : IngressView → ℕ → ProducerView → IngressView
with_producer i q y = record i { producers = slice_set i.producers q y }

-- each producer has an edge to each partition of the first stage, with two replicas there
pub record AreWide (parts : ℕ) (producers : List ProducerView) : Type 0 where
  pub targets : (q : ℕ) → q < length producers → length (producer_in producers q).edges ≡ parts
  pub copies : (q : ℕ) → q < length producers → (producer_in producers q).copies ≡ 2

-- each edge of a producer has had at most so many items
abbrev pub HasMadeAtMost : ℕ → ProducerView → Type 0
HasMadeAtMost most y = (t : ℕ) → t < length y.edges → (buffer_at y t).produced ≤ most

-- each edge of each producer has had at most so many items
abbrev pub HaveMadeAtMost : ℕ → List ProducerView → Type 0
HaveMadeAtMost most producers = (q : ℕ) → q < length producers → HasMadeAtMost most (producer_in producers q)

-- the most inputs that may come
abbrev pub most_inputs : ℕ
most_inputs = 2 ^ 60

-- What is true of each ingress: of all inputs that came, those that wait, how many came, whether they are all, its first stage, after how
-- many inputs there is a mark, how many makes there were, and the producer of each source. A make gives at most two items to an edge, so
-- no number of an item ever passes its limit. The time of each input is within its limits.
pub record IsIngress (came waiting : List Input) (count : ℕ) (ended : Bool) (first : Stage) (every makes : ℕ) (producers : List ProducerView) : Type 0 where
  pub parts : 1 ≤ first.parts
  pub mark : 1 ≤ every
  pub counted : count ≡ length came
  pub few_inputs : count ≤ most_inputs
  pub held : waiting ≡ drop makes came
  pub made : makes ≤ count + 1
  pub open_made : ended ≡ false → makes ≤ count
  pub few_sources : length producers < edge_limit
  pub wide : AreWide first.parts producers
  pub produced : HaveMadeAtMost (2 * makes) producers
  pub times : All (λ (input : Input). IsTime input.row.time) came

-- ---- inputs

-- one more input may come: no end was said, the input's time is within its limits, and a number is left for it
pub record MayFeed (i : IngressView) (input : Input) : Type 0 where
  pub open_yet : i.ended ≡ false
  pub time : IsTime input.row.time
  pub few : length i.inputs < most_inputs

-- one more input came
abbrev pub fed : IngressView → Input → IngressView
fed i input = record i { inputs = i.inputs ++ input ∷ [] }

-- no more come
abbrev pub ended_at : IngressView → IngressView
ended_at i = record i { ended = true }

-- ---- packets

-- an acknowledgement, or a want, is for the producer of the edge's source; another packet has no effect
abbrev pub taking : IngressView → NodeId → Body → IngressView
taking i from (body.Ack edge upto) = with_producer i edge.from (acked (producer_at i edge.from) edge.to upto)
taking i from (body.Want edge number) = with_producer i edge.from (wanted_from (producer_at i edge.from) edge.to (copy_of (which_of from)) number)
taking i from b = i

-- ---- work

-- the first source that has something due
abbrev pub source_due : IngressView → Option ℕ
source_due i = first_below (λ q. is_some (due_of (producer_at i q))) (length i.producers)

-- the packet of an item of a source that is due to a replica
abbrev pub tuple_of : ℕ → Due → Item → (NodeId × Body)
tuple_of q d item = (node.Replica 1 d.to (which_at d.copy), body.Tuple (record { stage = 0; from = q; to = d.to }) d.number item)

-- the packet of an item that is due to a replica, if there is one
abbrev pub tuples_of : ℕ → Due → Option Item → List (NodeId × Body)
tuples_of q d None = []
tuples_of q d (Some item) = tuple_of q d item ∷ []

-- a source sends the item that is due, if one is
abbrev pub sending_due : IngressView → ℕ → Option Due → WorkDone IngressView
sending_due i q None = record { after = i; sent = []; worked = worked.Idle }
sending_due i q (Some d) = record {
  after = with_producer i q (sent_on (producer_at i q) d.to d.copy);
  sent = tuples_of q d (item_at (buffer_at (producer_at i q) d.to) d.number);
  worked = worked.Did;
}

-- the first source that has something due sends it, if there is one
abbrev pub sending_first : IngressView → Option ℕ → WorkDone IngressView
sending_first i None = record { after = i; sent = []; worked = worked.Idle }
sending_first i (Some q) = sending_due i q (due_of (producer_at i q))

-- the first source that has something due sends it
abbrev pub working : IngressView → WorkDone IngressView
working i = sending_first i (source_due i)

-- ---- makes

-- what the next make gives of a source, to a target
abbrev pub made_next : IngressView → ℕ → ℕ → List Item
made_next i q t = edge_to (Some i.first) t (made_for q i.mark (i.makes + 1) (slice_get i.inputs i.makes))

-- the next input, or the end, was made into items
pub record HasMadeNext (old new : IngressView) : Type 0 where
  pub inputs : new.inputs ≡ old.inputs
  pub ended : new.ended ≡ old.ended
  pub first : new.first ≡ old.first
  pub mark : new.mark ≡ old.mark
  pub makes : new.makes ≡ old.makes + 1
  pub sources : length new.producers ≡ length old.producers
  pub producers : (q : ℕ) → q < length old.producers → HasMade (made_next old q) (producer_at old q) (producer_at new q)

-- ingress, the room of its producers left aside
abbrev pub contents_in : IngressView → IngressView
contents_in i = record i { producers = map contents_of i.producers }

-- each edge may have so many more items
abbrev pub MayMake : ℕ → List ProducerView → Type 0
MayMake more producers = (q : ℕ) → q < length producers → MayMakeMore more (producer_in producers q)

-- each edge of each producer has room for so many more items
abbrev pub EachHasRoom : ℕ → List ProducerView → Type 0
EachHasRoom more producers = (q : ℕ) → q < length producers → HasRoom (producer_in producers q).edges more
