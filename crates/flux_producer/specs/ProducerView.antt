-- A producer: its out-edges, and whether it leads. What each call makes of it.
use Rattle.std.specs.Prelude.{◌≡◌, ℕ, ◌+◌, ◌<◌, ◌≤◌, Bool, true, false, List, length, map, nat_lt, if◌then◌else◌, slice_index_or, slice_set, replicate}
use Rattle.tuple_edge.specs.Limits.{edge_limit, number_limit}
use Rattle.tuple_edge.specs.declared.item.Item.{Item}
use Rattle.ack_buffer.specs.Buffer.{BufferView}
use Rattle.flux_producer.specs.Limits.{max_copies}
use Rattle.flux_producer.specs.OutEdge.{OutEdgeView, acknowledged, cursor_of, over, rewound, sent, unused, wanted, with_item}

-- the stage and partition that it is of, how many replicas each of its edges has at the other end, the term, whether it
-- leads, and for each target its out-edge
pub record ProducerView : Type 0 where
  pub stage : ℕ
  pub from : ℕ
  pub copies : ℕ
  pub term : ℕ
  pub leads : Bool
  pub edges : List OutEdgeView

-- an edge may have so many further items: it has room for them, and their numbers are below the limit
pub record MayHave (e : OutEdgeView) (items : ℕ) : Type 0 where
  pub room : items ≤ e.buffer.spare
  pub fits : 1 ≤ items → e.buffer.produced + items < number_limit

-- each edge may have so many further items
abbrev pub EachMayHave : List OutEdgeView → ℕ → Type 0
EachMayHave edges items = (t : ℕ) → t < length edges → MayHave (slice_index_or edges t unused) items

-- what is true of each producer, and of the room that it knows of
pub record IsProducer (copies room : ℕ) (edges : List OutEdgeView) : Type 0 where
  pub some : 1 ≤ copies
  pub few : copies ≤ max_copies
  pub targets : length edges < edge_limit
  pub known : EachMayHave edges room

-- the out-edge to a target; where there is none, one on which nothing was produced
abbrev pub edge_at : ProducerView → ℕ → OutEdgeView
edge_at p t = slice_index_or p.edges t unused

-- the buffer of the edge to a target
abbrev pub buffer_at : ProducerView → ℕ → BufferView
buffer_at p t = (edge_at p t).buffer

-- the next number to send to a replica of a target
abbrev pub cursor_at : ProducerView → ℕ → ℕ → ℕ
cursor_at p t c = cursor_of (edge_at p t) c

-- a producer over these buffers, that doesn't lead
abbrev pub over_buffers : ℕ → ℕ → ℕ → List BufferView → ProducerView
over_buffers stage from copies buffers =
    record { stage = stage; from = from; copies = copies; term = 0; leads = false; edges = map over buffers }

-- a producer of which nothing was produced
abbrev pub opening : ℕ → ℕ → ℕ → ℕ → Bool → ProducerView
opening stage from targets copies leads =
    record { stage = stage; from = from; copies = copies; term = if leads then 1 else 0; leads = leads; edges = replicate targets unused }

-- a producer with this edge to a target
abbrev pub with_edge : ProducerView → ℕ → OutEdgeView → ProducerView
with_edge p t e = record p { edges = slice_set p.edges t e }

-- a producer after one more item was produced on an edge
abbrev pub emitted : ProducerView → ℕ → Item → ProducerView
emitted p t item = with_edge p t (with_item (edge_at p t) item)

-- a producer after an item was produced on each edge
abbrev pub emitted_to_all : ProducerView → Item → ProducerView
emitted_to_all p item = record p { edges = map (λ e. with_item e item) p.edges }

-- a producer after the items of an edge up to a number were acknowledged
abbrev pub acked : ProducerView → ℕ → ℕ → ProducerView
acked p t upto = with_edge p t (acknowledged (edge_at p t) upto)

-- a producer after a replica wanted the items of an edge from a number on: only a leader goes back
abbrev pub wanted_from : ProducerView → ℕ → ℕ → ℕ → ProducerView
wanted_from p t c from = if p.leads then with_edge p t (wanted (edge_at p t) c from) else p

-- a producer that was told to lead: under a higher term it does, and sends again all that is not acknowledged
abbrev pub leading : ProducerView → ℕ → ProducerView
leading p term = if nat_lt p.term term then record p { term = term; leads = true; edges = map rewound p.edges } else p

-- a producer after the item at a replica's cursor was sent
abbrev pub sent_on : ProducerView → ℕ → ℕ → ProducerView
sent_on p t c = with_edge p t (sent (edge_at p t) c)

-- an edge, its room left aside
abbrev pub without_room : OutEdgeView → OutEdgeView
without_room e = record e { buffer = record e.buffer { spare = 0 } }

-- a producer, the room of its edges left aside
abbrev pub contents_of : ProducerView → ProducerView
contents_of p = record p { edges = map without_room p.edges }

-- each edge has room for so many further items
abbrev pub HasRoom : List OutEdgeView → ℕ → Type 0
HasRoom edges items = (t : ℕ) → t < length edges → items ≤ (slice_index_or edges t unused).buffer.spare

-- no edge has less room than before
abbrev pub KeepsRoom : List OutEdgeView → List OutEdgeView → Type 0
KeepsRoom old new = (t : ℕ) → t < length old → (slice_index_or old t unused).buffer.spare ≤ (slice_index_or new t unused).buffer.spare

-- each edge may produce so many more items: their numbers are below the limit
abbrev pub MayGrow : List OutEdgeView → ℕ → Type 0
MayGrow edges items = (t : ℕ) → t < length edges → (slice_index_or edges t unused).buffer.produced + items < number_limit

-- These edges are those, with room for so many further items on each, and on none less than it had.
pub record HaveMoreRoom (old new : List OutEdgeView) (items : ℕ) : Type 0 where
  pub contents : map without_room new ≡ map without_room old
  pub len : length new ≡ length old
  pub room : HasRoom new items
  pub kept : KeepsRoom old new
