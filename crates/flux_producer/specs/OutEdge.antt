-- An out-edge: what is not acknowledged, and for each replica of its consumer the next number to send.
use Rattle.std.specs.Prelude.{◌≡◌, ℕ, ◌+◌, ◌<◌, ◌≤◌, List, map, max, min, replicate, slice_index, slice_set}
use Rattle.tuple_edge.specs.Limits.{number_limit}
use Rattle.tuple_edge.specs.declared.item.Item.{Item}
use Rattle.ack_buffer.specs.Buffer.{BufferView, produced_on, starting_at, trimmed}
use Rattle.flux_producer.specs.Limits.{max_copies}

-- what of an edge is not acknowledged, and for each replica of its consumer the next number to send
pub record OutEdgeView : Type 0 where
  pub buffer : BufferView
  pub cursors : List ℕ

-- each cursor is above what is acknowledged
pub record IsOutEdge (buffer : BufferView) (cursors : List ℕ) : Type 0 where
  pub above : (c : ℕ) → c < max_copies → buffer.low < slice_index cursors c
  pub fits : (c : ℕ) → c < max_copies → slice_index cursors c ≤ number_limit

-- the cursor of a replica
abbrev pub cursor_of : OutEdgeView → ℕ → ℕ
cursor_of e c = slice_index e.cursors c

-- number is the least cursor of so many replicas, and copy the first replica that has it
pub record IsLeastCursor (e : OutEdgeView) (copies copy number : ℕ) : Type 0 where
  pub inside : copy < copies
  pub is : number ≡ cursor_of e copy
  pub least : (c : ℕ) → c < copies → number ≤ cursor_of e c
  pub first : (c : ℕ) → c < copy → number < cursor_of e c

-- the cursors that send again all that is not acknowledged
abbrev pub from_low : BufferView → List ℕ
from_low b = replicate max_copies (b.low + 1)

-- an out-edge with this buffer, before anything is sent
abbrev pub over : BufferView → OutEdgeView
over b = record { buffer = b; cursors = from_low b }

-- an out-edge on which nothing was produced
abbrev pub unused : OutEdgeView
unused = over (starting_at 0 0)

-- an out-edge with room for so many further items
abbrev pub with_room : OutEdgeView → ℕ → OutEdgeView
with_room e spare = record e { buffer = record e.buffer { spare = spare } }

-- an out-edge after one more item was produced
abbrev pub with_item : OutEdgeView → Item → OutEdgeView
with_item e item = record e { buffer = produced_on e.buffer item }

-- an out-edge after an acknowledgement: a cursor at or below it goes on to the next number
abbrev pub acknowledged : OutEdgeView → ℕ → OutEdgeView
acknowledged e upto = record { buffer = trimmed e.buffer upto; cursors = map (max (max e.buffer.low upto + 1)) e.cursors }

-- an out-edge after a replica wants the items from a number on: its cursor goes back to it, but not to low or below, and never forward
abbrev pub wanted : OutEdgeView → ℕ → ℕ → OutEdgeView
wanted e c from = record e { cursors = slice_set e.cursors c (min (cursor_of e c) (max from (e.buffer.low + 1))) }

-- an out-edge of which all that is not acknowledged is sent again
abbrev pub rewound : OutEdgeView → OutEdgeView
rewound e = over e.buffer

-- an out-edge after the item at a replica's cursor was sent
abbrev pub sent : OutEdgeView → ℕ → OutEdgeView
sent e c = record e { cursors = slice_set e.cursors c (cursor_of e c + 1) }
