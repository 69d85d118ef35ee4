-- A producer stands for what was produced on its edges.
use Rattle.std.specs.Prelude.{ℕ, ◌<◌, ◌==◌, ◌++◌, ◌∷◌, List, [], length, if◌then◌else◌, slice_index_or}
use Rattle.tuple_edge.specs.declared.item.Item.{Item}
use Rattle.ack_buffer.specs.Buffer.{BufferView, starting_at}
use Rattle.ack_buffer.specs.Buffer as buffer
use Rattle.flux_producer.specs.ProducerView.{ProducerView, buffer_at}

-- where `all` gives for each target what was produced on its edge, each buffer holds of it what is numbered above its low, in order, and no more
abbrev pub StandsFor : ProducerView → (ℕ → List Item) → Type 0
StandsFor p all = (t : ℕ) → t < length p.edges → buffer.StandsFor (buffer_at p t) (all t)

-- the same of buffers that no producer has yet
abbrev pub BuffersStandFor : List BufferView → (ℕ → List Item) → Type 0
BuffersStandFor buffers all = (t : ℕ) → t < length buffers → buffer.StandsFor (slice_index_or buffers t (starting_at 0 0)) (all t)

-- what was produced on each edge, after one more item on an edge
abbrev pub with_next : (ℕ → List Item) → ℕ → Item → ℕ → List Item
with_next all to item t = if t == to then all t ++ item ∷ [] else all t
