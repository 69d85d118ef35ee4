-- What a move is made of: a merge and the buffers of a producer.
use Rattle.std.specs.Prelude.{◌≡◌, ℕ, ◌<◌, ◌≤◌, length}
use Rattle.ack_buffer.specs.Buffer.{BufferView, IsNumbered}
use Rattle.merge_order.specs.MergeView.{MergeView, mark_of, waiting_of}
use Rattle.flux_producer.specs.ProducerView.{ProducerView, buffer_at}

-- a merge of one or more edges, where on each wait no more items than it took
pub record IsMerge (m : MergeView) : Type 0 where
  pub some : 1 ≤ length m.marks
  pub edges : length m.waiting ≡ length m.marks
  pub waits : (q : ℕ) → q < length m.marks → length (waiting_of m q) ≤ mark_of m q

-- a buffer holds as many items as its numbers say
abbrev pub IsFilled : BufferView → Type 0
IsFilled b = IsNumbered (length b.items) b.low b.produced

-- the buffers of the first n out-edges do
abbrev pub FilledBelow : ProducerView → ℕ → Type 0
FilledBelow p n = (t : ℕ) → t < n → IsFilled (buffer_at p t)

-- each buffer of a producer does
abbrev pub AreFilled : ProducerView → Type 0
AreFilled p = FilledBelow p (length p.edges)
