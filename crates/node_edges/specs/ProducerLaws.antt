-- Each call of a producer in code is what the machine's producer does.
use Rattle.std.specs.Prelude.{◌≤◌, ◌≡◌, ◌<◌, ◌+◌, ℕ, List, Option, Some, Bool, false, length, if◌then◌else◌, slice_index_or, take}
use Rattle.tuple_edge.specs.declared.item.Item.{Item}
use Rattle.tuple_edge.specs.declared.node.EdgeId.{EdgeId}
use Rattle.ack_buffer.specs.Buffer.{BufferView, starting_at}
use Rattle.ack_buffer.specs.Buffer as buffer
use Rattle.flux_producer.specs.Due as code
use Rattle.flux_producer.specs.Limits.{max_copies}
use Rattle.flux_producer.specs.ProducerView.{ProducerView, acked, buffer_at, contents_of, emitted, leading, opening, over_buffers, sent_on, wanted_from}
use Rattle.flux_producer.specs.StandsFor.{BuffersStandFor}
use Rattle.flux_producer.specs.declared.due.Due.{Due as Sending}
use Rattle.merge_order.specs.Edges.{item_at}
use Rattle.pair_machine.specs.Consumers.{with_at}
use Rattle.pair_machine.specs.Flow.{Flow}
use Rattle.pair_machine.specs.Machine.{new_producer}
use Rattle.pair_machine.specs.Numbers.{Partition, Producer, out_edge}
use Rattle.pair_machine.specs.Producers.{acked_to, copies, due, wanted}
use Rattle.pair_machine.specs.Producers as machine
use Rattle.node_edges.specs.OutEdges.{AreNext, HasMade, ProducerStands, any_due_in, due_in}

-- what is due to be sent, in code
abbrev pub due_of : ProducerView → Option Sending
due_of p = code.due_of p

module _ (f : Flow) (edges : EdgeId → List Item) (p : Partition) where
  -- a producer before anything was made stands for the opening one
  abbrev pub Opens : Type 0
  Opens = (term : ℕ) (leads : Bool) → term ≡ (if leads then 1 else 0)
      → ProducerStands f edges p (λ t. 0) (new_producer term leads) (opening p.stage p.part (f.targets p.stage) (copies f p) leads)

  -- A producer that starts over buffers stands for their numbers, where each holds what is above its low of the items made. It doesn't
  -- lead, and each cursor is one above low.
  abbrev pub Starts : Type 0
  Starts = (made lows : ℕ → ℕ) (buffers : List BufferView) → length buffers ≡ f.targets p.stage
      → ((t : ℕ) → t < f.targets p.stage → (made t ≤ length (edges (out_edge p t))) × ((slice_index_or buffers t (starting_at 0 0)).low ≡ lows t))
      → BuffersStandFor buffers (λ t. take (made t) (edges (out_edge p t)))
      → ProducerStands f edges p made (record { lows = lows; cursors = λ t c. lows t + 1; term = 0; leads = false })
      (over_buffers p.stage p.part (copies f p) buffers)

  -- only what its buffers hold matters, and not their room
  abbrev pub LooksAtContents : Type 0
  LooksAtContents = (made : ℕ → ℕ) (x : Producer) (one other : ProducerView) → contents_of one ≡ contents_of other
      → ProducerStands f edges p made x one → ProducerStands f edges p made x other

  module _ (made : ℕ → ℕ) (x : Producer) (y : ProducerView) where
    -- an acknowledgement of items of an edge
    abbrev pub Acks : Type 0
    Acks = (t upto : ℕ) → t < f.targets p.stage → ProducerStands f edges p made x y
        → ProducerStands f edges p made (acked_to x t upto) (acked y t upto)

    -- a replica's want
    abbrev pub Wants : Type 0
    Wants = (t copy from : ℕ) → t < f.targets p.stage → copy < max_copies → ProducerStands f edges p made x y
        → ProducerStands f edges p made (wanted x t copy from) (wanted_from y t copy from)

    -- a new leader
    abbrev pub Leads : Type 0
    Leads = (term : ℕ) → ProducerStands f edges p made x y → ProducerStands f edges p made (machine.leading x term) (leading y term)

    -- the next item of an edge is made
    abbrev pub Emits : Type 0
    Emits = (t : ℕ) (i : Item) → t < f.targets p.stage → item_at (edges (out_edge p t)) (made t + 1) ≡ Some i
        → ProducerStands f edges p made x y → ProducerStands f edges p (with_at made t (made t + 1)) x (emitted y t i)

    -- what is due is what the machine says
    abbrev pub IsDue : Type 0
    IsDue = ProducerStands f edges p made x y → any_due_in (due_of y) ≡ due f p made x

  -- the next items of each edge are made
  abbrev pub MakesMore : Type 0
  MakesMore = (made later : ℕ → ℕ) (news : ℕ → List Item) (x : Producer) (y z : ProducerView) → HasMade news y z
      → ((t : ℕ) → t < f.targets p.stage → AreNext (edges (out_edge p t)) (made t) (later t) (news t))
      → ProducerStands f edges p made x y → ProducerStands f edges p later x z

  -- what was due has an item of its edge, and after it was sent the producer is the machine's
  pub record SendsDue (made : ℕ → ℕ) (x : Producer) (y : ProducerView) (d : Sending) : Type 0 where
    pub due : due f p made x ≡ Some (due_in d)
    pub target : d.to < f.targets p.stage
    pub item : (i : Item) → buffer.item_at (buffer_at y d.to) d.number ≡ Some i → item_at (edges (out_edge p d.to)) d.number ≡ Some i
    -- and its buffer holds it, where the cursor is above low and no more was made than there is
    pub held : x.lows d.to < x.cursors d.to d.copy → made d.to ≤ length (edges (out_edge p d.to))
        → (i : Item) × (buffer.item_at (buffer_at y d.to) d.number ≡ Some i)
    pub sent : ProducerStands f edges p made (machine.sent_on x (due_in d)) (sent_on y d.to d.copy)

  -- whatever is due has an item of its edge, and sending it is the machine's
  abbrev pub Sends : Type 0
  Sends = (made : ℕ → ℕ) (x : Producer) (y : ProducerView) (d : Sending) → due_of y ≡ Some d → ProducerStands f edges p made x y → SendsDue made x y d

-- all of these, of each partition, whatever the edges hold, where a partition has no more replicas than a producer knows
pub record ProducerFollows (f : Flow) (edges : EdgeId → List Item) (p : Partition) : Type 0 where
  pub opens : Opens f edges p
  pub starts : Starts f edges p
  pub contents : LooksAtContents f edges p
  pub acks : (made : ℕ → ℕ) (x : Producer) (y : ProducerView) → Acks f edges p made x y
  pub wants : (made : ℕ → ℕ) (x : Producer) (y : ProducerView) → Wants f edges p made x y
  pub leads : (made : ℕ → ℕ) (x : Producer) (y : ProducerView) → Leads f edges p made x y
  pub emits : (made : ℕ → ℕ) (x : Producer) (y : ProducerView) → Emits f edges p made x y
  pub makes : MakesMore f edges p
  pub due : (made : ℕ → ℕ) (x : Producer) (y : ProducerView) → IsDue f edges p made x y
  pub sends : Sends f edges p

-- each call of a producer in code is the machine's, of every partition, whatever the edges hold
abbrev pub ProducersFollow : Type 0
ProducersFollow = (f : Flow) (edges : EdgeId → List Item) (p : Partition) → f.replicas ≤ max_copies → ProducerFollows f edges p
