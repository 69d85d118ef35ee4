-- When a producer in code stands for a producer of the machine: each of its buffers holds the items of its edge that are numbered above
-- low up to what was made, and its cursors, its term and whether it leads are the machine's.
use Rattle.std.specs.Prelude.{◌≡◌, ◌<◌, ◌≤◌, ℕ, List, [], ◌∷◌, ◌++◌, Option, None, Some, length, take}
use Rattle.tuple_edge.specs.declared.item.Item.{Item}
use Rattle.tuple_edge.specs.declared.node.EdgeId.{EdgeId}
use Rattle.flux_producer.specs.OutEdge.{OutEdgeView, with_item}
use Rattle.flux_producer.specs.ProducerView.{MayGrow, ProducerView, edge_at, without_room}
use Rattle.flux_producer.specs.declared.due.Due.{Due as Sending}
use Rattle.pair_machine.specs.Contents.{between}
use Rattle.pair_machine.specs.Flow.{Flow}
use Rattle.pair_machine.specs.Numbers.{Partition, Producer, out_edge}
pub use Rattle.pair_machine.specs.Numbers.{copy_of, which_at}
use Rattle.pair_machine.specs.Producers.{Due, copies}

-- the sending that code says is due, as the machine has it
abbrev pub due_in : Sending → Due
due_in d = record { to = d.to; copy = d.copy; number = d.number }

-- the sending that code says is due, if any is, as the machine has it
abbrev pub any_due_in : Option Sending → Option Due
any_due_in None = None
any_due_in (Some d) = Some (due_in d)

-- ---- standing for numbers

-- an out-edge stands for a low and cursors, where so many items of the edge were made: it keeps those above low
pub record EdgeStands (items : List Item) (made acked : ℕ) (next : ℕ → ℕ) (e : OutEdgeView) : Type 0 where
  pub low : e.buffer.low ≡ acked
  pub produced : e.buffer.produced ≡ made
  pub kept : e.buffer.items ≡ between acked made items
  pub cursors : e.cursors ≡ next 0 ∷ next 1 ∷ next 2 ∷ []

-- a producer stands for a partition's, where so many items of each out-edge were made
pub record ProducerStands (f : Flow) (on : EdgeId → List Item) (p : Partition) (made : ℕ → ℕ) (x : Producer) (code : ProducerView) : Type 0 where
  pub stage : code.stage ≡ p.stage
  pub from : code.from ≡ p.part
  pub copies : code.copies ≡ copies f p
  pub targets : length code.edges ≡ f.targets p.stage
  pub term : code.term ≡ x.term
  pub leads : code.leads ≡ x.leads
  pub edges : (t : ℕ) → t < f.targets p.stage → EdgeStands (on (out_edge p t)) (made t) (x.lows t) (x.cursors t) (edge_at code t)

-- ---- several items made at once

-- an out-edge on which these items were produced
abbrev pub with_items : OutEdgeView → List Item → OutEdgeView
with_items e [] = e
with_items e (i ∷ items) = with_items (with_item e i) items

-- On each edge of a producer these items were produced, and nothing else changed but the room.
pub record HasMade (news : ℕ → List Item) (y z : ProducerView) : Type 0 where
  pub stage : z.stage ≡ y.stage
  pub from : z.from ≡ y.from
  pub copies : z.copies ≡ y.copies
  pub term : z.term ≡ y.term
  pub leads : z.leads ≡ y.leads
  pub targets : length z.edges ≡ length y.edges
  pub edges : (t : ℕ) → t < length y.edges → without_room (edge_at z t) ≡ without_room (with_items (edge_at y t) (news t))

-- each edge of a producer may have so many more items
abbrev pub MayMakeMore : ℕ → ProducerView → Type 0
MayMakeMore more y = MayGrow y.edges more

-- the next items of an edge, of which so many were made, are these
pub record AreNext (items : List Item) (made later : ℕ) (news : List Item) : Type 0 where
  pub some : made ≤ length items
  pub most : later ≤ length items
  pub front : take later items ≡ take made items ++ news
