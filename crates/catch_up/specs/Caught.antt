-- What a newcomer is given, and what it is once it has caught up.
use Rattle.std.specs.Prelude.{◌≡◌, ℕ, ◌-◌, ◌<◌, List, length, map}
use Rattle.std.specs.List.{All}
use Rattle.tuple_edge.specs.declared.item.Item.{Item}
use Rattle.tuple_edge.specs.declared.packet.Entry.{Entry}
use Rattle.merge_order.specs.MergeView.{MergeView, mark_of}
use Rattle.flux_consumer.specs.ConsumerView.{over}
use Rattle.flux_producer.specs.ProducerView.{ProducerView, buffer_at, contents_of, over_buffers}
use Rattle.op_spec.specs.Times.{IsTimely}
use Rattle.op_spec.specs.declared.spec.OpSpec.{OpSpec}
use Rattle.stream_ops.specs.Entries.{entries}
use Rattle.stream_ops.specs.State.{rebuilt}
use Rattle.move_list.specs.MoveList.{move_list}
use Rattle.move_list.specs.Pieces.{IsMerge}
use Rattle.catch_up.specs.Fold.{AllRising, IsRunFrom}
use Rattle.catch_up.specs.NewcomerView.{NewcomerView, held_of}
use Rattle.catch_up.specs.Rebuild.{folded}
use Rattle.catch_up.specs.declared.newcomer.CaughtUp.{CaughtUp}

-- the entries are the whole list of a move: of a merge of so many in-edges, a producer of which each buffer holds as many items as its numbers
-- say, and an operator of these settings after some items
pub record IsWholeMove (edges : ℕ) (spec : OpSpec) (taken : List Entry) : Type 0 where
  pub merge : MergeView
  pub producer : ProducerView
  pub items : List Item
  pub merges : IsMerge merge
  pub edges_are : length merge.marks ≡ edges
  pub exact : (t : ℕ) → t < length producer.edges → length (buffer_at producer t).items ≡ (buffer_at producer t).produced - (buffer_at producer t).low
  pub timely : All IsTimely items
  pub list : taken ≡ move_list merge producer (entries spec items)

-- The consumer, the producer and the operator are those of the beginning of the move, but that the held items that follow without a gap
-- were offered, so that each in-edge's mark is at the end of their run, that nothing was told, and that the producer doesn't lead and sends
-- from low on. Room is left aside.
pub record IsCaughtUp (n : NewcomerView) (spec : OpSpec) (stage part copies : ℕ) (c : CaughtUp) (merge : MergeView) (producer : ProducerView) (items : List Item) : Type 0 where
  pub consumer : c.consumer ≡ over (folded merge n.held)
  pub rising : AllRising n.held (length n.held)
  pub folds : (q : ℕ) → q < length n.held → IsRunFrom (held_of n q) (mark_of merge q) (mark_of c.consumer.merge q)
  pub producer_is : contents_of c.producer ≡ contents_of (over_buffers stage part copies (map (λ e. e.buffer) producer.edges))
  pub state : c.state ≡ rebuilt spec (entries spec items)

-- whatever pieces the entries tell of, it is these
abbrev pub CatchesUp : NewcomerView → OpSpec → ℕ → ℕ → ℕ → CaughtUp → Type 0
CatchesUp n spec stage part copies c =
    (w : IsWholeMove (length n.held) spec n.taken) → IsCaughtUp n spec stage part copies c w.merge w.producer w.items
