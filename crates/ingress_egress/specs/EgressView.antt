-- What contracts see of egress, and what each event makes of it.
use Rattle.std.specs.Prelude.{◌≡◌, ◌<◌, ◌+◌, ℕ, Bool, true, false, IsTrue, List, [], ◌∷◌, ◌++◌, Option, None, Some, ◌||◌, length, take}
use Rattle.std.specs.List.{list_any}
use Rattle.tuple_edge.specs.Limits.{number_limit}
use Rattle.tuple_edge.specs.declared.item.Item.{Item}
use Rattle.tuple_edge.specs.declared.item.Item.TheVariants as item
use Rattle.tuple_edge.specs.declared.event.Worked.{Worked}
use Rattle.tuple_edge.specs.declared.event.Worked.TheVariants as worked
use Rattle.tuple_edge.specs.declared.node.NodeId.{NodeId}
use Rattle.tuple_edge.specs.declared.node.NodeId.TheVariants as node
use Rattle.tuple_edge.specs.declared.node.Which.TheVariants.{A, B}
use Rattle.tuple_edge.specs.declared.packet.Body.{Body}
use Rattle.tuple_edge.specs.declared.packet.Body.TheVariants as body
use Rattle.tuple_edge.specs.declared.row.Row.{Row}
use Rattle.merge_order.specs.MergeView.{after_next, after_offer, all_wait, item_of, least, mark_of}
use Rattle.flux_consumer.specs.ConsumerView.{ConsumerView, report_of, telling, with_merge}
use Rattle.stream_ops.specs.Answers.{rows_of}

-- the number of stages of the plan, the merge of what the last of them sends with what was acknowledged of it, the rows that were
-- merged, those of them that were handed on, and whether the end was merged
pub record EgressView : Type 0 where
  pub stages : ℕ
  pub consumer : ConsumerView
  pub emitted : List Row
  pub gone : List Row
  pub done : Bool

-- whether an item is the end
abbrev pub is_end : Item → Bool
is_end (item.Row stamp row) = false
is_end (item.Mark stamp) = false
is_end (item.End stamp) = true

-- whether the end is one of the items
abbrev pub has_end : List Item → Bool
has_end items = list_any is_end items

-- egress after its consumer took a packet's item, or another one of an edge
abbrev pub after_tuple : EgressView → ℕ → ℕ → Item → EgressView
after_tuple e q number i = record e { consumer = with_merge e.consumer (after_offer e.consumer.merge q number i) }

-- a packet that is no tuple has no effect
abbrev pub taking : EgressView → Body → EgressView
taking e (body.Tuple edge number i) = after_tuple e edge.from number i
taking e b = e

-- the next item of an edge is taken
abbrev pub pulling : EgressView → ℕ → Item → EgressView
pulling e q i = after_tuple e q (mark_of e.consumer.merge q + 1) i

-- ---- work

-- a piece of work may be done: where an item is merged, the count stays within its limit
abbrev pub MayWork : EgressView → Type 0
MayWork e = IsTrue (all_wait e.consumer.merge.waiting) → e.consumer.merge.count + 1 < number_limit

-- the next item of an edge may be pulled: its number is within the limit
abbrev pub MayPull : EgressView → ℕ → Type 0
MayPull e q = mark_of e.consumer.merge q + 1 < number_limit

-- rows are the first of others
abbrev pub IsFrontOf : List Row → List Row → Type 0
IsFrontOf rows more = take (length rows) more ≡ rows

-- the next item is merged: a row is emitted
abbrev pub merging : EgressView → Item → EgressView
merging e i = record e {
  consumer = with_merge e.consumer (after_next e.consumer.merge);
  emitted = e.emitted ++ rows_of (i ∷ []);
  done = e.done || is_end i;
}

-- what is acknowledged of an edge goes to both replicas of its partition
abbrev pub acknowledgements : ℕ → ℕ → ℕ → List (NodeId × Body)
acknowledgements stages q mark =
    let ack = body.Ack (record { stage = stages; from = q; to = 0 }) mark in
    (node.Replica stages q A, ack) ∷ (node.Replica stages q B, ack) ∷ []

-- what a piece of work comes to: the node after it, what was sent, and whether there was any
pub record WorkDone (V : Type 0) : Type 0 where
  pub after : V
  pub sent : List (NodeId × Body)
  pub worked : Worked

-- the first mark that is above what was acknowledged is acknowledged, if there is one
abbrev pub reporting : EgressView → Option (ℕ × ℕ) → WorkDone EgressView
reporting e None = record { after = e; sent = []; worked = worked.Idle }
reporting e (Some report) = record {
  after = record e { consumer = telling e.consumer report.0 };
  sent = acknowledgements e.stages report.0 report.1;
  worked = worked.Did;
}

-- the next item is merged, if there is one; else a mark may be acknowledged
abbrev pub merging_or_reporting : EgressView → Option Item → WorkDone EgressView
merging_or_reporting e None = reporting e (report_of e.consumer)
merging_or_reporting e (Some i) = record { after = merging e i; sent = []; worked = worked.Did }

-- the next item is merged, where the merge is ready; else the first mark that is above what was acknowledged is
abbrev pub working : EgressView → WorkDone EgressView
working e = merging_or_reporting e (item_of (least e.consumer.merge.waiting))
