-- A newcomer that took the whole list of a move has what it tells of.
use Rattle.std.proofs.Common.{◌≡◌, ℕ, ◌<◌, false, List, [], ◌∷◌, length, map, refl, sym, ap, ◌∙◌, subst}
use Rattle.tuple_edge.specs.declared.packet.Entry.{Entry}
use Rattle.merge_order.specs.MergeView.{MergeView}
use Rattle.flux_consumer.specs.ConsumerView.{over}
use Rattle.flux_producer.specs.OutEdge.{OutEdgeView}
use Rattle.flux_producer.specs.ProducerView.{ProducerView, contents_of, over_buffers}
use Rattle.op_spec.specs.declared.spec.OpSpec.{OpSpec}
use Rattle.stream_ops.specs.Entries.{entries}
use Rattle.stream_ops.specs.State.{rebuilt}
use Rattle.move_list.specs.MoveList.{move_list}
use Rattle.catch_up.specs.Caught.{CatchesUp, IsWholeMove}
use Rattle.merge_order.specs.MergeView.{mark_of}
use Rattle.flux_consumer.specs.ConsumerView.{ConsumerView}
use Rattle.catch_up.specs.Fold.{AllRising, IsRunFrom}
use Rattle.catch_up.proofs.Folds.{all_fold}
use Rattle.catch_up.specs.NewcomerView.{NewcomerView, held_of}
use Rattle.catch_up.specs.Rebuild.{AllNext, buffers_in, folded, keyed_in, merge_in, without_spare}
use Rattle.catch_up.specs.declared.newcomer.CaughtUp.{CaughtUp}
use Rattle.catch_up.proofs.Allowed.{whole_next}
use Rattle.catch_up.proofs.Buffers.{contents_over}
use Rattle.catch_up.proofs.KeyedEntries.{entries_keyed}
use Rattle.catch_up.proofs.Refilled.{buffers_whole}
use Rattle.catch_up.proofs.Whole.{keyed_whole, merge_whole}

module _ (edges : ℕ) (spec : OpSpec) (taken : List Entry) (w : IsWholeMove edges spec taken) where
  pub next_of : AllNext spec [] taken
  next_of = subst (λ (es : List Entry). AllNext spec [] es) (sym w.list) (whole_next spec w.merge w.producer w.items w.timely (entries_keyed spec w.items))

  pub buffers_are : buffers_in taken ≡ map (λ e. without_spare e.buffer) w.producer.edges
  buffers_are = ap buffers_in w.list ∙ buffers_whole w.merge w.producer (entries spec w.items) (entries_keyed spec w.items) w.exact

  pub merge_is : merge_in edges taken ≡ w.merge
  merge_is =
      ap (merge_in edges) w.list
      ∙ subst (λ n. merge_in n (move_list w.merge w.producer (entries spec w.items)) ≡ w.merge) w.edges_are
      (merge_whole w.merge w.producer (entries spec w.items) (entries_keyed spec w.items) w.merges.waits w.merges.edges)

  pub keyed_is : keyed_in taken ≡ entries spec w.items
  keyed_is = ap keyed_in w.list ∙ keyed_whole w.merge w.producer (entries spec w.items) (entries_keyed spec w.items)

-- a producer's contents say nothing of room
buffers_alike : (es : List OutEdgeView) → map (λ e. without_spare e.buffer) es ≡ map without_spare (map (λ e. e.buffer) es)
buffers_alike [] = refl
buffers_alike (e ∷ es) = ap (λ bs. without_spare e.buffer ∷ bs) (buffers_alike es)

pub caught_up : (n : NewcomerView) (spec : OpSpec) (stage part copies : ℕ) (c : CaughtUp) → c.consumer ≡ over (folded (merge_in (length n.held) n.taken) n.held)
    → contents_of c.producer ≡ contents_of (over_buffers stage part copies (buffers_in n.taken)) → (AllNext spec [] n.taken → c.state ≡ rebuilt spec (keyed_in n.taken)) → AllRising n.held (length n.held) → CatchesUp n spec stage part copies c
caught_up n spec stage part copies c consumer producer state rising = λ w. record {
  consumer = consumer ∙ ap (λ (m : MergeView). over (folded m n.held)) (merge_is (length n.held) spec n.taken w);
  rising = rising;
  folds = λ q inside.
      subst (λ (v : ConsumerView). IsRunFrom (held_of n q) (mark_of w.merge q) (mark_of v.merge q))
      (sym (consumer ∙ ap (λ (m : MergeView). over (folded m n.held)) (merge_is (length n.held) spec n.taken w)))
      (all_fold (length n.held) q w.merge n.held inside (subst (λ k. q < k) (sym w.edges_are) inside) (rising q inside));
  producer_is =
      producer
      ∙ ap (λ (es : List OutEdgeView). let p : ProducerView = record { stage = stage; from = part; copies = copies; term = 0; leads = false; edges = es } in p)
      (sym (contents_over (map (λ e. e.buffer) w.producer.edges) (buffers_in n.taken) (sym (buffers_alike w.producer.edges) ∙ sym (buffers_are (length n.held) spec n.taken w))));
  state = state (next_of (length n.held) spec n.taken w) ∙ ap (rebuilt spec) (keyed_is (length n.held) spec n.taken w);
}
