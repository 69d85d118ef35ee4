-- The pieces of a move hold what its numbers say.
use Rattle.std.proofs.Common.{◌≡◌, ℕ, ◌+◌, ◌-◌, ◌<◌, ◌≤◌, List, [], length, drop, min, ap, ◌∙◌, slice_index_or, arith}
use Rattle.std.proofs.lemmas.List.{length-drop, length-take}
use Rattle.tuple_edge.specs.declared.item.Item.{Item}
use Rattle.merge_order.specs.Merged.{used}
use Rattle.merge_order.specs.MergeView.{mark_of}
use Rattle.flux_consumer.specs.ConsumerView.{over}
use Rattle.plan_reader.specs.Nodes.{parts_of, sources_of}
use Rattle.pair_machine.specs.Contents.{between}
use Rattle.pair_machine.specs.Counts.{items_on, made_on}
use Rattle.pair_machine.specs.Counts as counts
use Rattle.pair_machine.specs.Edges.{edges_into}
use Rattle.pair_machine.specs.Ingress.{last_stamp}
use Rattle.pair_machine.specs.Numbers.{Consumer, out_edge}
use Rattle.node_edges.proofs.Consumers.{waits}
use Rattle.replica_node.specs.CaughtUp.{PiecesHoldNumbers}

-- how many items are between two numbers of an edge
between_length : (edge : List Item) (used mark : ℕ) → used ≤ mark → mark ≤ length edge → mark - length (between used mark edge) ≡ used
between_length edge used mark within inside =
    let long : length (between used mark edge) ≡ min (mark - used) (length (drop used edge)) = length-take (mark - used) (drop used edge) in
    let rest : length (drop used edge) ≡ length edge - used = length-drop used edge in
    omega (arith, long, rest, within, inside)

pub pieces_hold : PiecesHoldNumbers
unfolding counts.flow_of
pieces_hold plan rows p n spec merge producer items merging pieces = record {
  sources = pieces.consumer.edges;
  marks = λ q below. pieces.consumer.marks q (omega (arith, below, sources));
  count = pieces.consumer.count;
  used = λ q below.
      let edge : q < length (edges_into plan rows p.stage p.part) = omega (arith, below, many) in
      let here = pieces.consumer.merge.waits q edge in
      ap (λ xs. mark_of merge q - length xs) here.waits
      ∙ between_length (slice_index_or (edges_into plan rows p.stage p.part) q []) (used (last_stamp rows) (edges_into plan rows p.stage p.part) q merge.count) (mark_of merge q) here.used_within here.mark_within
      ∙ ap (λ c. counts.used_of plan rows p q c) pieces.consumer.count;
  waits = λ q below. waits plan rows p start (over merge) q merging (omega (arith, below, sources)) pieces.consumer;
  targets = pieces.sends.targets;
  lows = λ t below. (pieces.sends.edges t (omega (arith, below, targets))).low ∙ pieces.lows t;
  made = λ t below. (pieces.sends.edges t (omega (arith, below, targets))).produced;
  kept = λ t below.
      (pieces.sends.edges t (omega (arith, below, targets))).kept
      ∙ ap (λ k. between k (made_on plan rows (out_edge p t) n.count) (items_on plan rows (out_edge p t))) (pieces.lows t);
}
  where
    start : Consumer
    start = record { marks = n.marks; told = λ q. 0; count = n.count }

    sources : length merge.marks ≡ sources_of plan p.stage
    sources = pieces.consumer.edges

    many : length merge.marks ≡ length (edges_into plan rows p.stage p.part)
    many = pieces.consumer.merge.marks

    targets : length producer.edges ≡ parts_of plan (p.stage + 1)
    targets = pieces.sends.targets
