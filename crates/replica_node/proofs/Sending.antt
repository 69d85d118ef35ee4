-- The producer of a newcomer that has caught up, in the machine's numbers.
use Rattle.std.proofs.Common.{◌≡◌, ℕ, zero, suc, ◌+◌, List, [], ◌∷◌, length, map, refl, ap, ◌∙◌, slice_index_or}
use Rattle.std.proofs.lemmas.List.{length-map}
use Rattle.tuple_edge.specs.declared.item.Item.{Item}
use Rattle.tuple_edge.specs.declared.node.EdgeId.{EdgeId}
use Rattle.flux_producer.specs.OutEdge.{OutEdgeView, over, unused}
use Rattle.flux_producer.specs.ProducerView.{ProducerView, edge_at, over_buffers}
use Rattle.pair_machine.specs.Contents.{between}
use Rattle.pair_machine.specs.Flow.{Flow}
use Rattle.pair_machine.specs.Numbers.{MoveNumbers, Partition, Producer, out_edge}
use Rattle.pair_machine.specs.Producers.{copies}
use Rattle.pair_machine.specs.Replicas.{caught_up}
use Rattle.node_edges.specs.OutEdges.{ProducerStands}

-- an edge over the buffer of each edge
over_at : (es : List OutEdgeView) (t : ℕ) → slice_index_or (map over (map (λ e. e.buffer) es)) t unused ≡ over (slice_index_or es t unused).buffer
over_at [] t = refl
over_at (e ∷ es) zero = refl
over_at (e ∷ es) (suc t) = over_at es t

pub producer_stands : (f : Flow) (on : EdgeId → List Item) (p : Partition) (made : ℕ → ℕ) (inc : ℕ) (n : MoveNumbers) (numbers : ℕ → List ℕ) (x : Producer) (y : ProducerView)
    → ProducerStands f on p made x y → ((t : ℕ) → x.lows t ≡ n.lows t)
    → ProducerStands f on p made (caught_up inc n numbers).producer (over_buffers p.stage p.part (copies f p) (map (λ e. e.buffer) y.edges))
producer_stands f on p made inc n numbers x y stands lows = record {
  stage = refl;
  from = refl;
  copies = refl;
  targets = length-map (map (λ e. e.buffer) y.edges) over ∙ length-map y.edges (λ e. e.buffer) ∙ stands.targets;
  term = refl;
  leads = refl;
  edges = λ t inside.
      let was = stands.edges t inside in
      let low : (edge_at y t).buffer.low ≡ n.lows t = was.low ∙ lows t in
      let at : slice_index_or (map over (map (λ e. e.buffer) y.edges)) t unused ≡ over (edge_at y t).buffer = over_at y.edges t in
      record {
        low = ap (λ (e : OutEdgeView). e.buffer.low) at ∙ low;
        produced = ap (λ (e : OutEdgeView). e.buffer.produced) at ∙ was.produced;
        kept = ap (λ (e : OutEdgeView). e.buffer.items) at ∙ was.kept ∙ ap (λ k. between k (made t) (on (out_edge p t))) (lows t);
        cursors = ap (λ (e : OutEdgeView). e.cursors) at ∙ ap (λ k. (k + 1) ∷ (k + 1) ∷ (k + 1) ∷ []) low;
      };
}
