-- The lines of edges, as contracts see the edges, are those of the numbers that they stand for.
use Rattle.std.proofs.Common.{◌≡◌, ◌<◌, ℕ, List, [], ◌∷◌, ◌++◌, codes, slice_index, ap, subst}
use Rattle.std.specs.Fmt.{decimal}
use Rattle.tuple_edge.specs.Input.{Input}
use Rattle.tuple_edge.specs.declared.item.Item.{Item}
use Rattle.tuple_edge.specs.declared.node.EdgeId.{EdgeId}
use Rattle.tuple_edge.specs.declared.node.Which.{Which}
use Rattle.tuple_edge.specs.declared.node.Which.TheVariants.{A, B}
use Rattle.flux_consumer.specs.ConsumerView.{ConsumerView}
use Rattle.flux_producer.specs.ProducerView.{ProducerView, cursor_at, edge_at}
use Rattle.text_words.specs.Lines.{Word}
use Rattle.plan_reader.specs.PlanView.{PlanView}
use Rattle.pair_machine.specs.Counts.{flow_of}
use Rattle.pair_machine.specs.Flow.{Flow}
use Rattle.pair_machine.specs.Numbers.{Consumer, Partition, Producer}
use Rattle.pair_machine.specs.Producers.{copies}
use Rattle.node_edges.specs.InEdges.{ConsumerStands}
use Rattle.node_edges.specs.OutEdges.{ProducerStands, copy_of}
use Rattle.state_text.specs.Shown.{consumer_numbers, in_edges_shown, made_in, out_edges_shown, producer_numbers}
use Rattle.state_text.specs.StateText.{cursors_text, ends_of, in_edge_line, lines_below, out_edge_line, out_edges_text}
use Rattle.state_text.proofs.Below.{lines_of}

-- ---- in-edges

mark_line : Word → ℕ → ℕ → ℕ → List ℕ
mark_line name q mark told = name ++ codes " < " ++ decimal q ++ codes " mark=" ++ decimal mark ++ codes " told=" ++ decimal told ++ codes "\n"

pub in_edges_same : (plan : PlanView) (inputs : List Input) (p : Partition) (x : Consumer) (code : ConsumerView) (name : Word) → ConsumerStands plan inputs p x code
    → in_edges_shown name code ≡ lines_below ((flow_of plan inputs).sources p.stage) (in_edge_line name x)
unfolding flow_of mark_line
in_edges_same plan inputs p x code name h =
    lines_of _ _ (in_edge_line name (consumer_numbers code)) (in_edge_line name x) h.edges
    (λ q l. let below = subst (λ n. q < n) h.edges l in (λ j. mark_line name q (h.marks q below j) (h.told q below j)))

-- ---- out-edges

low_line : Word → ℕ → ℕ → ℕ → (Which → ℕ) → List Which → List ℕ
low_line name t low made next ends = name ++ codes " > " ++ decimal t ++ codes " low=" ++ decimal low ++ codes " made=" ++ decimal made ++ cursors_text next ends ++ codes "\n"

cursors_same : (code : ProducerView) (t : ℕ) (next : ℕ → ℕ) → (edge_at code t).cursors ≡ next 0 ∷ next 1 ∷ next 2 ∷ [] → (w : Which) → cursor_at code t (copy_of w) ≡ next (copy_of w)
cursors_same code t next e A = ap (λ cs. slice_index cs 0) e
cursors_same code t next e B = ap (λ cs. slice_index cs 1) e

pub out_edges_same : (f : Flow) (on : EdgeId → List Item) (p : Partition) (made : ℕ → ℕ) (x : Producer) (code : ProducerView) (name : Word) → ProducerStands f on p made x code
    → out_edges_shown name code ≡ out_edges_text f name p made x
unfolding low_line
out_edges_same f on p made x code name h =
    let ends : ends_of code.copies ≡ ends_of (copies f p) = ap ends_of h.copies in
    lines_of _ _ (out_edge_line name (ends_of code.copies) (made_in code) (producer_numbers code)) (out_edge_line name (ends_of (copies f p)) made x) h.targets
    (λ t l.
    let e = h.edges t (subst (λ n. t < n) h.targets l) in
    let next : (w : Which) → cursor_at code t (copy_of w) ≡ x.cursors t (copy_of w) = cursors_same code t (x.cursors t) e.cursors in
    (λ j. low_line name t (e.low j) (e.produced j) (λ w. next w j) (ends j)))
