-- What is produced on the edges of a source at one make.
use Rattle.std.proofs.Common.{◌≡◌, ◌<◌, ◌+◌, ◌-◌, ℕ, zero, suc, Bool, true, false, List, [], ◌∷◌, ◌++◌, Some, length, map, refl, sym, ap, ◌∙◌, arith}
use Rattle.std.specs.Prelude.{◌==◌, if◌then◌else◌, nat_le, slice_index_or}
use Rattle.std.proofs.Math.ListN.{length-set}
use Rattle.std.proofs.lemmas.Bool.{eqb-true, eq-eqb}
use Rattle.std.proofs.lemmas.List.{get_or-set_same, get_or-set_other, length-map}
use Rattle.tuple_edge.specs.declared.item.Item.{Item}
use Rattle.tuple_edge.specs.declared.item.Item.TheVariants as item
use Rattle.tuple_edge.specs.declared.row.Row.{Row}
use Rattle.tuple_edge.specs.Row.{route_of}
use Rattle.flux_producer.specs.OutEdge.{OutEdgeView, unused, with_item}
use Rattle.flux_producer.specs.ProducerView.{ProducerView, contents_of, edge_at, emitted, emitted_to_all, without_room}
use Rattle.plan_reader.specs.declared.stage.Stage.{Stage}
use Rattle.pair_machine.specs.Edges.{edge_to}
use Rattle.node_edges.specs.OutEdges.{HasMade, with_items}

-- ---- edges, their room left aside

by_low : (b : Bool) (e : OutEdgeView) (i : Item) →
    without_room (record e {
      buffer = if b then record e.buffer { produced = e.buffer.produced + 1 }
          else record e.buffer { produced = e.buffer.produced + 1; items = e.buffer.items ++ i ∷ []; spare = e.buffer.spare - 1 };
    })
    ≡ without_room (record e {
      buffer = if b then record e.buffer { produced = e.buffer.produced + 1; spare = 0 }
          else record e.buffer { produced = e.buffer.produced + 1; items = e.buffer.items ++ i ∷ []; spare = 0 - 1 };
    })
by_low true e i = refl
by_low false e i = refl

item_without : (e : OutEdgeView) (i : Item) → without_room (with_item e i) ≡ without_room (with_item (without_room e) i)
item_without e i = by_low (nat_le (e.buffer.produced + 1) e.buffer.low) e i

one_without : (e other : OutEdgeView) (i : Item) → without_room e ≡ without_room other → without_room (with_item e i) ≡ without_room (with_item other i)
one_without e other i same = item_without e i ∙ ap (λ z. without_room (with_item z i)) same ∙ sym (item_without other i)

items_without : (news : List Item) (e other : OutEdgeView) → without_room e ≡ without_room other → without_room (with_items e news) ≡ without_room (with_items other news)
items_without [] e other same = same
items_without (i ∷ news) e other same = items_without news (with_item e i) (with_item other i) (one_without e other i same)

items_append : (first news : List Item) (e : OutEdgeView) → with_items e (first ++ news) ≡ with_items (with_items e first) news
items_append [] news e = refl
items_append (i ∷ first) news e = items_append first news (with_item e i)

-- ---- what was made

pub none_made : (y : ProducerView) → HasMade (λ t. []) y y
none_made y = record { stage = refl; from = refl; copies = refl; term = refl; leads = refl; targets = refl; edges = λ t l. refl }

pub made_so : (news other : ℕ → List Item) (y z : ProducerView) → ((t : ℕ) → news t ≡ other t) → HasMade news y z → HasMade other y z
made_so news other y z same m = record {
  stage = m.stage;
  from = m.from;
  copies = m.copies;
  term = m.term;
  leads = m.leads;
  targets = m.targets;
  edges = λ t l. m.edges t l ∙ ap (λ xs. without_room (with_items (edge_at y t) xs)) (same t);
}

pub made_both : (first news : ℕ → List Item) (y z w : ProducerView) → HasMade first y z → HasMade news z w → HasMade (λ t. first t ++ news t) y w
made_both first news y z w m n = record {
  stage = n.stage ∙ m.stage;
  from = n.from ∙ m.from;
  copies = n.copies ∙ m.copies;
  term = n.term ∙ m.term;
  leads = n.leads ∙ m.leads;
  targets = n.targets ∙ m.targets;
  edges = λ t l.
      n.edges t (let e = m.targets in omega arith) ∙ items_without (news t) (edge_at z t) (with_items (edge_at y t) (first t)) (m.edges t l)
      ∙ ap without_room (sym (items_append (first t) (news t) (edge_at y t)));
}

at_map : (f : OutEdgeView → OutEdgeView) (es : List OutEdgeView) (t : ℕ) → t < length es → slice_index_or (map f es) t unused ≡ f (slice_index_or es t unused)
at_map f [] t l = absurd (omega arith)
at_map f (e ∷ es) zero l = refl
at_map f (e ∷ es) (suc t) l = at_map f es t (omega arith)

-- an item on every edge
pub made_all : (y : ProducerView) (i : Item) → HasMade (λ t. i ∷ []) y (emitted_to_all y i)
made_all y i = record {
  stage = refl;
  from = refl;
  copies = refl;
  term = refl;
  leads = refl;
  targets = length-map y.edges (λ e. with_item e i);
  edges = λ t l. ap without_room (at_map (λ e. with_item e i) y.edges t l);
}

-- a row on the edge that its route names
pub made_row : (y : ProducerView) (first : Stage) (stamp : ℕ) (row : Row) → route_of row first.by first.parts < length y.edges
    → HasMade (λ t. edge_to (Some first) t (item.Row stamp row ∷ [])) y (emitted y (route_of row first.by first.parts) (item.Row stamp row))
made_row y first stamp row there = record {
  stage = refl;
  from = refl;
  copies = refl;
  term = refl;
  leads = refl;
  targets = length-set y.edges (route_of row first.by first.parts) (with_item (edge_at y (route_of row first.by first.parts)) (item.Row stamp row));
  edges = λ t l. go t (route_of row first.by first.parts == t) refl;
}
  where
    go : (t : ℕ) (b : Bool) → (route_of row first.by first.parts == t) ≡ b
        → without_room (edge_at (emitted y (route_of row first.by first.parts) (item.Row stamp row)) t) ≡ without_room (with_items (edge_at y t) (if b then item.Row stamp row ∷ [] else []))
    go t true e =
        let same : route_of row first.by first.parts ≡ t = eqb-true (route_of row first.by first.parts) t e in
        ap without_room (ap (λ k. edge_at (emitted y (route_of row first.by first.parts) (item.Row stamp row)) k) (sym same)
        ∙ get_or-set_same y.edges (route_of row first.by first.parts) (with_item (edge_at y (route_of row first.by first.parts)) (item.Row stamp row)) unused there
        ∙ ap (λ k. with_item (edge_at y k) (item.Row stamp row)) same)
    go t false e =
        ap without_room (get_or-set_other y.edges (route_of row first.by first.parts) t (with_item (edge_at y (route_of row first.by first.parts)) (item.Row stamp row)) unused
        (λ at. let z : true ≡ false = sym (eq-eqb (route_of row first.by first.parts) t (sym at)) ∙ e in cc))

-- from a producer that differs in room alone
pub made_from : (news : ℕ → List Item) (y roomy z : ProducerView) → contents_of roomy ≡ contents_of y → HasMade news roomy z → HasMade news y z
made_from news y roomy z same m =
    let listed : map without_room roomy.edges ≡ map without_room y.edges = ap (λ (p : ProducerView). p.edges) same in
    let many : length roomy.edges ≡ length y.edges = sym (length-map roomy.edges without_room) ∙ ap length listed ∙ length-map y.edges without_room in
    record {
      stage = m.stage ∙ ap (λ (p : ProducerView). p.stage) same;
      from = m.from ∙ ap (λ (p : ProducerView). p.from) same;
      copies = m.copies ∙ ap (λ (p : ProducerView). p.copies) same;
      term = m.term ∙ ap (λ (p : ProducerView). p.term) same;
      leads = m.leads ∙ ap (λ (p : ProducerView). p.leads) same;
      targets = m.targets ∙ many;
      edges = λ t l. m.edges t (omega arith) ∙ items_without (news t) (edge_at roomy t) (edge_at y t)
          (sym (at_map without_room roomy.edges t (omega arith)) ∙ ap (λ es. slice_index_or es t unused) listed ∙ at_map without_room y.edges t l);
    }
