-- What loops over the sources of ingress keep.
use Rattle.std.proofs.Common.{◌≡◌, ◌<◌, ◌≤◌, ◌+◌, ◌⊎◌, inl, inr, ℕ, zero, suc, List, [], ◌∷◌, ◌++◌, false, Option, Some, length, map, refl, sym, ap, ◌∙◌, subst, arith}
use Rattle.std.specs.Prelude.{◌%◌, ◌==◌, if◌then◌else◌, slice_get, slice_index_or, slice_set}
use Rattle.std.proofs.Math.ListN.{length-set}
use Rattle.std.proofs.Math.Seq.{map-set_same}
use Rattle.std.proofs.lemmas.List.{append-nil, get_or_default, length-map}
use Rattle.tuple_edge.specs.declared.item.Item.{Item}
use Rattle.tuple_edge.specs.declared.item.Item.TheVariants as item
use Rattle.flux_producer.specs.ProducerView.{HasRoom, ProducerView, contents_of}
use Rattle.node_edges.specs.OutEdges.{HasMade}
use Rattle.ingress_egress.specs.IngressStands.{IsAtHand, IsMade}
use Rattle.ingress_egress.specs.IngressView.{AreWide, IngressView, MayMake, producer_in}
use Rattle.ingress_egress.specs.IngressView as code
use Rattle.tuple_edge.specs.declared.event.Worked.TheVariants as worked
use Rattle.node_edges.proofs.OnEdges.{made_so, none_made}
use Rattle.pair_machine.specs.CountLaws.{made_for}
use Rattle.pair_machine.specs.Ingress.{row_of_source}
use Rattle.pair_machine.proofs.Tests.{nat_not, nat_self}
use Rattle.plan_reader.specs.declared.stage.Stage.{Stage}
use Rattle.pair_machine.specs.Edges.{edge_to}
use Rattle.tuple_edge.specs.Input.{Input}
use Rattle.tuple_edge.specs.Limits.{number_limit}
use Rattle.flux_producer.specs.OutEdge.{OutEdgeView, unused}
use Rattle.flux_producer.specs.ProducerView.{without_room}

-- what stands at a place of a list after a write
pub at_set : (xs : List ProducerView) (i : ℕ) (x : ProducerView) (q : ℕ) → i < length xs
    → ((q ≡ i) × (producer_in (slice_set xs i x) q ≡ x)) ⊎ ((q ≡ i → ⊥) × (producer_in (slice_set xs i x) q ≡ producer_in xs q))
at_set [] i x q h = absurd (omega arith)
at_set (y ∷ xs) zero x zero h = inl (refl, refl)
at_set (y ∷ xs) zero x (suc q) h = inr ((λ e. omega arith), refl)
at_set (y ∷ xs) (suc i) x zero h = inr ((λ e. omega arith), refl)
at_set (y ∷ xs) (suc i) x (suc q) h = elim (at_set xs i x q (omega arith)) [ inl e ↦ inl (ap suc e.0, e.1) | inr e ↦ inr ((λ k. e.0 (omega arith)), e.1) ]

-- the first n sources have made what they were to, and the others are as they were
pub record AreMade (news : ℕ → ℕ → List Item) (old new : List ProducerView) (n : ℕ) : Type 0 where
  pub len : length new ≡ length old
  pub made : (q : ℕ) → q < n → HasMade (news q) (producer_in old q) (producer_in new q)
  pub left : (q : ℕ) → n ≤ q → producer_in new q ≡ producer_in old q

-- the next source is as it was
pub still : (news : ℕ → ℕ → List Item) (old new : List ProducerView) (n : ℕ) (y : ProducerView) → AreMade news old new n → n < length new → y ≡ slice_index_or new n y → producer_in old n ≡ y
still news old new n y had inside found = sym (had.left n (omega arith)) ∙ sym (found ∙ get_or_default new n y _ inside)

pub made_next : (news : ℕ → ℕ → List Item) (old new : List ProducerView) (n : ℕ) (y z : ProducerView) → AreMade news old new n → n < length new
    → y ≡ slice_index_or new n y → HasMade (news n) y z → AreMade news old (slice_set new n z) (n + 1)
made_next news old new n y z had inside found m =
    let was : producer_in old n ≡ y = sym (had.left n (omega arith)) ∙ sym (found ∙ get_or_default new n y _ inside) in
    record {
      len = length-set new n z ∙ had.len;
      made = λ q l. elim (at_set new n z q inside) [
        | inl here ↦ subst (λ k. HasMade (news k) (producer_in old k) (producer_in (slice_set new n z) q)) (sym here.0)
            (subst (λ w. HasMade (news n) (producer_in old n) w) (sym here.1) (subst (λ w. HasMade (news n) w z) (sym was) m))
        | inr there ↦ subst (λ w. HasMade (news q) (producer_in old q) w) (sym there.1) (had.made q (let other : q ≡ n → ⊥ = there.0 in omega arith))
      ];
      left = λ q l. elim (at_set new n z q inside) [
        | inl here ↦ let same = here.0 in absurd (omega arith)
        | inr there ↦ there.1 ∙ had.left q (omega arith)
      ];
    }

-- the first n sources have room for so many more items
pub record HaveRoom (old new : List ProducerView) (n items : ℕ) : Type 0 where
  pub contents : map contents_of new ≡ map contents_of old
  pub len : length new ≡ length old
  pub room : (q : ℕ) → q < n → HasRoom (producer_in new q).edges items

-- so many, whether or not the last one got it
pub record KeepContents (old new : List ProducerView) : Type 0 where
  pub contents : map contents_of new ≡ map contents_of old
  pub len : length new ≡ length old

pub contents_stay : (old new : List ProducerView) (n : ℕ) (y z : ProducerView) → map contents_of new ≡ map contents_of old → y ≡ slice_index_or new n y → contents_of z ≡ contents_of y
    → map contents_of (slice_set new n z) ≡ map contents_of old
contents_stay old new n y z had found same = map-set_same contents_of new n z y (same ∙ ap contents_of found) ∙ had

pub room_next : (old new : List ProducerView) (n items : ℕ) (y z : ProducerView) → HaveRoom old new n items → n < length new
    → y ≡ slice_index_or new n y → contents_of z ≡ contents_of y → HasRoom z.edges items → HaveRoom old (slice_set new n z) (n + 1) items
room_next old new n items y z had inside found same enough = record {
  contents = contents_stay old new n y z had.contents found same;
  len = length-set new n z ∙ had.len;
  room = λ q l. elim (at_set new n z q inside) [
    | inl here ↦ subst (λ w. HasRoom w.edges items) (sym here.1) enough
    | inr there ↦ subst (λ w. HasRoom w.edges items) (sym there.1) (had.room q (let other : q ≡ n → ⊥ = there.0 in omega arith))
  ];
}

-- ---- producers that differ in room alone

pub edges_alike : (one other : List OutEdgeView) → map without_room one ≡ map without_room other → (t : ℕ) → without_room (slice_index_or one t unused) ≡ without_room (slice_index_or other t unused)
edges_alike [] [] e t = refl
edges_alike [] (y ∷ other) e t = let z : ⊥ = cc e in absurd z
edges_alike (x ∷ one) [] e t = let z : ⊥ = cc e in absurd z
edges_alike (x ∷ one) (y ∷ other) e zero = let z : without_room x ≡ without_room y = cc e in z
edges_alike (x ∷ one) (y ∷ other) e (suc t) = edges_alike one other (let z : map without_room one ≡ map without_room other = cc e in z) t

pub alike : (one other : List ProducerView) → map contents_of one ≡ map contents_of other → (q : ℕ) → contents_of (producer_in one q) ≡ contents_of (producer_in other q)
alike [] [] e q = refl
alike [] (y ∷ other) e q = let z : ⊥ = cc e in absurd z
alike (x ∷ one) [] e q = let z : ⊥ = cc e in absurd z
alike (x ∷ one) (y ∷ other) e zero = let z : contents_of x ≡ contents_of y = cc e in z
alike (x ∷ one) (y ∷ other) e (suc q) = alike one other (let z : map contents_of one ≡ map contents_of other = cc e in z) q

pub edges_many : (y z : ProducerView) → contents_of y ≡ contents_of z → length y.edges ≡ length z.edges
edges_many y z e = sym (length-map y.edges without_room) ∙ ap (λ (p : ProducerView). length p.edges) e ∙ length-map z.edges without_room

pub wide_alike : (parts : ℕ) (one other : List ProducerView) → map contents_of one ≡ map contents_of other → length one ≡ length other → AreWide parts other → AreWide parts one
wide_alike parts one other e many w = record {
  targets = λ q l. edges_many (producer_in one q) (producer_in other q) (alike one other e q) ∙ w.targets q (omega arith);
  copies = λ q l. ap (λ (p : ProducerView). p.copies) (alike one other e q) ∙ w.copies q (omega arith);
}

pub fits_alike : (more : ℕ) (one other : List ProducerView) → map contents_of one ≡ map contents_of other → length one ≡ length other → MayMake more other → MayMake more one
fits_alike more one other e many fits q l t k =
    let same = alike one other e q in
    let edge = edges_alike (producer_in one q).edges (producer_in other q).edges (ap (λ (p : ProducerView). p.edges) same) t in
    let targets = edges_many (producer_in one q) (producer_in other q) same in
    subst (λ n. n + more < number_limit) (sym (ap (λ (o : OutEdgeView). o.buffer.produced) edge)) (fits q (omega arith) t (omega arith))

-- producers stay wide where items were made
pub wide_made : (parts : ℕ) (news : ℕ → ℕ → List Item) (old new : List ProducerView) → length new ≡ length old → ((q : ℕ) → q < length old → HasMade (news q) (producer_in old q) (producer_in new q))
    → AreWide parts old → AreWide parts new
wide_made parts news old new many m w = record {
  targets = λ q l. (m q (omega arith)).targets ∙ w.targets q (omega arith);
  copies = λ q l. (m q (omega arith)).copies ∙ w.copies q (omega arith);
}

-- ---- a make

pub make_is : (i : IngressView) (z : List ProducerView) (o : Option Input) (stamp : ℕ) → stamp ≡ i.makes + 1 → o ≡ slice_get i.inputs i.makes → IsAtHand i → length z ≡ length i.producers
    → ((q : ℕ) → q < length i.producers → HasMade (λ t. edge_to (Some i.first) t (made_for q i.mark stamp o)) (producer_in i.producers q) (producer_in z q))
    → IsMade i (record i { makes = stamp; producers = z }) worked.Did
make_is i z o stamp next input within many m = (
  within,
  record {
    inputs = refl;
    ended = refl;
    first = refl;
    mark = refl;
    makes = next;
    sources = many;
    producers = λ q l. made_so (λ t. edge_to (Some i.first) t (made_for q i.mark stamp o)) (code.made_next i q) (producer_in i.producers q) (producer_in z q)
        (λ t. λ j. edge_to (Some i.first) t (made_for q i.mark (next j) (input j))) (m q l);
  },
)

-- ---- a row alone

-- a row of another source gives nothing
none_of : (first : Stage) (q stamp : ℕ) (input : Input) (y : ProducerView) → (input.source == q) ≡ false → HasMade (λ t. edge_to (Some first) t (row_of_source q stamp input)) y y
none_of first q stamp input y other =
    made_so (λ t. []) (λ t. edge_to (Some first) t (row_of_source q stamp input)) y y
    (λ t. sym (ap (λ b. edge_to (Some first) t (if b then item.Row stamp input.row ∷ [] else [])) other)) (none_made y)

-- nobody sends the row of a source that isn't there
pub none_sends : (first : Stage) (stamp : ℕ) (input : Input) (producers : List ProducerView) → length producers ≤ input.source → (q : ℕ) → q < length producers
    → HasMade (λ t. edge_to (Some first) t (row_of_source q stamp input)) (producer_in producers q) (producer_in producers q)
none_sends first stamp input producers past q l =
    none_of first q stamp input (producer_in producers q) (nat_not input.source q (λ e. let z : ⊥ = omega arith in z))

-- a row is sent by its own source alone
pub one_sends : (first : Stage) (stamp : ℕ) (input : Input) (producers : List ProducerView) (y z : ProducerView) → input.source < length producers → y ≡ producer_in producers input.source
    → HasMade (λ t. edge_to (Some first) t (item.Row stamp input.row ∷ [])) y z
    → (q : ℕ) → q < length producers
    → HasMade (λ t. edge_to (Some first) t (row_of_source q stamp input)) (producer_in producers q) (producer_in (slice_set producers input.source z) q)
one_sends first stamp input producers y z there was m q l = elim (at_set producers input.source z q there) [
  | inl here ↦ subst (HasMade (λ t. edge_to (Some first) t (row_of_source q stamp input)) (producer_in producers q)) (sym here.1)
      (subst (λ k. HasMade (λ t. edge_to (Some first) t (row_of_source k stamp input)) (producer_in producers k) z) (sym here.0)
      (made_so (λ t. edge_to (Some first) t (item.Row stamp input.row ∷ [])) (λ t. edge_to (Some first) t (row_of_source input.source stamp input)) (producer_in producers input.source) z
      (λ t. ap (λ b. edge_to (Some first) t (if b then item.Row stamp input.row ∷ [] else [])) (sym (nat_self input.source)))
      (subst (λ w. HasMade (λ t. edge_to (Some first) t (item.Row stamp input.row ∷ [])) w z) was m)))
  | inr other ↦ subst (HasMade (λ t. edge_to (Some first) t (row_of_source q stamp input)) (producer_in producers q)) (sym other.1)
      (none_of first q stamp input (producer_in producers q) (nat_not input.source q (λ e. other.0 (sym e))))
]

-- where no mark follows, an input gives its row alone
pub row_alone : (first : Stage) (q mark stamp : ℕ) (input : Input) (y z : ProducerView) → (stamp % mark == 0) ≡ false
    → HasMade (λ t. edge_to (Some first) t (row_of_source q stamp input)) y z → HasMade (λ t. edge_to (Some first) t (made_for q mark stamp (Some input))) y z
row_alone first q mark stamp input y z not m =
    made_so (λ t. edge_to (Some first) t (row_of_source q stamp input)) (λ t. edge_to (Some first) t (made_for q mark stamp (Some input))) y z
    (λ t. ap (edge_to (Some first) t) (sym (append-nil (row_of_source q stamp input)) ∙ ap (λ b. row_of_source q stamp input ++ (if b then item.Mark stamp ∷ [] else [])) (sym not))) m
