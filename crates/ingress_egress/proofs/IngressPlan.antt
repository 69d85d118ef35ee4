-- What a runner asks of ingress: it stays a node of its plan and sends over its links alone; and no edge has had more than two items for
-- each make.
use Rattle.std.proofs.Common.{◌≡◌, ◌<◌, ◌≤◌, ◌+◌, inl, inr, ℕ, zero, suc, Bool, true, false, IsTrue, List, [], ◌∷◌, ◌++◌, Option, None, Some, Result, Ok, Err, length, map, refl, sym, ap, ◌∙◌, subst, arith}
use Rattle.std.specs.Prelude.{◌%◌, ◌==◌, IfOk, OnErr, ◌-◌, if◌then◌else◌, is_some, nat_le, slice_get, replicate, slice_index_or, slice_set}
use Rattle.std.proofs.Math.ListN.{length-set}
use Rattle.std.proofs.lemmas.Bool.{eqb-true, eq-eqb, le-leb, lt-ltb}
use Rattle.std.proofs.lemmas.List.{get_or-set_same, get_or-set_other, length-append, length-map}
use Rattle.tuple_edge.specs.declared.memory.OutOfMemory.{OutOfMemory}
use Rattle.tuple_edge.specs.declared.item.Item.{Item}
use Rattle.tuple_edge.specs.declared.item.Item.TheVariants as item
use Rattle.tuple_edge.specs.declared.node.NodeId.{NodeId}
use Rattle.tuple_edge.specs.declared.node.NodeId.TheVariants as node
use Rattle.tuple_edge.specs.declared.node.Which.{Which}
use Rattle.tuple_edge.specs.declared.packet.Body.{Body}
use Rattle.tuple_edge.specs.declared.packet.Body.TheVariants as body
use Rattle.tuple_edge.specs.Limits.{number_limit}
use Rattle.tuple_edge.specs.Input.{Input}
use Rattle.ack_buffer.specs.Buffer.{item_at}
use Rattle.flux_producer.specs.Due.{due_of, due_to, soonest_below}
use Rattle.flux_producer.specs.OutEdge.{OutEdgeView, acknowledged, sent, unused, wanted, with_item}
use Rattle.flux_producer.specs.ProducerView.{ProducerView, acked, buffer_at, contents_of, edge_at, sent_on, wanted_from, with_edge}
use Rattle.flux_producer.specs.declared.due.Due.{Due}
use Rattle.flux_producer.proofs.Dues.{due_least}
use Rattle.plan_reader.specs.Nodes.{has_link, parts_of}
use Rattle.plan_reader.specs.PlanView.{PlanView}
use Rattle.plan_reader.specs.declared.stage.Stage.{Stage}
use Rattle.pair_machine.specs.CountLaws.{made_for}
use Rattle.pair_machine.specs.Edges.{edge_to, goes_to}
use Rattle.pair_machine.specs.Ingress.{mark_after, row_of_source}
use Rattle.pair_machine.specs.Links.{link}
use Rattle.pair_machine.specs.Receivers.{GoOverLinks}
use Rattle.pair_machine.proofs.EdgeLaws.{parts_at}
use Rattle.pair_machine.proofs.Found.{FoundIn, first_found}
use Rattle.node_edges.specs.OutEdges.{HasMade, which_at, with_items}
use Rattle.ingress_egress.specs.IngressStands.{IsMade, IsOfPlan}
use Rattle.ingress_egress.specs.IngressView.{AreWide, HasMadeAtMost, HaveMadeAtMost, IngressView, MayMake, contents_in, new_producers, producer_at, producer_in, sending_due, sending_first, source_due, taking, tuples_of, with_producer, working}
use Rattle.tuple_edge.specs.declared.event.Worked.{Worked}
use Rattle.tuple_edge.specs.declared.event.Worked.TheVariants as worked
use Rattle.ingress_egress.proofs.EachSource.{alike, at_set, edges_alike, edges_many, wide_alike}
use Rattle.ingress_egress.proofs.IngressSteps.{many, opened_at}

-- ---- the same plan

-- ingress with as many sources, and with the same first stage
record IsAlike (old new : IngressView) : Type 0 where
  first : new.first ≡ old.first
  sources : length new.producers ≡ length old.producers

alike_of_plan : (plan : PlanView) (old new : IngressView) → IsAlike old new → IsOfPlan plan old → IsOfPlan plan new
alike_of_plan plan old new same is = record {
  first = is.first ∙ ap (λ z. Some z) (sym same.first);
  sources = same.sources ∙ is.sources;
}

with_alike : (i : IngressView) (q : ℕ) (y : ProducerView) → IsAlike i (with_producer i q y)
with_alike i q y = record { first = refl; sources = length-set i.producers q y }

same_alike : (i : IngressView) → IsAlike i i
same_alike i = record { first = refl; sources = refl }

takes_alike : (i : IngressView) (from : NodeId) (b : Body) → IsAlike i (taking i from b)
takes_alike i from (body.Ack edge upto) = with_alike i edge.from _
takes_alike i from (body.Want edge number) = with_alike i edge.from _
takes_alike i from b = same_alike i

pub takes_of_plan : (plan : PlanView) (i : IngressView) (from : NodeId) (b : Body) → IsOfPlan plan i → IsOfPlan plan (taking i from b)
takes_of_plan plan i from b = alike_of_plan plan i (taking i from b) (takes_alike i from b)

sends_alike : (i : IngressView) (q : ℕ) (o : Option Due) → IsAlike i (sending_due i q o).after
sends_alike i q None = same_alike i
sends_alike i q (Some d) = with_alike i q _

works_alike : (i : IngressView) (o : Option ℕ) → IsAlike i (sending_first i o).after
works_alike i None = same_alike i
works_alike i (Some q) = sends_alike i q (due_of (producer_at i q))

pub works_of_plan : (plan : PlanView) (i : IngressView) → IsOfPlan plan i → IsOfPlan plan (working i).after
works_of_plan plan i = alike_of_plan plan i (working i).after (works_alike i (source_due i))

made_of_plan : (plan : PlanView) (old new : IngressView) (m : Worked) → IsMade old new m → IsOfPlan plan old → IsOfPlan plan new
made_of_plan plan old new worked.Did m = alike_of_plan plan old new (record { first = m.1.first; sources = m.1.sources })
made_of_plan plan old new worked.Idle m = subst (IsOfPlan plan) (sym m.0)

-- also where only the room changed
pub make_of_plan : (r : Result Worked OutOfMemory) (old new : IngressView) → IfOk r (IsMade old new) → OnErr r (contents_in new ≡ contents_in old)
    → (plan : PlanView) → IsOfPlan plan old → IsOfPlan plan new
make_of_plan (Ok m) old new h k plan = made_of_plan plan old new m h
make_of_plan (Err e) old new h k plan = alike_of_plan plan old new (record {
  first = ap (λ (i : IngressView). i.first) k;
  sources = sym (length-map new.producers contents_of) ∙ ap (λ (i : IngressView). length i.producers) k ∙ length-map old.producers contents_of;
})

-- ---- links

some_stages : (stages : List Stage) (first : Stage) → slice_get stages 0 ≡ Some first → 1 ≤ length stages
some_stages [] first e = let z : ⊥ = cc e in absurd z
some_stages (stage ∷ stages) first e = omega arith

-- the plan has a link to each replica of each partition of the first stage
target_linked : (plan : PlanView) (i : IngressView) → IsOfPlan plan i → (t : ℕ) → t < i.first.parts → (w : Which) → IsTrue (has_link plan (link node.Ingress (node.Replica 1 t w)))
target_linked plan i is t l w =
    let last = le-leb 1 (length plan.stages) (some_stages plan.stages i.first is.first) in
    let there : t < parts_of plan 1 = subst (λ k. t < k) (sym (parts_at plan.stages 0 i.first is.first)) l in
    let part = lt-ltb t (parts_of plan 1) there in
    rw (last, part) refl

-- what is due is of an edge that is there
edge_there : (y : ProducerView) (d : Due) (b : Bool) → (if b then soonest_below (due_to y) (length y.edges) else None) ≡ Some d → d.to < length y.edges
edge_there y d false found = let z : ⊥ = cc found in absurd z
edge_there y d true found = (due_least y (Some d) (sym found)).waits.edge

item_linked : (plan : PlanView) (i : IngressView) → IsOfPlan plan i → (q : ℕ) (d : Due) → d.to < i.first.parts → (o : Option Item) → GoOverLinks plan node.Ingress (tuples_of q d o)
item_linked plan i is q d l None = tt
item_linked plan i is q d l (Some item) = (target_linked plan i is d.to l (which_at d.copy), tt)

sends_linked : (plan : PlanView) (i : IngressView) → IsOfPlan plan i → AreWide i.first.parts i.producers → (q : ℕ) → q < length i.producers → (o : Option Due) → due_of (producer_at i q) ≡ o
    → GoOverLinks plan node.Ingress (sending_due i q o).sent
sends_linked plan i is wide q l None found = tt
sends_linked plan i is wide q l (Some d) found =
    item_linked plan i is q d (let e = wide.targets q l in let k = edge_there (producer_at i q) d (producer_at i q).leads found in omega arith) (item_at (buffer_at (producer_at i q) d.to) d.number)

first_linked : (plan : PlanView) (i : IngressView) → IsOfPlan plan i → AreWide i.first.parts i.producers → (o : Option ℕ) → FoundIn (λ q. is_some (due_of (producer_at i q))) (length i.producers) o
    → GoOverLinks plan node.Ingress (sending_first i o).sent
first_linked plan i is wide None found = tt
first_linked plan i is wide (Some q) found = sends_linked plan i is wide q found.1 (due_of (producer_at i q)) refl

found_first : (i : IngressView) → FoundIn (λ q. is_some (due_of (producer_at i q))) (length i.producers) (source_due i)
found_first i = first_found (length i.producers) (λ q. is_some (due_of (producer_at i q)))

pub works_linked : (plan : PlanView) (i : IngressView) → IsOfPlan plan i → AreWide i.first.parts i.producers → GoOverLinks plan node.Ingress (working i).sent
works_linked plan i is wide = first_linked plan i is wide (source_due i) (found_first i)

one_item : (q : ℕ) (d : Due) (o : Option Item) → length (tuples_of q d o) ≤ 1
one_item q d None = omega arith
one_item q d (Some item) = omega arith

one_due : (i : IngressView) (q : ℕ) (o : Option Due) → length (sending_due i q o).sent ≤ 1
one_due i q None = omega arith
one_due i q (Some d) = one_item q d (item_at (buffer_at (producer_at i q) d.to) d.number)

one_sent : (i : IngressView) (o : Option ℕ) → length (sending_first i o).sent ≤ 1
one_sent i None = omega arith
one_sent i (Some q) = one_due i q (due_of (producer_at i q))

pub works_few : (i : IngressView) (before after : List (NodeId × Body)) → after ≡ before ++ (working i).sent → length after ≤ length before + 1
works_few i before after same =
    let one = one_sent i (source_due i) in
    let all = ap length same ∙ length-append before (working i).sent in omega arith

-- ---- numbers stay within their limit

-- a producer with as many edges, of which as many items were produced
record IsAsFar (y z : ProducerView) : Type 0 where
  targets : length z.edges ≡ length y.edges
  copies : z.copies ≡ y.copies
  produced : (t : ℕ) → t < length y.edges → (buffer_at z t).produced ≡ (buffer_at y t).produced

edge_as_far : (y : ProducerView) (to : ℕ) (e : OutEdgeView) → to < length y.edges → e.buffer.produced ≡ (buffer_at y to).produced → IsAsFar y (with_edge y to e)
edge_as_far y to e there same = record {
  targets = length-set y.edges to e;
  copies = refl;
  produced = λ t l. go t (t == to) refl;
}
  where
    go : (t : ℕ) (b : Bool) → (t == to) ≡ b → (buffer_at (with_edge y to e) t).produced ≡ (buffer_at y t).produced
    go t true at =
        let here : t ≡ to = eqb-true t to at in
        ap (λ k. (buffer_at (with_edge y to e) k).produced) here ∙ ap (λ (z : OutEdgeView). z.buffer.produced) (get_or-set_same y.edges to e unused there)
        ∙ same ∙ ap (λ k. (buffer_at y k).produced) (sym here)
    go t false not = ap (λ (z : OutEdgeView). z.buffer.produced) (get_or-set_other y.edges to t e unused (λ at. let z : true ≡ false = sym (eq-eqb t to at) ∙ not in cc))

-- the invariant of the producers of ingress
pub record AreKept (parts most : ℕ) (producers : List ProducerView) : Type 0 where
  pub wide : AreWide parts producers
  pub made : HaveMadeAtMost most producers

one_changed : (parts most : ℕ) (producers : List ProducerView) (q : ℕ) (z : ProducerView) → AreKept parts most producers → q < length producers → IsAsFar (producer_in producers q) z
    → AreKept parts most (slice_set producers q z)
one_changed parts most producers q z kept there far =
    let same = length-set producers q z in
    record {
      wide = record {
        targets = λ j l. elim (at_set producers q z j there) [
          | inl here ↦ ap (λ (y : ProducerView). length y.edges) here.1 ∙ far.targets ∙ kept.wide.targets q there
          | inr other ↦ ap (λ (y : ProducerView). length y.edges) other.1 ∙ kept.wide.targets j (omega arith)
        ];
        copies = λ j l. elim (at_set producers q z j there) [
          | inl here ↦ ap (λ (y : ProducerView). y.copies) here.1 ∙ far.copies ∙ kept.wide.copies q there
          | inr other ↦ ap (λ (y : ProducerView). y.copies) other.1 ∙ kept.wide.copies j (omega arith)
        ];
      };
      made = λ j l. elim (at_set producers q z j there) [
        | inl here ↦ subst (HasMadeAtMost most) (sym here.1) (λ t k. let e = far.produced t (let m = far.targets in omega arith) in let f = kept.made q there t (let m = far.targets in omega arith) in omega arith)
        | inr other ↦ subst (HasMadeAtMost most) (sym other.1) (kept.made j (omega arith))
      ];
    }

pub acked_kept : (parts most : ℕ) (producers : List ProducerView) (q to upto : ℕ) → AreKept parts most producers → q < length producers → to < parts
    → AreKept parts most (slice_set producers q (acked (producer_in producers q) to upto))
acked_kept parts most producers q to upto kept there inside =
    one_changed parts most producers q _ kept there
    (edge_as_far (producer_in producers q) to (acknowledged (edge_at (producer_in producers q) to) upto) (let e = kept.wide.targets q there in omega arith) refl)

pub sent_kept : (parts most : ℕ) (producers : List ProducerView) (q to c : ℕ) → AreKept parts most producers → q < length producers → to < length (producer_in producers q).edges
    → AreKept parts most (slice_set producers q (sent_on (producer_in producers q) to c))
sent_kept parts most producers q to c kept there inside =
    one_changed parts most producers q _ kept there (edge_as_far (producer_in producers q) to (sent (edge_at (producer_in producers q) to) c) inside refl)

pub wanted_kept : (parts most : ℕ) (producers : List ProducerView) (q to c from : ℕ) → AreKept parts most producers → q < length producers → to < parts
    → AreKept parts most (slice_set producers q (wanted_from (producer_in producers q) to c from))
wanted_kept parts most producers q to c from kept there inside =
    one_changed parts most producers q _ kept there (go (producer_in producers q).leads)
  where
    go : (b : Bool) → IsAsFar (producer_in producers q) (if b then with_edge (producer_in producers q) to (wanted (edge_at (producer_in producers q) to) c from) else producer_in producers q)
    go true = edge_as_far (producer_in producers q) to (wanted (edge_at (producer_in producers q) to) c from) (let e = kept.wide.targets q there in omega arith) refl
    go false = record { targets = refl; copies = refl; produced = λ t l. refl }

-- ---- makes

items_produced : (news : List Item) (e : OutEdgeView) → (with_items e news).buffer.produced ≡ e.buffer.produced + length news
items_produced [] e = omega arith
items_produced (i ∷ news) e =
    let more = one (nat_le (e.buffer.produced + 1) e.buffer.low) in
    let rest = items_produced news (with_item e i) in omega arith
  where
    one : (b : Bool) → (if b then record e.buffer { produced = e.buffer.produced + 1 } else record e.buffer { produced = e.buffer.produced + 1; items = e.buffer.items ++ i ∷ []; spare = e.buffer.spare - 1 }).produced ≡ e.buffer.produced + 1
    one true = refl
    one false = refl

fewer_pass : (stage : Stage) (t : ℕ) (xs : List Item) → length (edge_to (Some stage) t xs) ≤ length xs
fewer_pass stage t [] = omega arith
fewer_pass stage t (x ∷ xs) = go (goes_to stage t x) (fewer_pass stage t xs)
  where
    go : (b : Bool) → length (edge_to (Some stage) t xs) ≤ length xs → length (if b then x ∷ edge_to (Some stage) t xs else edge_to (Some stage) t xs) ≤ suc (length xs)
    go true l = omega arith
    go false l = omega arith

two_made : (q mark stamp : ℕ) (o : Option Input) → length (made_for q mark stamp o) ≤ 2
two_made q mark stamp None = omega arith
two_made q mark stamp (Some input) =
    let row = one_row (input.source == q) in
    let sign = one_mark (stamp % mark == 0) in
    let both = length-append (row_of_source q stamp input) (mark_after mark stamp) in omega arith
  where
    one_row : (b : Bool) → length (if b then item.Row stamp input.row ∷ [] else []) ≤ 1
    one_row true = omega arith
    one_row false = omega arith

    one_mark : (b : Bool) → length (if b then item.Mark stamp ∷ [] else []) ≤ 1
    one_mark true = omega arith
    one_mark false = omega arith

pub next_made : (parts most : ℕ) (first : Stage) (mark stamp : ℕ) (o : Option Input) (old new : List ProducerView) → AreKept parts most old → length new ≡ length old
    → ((q : ℕ) → q < length old → HasMade (λ t. edge_to (Some first) t (made_for q mark stamp o)) (producer_in old q) (producer_in new q)) → AreKept parts (most + 2) new
next_made parts most first mark stamp o old new kept same m = record {
  wide = record {
    targets = λ q l. (m q (omega arith)).targets ∙ kept.wide.targets q (omega arith);
    copies = λ q l. (m q (omega arith)).copies ∙ kept.wide.copies q (omega arith);
  };
  made = λ q l t k.
      let h = m q (omega arith) in
      let inside : t < length (producer_in old q).edges = let e = h.targets in omega arith in
      let news = edge_to (Some first) t (made_for q mark stamp o) in
      let now = ap (λ (e : OutEdgeView). e.buffer.produced) (h.edges t inside) in
      let more = items_produced news (edge_at (producer_in old q) t) in
      let few = fewer_pass first t (made_for q mark stamp o) in
      let two = two_made q mark stamp o in
      let was = kept.made q (omega arith) t inside in omega arith;
}

-- where only the room changed
pub contents_kept : (parts most : ℕ) (old new : List ProducerView) → map contents_of new ≡ map contents_of old → length new ≡ length old → AreKept parts most old → AreKept parts most new
contents_kept parts most old new same many kept = record {
  wide = wide_alike parts new old same many kept.wide;
  made = λ q l t k.
      let at = alike new old same q in
      let targets = edges_many (producer_in new q) (producer_in old q) at in
      let edge = edges_alike (producer_in new q).edges (producer_in old q).edges (ap (λ (p : ProducerView). p.edges) at) t in
      let produced = ap (λ (e : OutEdgeView). e.buffer.produced) edge in
      let was = kept.made q (omega arith) t (omega arith) in omega arith;
}

pub may_make : (most : ℕ) (producers : List ProducerView) → HaveMadeAtMost most producers → most + 2 < number_limit → MayMake 2 producers
may_make most producers made fits q l t k = let m = made q l t k in omega arith

-- the producers of an opening have made nothing
unused_at : (n t : ℕ) → (slice_index_or (replicate n unused) t unused).buffer.produced ≡ 0
unused_at zero t = refl
unused_at (suc n) zero = refl
unused_at (suc n) (suc t) = unused_at n t

pub open_made : (parts n : ℕ) → HaveMadeAtMost 0 (new_producers parts n)
open_made parts n q l = subst (HasMadeAtMost 0) (sym (opened_at parts n q (let m = many parts n in omega arith))) (λ t k. let e = unused_at parts t in omega arith)
