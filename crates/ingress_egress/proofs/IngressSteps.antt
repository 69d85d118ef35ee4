-- Each event of ingress in code is a step of the machine's ingress, and a step in a course.
use mathlib.Core.List.{IsPrefix}
use Rattle.std.proofs.Common.{append_assoc, ◌≡◌, ◌<◌, ◌≤◌, ◌+◌, ◌⊎◌, inl, inr, ℕ, zero, suc, Bool, true, false, List, [], ◌∷◌, ◌++◌, Option, None, Some, Result, Ok, Err, length, refl, sym, ap, ◌∙◌, subst, arith}
use Rattle.std.specs.Prelude.{◌==◌, IfOk, OnOk, if◌then◌else◌, is_some, nat_lt, slice_get, slice_index_or, take}
use Rattle.std.specs.Option.{option_or}
use Rattle.std.proofs.Math.ListN.{length-set}
use Rattle.std.proofs.lemmas.Bool.{eqb-true, eq-eqb, ltb-true, lt-ltb, true≢false}
use Rattle.std.proofs.lemmas.List.{get_or-set_same, get_or-set_other, get_or_default, length-append, length-replicate}
use Rattle.tuple_edge.specs.Input.{Input}
use Rattle.tuple_edge.specs.declared.event.Event.TheVariants as event
use Rattle.tuple_edge.specs.declared.event.Worked.{Worked}
use Rattle.tuple_edge.specs.declared.event.Worked.TheVariants as worked
use Rattle.tuple_edge.specs.declared.item.Item.{Item}
use Rattle.tuple_edge.specs.declared.memory.OutOfMemory.{OutOfMemory}
use Rattle.tuple_edge.specs.declared.node.EdgeId.{EdgeId}
use Rattle.tuple_edge.specs.declared.node.NodeId.{NodeId}
use Rattle.tuple_edge.specs.declared.node.NodeId.TheVariants as node
use Rattle.tuple_edge.specs.declared.packet.Body.{Body}
use Rattle.tuple_edge.specs.declared.packet.Body.TheVariants as body
use Rattle.ack_buffer.specs.Buffer as buffer
use Rattle.flux_producer.specs.Due.{due_of}
use Rattle.flux_producer.specs.ProducerView.{ProducerView, acked, buffer_at, opening, sent_on, wanted_from}
use Rattle.flux_producer.specs.OutEdge.{unused}
use Rattle.flux_producer.specs.declared.due.Due.{Due as Sending}
use Rattle.merge_order.specs.Edges.{item_at}
use Rattle.plan_reader.specs.PlanView.{IsPlan, PlanView}
use Rattle.pair_machine.specs.Boundary.{ingress_makes, ingress_sends, ingress_source, ingress_works, source_due, source_made, source_sends}
use Rattle.pair_machine.specs.Boundary as machine
use Rattle.pair_machine.specs.Consumers.{first_below}
use Rattle.pair_machine.specs.Contents.{BodyStands}
use Rattle.pair_machine.specs.CountLaws.{made_for}
use Rattle.pair_machine.specs.Counts.{flow_of, items_on}
use Rattle.pair_machine.specs.Courses.{ArePacketsFor}
use Rattle.pair_machine.specs.Edges.{edge_to}
use Rattle.pair_machine.specs.Links.{link}
use Rattle.pair_machine.specs.Machine.{as_ingress, does, ingress_in, new_ingress, new_node}
use Rattle.pair_machine.specs.Messages.{Ack, Makes, Message, NoMoreRows, Takes, Tuple, Want, Works, envelope}
use Rattle.pair_machine.specs.Numbers.{Ingress, IngressNode, Node, Producer, ingress_edge, out_edge}
use Rattle.pair_machine.specs.Producers.{acked_to, copies, due, sends_due, wanted}
use Rattle.pair_machine.specs.Producers as producing
use Rattle.pair_machine.specs.Replicas.{which_of}
use Rattle.pair_machine.proofs.CountLaws.{all_made}
use Rattle.pair_machine.proofs.Delivered.{delivered}
use Rattle.pair_machine.proofs.EdgeLaws.{parts_at}
use Rattle.pair_machine.proofs.Found.{FoundIn, first_found}
use Rattle.pair_machine.proofs.PlanFlow.{plan_is_flow}
use Rattle.pair_machine.proofs.Tests.{nat_not}
use Rattle.node_edges.specs.OutEdges.{AreNext, ProducerStands, any_due_in, copy_of, due_in, which_at}
use Rattle.node_edges.proofs.Producers as producers
use Rattle.node_edges.proofs.Producers.{few_in_pairs, few_of_pair}
use Rattle.ingress_egress.specs.IngressStands.{AreCome, IsAtHand, IsAdmitted, IsDone, IsMade, IsMadeIn, IsRefused, IsTaken, IsWorked, StandsFor}
use Rattle.ingress_egress.specs.IngressView.{AreWide, HasMadeNext, IngressView, fed, made_next, new_producer, new_producers, producer_at, producer_in, sending_due, sending_first, taking, tuple_of, tuples_of, with_producer, working}
use Rattle.ingress_egress.specs.IngressView as code

-- ---- searches

below_or : (q n : ℕ) → q < suc n → (q < n) ⊎ (n ≡ q)
below_or zero zero h = inr refl
below_or zero (suc n) h = inl (omega arith)
below_or (suc q) zero h = absurd (omega arith)
below_or (suc q) (suc n) h = elim (below_or q n (omega arith)) [ inl l ↦ inl (omega arith) | inr e ↦ inr (ap suc e) ]

first_same : (n : ℕ) (test other : ℕ → Bool) → ((q : ℕ) → q < n → test q ≡ other q) → first_below test n ≡ first_below other n
first_same zero test other h = refl
first_same (suc n) test other h = λ i. option_or (first_same n test other (λ q l. h q (omega arith)) i) (if h n (omega arith) i then Some n else None)

some_in : (d : Option Sending) → is_some d ≡ is_some (any_due_in d)
some_in None = refl
some_in (Some d) = refl

pub ltb-not : (m n : ℕ) → n ≤ m → nat_lt m n ≡ false
ltb-not m n l = go (nat_lt m n) (ltb-true m n)
  where
    go : (b : Bool) → (b ≡ true → m < n) → b ≡ false
    go true h = let less = h refl in absurd (omega arith)
    go false h = refl

-- ---- the producers of an opening

pub many : (parts n : ℕ) → length (new_producers parts n) ≡ n
many parts zero = refl
many parts (suc n) = omega (arith, length-append (new_producers parts n) (new_producer parts n ∷ []), many parts n)

ahead : (xs : List ProducerView) (q : ℕ) (y : ProducerView) → q < length xs → producer_in (xs ++ y ∷ []) q ≡ producer_in xs q
ahead [] q y l = absurd (omega arith)
ahead (x ∷ xs) zero y l = refl
ahead (x ∷ xs) (suc q) y l = ahead xs q y (omega arith)

behind : (xs : List ProducerView) (y : ProducerView) → producer_in (xs ++ y ∷ []) (length xs) ≡ y
behind [] y = refl
behind (x ∷ xs) y = behind xs y

pub opened_at : (parts n q : ℕ) → q < n → producer_in (new_producers parts n) q ≡ new_producer parts q
opened_at parts zero q l = absurd (omega arith)
opened_at parts (suc n) q l = by (below_or q n l) (λ k. opened_at parts n q k)
  where
    by : (q < n) ⊎ (n ≡ q) → (q < n → producer_in (new_producers parts n) q ≡ new_producer parts q) → producer_in (new_producers parts n ++ new_producer parts n ∷ []) q ≡ new_producer parts q
    by (inl k) before = ahead (new_producers parts n) q (new_producer parts n) (let m = many parts n in omega arith) ∙ before k
    by (inr same) before =
        ap (producer_in (new_producers parts n ++ new_producer parts n ∷ [])) (sym (many parts n ∙ same)) ∙ behind (new_producers parts n) (new_producer parts n) ∙ ap (new_producer parts) same

-- the producers of an opening are wide
pub open_wide : (parts n : ℕ) → AreWide parts (new_producers parts n)
open_wide parts n = record {
  targets = λ q l. ap (λ (y : ProducerView). length y.edges) (opened_at parts n q (let m = many parts n in omega arith)) ∙ length-replicate parts unused;
  copies = λ q l. ap (λ (y : ProducerView). y.copies) (opened_at parts n q (let m = many parts n in omega arith));
}

-- the first of inputs are found where they stand
front_get : (came rest : List Input) (k : ℕ) → k < length came → slice_get (came ++ rest) k ≡ slice_get came k
front_get [] rest k l = absurd (omega arith)
front_get (x ∷ came) rest zero l = refl
front_get (x ∷ came) rest (suc k) l = front_get came rest k (omega arith)

-- an input that is at hand is the next one of all
next_come : (ended : Bool) (came inputs : List Input) (k : ℕ) → AreCome ended came inputs → k ≤ length came → (ended ≡ false → k < length came) → (k < length inputs + 1) × (slice_get inputs k ≡ slice_get came k)
next_come true came inputs k is within more = (let z = ap length is in omega arith, ap (λ xs. slice_get xs k) (sym is))
next_come false came inputs k p within more =
    let l = more refl in
    (let z = ap length p.1 in omega (arith, length-append came p.0), ap (λ xs. slice_get xs k) (sym p.1) ∙ front_get came p.0 k l)

module _ (plan : PlanView) (inputs : List Input) where
  sources_are : (flow_of plan inputs).sources 1 ≡ plan.version
  unfolding flow_of
  sources_are = refl

  pub targets_are : (i : IngressView) → slice_get plan.stages 0 ≡ Some i.first → i.first.parts ≡ (flow_of plan inputs).targets 0
  unfolding flow_of
  targets_are i first = sym (parts_at plan.stages 0 i.first first)

  pairs_are : (flow_of plan inputs).replicas ≡ 2
  unfolding flow_of
  pairs_are = refl

  some_stage : IsPlan plan → 1 ≤ (flow_of plan inputs).stages
  some_stage is = (plan_is_flow plan inputs is).some_stage

  -- ---- opening

  pub not_last : IsPlan plan → (0 == (flow_of plan inputs).stages) ≡ false
  not_last is = nat_not 0 (flow_of plan inputs).stages (λ e. let some = some_stage is in let z : ⊥ = omega arith in z)

  opens_at : IsPlan plan → (parts q : ℕ) → parts ≡ (flow_of plan inputs).targets 0 → q < plan.version
      → ProducerStands (flow_of plan inputs) (items_on plan inputs) (ingress_source q) (source_made (flow_of plan inputs) new_ingress q) (new_ingress.producers q) (new_producer parts q)
  opens_at is parts q same l =
      let f = flow_of plan inputs in
      let two : copies f (ingress_source q) ≡ 2 = ap (λ b. if b then 1 else f.replicas) (not_last is) ∙ pairs_are in
      let opened = producers.opens f (items_on plan inputs) (ingress_source q) 1 true refl in
      subst (λ made. ProducerStands f (items_on plan inputs) (ingress_source q) made (new_ingress.producers q) (new_producer parts q)) (λ j t. sym (((all_made plan inputs is).by_ingress q t l).none) j)
      (subst (λ n. ProducerStands f (items_on plan inputs) (ingress_source q) (λ t. 0) (new_ingress.producers q) (opening 0 q parts n true)) two
      (subst (λ n. ProducerStands f (items_on plan inputs) (ingress_source q) (λ t. 0) (new_ingress.producers q) (opening 0 q n (copies f (ingress_source q)) true)) (sym same) opened))

  pub opens : IsPlan plan → (i : IngressView) → AreCome i.ended i.inputs inputs → slice_get plan.stages 0 ≡ Some i.first → i.mark ≡ plan.mark → i.makes ≡ 0 → i.producers ≡ new_producers i.first.parts plan.version
      → StandsFor plan inputs i (new_node node.Ingress)
  opens is i came first mark makes new = record {
    inputs = came;
    first = first;
    mark = mark;
    makes = makes;
    sources = ap length new ∙ many i.first.parts plan.version;
    producers = λ q l.
        subst (ProducerStands (flow_of plan inputs) (items_on plan inputs) (ingress_source q) (source_made (flow_of plan inputs) new_ingress q) (new_ingress.producers q))
        (sym (ap (λ ps. producer_in ps q) new ∙ opened_at i.first.parts plan.version q l)) (opens_at is i.first.parts q (targets_are i first) l);
  }

  -- ---- one producer changes

  with_stands : (i : IngressView) (n : Node) (q : ℕ) (x : Producer) (y : ProducerView) → StandsFor plan inputs i n → q < length i.producers
      → ProducerStands (flow_of plan inputs) (items_on plan inputs) (ingress_source q) (source_made (flow_of plan inputs) (ingress_in n) q) x y
      → StandsFor plan inputs (with_producer i q y) (IngressNode (machine.with_producer (ingress_in n) q x))
  with_stands i n q x y s l new = record {
    inputs = s.inputs;
    first = s.first;
    mark = s.mark;
    makes = s.makes;
    sources = length-set i.producers q y ∙ s.sources;
    producers = λ j k. go j k (j == q) refl;
  }
    where
      go : (j : ℕ) → j < plan.version → (b : Bool) → (j == q) ≡ b →
          ProducerStands (flow_of plan inputs) (items_on plan inputs) (ingress_source j) (source_made (flow_of plan inputs) (ingress_in n) j) (if b then x else (ingress_in n).producers j) (producer_at (with_producer i q y) j)
      go j k true same =
          subst (λ m. ProducerStands (flow_of plan inputs) (items_on plan inputs) (ingress_source m) (source_made (flow_of plan inputs) (ingress_in n) m) x (producer_at (with_producer i q y) m)) (sym (eqb-true j q same))
          (subst (ProducerStands (flow_of plan inputs) (items_on plan inputs) (ingress_source q) (source_made (flow_of plan inputs) (ingress_in n) q) x) (sym (get_or-set_same i.producers q y (code.new_producer 0 0) l)) new)
      go j k false not =
          subst (ProducerStands (flow_of plan inputs) (items_on plan inputs) (ingress_source j) (source_made (flow_of plan inputs) (ingress_in n) j) ((ingress_in n).producers j))
          (sym (get_or-set_other i.producers q j y (code.new_producer 0 0) (λ at. let z : true ≡ false = sym (eq-eqb j q at) ∙ not in cc))) (s.producers j k)

  -- ---- packets

  ack_taken : (i : IngressView) (from : NodeId) (edge : EdgeId) (upto : ℕ) → edge.from < length i.producers → edge.to < i.first.parts
      → (m : Message) → BodyStands plan inputs (link from node.Ingress) (body.Ack edge upto) m → (n : Node) → StandsFor plan inputs i n
      → (does (flow_of plan inputs) node.Ingress (Takes from m) n ≡ Ok (IngressNode (machine.with_producer (ingress_in n) edge.from (acked_to ((ingress_in n).producers edge.from) edge.to upto)), []))
      × StandsFor plan inputs (taking i from (body.Ack edge upto)) (IngressNode (machine.with_producer (ingress_in n) edge.from (acked_to ((ingress_in n).producers edge.from) edge.to upto)))
  ack_taken i from edge upto l k (Ack named at) st n s = (
    (λ j. Ok (IngressNode (machine.with_producer (ingress_in n) (sym st.0 j).from (acked_to ((ingress_in n).producers (sym st.0 j).from) (sym st.0 j).to (sym st.1 j))), [])),
    with_stands i n edge.from (acked_to ((ingress_in n).producers edge.from) edge.to upto) (acked (producer_at i edge.from) edge.to upto) s l
        (producers.acks (flow_of plan inputs) (items_on plan inputs) (ingress_source edge.from) (source_made (flow_of plan inputs) (ingress_in n) edge.from) ((ingress_in n).producers edge.from) (producer_at i edge.from) edge.to upto
        (let e = targets_are i s.first in omega arith) (s.producers edge.from (let e = s.sources in omega arith))),
  )
  ack_taken i from edge upto l k m st n s = absurd st

  want_taken : (i : IngressView) (from : NodeId) (edge : EdgeId) (number : ℕ) → edge.from < length i.producers → edge.to < i.first.parts
      → (m : Message) → BodyStands plan inputs (link from node.Ingress) (body.Want edge number) m → (n : Node) → StandsFor plan inputs i n
      → (does (flow_of plan inputs) node.Ingress (Takes from m) n ≡ Ok (IngressNode (machine.with_producer (ingress_in n) edge.from (wanted ((ingress_in n).producers edge.from) edge.to (copy_of (which_of from)) number)), []))
      × StandsFor plan inputs (taking i from (body.Want edge number)) (IngressNode (machine.with_producer (ingress_in n) edge.from (wanted ((ingress_in n).producers edge.from) edge.to (copy_of (which_of from)) number)))
  want_taken i from edge number l k (Want named at) st n s = (
    (λ j. Ok (IngressNode (machine.with_producer (ingress_in n) (sym st.0 j).from (wanted ((ingress_in n).producers (sym st.0 j).from) (sym st.0 j).to (copy_of (which_of from)) (sym st.1 j))), [])),
    with_stands i n edge.from (wanted ((ingress_in n).producers edge.from) edge.to (copy_of (which_of from)) number) (wanted_from (producer_at i edge.from) edge.to (copy_of (which_of from)) number) s l
        (producers.wants (flow_of plan inputs) (items_on plan inputs) (ingress_source edge.from) (source_made (flow_of plan inputs) (ingress_in n) edge.from) ((ingress_in n).producers edge.from) (producer_at i edge.from) edge.to (copy_of (which_of from)) number
        (let e = targets_are i s.first in omega arith) (few_of_pair (which_of from)) (s.producers edge.from (let e = s.sources in omega arith))),
  )
  want_taken i from edge number l k m st n s = absurd st

  pub take_course : (i : IngressView) (from : NodeId) (b : Body) → IsAdmitted i from b → IsTaken plan inputs i (taking i from b) from b
  take_course i (node.Control stage part) (body.Ack edge upto) ok at index act a n s asks =
      let to : edge.to < i.first.parts = let e = ok.1.2 in let l = ok.1.3 in omega arith in
      let h = ack_taken i (node.Control stage part) edge upto ok.1.1 to a.0 a.2 n s in
      ((IngressNode (machine.with_producer (ingress_in n) edge.from (acked_to ((ingress_in n).producers edge.from) edge.to upto)), []), (λ j. does (flow_of plan inputs) node.Ingress (a.1 j) n) ∙ h.0, h.1, λ to. tt)
  take_course i (node.Replica stage part which) (body.Want edge number) ok at index act a n s asks =
      let to : edge.to < i.first.parts = let e = ok.1.2 in let l = ok.1.3 in omega arith in
      let h = want_taken i (node.Replica stage part which) edge number ok.1.1 to a.0 a.2 n s in
      ((IngressNode (machine.with_producer (ingress_in n) edge.from (wanted ((ingress_in n).producers edge.from) edge.to (copy_of which) number)), []), (λ j. does (flow_of plan inputs) node.Ingress (a.1 j) n) ∙ h.0, h.1, λ to. tt)
  take_course i from b ok at index act a n s asks = absurd ok

  -- ---- work

  -- what is due of a source is what the machine says
  due_same : (i : IngressView) (n : Node) (q : ℕ) → q < plan.version → StandsFor plan inputs i n → any_due_in (due_of (producer_at i q)) ≡ source_due (flow_of plan inputs) (ingress_in n) q
  due_same i n q l s = producers.due_is (flow_of plan inputs) (items_on plan inputs) (ingress_source q) (few_in_pairs plan inputs) (source_made (flow_of plan inputs) (ingress_in n) q) ((ingress_in n).producers q) (producer_at i q) (s.producers q l)

  first_is : (i : IngressView) (n : Node) → StandsFor plan inputs i n
      → code.source_due i ≡ first_below (λ q. is_some (source_due (flow_of plan inputs) (ingress_in n) q)) ((flow_of plan inputs).sources 1)
  first_is i n s =
      ap (first_below (λ q. is_some (due_of (producer_at i q)))) (s.sources ∙ sym sources_are)
      ∙ first_same ((flow_of plan inputs).sources 1) (λ q. is_some (due_of (producer_at i q))) (λ q. is_some (source_due (flow_of plan inputs) (ingress_in n) q))
      (λ q l. some_in (due_of (producer_at i q)) ∙ ap is_some (due_same i n q (let e = sources_are in omega arith) s))

  works_as : (i : IngressView) (n : Node) (o : Option ℕ) → code.source_due i ≡ o → StandsFor plan inputs i n
      → does (flow_of plan inputs) node.Ingress Works n ≡ as_ingress (ingress_sends (flow_of plan inputs) (ingress_in n) o)
  works_as i n o first s = ap (λ z. as_ingress (ingress_sends (flow_of plan inputs) (ingress_in n) z)) (sym (first_is i n s) ∙ first)

  tuple_stands : IsPlan plan → (q : ℕ) (d : Sending) (item : Item) → item_at (items_on plan inputs (out_edge (ingress_source q) d.to)) d.number ≡ Some item
      → ArePacketsFor (BodyStands plan inputs) node.Ingress (tuple_of q d item ∷ []) (sends_due (flow_of plan inputs) (ingress_source q) (due_in d))
  tuple_stands is q d item at =
      subst (λ b. ArePacketsFor (BodyStands plan inputs) node.Ingress (tuple_of q d item ∷ []) (envelope (if b then node.Egress else node.Replica (0 + 1) d.to (which_at d.copy)) (Tuple (out_edge (ingress_source q) d.to) d.number) ∷ []))
      (sym (not_last is)) ((refl, (refl, refl, at)), tt)

  pub most_made : IsPlan plan → (q t m : ℕ) → (flow_of plan inputs).made (ingress_edge q t) m ≤ length (items_on plan inputs (ingress_edge q t))
  unfolding flow_of
  most_made is q t m = (plan_is_flow plan inputs is).makes_most q t m

  sends_so : IsPlan plan → (i : IngressView) (q : ℕ) → q < length i.producers → code.source_due i ≡ Some q → (o : Option Sending) → due_of (producer_at i q) ≡ o → is_some o ≡ true
      → IsWorked plan inputs i (sending_due i q o).after (sending_due i q o).sent (sending_due i q o).worked
  sends_so is i q l first None found some = absurd (true≢false (sym some))
  sends_so is i q l first (Some d) found some = λ clock a act n s asks.
      let f = flow_of plan inputs in
      let x = ingress_in n in
      let h = producers.sends f (items_on plan inputs) (ingress_source q) (few_in_pairs plan inputs) (source_made f x q) (x.producers q) (producer_at i q) d found (s.producers q (let e = s.sources in omega arith)) in
      let held = h.held ((asks.0.1 q).above d.to d.copy) (most_made is q d.to x.makes) in
      let at = h.item held.0 held.1 in (
        (IngressNode (machine.with_producer x q (producing.sent_on (x.producers q) (due_in d))), sends_due f (ingress_source q) (due_in d)),
        (λ j. does f node.Ingress (act j) n) ∙ works_as i n (Some q) first s ∙ ap (λ z. as_ingress (source_sends f x q z)) h.due,
        with_stands i n q (producing.sent_on (x.producers q) (due_in d)) (sent_on (producer_at i q) d.to d.copy) s l h.sent,
        λ to. delivered (BodyStands plan inputs) node.Ingress clock to (tuples_of q d (buffer.item_at (buffer_at (producer_at i q) d.to) d.number)) (sends_due f (ingress_source q) (due_in d))
            (subst (λ z. ArePacketsFor (BodyStands plan inputs) node.Ingress (tuples_of q d z) (sends_due f (ingress_source q) (due_in d))) (sym held.1) (tuple_stands is q d held.0 at)),
      )

  works_so : IsPlan plan → (i : IngressView) → (o : Option ℕ) → code.source_due i ≡ o → FoundIn (λ q. is_some (due_of (producer_at i q))) (length i.producers) o
      → IsWorked plan inputs i (sending_first i o).after (sending_first i o).sent (sending_first i o).worked
  works_so is i None first found = λ n s. works_as i n None first s
  works_so is i (Some q) first found = sends_so is i q found.1 first (due_of (producer_at i q)) refl found.0

  pub work_course : IsPlan plan → (i : IngressView) → IsWorked plan inputs i (working i).after (working i).sent (working i).worked
  work_course is i = works_so is i (code.source_due i) refl (first_found (length i.producers) (λ q. is_some (due_of (producer_at i q))))

  -- ---- makes

  abbrev later : Ingress → Ingress
  later x = record x { makes = x.makes + 1 }

  pub makes_all : (flow_of plan inputs).makes ≡ length inputs + 1
  unfolding flow_of
  makes_all = refl

  next_made : IsPlan plan → (i : IngressView) (n : Node) (q t : ℕ) → q < plan.version → IsAtHand i → StandsFor plan inputs i n
      → AreNext (items_on plan inputs (ingress_edge q t)) (source_made (flow_of plan inputs) (ingress_in n) q t) (source_made (flow_of plan inputs) (later (ingress_in n)) q t) (made_next i q t)
  unfolding flow_of
  next_made is i n q t l within s =
      let m = (all_made plan inputs is).by_ingress q t l in
      let x = ingress_in n in
      let came = next_come i.ended i.inputs inputs i.makes s.inputs within.0 within.1 in
      let fewer : x.makes < length inputs + 1 = let e = s.makes in let z = came.0 in omega arith in
      record {
        some = m.most x.makes;
        most = m.most (x.makes + 1);
        front = m.front (x.makes + 1) ∙ m.next x.makes fewer ∙ ap (λ xs. xs ++ edge_to (slice_get plan.stages 0) t (made_for q plan.mark (x.makes + 1) (slice_get inputs x.makes))) (sym (m.front x.makes))
            ∙ (λ j. take (source_made (flow_of plan inputs) x q t) (items_on plan inputs (ingress_edge q t)) ++ edge_to (s.first j) t (made_for q (sym s.mark j) (sym s.makes j + 1) (slice_get inputs (sym s.makes j))))
            ∙ ap (λ o. take (source_made (flow_of plan inputs) x q t) (items_on plan inputs (ingress_edge q t)) ++ edge_to (Some i.first) t (made_for q i.mark (i.makes + 1) o)) came.1;
      }

  make_stands : IsPlan plan → (old new : IngressView) (n : Node) → IsAtHand old → HasMadeNext old new → StandsFor plan inputs old n → StandsFor plan inputs new (IngressNode (later (ingress_in n)))
  make_stands is old new n within m s = record {
    inputs = subst (λ e. AreCome e new.inputs inputs) (sym m.ended) (subst (λ came. AreCome old.ended came inputs) (sym m.inputs) s.inputs);
    first = s.first ∙ ap (λ z. Some z) (sym m.first);
    mark = m.mark ∙ s.mark;
    makes = m.makes ∙ ap (λ k. k + 1) s.makes;
    sources = m.sources ∙ s.sources;
    producers = λ q l.
        producers.makes (flow_of plan inputs) (items_on plan inputs) (ingress_source q) (source_made (flow_of plan inputs) (ingress_in n) q) (source_made (flow_of plan inputs) (later (ingress_in n)) q) (made_next old q)
        ((ingress_in n).producers q) (producer_at old q) (producer_at new q) (m.producers q (let e = s.sources in omega arith))
        (λ t k. next_made is old n q t l within s) (s.producers q l);
  }

  pub make_course : IsPlan plan → (old new : IngressView) → IsAtHand old → HasMadeNext old new → IsDone plan inputs old new [] event.Make
  make_course is old new within m = λ clock a act n s asks.
      let more : (ingress_in n).makes < (flow_of plan inputs).makes = let e = s.makes in let z = (next_come old.ended old.inputs inputs old.makes s.inputs within.0 within.1).0 in let w = makes_all in omega arith in (
        (IngressNode (later (ingress_in n)), []),
        (λ j. does (flow_of plan inputs) node.Ingress (act j) n) ∙ ap (λ b. as_ingress (if b then Ok (later (ingress_in n), []) else Err NoMoreRows)) (lt-ltb (ingress_in n).makes (flow_of plan inputs).makes more),
        make_stands is old new n within m s,
        λ to. tt,
      )

  all_come : (i : IngressView) → i.ended ≡ true → AreCome i.ended i.inputs inputs → i.inputs ≡ inputs
  all_come i ended came = rw ended at came

  -- where all came and the end was made, no input is left
  pub make_refused : (i : IngressView) → (IsAtHand i → ⊥) → i.ended ≡ true → IsRefused plan inputs i Makes NoMoreRows
  make_refused i none ended n s =
      let no : i.makes ≤ length i.inputs → ⊥ = λ within. none (within, λ still. let z : true ≡ false = sym ended ∙ still in cc) in
      let all = makes_all in
      let many = ap length (all_come i ended s.inputs) in
      let made = s.makes in
      ap (λ b. as_ingress (if b then Ok (later (ingress_in n), []) else Err NoMoreRows)) (ltb-not (ingress_in n).makes (flow_of plan inputs).makes (omega (arith, no)))

  -- ---- inputs that come

  -- one more came
  pub feed_admits : (i : IngressView) (input : Input) → i.ended ≡ false → AreCome i.ended (i.inputs ++ input ∷ []) inputs → AreCome i.ended i.inputs inputs
  feed_admits i input more may =
      let p : IsPrefix (i.inputs ++ input ∷ []) inputs = subst (λ e. AreCome e (i.inputs ++ input ∷ []) inputs) more may in
      subst (λ e. AreCome e i.inputs inputs) (sym more) (input ∷ p.0, sym (append_assoc i.inputs (input ∷ []) p.0) ∙ p.1)

-- ---- what calls have found and done

-- what was made is a step of the machine
pub make_done : (r : Result Worked OutOfMemory) (old new : IngressView) → IfOk r (IsMade old new) → IfOk r (λ m. (plan : PlanView) (inputs : List Input) → IsPlan plan → IsMadeIn plan inputs old new m)
make_done (Ok worked.Did) old new h = λ plan inputs is. make_course plan inputs is old new h.0 h.1
make_done (Ok worked.Idle) old new h = λ plan inputs is ended. make_refused plan inputs old h.1 ended
make_done (Err e) old new h = tt

-- the first number of which a test holds, below any bound above it
pub found_at : (n q : ℕ) (test : ℕ → Bool) → first_below test q ≡ None → q < n → test q ≡ true → first_below test n ≡ Some q
found_at zero q test none l holds = absurd (omega arith)
found_at (suc n) q test none l holds = by (below_or q n l) (λ k. found_at n q test none k holds)
  where
    by : (q < n) ⊎ (n ≡ q) → (q < n → first_below test n ≡ Some q) → first_below test (suc n) ≡ Some q
    by (inl k) before = ap (λ o. option_or o (if test n then Some n else None)) (before k)
    by (inr same) before =
        (λ i. option_or (first_below test (same i)) (if test (same i) then Some (same i) else None))
        ∙ (λ i. option_or (none i) (if holds i then Some q else None))

-- what the code reads of its producers at a place is the producer there
pub producer_there : (i : IngressView) (producers : List ProducerView) (q : ℕ) (y : ProducerView) → producers ≡ i.producers → q < length i.producers → y ≡ slice_index_or producers q y → y ≡ producer_at i q
producer_there i producers q y same within at = at ∙ ap (λ ps. slice_index_or ps q y) same ∙ get_or_default i.producers q y _ within

-- what was due of the first source was sent
pub did_send : (i : IngressView) (q : ℕ) (d : Sending) (item : Item) → Some q ≡ code.source_due i → due_of (producer_at i q) ≡ Some d
    → buffer.item_at (buffer_at (producer_at i q) d.to) d.number ≡ Some item
    → working i ≡ record { after = with_producer i q (sent_on (producer_at i q) d.to d.copy); sent = tuple_of q d item ∷ []; worked = worked.Did }
did_send i q d item first due at =
    ap (sending_first i) (sym first) ∙ ap (sending_due i q) due
    ∙ (λ j. record { after = with_producer i q (sent_on (producer_at i q) d.to d.copy); sent = tuples_of q d (at j); worked = worked.Did })

pub none_to_send : (i : IngressView) (q : ℕ) → Some q ≡ code.source_due i → due_of (producer_at i q) ≡ None → working i ≡ record { after = i; sent = []; worked = worked.Idle }
none_to_send i q first due = ap (sending_first i) (sym first) ∙ ap (sending_due i q) due

-- what holds of the work that was to be done holds of the work done
pub work_done : (r : Result Worked OutOfMemory) (old new : IngressView) → IfOk r (λ w. w ≡ (working old).worked) → OnOk r (new ≡ (working old).after)
    → IfOk r (λ w. (plan : PlanView) (inputs : List Input) → IsPlan plan → IsWorked plan inputs old new (working old).sent w)
work_done (Ok w) old new worked after = λ plan inputs is.
    subst (λ z. IsWorked plan inputs old z (working old).sent w) (sym after) (subst (IsWorked plan inputs old (working old).after (working old).sent) (sym worked) (work_course plan inputs is old))
work_done (Err e) old new worked after = tt
