-- Each event of ingress in code is a step of the machine's ingress.
use Rattle.std.proofs.Common.{◌≡◌, ◌<◌, ◌≤◌, ◌+◌, ◌++◌, ◌∙◌, ℕ, Bool, true, false, List, [], ◌∷◌, Option, None, Some, Result, Ok, Err, length, refl, sym, ap, subst, arith}
use Rattle.std.specs.Prelude.{IfOk, OnErr, OnOk, if◌then◌else◌, slice_get, take}
use Rattle.std.proofs.lemmas.Bool.{lt-ltb}
use Rattle.tuple_edge.specs.Input.{Input}
use Rattle.tuple_edge.specs.declared.event.Worked.{Worked}
use Rattle.tuple_edge.specs.declared.item.Item.{Item}
use Rattle.tuple_edge.specs.declared.memory.OutOfMemory.{OutOfMemory}
use Rattle.ack_buffer.specs.Buffer as buffer
use Rattle.flux_producer.specs.Due.{Waits, due_of, due_to, soonest_below}
use Rattle.flux_producer.specs.Limits.{max_copies}
use Rattle.flux_producer.specs.ProducerView.{ProducerView, buffer_at, opening}
use Rattle.flux_producer.specs.declared.due.Due.{Due as Sending}
use Rattle.flux_producer.proofs.Dues.{due_least}
use Rattle.merge_order.specs.Edges.{item_at}
use Rattle.plan_reader.specs.PlanView.{IsPlan, PlanView}
use Rattle.plan_reader.specs.declared.stage.Stage.{Stage}
use Rattle.pair_machine.specs.Boundary.{ingress_source}
use Rattle.pair_machine.specs.CountLaws.{made_for}
use Rattle.pair_machine.specs.Counts.{flow_of, items_on}
use Rattle.pair_machine.specs.Edges.{edge_to}
use Rattle.pair_machine.specs.Numbers.{ingress_edge, out_edge}
use Rattle.pair_machine.specs.Producers.{Due, copies, due}
use Rattle.pair_machine.specs.Producers as producing
use Rattle.pair_machine.proofs.CountLaws.{all_made}
use Rattle.pair_machine.proofs.EdgeLaws.{parts_at}
use Rattle.node_edges.specs.OutEdges.{AreNext, ProducerStands, any_due_in, due_in}
use Rattle.node_edges.proofs.Producers as producers
use Rattle.ingress_egress.proofs.IngressSteps.{ltb-not, makes_all, most_made, not_last}
use Rattle.trio_machine.specs.Boundary.{ingress_sends, source_made}
use Rattle.trio_machine.specs.Flow.{IsTrioPlan, trio_flow}
use Rattle.trio_machine.specs.Machine.{as_ingress, does, ingress_in, new_ingress, new_node}
use Rattle.trio_machine.specs.Messages.{Makes, NoMoreRows, Takes, Tuple, Works, envelope}
use Rattle.trio_machine.specs.Numbers.{Ingress, IngressNode, Node, group_size}
use Rattle.trio_machine.specs.Replicas.{sends_due}
use Rattle.trio_machine.specs.declared.body.TrioBody.{TrioBody}
use Rattle.trio_machine.specs.declared.body.TrioBody.TheVariants as body
use Rattle.trio_machine.specs.declared.node.TrioNode.{TrioNode}
use Rattle.trio_machine.specs.declared.node.TrioNode.TheVariants as node
use Rattle.trio_nodes.specs.Contents.{ArePacketsFor, GoOverLinks}
use Rattle.trio_nodes.specs.Ingress.{IsMadeIn, IsOfPlan, IsWorked, StandsFor}
use Rattle.trio_nodes.specs.IngressView.{HasMadeNext, IngressView, IsAdmitted, IsIngress, IsMade, contents_in, made_next, sending, taking, tuples_of, working}
use Rattle.trio_nodes.specs.Steps.{IsRefused, IsStep, IsTaken}
use Rattle.tuple_edge.specs.declared.event.Worked.TheVariants as worked

-- the producer before anything was made
abbrev pub new_producer : ℕ → ProducerView
new_producer parts = opening 0 0 parts group_size true

module _ (plan : PlanView) (inputs : List Input) where
  targets_are : (first : Stage) → slice_get plan.stages 0 ≡ Some first → first.parts ≡ (trio_flow plan inputs).targets 0
  unfolding flow_of
  targets_are first e = sym (parts_at plan.stages 0 first e)

  few : (trio_flow plan inputs).replicas ≤ max_copies
  few = omega arith

  -- ---- opening

  opens_at : IsTrioPlan plan → (parts : ℕ) → parts ≡ (trio_flow plan inputs).targets 0
      → ProducerStands (trio_flow plan inputs) (items_on plan inputs) (ingress_source 0) (source_made (trio_flow plan inputs) new_ingress) new_ingress.producer (new_producer parts)
  opens_at is parts same =
      let f = trio_flow plan inputs in
      let p = ingress_source 0 in
      let three : copies f p ≡ group_size = ap (λ b. if b then 1 else f.replicas) (not_last plan inputs is.within) in
      let source : 0 < plan.version = let one = is.one_source in omega arith in
      subst (λ made. ProducerStands f (items_on plan inputs) p made new_ingress.producer (new_producer parts)) (λ j t. sym (((all_made plan inputs is.within).by_ingress 0 t source).none) j)
      (subst (λ n. ProducerStands f (items_on plan inputs) p (λ t. 0) new_ingress.producer (opening 0 0 parts n true)) three
      (subst (λ n. ProducerStands f (items_on plan inputs) p (λ t. 0) new_ingress.producer (opening 0 0 n (copies f p) true)) (sym same) (producers.opens f (items_on plan inputs) p 1 true refl)))

  pub opens : IsTrioPlan plan → (i : IngressView) → i.inputs ≡ inputs → slice_get plan.stages 0 ≡ Some i.first → i.mark ≡ plan.mark → i.makes ≡ 0 → i.producer ≡ new_producer i.first.parts
      → StandsFor plan inputs i (new_node node.Ingress)
  opens is i given first mark makes new = record {
    inputs_are = given;
    first = first;
    mark = mark;
    makes = makes;
    producer = subst (ProducerStands (trio_flow plan inputs) (items_on plan inputs) (ingress_source 0) (source_made (trio_flow plan inputs) new_ingress) new_ingress.producer) (sym new)
        (opens_at is i.first.parts (targets_are i.first first));
  }

  -- ---- packets

  pub take_step : (i : IngressView) (from : TrioNode) (b : TrioBody) → IsAdmitted i from b
      → IsTaken plan inputs node.Ingress (StandsFor plan inputs i) (StandsFor plan inputs (taking i b)) from b []
  take_step i (node.Control stage part) (body.Ack edge upto) ok m st x s asks =
      let f = trio_flow plan inputs in
      let y = ingress_in x in (
        (IngressNode (record y { producer = producing.acked_to y.producer edge.to upto }), []),
        (λ j. does f node.Ingress (Takes (node.Control stage part) (sym st.numbers j)) x),
        record {
          inputs_are = s.inputs_are;
          first = s.first;
          mark = s.mark;
          makes = s.makes;
          producer = producers.acks f (items_on plan inputs) (ingress_source 0) (source_made f y) y.producer i.producer edge.to upto
              (let e = targets_are i.first s.first in let to = ok.0 in let there = ok.1 in omega arith) s.producer;
        },
        record { messages = refl; items = tt },
      )
  take_step i from b ok m st x s asks = absurd ok

  -- ---- work

  -- what is due is what the machine says
  due_same : (i : IngressView) (x : Node) (o : Option Sending) → due_of i.producer ≡ o → StandsFor plan inputs i x
      → due (trio_flow plan inputs) (ingress_source 0) (source_made (trio_flow plan inputs) (ingress_in x)) (ingress_in x).producer ≡ any_due_in o
  due_same i x o found s =
      sym (producers.due_is (trio_flow plan inputs) (items_on plan inputs) (ingress_source 0) few (source_made (trio_flow plan inputs) (ingress_in x)) (ingress_in x).producer i.producer s.producer) ∙ ap any_due_in found

  works_as : (i : IngressView) (x : Node) (o : Option Sending) → due_of i.producer ≡ o → StandsFor plan inputs i x
      → does (trio_flow plan inputs) node.Ingress Works x ≡ as_ingress (ingress_sends (trio_flow plan inputs) (ingress_in x) (any_due_in o))
  works_as i x o found s = ap (λ z. as_ingress (ingress_sends (trio_flow plan inputs) (ingress_in x) z)) (due_same i x o found s)

  tuple_stands : IsPlan plan → (d : Sending) (i : Item) → item_at (items_on plan inputs (out_edge (ingress_source 0) d.to)) d.number ≡ Some i
      → ArePacketsFor plan inputs (tuples_of d (Some i)) (sends_due (trio_flow plan inputs) (ingress_source 0) (due_in d))
  tuple_stands is d i at = record {
    messages = ap (λ b. envelope (if b then node.Egress else node.Replica (0 + 1) d.to d.copy) (Tuple (out_edge (ingress_source 0) d.to) d.number) ∷ []) (sym (not_last plan inputs is));
    items = (at, tt);
  }

  sends_so : IsTrioPlan plan → (i : IngressView) → (o : Option Sending) → due_of i.producer ≡ o → IsWorked plan inputs i (sending i o).after (sending i o).sent (sending i o).worked
  sends_so is i None found = λ x s. works_as i x None found s
  sends_so is i (Some d) found = λ x s asks.
      let f = trio_flow plan inputs in
      let y = ingress_in x in
      let h = producers.sends f (items_on plan inputs) (ingress_source 0) few (source_made f y) y.producer i.producer d found s.producer in
      let held = h.held (asks.0.1.above d.to d.copy) (most_made plan inputs is.within 0 d.to y.makes) in
      let at = h.item held.0 held.1 in (
        (IngressNode (record y { producer = producing.sent_on y.producer (due_in d) }), sends_due f (ingress_source 0) (due_in d)),
        works_as i x (Some d) found s,
        record { inputs_are = s.inputs_are; first = s.first; mark = s.mark; makes = s.makes; producer = h.sent },
        subst (λ z. ArePacketsFor plan inputs (tuples_of d z) (sends_due f (ingress_source 0) (due_in d))) (sym held.1) (tuple_stands is.within d held.0 at),
      )

  work_step : IsTrioPlan plan → (i : IngressView) → IsWorked plan inputs i (working i).after (working i).sent (working i).worked
  work_step is i = sends_so is i (due_of i.producer) refl

  -- ---- makes

  abbrev later : Ingress → Ingress
  later x = record x { makes = x.makes + 1 }

  next_made : IsTrioPlan plan → (i : IngressView) (x : Node) (t : ℕ) → i.makes ≤ length i.inputs → StandsFor plan inputs i x
      → AreNext (items_on plan inputs (ingress_edge 0 t)) (source_made (trio_flow plan inputs) (ingress_in x) t) (source_made (trio_flow plan inputs) (later (ingress_in x)) t) (made_next i t)
  unfolding flow_of
  next_made is i x t within s =
      let one = is.one_source in
      let m = (all_made plan inputs is.within).by_ingress 0 t (omega arith) in
      let y = ingress_in x in
      let fewer : y.makes < length inputs + 1 = let e = s.makes in let z = ap length s.inputs_are in omega arith in
      record {
        some = m.most y.makes;
        most = m.most (y.makes + 1);
        front = m.front (y.makes + 1) ∙ m.next y.makes fewer ∙ ap (λ xs. xs ++ edge_to (slice_get plan.stages 0) t (made_for 0 plan.mark (y.makes + 1) (slice_get inputs y.makes))) (sym (m.front y.makes))
            ∙ (λ j. take (source_made (trio_flow plan inputs) y t) (items_on plan inputs (ingress_edge 0 t)) ++ edge_to (s.first j) t (made_for 0 (sym s.mark j) (sym s.makes j + 1) (slice_get (sym s.inputs_are j) (sym s.makes j))));
      }

  make_stands : IsTrioPlan plan → (old new : IngressView) (x : Node) → old.makes ≤ length old.inputs → HasMadeNext old new → StandsFor plan inputs old x → StandsFor plan inputs new (IngressNode (later (ingress_in x)))
  make_stands is old new x within m s = record {
    inputs_are = m.inputs ∙ s.inputs_are;
    first = s.first ∙ ap (λ z. Some z) (sym m.first);
    mark = m.mark ∙ s.mark;
    makes = m.makes ∙ ap (λ k. k + 1) s.makes;
    producer = producers.makes (trio_flow plan inputs) (items_on plan inputs) (ingress_source 0) (source_made (trio_flow plan inputs) (ingress_in x)) (source_made (trio_flow plan inputs) (later (ingress_in x))) (made_next old)
        (ingress_in x).producer old.producer new.producer m.producer (λ t k. next_made is old x t within s) s.producer;
  }

  make_step : IsTrioPlan plan → (old new : IngressView) → old.makes ≤ length old.inputs → HasMadeNext old new
      → IsStep plan inputs node.Ingress (StandsFor plan inputs old) (StandsFor plan inputs new) Makes []
  make_step is old new within m x s asks =
      let y = ingress_in x in
      let more : y.makes < (trio_flow plan inputs).makes = let e = s.makes in let z = ap length s.inputs_are in let w = makes_all plan inputs in omega arith in (
        (IngressNode (later y), []),
        ap (λ b. as_ingress (if b then Ok (later y, []) else Err NoMoreRows)) (lt-ltb y.makes (trio_flow plan inputs).makes more),
        make_stands is old new x within m s,
        record { messages = refl; items = tt },
      )

  -- where the end was made, no input is left
  make_refused : (i : IngressView) → length i.inputs < i.makes → IsRefused plan inputs node.Ingress (StandsFor plan inputs i) Makes NoMoreRows
  make_refused i past x s =
      let all = makes_all plan inputs in
      let many = ap length s.inputs_are in
      let made = s.makes in
      ap (λ b. as_ingress (if b then Ok (later (ingress_in x), []) else Err NoMoreRows)) (ltb-not (ingress_in x).makes (trio_flow plan inputs).makes (omega arith))

-- ---- what calls have found and done

-- what was made is a step of the machine
pub make_done : (r : Result Worked OutOfMemory) (old new : IngressView) → IfOk r (IsMade old new) → IfOk r (λ m. (plan : PlanView) (inputs : List Input) → IsTrioPlan plan → IsMadeIn plan inputs old new m)
make_done (Ok worked.Did) old new h = λ plan inputs is. make_step plan inputs is old new h.0 h.1
make_done (Ok worked.Idle) old new h = λ plan inputs is. make_refused plan inputs old h.0
make_done (Err e) old new h = tt

-- what holds of the work that was to be done holds of the work done
pub work_done : (r : Result Worked OutOfMemory) (old new : IngressView) → IfOk r (λ w. w ≡ (working old).worked) → OnOk r (new ≡ (working old).after)
    → IfOk r (λ w. (plan : PlanView) (inputs : List Input) → IsTrioPlan plan → IsWorked plan inputs old new (working old).sent w)
work_done (Ok w) old new worked after = λ plan inputs is.
    subst (λ z. IsWorked plan inputs old z (working old).sent w) (sym after) (subst (IsWorked plan inputs old (working old).after (working old).sent) (sym worked) (work_step plan inputs is old))
work_done (Err e) old new worked after = tt

-- ---- to whom it sends

-- what is due waits
pub due_waits : (y : ProducerView) (d : Sending) → due_of y ≡ Some d → Waits y d.to d.copy
due_waits y d found = go y.leads found
  where
    go : (b : Bool) → (if b then soonest_below (due_to y) (length y.edges) else None) ≡ Some d → Waits y d.to d.copy
    go false e = let z : ⊥ = cc e in absurd z
    go true e = (due_least y (Some d) (sym e)).waits

some_stages : (stages : List Stage) (first : Stage) → slice_get stages 0 ≡ Some first → 1 ≤ length stages
some_stages [] first e = let z : ⊥ = cc e in absurd z
some_stages (stage ∷ stages) first e = omega arith

pub works_linked : (plan : PlanView) (i : IngressView) → IsOfPlan plan i → IsIngress i.first i.mark i.producer → GoOverLinks plan node.Ingress (working i).sent
unfolding flow_of
works_linked plan i is here = go (due_of i.producer) refl
  where
    item : (d : Sending) → Waits i.producer d.to d.copy → (o : Option Item) → GoOverLinks plan node.Ingress (tuples_of d o)
    item d waits None = tt
    item d waits (Some x) =
        let there : d.to < i.first.parts = let e = waits.edge in let k = here.targets in omega arith in (
          record {
            sender = tt;
            receiver = (
              record { first = omega arith; last = some_stages plan.stages i.first is; part = subst (λ k. d.to < k) (sym (parts_at plan.stages 0 i.first is)) there },
              let e = waits.copy in let k = here.copies in omega arith,
            );
            carries = ((refl, refl), (refl, refl));
          },
          tt,
        )

    go : (o : Option Sending) → due_of i.producer ≡ o → GoOverLinks plan node.Ingress (sending i o).sent
    go None found = tt
    go (Some d) found = item d (due_waits i.producer d found) (buffer.item_at (buffer_at i.producer d.to) d.number)

-- ---- the inputs stay

pub taking_inputs : (i : IngressView) (b : TrioBody) → (taking i b).inputs ≡ i.inputs
taking_inputs i (body.Ack edge upto) = refl
taking_inputs i b = refl

sending_inputs : (i : IngressView) (o : Option Sending) → (sending i o).after.inputs ≡ i.inputs
sending_inputs i None = refl
sending_inputs i (Some d) = refl

pub work_inputs : (r : Result Worked OutOfMemory) (old new : IngressView) (Also : Type 0) → OnOk r (new ≡ (working old).after) → OnErr r ((new ≡ old) × Also) → new.inputs ≡ old.inputs
work_inputs (Ok w) old new Also h k = ap (λ (i : IngressView). i.inputs) h ∙ sending_inputs old (due_of old.producer)
work_inputs (Err e) old new Also h k = ap (λ (i : IngressView). i.inputs) k.0

pub make_inputs : (r : Result Worked OutOfMemory) (old new : IngressView) → IfOk r (IsMade old new) → OnErr r (contents_in new ≡ contents_in old) → new.inputs ≡ old.inputs
make_inputs (Ok worked.Did) old new h k = h.1.inputs
make_inputs (Ok worked.Idle) old new h k = ap (λ (i : IngressView). i.inputs) h.1
make_inputs (Err e) old new h k = ap (λ (i : IngressView). i.inputs) k
