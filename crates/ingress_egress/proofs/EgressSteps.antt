-- Each event of egress in code is a step of the machine's egress, and a step in a course.
use Rattle.std.proofs.Common.{◌≡◌, ◌<◌, ◌≤◌, ◌+◌, ◌-◌, ℕ, suc, Bool, true, false, List, [], ◌∷◌, ◌++◌, Option, None, Some, Result, Ok, Err, length, refl, sym, ap, ◌∙◌, subst, arith}
use Rattle.std.specs.Prelude.{◌==◌, ◌||◌, IfOk, OnErr, OnOk, if◌then◌else◌, is_some, slice_get, take}
use Rattle.std.proofs.lemmas.List.Folds.{list_any-append}
use Rattle.tuple_edge.specs.declared.item.Item.{Item}
use Rattle.tuple_edge.specs.declared.item.Item.TheVariants as item
use Rattle.tuple_edge.specs.declared.event.Worked.{Worked}
use Rattle.tuple_edge.specs.declared.memory.OutOfMemory.{OutOfMemory}
use Rattle.tuple_edge.specs.declared.node.EdgeId.{EdgeId}
use Rattle.tuple_edge.specs.declared.node.NodeId.{NodeId}
use Rattle.tuple_edge.specs.declared.node.NodeId.TheVariants as node
use Rattle.tuple_edge.specs.declared.node.Which.TheVariants.{A, B}
use Rattle.tuple_edge.specs.declared.packet.Body.{Body}
use Rattle.tuple_edge.specs.declared.packet.Body.TheVariants as body
use Rattle.tuple_edge.specs.Input.{Input}
use Rattle.merge_order.specs.Edges.{item_at}
use Rattle.merge_order.specs.Merged.{items}
use Rattle.merge_order.specs.MergeView.{item_of, least, opening}
use Rattle.merge_order.proofs.AfterNext.{front_more}
use Rattle.flux_consumer.specs.ConsumerView.{over, report_of}
use Rattle.stream_ops.specs.Answers.{rows_of}
use Rattle.stream_ops.proofs.Counts.{rows_of-append}
use Rattle.plan_reader.specs.Nodes.{sources_of}
use Rattle.plan_reader.specs.PlanView.{IsPlan, PlanView}
use Rattle.pair_machine.specs.Boundary.{egress_partition, egress_tells, egress_works}
use Rattle.pair_machine.specs.Consumers.{is_ready, merged_one, offered, pulled, telling, untold}
use Rattle.pair_machine.specs.Contents.{BodyStands}
use Rattle.pair_machine.specs.CountLaws.{IsMerging, output_first}
use Rattle.pair_machine.specs.Counts.{flow_of, items_on, merged_first}
use Rattle.pair_machine.specs.Edges.{merged_at}
use Rattle.pair_machine.specs.Courses.{ArePacketsFor}
use Rattle.pair_machine.specs.Links.{link}
use Rattle.pair_machine.specs.Machine.{as_egress, does, egress_in, new_node}
use Rattle.pair_machine.specs.Messages.{Ack, Message, Takes, Tuple, envelope}
use Rattle.pair_machine.specs.Numbers.{Consumer, EgressNode, Node, in_edge}
use Rattle.pair_machine.specs.Producers.{to_producers}
use Rattle.pair_machine.proofs.Delivered.{delivered}
use Rattle.pair_machine.proofs.Tests.{nat_not}
use Rattle.node_edges.specs.InEdges.{ConsumerStands, edge_in}
use Rattle.node_edges.proofs.Consumers as consumers
use Rattle.ingress_egress.specs.EgressStands.{IsAdmitted, IsTaken, IsWorked, StandsFor}
use Rattle.ingress_egress.specs.EgressView.{EgressView, acknowledgements, after_tuple, has_end, is_end, merging, merging_or_reporting, pulling, reporting, taking, working}

module _ (plan : PlanView) (inputs : List Input) where
  pub stages_are : (flow_of plan inputs).stages ≡ length plan.stages
  unfolding flow_of
  stages_are = refl

  pub merges_last : IsMerging (flow_of plan inputs) (egress_partition (flow_of plan inputs))
  merges_last = record { first = omega arith; last = omega arith }

  offered_count : (x : Consumer) (q n : ℕ) → (offered x q n).count ≡ x.count
  offered_count x q n = go (n == x.marks q + 1)
    where
      go : (b : Bool) → (if b then record x { marks = λ j. if j == q then n else x.marks j } else x).count ≡ x.count
      go true = refl
      go false = refl

  -- ---- opening

  pub some_source : IsPlan plan → 1 ≤ sources_of plan (length plan.stages + 1)
  some_source is =
      let some = (consumers.form_is plan inputs is (length plan.stages + 1) 0 (omega arith)).some in
      let many = consumers.many_are plan inputs (length plan.stages + 1) 0 (omega arith) (omega arith) in omega arith

  pub opens : IsPlan plan → (e : EgressView) → e ≡ record { stages = length plan.stages; consumer = over (opening (sources_of plan (length plan.stages + 1))); emitted = []; gone = []; done = false }
      → StandsFor plan inputs e (new_node node.Egress)
  opens is e same = subst (λ z. StandsFor plan inputs z (new_node node.Egress)) (sym same) (record {
    stages = refl;
    consumer = subst (λ n. ConsumerStands plan inputs (egress_partition (flow_of plan inputs)) (egress_in (new_node node.Egress)) (over (opening (sources_of plan (n + 1))))) stages_are
        (consumers.begins plan inputs (egress_partition (flow_of plan inputs)) is merges_last);
    emitted = refl;
    done = refl;
  })

  -- ---- items taken

  tuple_stands : (e : EgressView) (n : Node) (q number : ℕ) (i : Item) → StandsFor plan inputs e n → q < sources_of plan ((flow_of plan inputs).stages + 1)
      → (number ≡ (egress_in n).marks q + 1 → item_at (items_on plan inputs (in_edge (egress_partition (flow_of plan inputs)) q)) number ≡ Some i)
      → StandsFor plan inputs (after_tuple e q number i) (EgressNode (offered (egress_in n) q number))
  tuple_stands e n q number i s l item =
      let count = sym (offered_count (egress_in n) q number) in
      record {
        stages = s.stages;
        consumer = consumers.offers plan inputs (egress_partition (flow_of plan inputs)) (egress_in n) e.consumer q number i merges_last l item s.consumer;
        emitted = s.emitted ∙ ap (output_first plan inputs) count;
        done = s.done ∙ ap (λ c. has_end (merged_first plan inputs (egress_partition (flow_of plan inputs)) c)) count;
      }

  pub pull_stands : (e : EgressView) (n : Node) (q : ℕ) (i : Item) → q < length e.consumer.merge.marks → StandsFor plan inputs e n
      → item_at (items_on plan inputs (in_edge (egress_partition (flow_of plan inputs)) q)) ((egress_in n).marks q + 1) ≡ Some i
      → StandsFor plan inputs (pulling e q i) (EgressNode (pulled (egress_in n) q))
  pull_stands e n q i l s item = record {
    stages = s.stages;
    consumer = consumers.pulls plan inputs (egress_partition (flow_of plan inputs)) (egress_in n) e.consumer q i merges_last (let k = s.consumer.edges in omega arith) item s.consumer;
    emitted = s.emitted;
    done = s.done;
  }

  -- ---- a packet taken

  edge_named : (e : EgressView) (n : Node) → StandsFor plan inputs e n → (edge : EdgeId) → edge.stage ≡ e.stages → edge.to ≡ 0 → in_edge (egress_partition (flow_of plan inputs)) edge.from ≡ edge
  edge_named e n s edge stage to =
      let same : (flow_of plan inputs).stages + 1 - 1 ≡ edge.stage = let a = stages_are in let b = s.stages in omega arith in
      λ i. record { stage = same i; from = edge.from; to = sym to i }

  pub take_tuple : (e : EgressView) (n : Node) (stage part : ℕ) (edge : EdgeId) (number : ℕ) (i : Item) → StandsFor plan inputs e n → part < length e.consumer.merge.marks
      → edge.stage ≡ e.stages → edge.from ≡ part → edge.to ≡ 0 → item_at (items_on plan inputs edge) number ≡ Some i
      → StandsFor plan inputs (after_tuple e edge.from number i) (EgressNode (offered (egress_in n) edge.from number))
  take_tuple e n stage part edge number i s l at from to item =
      tuple_stands e n edge.from number i s (let k = s.consumer.edges in omega arith)
      (λ next. subst (λ z. item_at (items_on plan inputs z) number ≡ Some i) (sym (edge_named e n s edge at to)) item)

  -- the message of a tuple's packet is its tuple
  tuple_taken : (e : EgressView) (stage part : ℕ) (edge : EdgeId) (number : ℕ) (i : Item) → part < length e.consumer.merge.marks → edge.stage ≡ e.stages → edge.from ≡ part → edge.to ≡ 0
      → (from : NodeId) (m : Message) → BodyStands plan inputs (link from node.Egress) (body.Tuple edge number i) m → (x : Node) → StandsFor plan inputs e x
      → (does (flow_of plan inputs) node.Egress (Takes from m) x ≡ Ok (EgressNode (offered (egress_in x) edge.from number), []))
      × StandsFor plan inputs (after_tuple e edge.from number i) (EgressNode (offered (egress_in x) edge.from number))
  tuple_taken e stage part edge number i l at from_part to from (Tuple named n) st x s = (
    (λ j. Ok (EgressNode (offered (egress_in x) (sym st.0 j).from (sym st.1 j)), [])),
    take_tuple e x stage part edge number i s l at from_part to ((λ j. item_at (items_on plan inputs (st.0 j)) (st.1 j)) ∙ st.2),
  )
  tuple_taken e stage part edge number i l at from_part to from m st x s = absurd st

  pub take_course : (e : EgressView) (from : NodeId) (b : Body) → IsAdmitted e from b → IsTaken plan inputs e (taking e b) from b
  take_course e (node.Replica stage part which) (body.Tuple edge number i) ok at index a act x stands asks =
      let h = tuple_taken e stage part edge number i ok.sender.1 ok.carried.0 ok.carried.1 ok.carried.2 (node.Replica stage part which) act.0 act.2 x stands in (
        (EgressNode (offered (egress_in x) edge.from number), []),
        (λ j. does (flow_of plan inputs) node.Egress (act.1 j) x) ∙ h.0,
        h.1,
        λ to. tt,
      )
  take_course e from b ok at index a act x stands asks = absurd ok.carried

  -- ---- work

  more_merged : (count : ℕ) (i : Item) → slice_get (items (merged_at plan inputs ((flow_of plan inputs).stages + 1) 0)) count ≡ Some i
      → merged_first plan inputs (egress_partition (flow_of plan inputs)) (count + 1) ≡ merged_first plan inputs (egress_partition (flow_of plan inputs)) count ++ i ∷ []
  more_merged count i at =
      let next : count + 1 ≡ suc count = omega arith in
      let all = items (merged_at plan inputs ((flow_of plan inputs).stages + 1) 0) in
      ap (λ k. take k all) next ∙ front_more count all i at

  pub merge_stands : IsPlan plan → (e : EgressView) (n : Node) (i : Item) → item_of (least e.consumer.merge.waiting) ≡ Some i → StandsFor plan inputs e n
      → StandsFor plan inputs (merging e i) (EgressNode (merged_one (egress_in n)))
  merge_stands is e n i found s =
      let m = consumers.merges plan inputs (egress_partition (flow_of plan inputs)) (egress_in n) e.consumer i is merges_last found s.consumer in
      let more = more_merged (egress_in n).count i m.0 in
      let before = merged_first plan inputs (egress_partition (flow_of plan inputs)) (egress_in n).count in
      record {
        stages = s.stages;
        consumer = m.1;
        emitted = ap (λ r. r ++ rows_of (i ∷ [])) s.emitted ∙ sym (ap rows_of more ∙ rows_of-append before (i ∷ []));
        done = ap (λ b. b || is_end i) s.done ∙ sym (ap has_end more ∙ list_any-append is_end before (i ∷ []) ∙ ap (λ b. has_end before || b) (one_end i));
      }
    where
      one_end : (i : Item) → has_end (i ∷ []) ≡ is_end i
      one_end (item.Row stamp row) = refl
      one_end (item.Mark stamp) = refl
      one_end (item.End stamp) = refl

  -- the rest of a piece of work: what is to be acknowledged
  pub no_first : IsPlan plan → ((flow_of plan inputs).stages + 1 == 1) ≡ false
  no_first is = nat_not ((flow_of plan inputs).stages + 1) 1 (λ e. let a = stages_are in let b = is.some in let z : ⊥ = omega arith in z)

  acks_stand : IsPlan plan → (stages q mark upto : ℕ) → stages ≡ length plan.stages → mark ≡ upto
      → ArePacketsFor (BodyStands plan inputs) node.Egress (acknowledgements stages q mark) (to_producers (egress_partition (flow_of plan inputs)) q (Ack (in_edge (egress_partition (flow_of plan inputs)) q) upto))
  acks_stand is stages q mark upto e same =
      let before : stages ≡ (flow_of plan inputs).stages + 1 - 1 = let a = stages_are in omega arith in
      let p = egress_partition (flow_of plan inputs) in
      let ack = Ack (in_edge p q) upto in
      subst (λ b. ArePacketsFor (BodyStands plan inputs) node.Egress (acknowledgements stages q mark) (if b then envelope node.Ingress ack ∷ [] else envelope (node.Replica (p.stage - 1) q A) ack ∷ envelope (node.Replica (p.stage - 1) q B) ack ∷ []))
      (sym (no_first is)) (
        ((λ j. node.Replica (before j) q A), (λ j. record { stage = before j; from = q; to = 0 }, same)),
        (((λ j. node.Replica (before j) q B), (λ j. record { stage = before j; from = q; to = 0 }, same)), tt),
      )

  -- what egress does, by what is ready and what is untold
  works_as : (x : Consumer) (b : Bool) (o : Option ℕ) → is_ready (flow_of plan inputs) (egress_partition (flow_of plan inputs)) x ≡ b → untold (flow_of plan inputs) (egress_partition (flow_of plan inputs)) x ≡ o
      → as_egress (egress_works (flow_of plan inputs) x) ≡ as_egress (if b then Ok (merged_one x, []) else egress_tells (flow_of plan inputs) x o)
  works_as x b o ready told = λ j. as_egress (if ready j then Ok (merged_one x, []) else egress_tells (flow_of plan inputs) x (told j))

  pub ready_as : IsPlan plan → (e : EgressView) (n : Node) (o : Option Item) → item_of (least e.consumer.merge.waiting) ≡ o → StandsFor plan inputs e n
      → is_ready (flow_of plan inputs) (egress_partition (flow_of plan inputs)) (egress_in n) ≡ is_some o
  ready_as is e n o found s = sym (consumers.gives plan inputs (egress_partition (flow_of plan inputs)) (egress_in n) e.consumer is merges_last s.consumer) ∙ ap is_some found

  reports_so : IsPlan plan → (e : EgressView) → item_of (least e.consumer.merge.waiting) ≡ None → (o : Option (ℕ × ℕ)) → report_of e.consumer ≡ o
      → IsWorked plan inputs e (reporting e o).after (reporting e o).sent (reporting e o).worked
  reports_so is e unready None none = λ n s.
      works_as (egress_in n) false None (ready_as is e n None unready s)
      (sym (consumers.reports plan inputs (egress_partition (flow_of plan inputs)) (egress_in n) e.consumer s.consumer) ∙ ap edge_in none)
  reports_so is e unready (Some report) found = λ clock a act n s asks.
      let p = egress_partition (flow_of plan inputs) in
      let x = egress_in n in
      let t = consumers.tells plan inputs p x e.consumer report found s.consumer in (
        (EgressNode (telling x report.0), to_producers p report.0 (Ack (in_edge p report.0) (x.marks report.0))),
        (λ j. does (flow_of plan inputs) node.Egress (act j) n) ∙ works_as x false (Some report.0) (ready_as is e n None unready s) t.first,
        record { stages = s.stages; consumer = t.told; emitted = s.emitted; done = s.done },
        λ to. delivered (BodyStands plan inputs) node.Egress clock to (acknowledgements e.stages report.0 report.1) (to_producers p report.0 (Ack (in_edge p report.0) (x.marks report.0))) (acks_stand is e.stages report.0 report.1 (x.marks report.0) s.stages t.mark),
      )

  works_so : IsPlan plan → (e : EgressView) (o : Option Item) → item_of (least e.consumer.merge.waiting) ≡ o → IsWorked plan inputs e (merging_or_reporting e o).after (merging_or_reporting e o).sent (merging_or_reporting e o).worked
  works_so is e None unready = reports_so is e unready (report_of e.consumer) refl
  works_so is e (Some i) found = λ clock a act n s asks. (
    (EgressNode (merged_one (egress_in n)), []),
    (λ j. does (flow_of plan inputs) node.Egress (act j) n) ∙ works_as (egress_in n) true (untold (flow_of plan inputs) (egress_partition (flow_of plan inputs)) (egress_in n)) (ready_as is e n (Some i) found s) refl,
    merge_stands is e n i found s,
    λ to. tt,
  )

  pub work_course : IsPlan plan → (e : EgressView) → IsWorked plan inputs e (working e).after (working e).sent (working e).worked
  work_course is e = works_so is e (item_of (least e.consumer.merge.waiting)) refl

-- ---- where a call succeeds

pub when_ok : {X Y : Type 0} (r : Result X Y) (P Q : Type 0) → (P → Q) → OnOk r P → OnOk r Q
when_ok (Ok x) P Q f h = f h
when_ok (Err e) P Q f h = h

-- what follows both where a call succeeds and where it fails
pub either : {X Y : Type 0} (r : Result X Y) (P Q Z : Type 0) → (P → Z) → (Q → Z) → OnOk r P → OnErr r Q → Z
either (Ok x) P Q Z f g h k = f h
either (Err e) P Q Z f g h k = g k

-- what holds of the work that was to be done holds of the work done
pub work_done : (r : Result Worked OutOfMemory) (old new : EgressView) → IfOk r (λ w. w ≡ (working old).worked) → OnOk r (new ≡ (working old).after)
    → IfOk r (λ w. (plan : PlanView) (inputs : List Input) → IsPlan plan → IsWorked plan inputs old new (working old).sent w)
work_done (Ok w) old new worked after = λ plan inputs is.
    subst (λ z. IsWorked plan inputs old z (working old).sent w) (sym after) (subst (IsWorked plan inputs old (working old).after (working old).sent) (sym worked) (work_course plan inputs is old))
work_done (Err e) old new worked after = tt
