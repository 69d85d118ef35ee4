-- What a runner, and a drain, ask of egress: it stays a node of its plan, sends over its links alone, keeps the rows that it emitted, and
-- is done just where all is merged.
use Rattle.std.proofs.Common.{◌≡◌, ◌<◌, ◌≤◌, ◌+◌, ◌-◌, ◌↔◌, ℕ, zero, suc, Bool, true, false, IsTrue, List, [], ◌∷◌, ◌++◌, Option, None, Some, length, refl, sym, ap, ◌∙◌, subst, arith}
use Rattle.std.specs.Prelude.{◌==◌, if◌then◌else◌, drop, nat_lt, take}
use Rattle.std.specs.Option.{option_or}
use Rattle.std.proofs.Math.ListN.{length-set}
use Rattle.std.proofs.lemmas.Bool.{eq-eqb, eqb-true, le-leb, lt-ltb}
use Rattle.std.proofs.lemmas.List.{drop_at, length-append, length-map, length-replicate, take_all, take_at}
use Rattle.tuple_edge.specs.declared.item.Item.{Item}
use Rattle.tuple_edge.specs.declared.item.Item.TheVariants as item
use Rattle.tuple_edge.specs.declared.node.NodeId.{NodeId}
use Rattle.tuple_edge.specs.declared.node.NodeId.TheVariants as node
use Rattle.tuple_edge.specs.declared.node.Which.{Which}
use Rattle.tuple_edge.specs.declared.node.Which.TheVariants.{A, B}
use Rattle.tuple_edge.specs.declared.packet.Body.{Body}
use Rattle.tuple_edge.specs.declared.row.Row.{Row}
use Rattle.tuple_edge.specs.Input.{Input}
use Rattle.merge_order.specs.Edges.{IsEdge}
use Rattle.merge_order.specs.Merged.{items}
use Rattle.merge_order.specs.MergeView.{MergeView, after_offer, item_of, least, mark_of, opening, with_item}
use Rattle.merge_order.proofs.AfterNext.{after_next-marks}
use Rattle.merge_order.proofs.Forms.{merged_edge}
use Rattle.flux_consumer.specs.ConsumerView.{ConsumerView, over, report_below, report_of, told_of}
use Rattle.stream_ops.specs.Answers.{rows_of}
use Rattle.plan_reader.specs.Nodes.{has_link, parts_of, sources_of}
use Rattle.plan_reader.specs.PlanView.{IsPlan, PlanView}
use Rattle.pair_machine.specs.Boundary.{egress_partition}
use Rattle.pair_machine.specs.CountLaws.{output_first}
use Rattle.pair_machine.specs.Counts.{flow_of}
use Rattle.pair_machine.specs.Edges.{edges_into, merged_at}
use Rattle.pair_machine.specs.Ingress.{last_stamp}
use Rattle.pair_machine.specs.Links.{link}
use Rattle.pair_machine.specs.Machine.{egress_in}
use Rattle.pair_machine.specs.Numbers.{Node}
use Rattle.pair_machine.specs.Output.{output}
use Rattle.pair_machine.specs.Receivers.{GoOverLinks, appended}
use Rattle.pair_machine.proofs.CountLaws.{in_order}
use Rattle.pair_machine.proofs.Tests.{nat_not}
use Rattle.node_edges.proofs.Consumers as consumers
use Rattle.ingress_egress.specs.EgressStands.{IsOfPlan, StandsFor}
use Rattle.ingress_egress.specs.EgressView.{EgressView, IsFrontOf, has_end, merging_or_reporting, reporting, working}

-- ---- the same plan

offer_edges : (m : MergeView) (q n : ℕ) (i : Item) → length (after_offer m q n i).marks ≡ length m.marks
offer_edges m q n i = go (n == mark_of m q + 1)
  where
    go : (b : Bool) → length (if b then with_item m q n i else m).marks ≡ length m.marks
    go true = length-set m.marks q n
    go false = refl

pub opens_of_plan : (plan : PlanView) (e : EgressView) → e ≡ record { stages = length plan.stages; consumer = over (opening (sources_of plan (length plan.stages + 1))); emitted = []; gone = []; done = false }
    → IsOfPlan plan e
opens_of_plan plan e same = subst (IsOfPlan plan) (sym same) (record { stages = refl; edges = length-replicate (sources_of plan (length plan.stages + 1)) 0 })

-- egress with as many edges, of as many stages
record IsAlike (old new : EgressView) : Type 0 where
  stages : new.stages ≡ old.stages
  edges : length new.consumer.merge.marks ≡ length old.consumer.merge.marks

alike_of_plan : (plan : PlanView) (old new : EgressView) → IsAlike old new → IsOfPlan plan old → IsOfPlan plan new
alike_of_plan plan old new same is = record {
  stages = same.stages ∙ is.stages;
  edges = same.edges ∙ is.edges ∙ ap (λ n. sources_of plan (n + 1)) (sym same.stages);
}

pub takes_of_plan : (plan : PlanView) (e : EgressView) (q n : ℕ) (i : Item) → IsOfPlan plan e
    → IsOfPlan plan (record e { consumer = record e.consumer { merge = after_offer e.consumer.merge q n i } })
takes_of_plan plan e q n i = alike_of_plan plan e _ (record { stages = refl; edges = offer_edges e.consumer.merge q n i })

works_alike : (e : EgressView) (o : Option Item) (report : Option (ℕ × ℕ)) → report_of e.consumer ≡ report → IsAlike e (merging_or_reporting e o).after
works_alike e (Some i) report found = record { stages = refl; edges = ap length (after_next-marks e.consumer.merge) }
works_alike e None None found = subst (λ r. IsAlike e (reporting e r).after) (sym found) (record { stages = refl; edges = refl })
works_alike e None (Some report) found = subst (λ r. IsAlike e (reporting e r).after) (sym found) (record { stages = refl; edges = refl })

pub works_of_plan : (plan : PlanView) (e : EgressView) → IsOfPlan plan e → IsOfPlan plan (working e).after
works_of_plan plan e = alike_of_plan plan e (working e).after (works_alike e (item_of (least e.consumer.merge.waiting)) (report_of e.consumer) refl)

-- ---- links

-- what is to be told is of an edge that is there
pub report_there : (y : ConsumerView) (n : ℕ) (report : ℕ × ℕ) → report_below y n ≡ Some report → report.0 < n
report_there y zero report e = let z : ⊥ = cc e in absurd z
report_there y (suc n) report e = go (report_below y n) refl (nat_lt (told_of y n) (mark_of y.merge n)) e (λ before. report_there y n report before)
  where
    go : (o : Option (ℕ × ℕ)) → report_below y n ≡ o → (b : Bool) → option_or o (if b then Some (n, mark_of y.merge n) else None) ≡ Some report
        → (report_below y n ≡ Some report → report.0 < n) → report.0 < suc n
    go (Some found) at b e before = let l = before (at ∙ e) in omega arith
    go None at true e before = let same : (n, mark_of y.merge n) ≡ report = cc e in let h = ap (λ (r : ℕ × ℕ). r.0) same in omega arith
    go None at false e before = let z : ⊥ = cc e in absurd z

-- the plan has a link to each replica of each partition of the last stage
sender_linked : (plan : PlanView) (e : EgressView) → IsOfPlan plan e → 1 ≤ e.stages → (q : ℕ) → q < length e.consumer.merge.marks → (w : Which)
    → IsTrue (has_link plan (link node.Egress (node.Replica e.stages q w)))
sender_linked plan e is some q l w =
    let stages = is.stages in
    let first = le-leb 1 e.stages some in
    let last = le-leb e.stages (length plan.stages) (omega arith) in
    let before : e.stages + 1 - 1 ≡ e.stages = omega arith in
    let there : q < parts_of plan e.stages = subst (λ n. q < parts_of plan n) before (let k = is.edges in omega arith) in
    let part = lt-ltb q (parts_of plan e.stages) there in
    let next = eq-eqb (length plan.stages + 1) (e.stages + 1) (omega arith) in
    rw (first, last, part, next) refl

reports_linked : (plan : PlanView) (e : EgressView) → IsOfPlan plan e → 1 ≤ e.stages → (o : Option (ℕ × ℕ)) → report_of e.consumer ≡ o → GoOverLinks plan node.Egress (reporting e o).sent
reports_linked plan e is some None found = tt
reports_linked plan e is some (Some report) found =
    let there = report_there e.consumer (length e.consumer.merge.marks) report found in
    (sender_linked plan e is some report.0 there A, (sender_linked plan e is some report.0 there B, tt))

pub works_linked : (plan : PlanView) (e : EgressView) → IsOfPlan plan e → 1 ≤ e.stages → GoOverLinks plan node.Egress (working e).sent
works_linked plan e is some = go (item_of (least e.consumer.merge.waiting))
  where
    go : (o : Option Item) → GoOverLinks plan node.Egress (merging_or_reporting e o).sent
    go None = reports_linked plan e is some (report_of e.consumer) refl
    go (Some i) = tt

-- what a call appended goes over links of the plan
pub sent_linked : (plan : PlanView) (from : NodeId) (before after sent : List (NodeId × Body)) → after ≡ before ++ sent → GoOverLinks plan from sent
    → GoOverLinks plan from (appended before after)
sent_linked plan from before after sent same linked =
    subst (GoOverLinks plan from) (sym (ap (drop (length before)) same ∙ drop_at before sent (length before) refl)) linked

two_sent : (e : EgressView) (o : Option Item) (report : Option (ℕ × ℕ)) → report_of e.consumer ≡ report → length (merging_or_reporting e o).sent ≤ 2
two_sent e (Some i) report found = omega arith
two_sent e None None found = subst (λ r. length (reporting e r).sent ≤ 2) (sym found) (omega arith)
two_sent e None (Some report) found = subst (λ r. length (reporting e r).sent ≤ 2) (sym found) (omega arith)

pub works_few : (e : EgressView) (before after : List (NodeId × Body)) → after ≡ before ++ (working e).sent → length after ≤ length before + 2
works_few e before after same =
    let two = two_sent e (item_of (least e.consumer.merge.waiting)) (report_of e.consumer) refl in
    let many = ap length same ∙ length-append before (working e).sent in omega arith

-- ---- rows

whole_front : (rows : List Row) → IsFrontOf rows rows
whole_front rows = take_all (length rows) rows (omega arith)

pub same_front : (rows more : List Row) → more ≡ rows → IsFrontOf rows more
same_front rows more same = ap (take (length rows)) same ∙ whole_front rows

works_front : (e : EgressView) (o : Option Item) (report : Option (ℕ × ℕ)) → report_of e.consumer ≡ report → IsFrontOf e.emitted (merging_or_reporting e o).after.emitted
works_front e (Some i) report found = take_at e.emitted (rows_of (i ∷ [])) (length e.emitted) refl
works_front e None None found = subst (λ r. IsFrontOf e.emitted (reporting e r).after.emitted) (sym found) (whole_front e.emitted)
works_front e None (Some report) found = subst (λ r. IsFrontOf e.emitted (reporting e r).after.emitted) (sym found) (whole_front e.emitted)

pub works_emitted : (e : EgressView) → IsFrontOf e.emitted (working e).after.emitted
works_emitted e = works_front e (item_of (least e.consumer.merge.waiting)) (report_of e.consumer) refl

-- ---- the end

same_next : (m n : ℕ) → (suc m == suc n) ≡ (m == n)
same_next m n = go (m == n) refl
  where
    go : (b : Bool) → (m == n) ≡ b → (suc m == suc n) ≡ b
    go true e = eq-eqb (suc m) (suc n) (ap suc (eqb-true m n e))
    go false e = nat_not (suc m) (suc n) (λ h. let z : true ≡ false = sym (eq-eqb m n (omega arith)) ∙ e in let y : ⊥ = cc z in y)

none_yet : (n : ℕ) → false ≡ (0 == suc n)
none_yet n = sym (nat_not 0 (suc n) (λ h. let z : ⊥ = omega arith in z))

-- the end is among the first items of an edge just where they are all of it
ended : (last : ℕ) (is : List Item) → IsEdge last is → (n : ℕ) → n ≤ length is → has_end (take n is) ≡ (n == length is)
ended last [] form n l = absurd form
ended last (item.Row stamp row ∷ is) form zero l = none_yet (length is)
ended last (item.Row stamp row ∷ is) form (suc n) l = ended last is form.3 n (omega arith) ∙ sym (same_next n (length is))
ended last (item.Mark stamp ∷ is) form zero l = none_yet (length is)
ended last (item.Mark stamp ∷ is) form (suc n) l = ended last is form.3 n (omega arith) ∙ sym (same_next n (length is))
ended last (item.End stamp ∷ is) form zero l = none_yet (length is)
ended last (item.End stamp ∷ is) form (suc n) l = let none = ap length form.2 in sym (eq-eqb (suc n) (suc (length is)) (omega arith))

module _ (plan : PlanView) (inputs : List Input) where
  total_is : (flow_of plan inputs).total (egress_partition (flow_of plan inputs)) ≡ length (merged_at plan inputs ((flow_of plan inputs).stages + 1) 0)
  unfolding flow_of
  total_is = refl

  stages_are : (flow_of plan inputs).stages ≡ length plan.stages
  unfolding flow_of
  stages_are = refl

  done_is : IsPlan plan → (e : EgressView) (n : Node) → StandsFor plan inputs e n
      → e.done ≡ ((egress_in n).count == (flow_of plan inputs).total (egress_partition (flow_of plan inputs)))
  done_is is e n s =
      let stage = (flow_of plan inputs).stages + 1 in
      let form = merged_edge (last_stamp inputs) (edges_into plan inputs stage 0) (consumers.form_is plan inputs is stage 0 (omega arith)) in
      let all = length-map (merged_at plan inputs stage 0) (λ place. place.item) in
      let within = s.consumer.merge.count in
      let count = s.consumer.count in
      s.done ∙ ended (last_stamp inputs) (items (merged_at plan inputs stage 0)) form (egress_in n).count (omega arith)
      ∙ ap (λ k. (egress_in n).count == k) (all ∙ sym total_is)

  pub done_whole : IsPlan plan → (e : EgressView) (n : Node) → StandsFor plan inputs e n
      → IsTrue e.done ↔ ((egress_in n).count ≡ (flow_of plan inputs).total (egress_partition (flow_of plan inputs)))
  done_whole is e n s =
      let total = (flow_of plan inputs).total (egress_partition (flow_of plan inputs)) in
      let same = done_is is e n s in
      ((λ t. eqb-true (egress_in n).count total (sym same ∙ t)), (λ h. same ∙ eq-eqb (egress_in n).count total h))

  pub done_output : IsPlan plan → (e : EgressView) (n : Node) → StandsFor plan inputs e n → IsTrue e.done → e.emitted ≡ output plan inputs
  done_output is e n s t = s.emitted ∙ ap (output_first plan inputs) ((done_whole is e n s).0 t) ∙ (in_order plan inputs).whole
