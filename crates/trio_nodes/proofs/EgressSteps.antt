-- Each event of egress in code is a step of the machine's egress.
use Rattle.std.proofs.Common.{◌≡◌, ◌<◌, ◌≤◌, ◌+◌, ◌-◌, ◌++◌, ◌∙◌, ℕ, Bool, true, false, List, [], ◌∷◌, Option, None, Some, Result, Ok, Err, drop, length, refl, sym, ap, subst, arith}
use Rattle.std.specs.Prelude.{IfOk, OnOk, if◌then◌else◌}
use Rattle.std.proofs.lemmas.List.{drop_at}
use Rattle.tuple_edge.specs.Input.{Input}
use Rattle.tuple_edge.specs.declared.event.Worked.{Worked}
use Rattle.tuple_edge.specs.declared.item.Item.{Item}
use Rattle.tuple_edge.specs.declared.memory.OutOfMemory.{OutOfMemory}
use Rattle.merge_order.specs.MergeView.{item_of, least}
use Rattle.flux_consumer.specs.ConsumerView.{report_of}
use Rattle.plan_reader.specs.Nodes.{sources_of}
use Rattle.plan_reader.specs.PlanView.{IsPlan, PlanView}
use Rattle.pair_machine.specs.Boundary.{egress_partition}
use Rattle.pair_machine.specs.Consumers.{is_ready, merged_one, offered, telling, untold}
use Rattle.pair_machine.specs.Counts.{flow_of}
use Rattle.pair_machine.specs.Numbers.{Consumer, in_edge}
use Rattle.pair_machine.specs.Numbers as pairs
use Rattle.node_edges.specs.InEdges.{edge_in}
use Rattle.node_edges.proofs.Consumers as consumers
use Rattle.ingress_egress.specs.EgressStands.{IsOfPlan}
use Rattle.ingress_egress.specs.EgressView.{EgressView, IsFrontOf}
use Rattle.ingress_egress.specs.EgressView as pairs_egress
use Rattle.ingress_egress.proofs.EgressPlan.{report_there, works_emitted, works_of_plan}
use Rattle.ingress_egress.proofs.EgressSteps.{merge_stands, no_first, ready_as, stages_are, take_tuple}
use Rattle.trio_machine.specs.Boundary.{egress_tells, egress_works}
use Rattle.trio_machine.specs.Flow.{trio_flow}
use Rattle.trio_machine.specs.Links.{IsCarried}
use Rattle.trio_machine.specs.Machine.{as_egress, does, egress_in}
use Rattle.trio_machine.specs.Messages.{Ack, Takes, envelope}
use Rattle.trio_machine.specs.Numbers.{EgressNode, group_size}
use Rattle.trio_machine.specs.Replicas.{to_group, to_producers}
use Rattle.trio_machine.specs.declared.body.TrioBody.{TrioBody}
use Rattle.trio_machine.specs.declared.body.TrioBody.TheVariants as body
use Rattle.trio_machine.specs.declared.node.TrioNode.{TrioNode}
use Rattle.trio_machine.specs.declared.node.TrioNode.TheVariants as node
use Rattle.trio_nodes.specs.Contents.{ArePacketsFor, GoOverLinks, appended}
use Rattle.trio_nodes.specs.Egress.{IsAdmitted, IsWorked, StandsFor, merging_or_reporting, reporting, taking, working}
use Rattle.trio_nodes.specs.Group.{to_three}
use Rattle.trio_nodes.specs.Steps.{IsTaken}

module _ (plan : PlanView) (inputs : List Input) where
  -- ---- a packet taken

  pub take_step : (e : EgressView) (from : TrioNode) (b : TrioBody) → IsAdmitted e from b
      → IsTaken plan inputs node.Egress (StandsFor plan inputs e) (StandsFor plan inputs (taking e b)) from b []
  take_step e (node.Replica stage part copy) (body.Tuple edge number i) ok m st x stands asks = (
    (EgressNode (offered (egress_in x) edge.from number), []),
    (λ j. does (trio_flow plan inputs) node.Egress (Takes (node.Replica stage part copy) (sym st.numbers j)) x),
    take_tuple plan inputs e (pairs.EgressNode (egress_in x)) stage part edge number i stands ok.1 ok.2 ok.3 ok.4 st.item,
    record { messages = refl; items = tt },
  )
  take_step e from b ok m st x stands asks = absurd ok

  -- ---- work

  -- an acknowledgement goes to the three replicas that send the edge
  acks_stand : IsPlan plan → (stages q mark upto : ℕ) → stages ≡ length plan.stages → mark ≡ upto
      → ArePacketsFor plan inputs (to_three stages q (body.Ack (record { stage = stages; from = q; to = 0 }) mark))
      (to_producers (egress_partition (flow_of plan inputs)) q (Ack (in_edge (egress_partition (flow_of plan inputs)) q) upto))
  acks_stand is stages q mark upto e same =
      let p = egress_partition (flow_of plan inputs) in
      let before : stages ≡ p.stage - 1 = let a = stages_are plan inputs in omega arith in
      let ack = Ack (in_edge p q) upto in
      record {
        messages = (λ j. to_group (before j) q (Ack (record { stage = before j; from = q; to = 0 }) (same j))) ∙ ap (λ b. if b then envelope node.Ingress ack ∷ [] else to_group (p.stage - 1) q ack) (sym (no_first plan inputs is));
        items = (tt, (tt, (tt, tt)));
      }

  -- what egress does, by what is ready and what is untold
  works_as : (x : Consumer) (b : Bool) (o : Option ℕ) → is_ready (flow_of plan inputs) (egress_partition (flow_of plan inputs)) x ≡ b → untold (flow_of plan inputs) (egress_partition (flow_of plan inputs)) x ≡ o
      → as_egress (egress_works (trio_flow plan inputs) x) ≡ as_egress (if b then Ok (merged_one x, []) else egress_tells (trio_flow plan inputs) x o)
  works_as x b o ready told = λ j. as_egress (if ready j then Ok (merged_one x, []) else egress_tells (trio_flow plan inputs) x (told j))

  reports_so : IsPlan plan → (e : EgressView) → item_of (least e.consumer.merge.waiting) ≡ None → (o : Option (ℕ × ℕ)) → report_of e.consumer ≡ o
      → IsWorked plan inputs e (reporting e o).after (reporting e o).sent (reporting e o).worked
  reports_so is e unready None none = λ x s.
      works_as (egress_in x) false None (ready_as plan inputs is e (pairs.EgressNode (egress_in x)) None unready s)
      (sym (consumers.reports plan inputs (egress_partition (flow_of plan inputs)) (egress_in x) e.consumer s.consumer) ∙ ap edge_in none)
  reports_so is e unready (Some report) found = λ x s asks.
      let p = egress_partition (flow_of plan inputs) in
      let y = egress_in x in
      let t = consumers.tells plan inputs p y e.consumer report found s.consumer in (
        (EgressNode (telling y report.0), to_producers p report.0 (Ack (in_edge p report.0) (y.marks report.0))),
        works_as y false (Some report.0) (ready_as plan inputs is e (pairs.EgressNode y) None unready s) t.first,
        record { stages = s.stages; consumer = t.told; emitted = s.emitted; done = s.done },
        acks_stand is e.stages report.0 report.1 (y.marks report.0) s.stages t.mark,
      )

  works_so : IsPlan plan → (e : EgressView) (o : Option Item) → item_of (least e.consumer.merge.waiting) ≡ o
      → IsWorked plan inputs e (merging_or_reporting e o).after (merging_or_reporting e o).sent (merging_or_reporting e o).worked
  works_so is e None unready = reports_so is e unready (report_of e.consumer) refl
  works_so is e (Some i) found = λ x s asks. (
    (EgressNode (merged_one (egress_in x)), []),
    works_as (egress_in x) true (untold (flow_of plan inputs) (egress_partition (flow_of plan inputs)) (egress_in x)) (ready_as plan inputs is e (pairs.EgressNode (egress_in x)) (Some i) found s) refl,
    merge_stands plan inputs is e (pairs.EgressNode (egress_in x)) i found s,
    record { messages = refl; items = tt },
  )

  work_step : IsPlan plan → (e : EgressView) → IsWorked plan inputs e (working e).after (working e).sent (working e).worked
  work_step is e = works_so is e (item_of (least e.consumer.merge.waiting)) refl

-- what holds of the work that was to be done holds of the work done
pub work_done : (r : Result Worked OutOfMemory) (old new : EgressView) → IfOk r (λ w. w ≡ (working old).worked) → OnOk r (new ≡ (working old).after)
    → IfOk r (λ w. (plan : PlanView) (inputs : List Input) → IsPlan plan → IsWorked plan inputs old new (working old).sent w)
work_done (Ok w) old new worked after = λ plan inputs is.
    subst (λ z. IsWorked plan inputs old z (working old).sent w) (sym after) (subst (IsWorked plan inputs old (working old).after (working old).sent) (sym worked) (work_step plan inputs is old))
work_done (Err e) old new worked after = tt

-- ---- what stays, and to whom it sends

-- the node after a piece of work is the one where partitions are pairs
works_alike : (e : EgressView) → (pairs_egress.working e).after ≡ (working e).after
works_alike e = go (item_of (least e.consumer.merge.waiting))
  where
    tells : (o : Option (ℕ × ℕ)) → (pairs_egress.reporting e o).after ≡ (reporting e o).after
    tells None = refl
    tells (Some report) = refl

    go : (o : Option Item) → (pairs_egress.merging_or_reporting e o).after ≡ (merging_or_reporting e o).after
    go None = tells (report_of e.consumer)
    go (Some i) = refl

pub stays_of_plan : (plan : PlanView) (e : EgressView) → IsOfPlan plan e → IsOfPlan plan (working e).after
stays_of_plan plan e is = subst (IsOfPlan plan) (works_alike e) (works_of_plan plan e is)

pub stays_emitted : (e : EgressView) → IsFrontOf e.emitted (working e).after.emitted
stays_emitted e = subst (λ (v : EgressView). IsFrontOf e.emitted v.emitted) (works_alike e) (works_emitted e)

reports_linked : (plan : PlanView) (e : EgressView) → IsOfPlan plan e → 1 ≤ e.stages → (o : Option (ℕ × ℕ)) → report_of e.consumer ≡ o → GoOverLinks plan node.Egress (reporting e o).sent
unfolding flow_of
reports_linked plan e is some None found = tt
reports_linked plan e is some (Some report) found = (each 0 (omega arith), (each 1 (omega arith), (each 2 (omega arith), tt)))
  where
    each : (c : ℕ) → c < group_size → IsCarried (trio_flow plan []) node.Egress (node.Replica e.stages report.0 c) (Ack (record { stage = e.stages; from = report.0; to = 0 }) report.1)
    each c below =
        let there : report.0 < sources_of plan (e.stages + 1) = subst (λ n. report.0 < n) is.edges (report_there e.consumer (length e.consumer.merge.marks) report found) in
        record {
          sender = tt;
          receiver = (record { first = some; last = let s = is.stages in omega arith; part = there }, below);
          carries = ((is.stages, refl), (some, refl, refl));
        }

pub works_linked : (plan : PlanView) (e : EgressView) → IsOfPlan plan e → 1 ≤ e.stages → GoOverLinks plan node.Egress (working e).sent
works_linked plan e is some = go (item_of (least e.consumer.merge.waiting))
  where
    go : (o : Option Item) → GoOverLinks plan node.Egress (merging_or_reporting e o).sent
    go None = reports_linked plan e is some (report_of e.consumer) refl
    go (Some i) = tt

-- what a call appended goes over links of the plan
pub sent_linked : (plan : PlanView) (from : TrioNode) (before after sent : List (TrioNode × TrioBody)) → after ≡ before ++ sent → GoOverLinks plan from sent
    → GoOverLinks plan from (appended before after)
sent_linked plan from before after sent same linked =
    subst (GoOverLinks plan from) (sym (ap (drop (length before)) same ∙ drop_at before sent (length before) refl)) linked
