-- A replica sends over links of its plan alone.
use Rattle.std.proofs.Common.{◌≡◌, ◌<◌, ◌≤◌, ◌+◌, ◌-◌, ◌++◌, ◌∙◌, ℕ, List, [], ◌∷◌, Option, None, Some, Result, Ok, Err, drop, length, refl, sym, ap, subst, arith}
use Rattle.std.specs.Prelude.{IfOk, OnErr, slice_get}
use Rattle.std.proofs.lemmas.List.{append-nil}
use Rattle.std.proofs.lemmas.Option.{slice_get_within}
use Rattle.tuple_edge.specs.declared.event.Worked.{Worked}
use Rattle.tuple_edge.specs.declared.item.Item.{Item}
use Rattle.tuple_edge.specs.declared.memory.OutOfMemory.{OutOfMemory}
use Rattle.ack_buffer.specs.Buffer as buffer
use Rattle.merge_order.specs.MergeView.{item_of, least}
use Rattle.flux_consumer.specs.ConsumerView.{report_of}
use Rattle.flux_producer.specs.Due.{Waits, due_of}
use Rattle.flux_producer.specs.ProducerView.{buffer_at}
use Rattle.flux_producer.specs.declared.due.Due.{Due}
use Rattle.plan_reader.specs.Nodes.{parts_of, sources_of}
use Rattle.plan_reader.specs.PlanView.{PlanView}
use Rattle.plan_reader.specs.declared.stage.Stage.{Stage}
use Rattle.pair_machine.specs.Counts.{flow_of}
use Rattle.pair_machine.specs.Numbers.{in_edge, out_edge}
use Rattle.ingress_egress.proofs.EgressPlan.{report_there}
use Rattle.partition_step.specs.Answering.{targets_of}
use Rattle.partition_step.proofs.Places as places
use Rattle.trio_machine.specs.Flow.{trio_flow}
use Rattle.trio_machine.specs.Links.{HasNode, IsCarried}
use Rattle.trio_machine.specs.Messages.{Tuple}
use Rattle.trio_machine.specs.Numbers.{control_at, group_size}
use Rattle.trio_machine.specs.declared.body.TrioBody.{TrioBody}
use Rattle.trio_machine.specs.declared.node.TrioNode.{TrioNode}
use Rattle.trio_machine.specs.declared.node.TrioNode.TheVariants as node
use Rattle.trio_nodes.specs.Contents.{GoOverLinks, appended}
use Rattle.trio_nodes.specs.Replica.{IsOfPlan}
use Rattle.trio_nodes.specs.ReplicaView.{IsRunning, IsRunningIf, MergesOrSends, Works, copies_of, down_sent, node_of, partition_of, receiver_of, reporting, sending, tuples_of}
use Rattle.trio_nodes.specs.declared.role.TrioRole.{TrioRole}
use Rattle.trio_nodes.specs.declared.running.TrioRunning.{TrioRunning}
use Rattle.trio_nodes.proofs.EgressSteps.{sent_linked}
use Rattle.trio_nodes.proofs.IngressSteps.{due_waits}
use Rattle.trio_nodes.proofs.ReplicaSteps.{none_past}

module _ (plan : PlanView) (role : TrioRole) (here : IsOfPlan plan role) (copy : role.copy < group_size) where
  node_there : HasNode (trio_flow plan []) (node_of role)
  unfolding flow_of
  node_there = (record { first = here.place.first; last = here.place.last; part = subst (λ n. role.part < parts_of plan n) (let z : role.stage ≡ role.stage + 1 - 1 = omega arith in z) here.place.part }, copy)

  pub down_linked : GoOverLinks plan (node_of role) (down_sent role)
  down_linked = (record { sender = node_there; receiver = node_there.0; carries = (refl, refl) }, tt)

  module _ (r : TrioRunning) (runs : IsRunning role r) where
    reports_linked : (o : Option (ℕ × ℕ)) → report_of r.consumer ≡ o → GoOverLinks plan (node_of role) (reporting role r o).sent
    unfolding flow_of
    reports_linked None found = tt
    reports_linked (Some report) found =
        let first = here.place.first in
        let there : report.0 < sources_of plan role.stage = subst (λ n. report.0 < n) (runs.sources ∙ here.sources) (report_there r.consumer (length r.consumer.merge.marks) report found) in
        (record { sender = node_there; receiver = node_there.0; carries = ((refl, refl), (omega arith, refl, there)) }, tt)

    receiver_linked : (d : Due) → Waits r.producer d.to d.copy → (next : Option Stage) → role.task.next ≡ next → IsCarried (trio_flow plan []) (node_of role) (receiver_of role next d) (Tuple (out_edge (partition_of role) d.to) d.number)
    unfolding flow_of
    receiver_linked d waits None e =
        let past = none_past plan.stages role.stage (here.place.next ∙ e) in
        let within = here.place.last in
        let only : d.to < 1 = subst (λ n. d.to < n) (runs.targets ∙ ap targets_of e) waits.edge in
        record { sender = node_there; receiver = tt; carries = ((here.place.first, refl, refl), (omega arith, omega arith)) }
    receiver_linked d waits (Some next) e =
        let within = slice_get_within plan.stages role.stage next (here.place.next ∙ e) in
        let to : d.to < targets_of role.task.next = subst (λ n. d.to < n) runs.targets waits.edge in
        let there : d.to < parts_of plan (role.stage + 1) = subst (λ n. d.to < n) (sym (places.targets_are plan (partition_of role) role.task here.place)) to in
        let below : d.copy < group_size = subst (λ n. d.copy < n) (runs.copies ∙ ap copies_of e) waits.copy in
        let same : role.stage + 1 ≡ role.stage + 1 + 1 - 1 = omega arith in
        record {
          sender = node_there;
          receiver = (record { first = omega arith; last = omega arith; part = subst (λ n. d.to < parts_of plan n) same there }, below);
          carries = ((here.place.first, refl, refl), (refl, refl));
        }

    sends_linked : (o : Option Due) → due_of r.producer ≡ o → GoOverLinks plan (node_of role) (sending role r o).sent
    sends_linked None found = reports_linked (report_of r.consumer) refl
    sends_linked (Some d) found = go (buffer.item_at (buffer_at r.producer d.to) d.number)
      where
        go : (o : Option Item) → GoOverLinks plan (node_of role) (tuples_of role d o)
        go None = tt
        go (Some i) = (receiver_linked d (due_waits r.producer d found) role.task.next refl, tt)

    works_linked : (o : Option Item) (after : TrioRunning) (sent : List (TrioNode × TrioBody)) (did : Worked) → MergesOrSends role r o after sent did → GoOverLinks plan (node_of role) sent
    works_linked None after sent did works = subst (GoOverLinks plan (node_of role)) (sym works.1) (sends_linked (due_of r.producer) refl)
    works_linked (Some i) after sent did works = subst (GoOverLinks plan (node_of role)) (sym works.1) tt

  any_linked : (r after : Option TrioRunning) (sent : List (TrioNode × TrioBody)) (did : Worked) → IsRunningIf role r → Works role r after sent did → GoOverLinks plan (node_of role) sent
  any_linked (Some r) (Some after) sent did runs works = works_linked r runs (item_of (least r.consumer.merge.waiting)) after sent did works
  any_linked (Some r) None sent did runs works = absurd works
  any_linked None after sent did runs works = subst (GoOverLinks plan (node_of role)) (sym works.1) tt

  -- what a call of work appended
  pub work_linked : (result : Result Worked OutOfMemory) (r new : Option TrioRunning) (before after : List (TrioNode × TrioBody)) (Same : Type 0) → IsRunningIf role r → IfOk result (Works role r new (appended before after))
      → OnErr result (Same × (after ≡ before)) → GoOverLinks plan (node_of role) (appended before after)
  work_linked (Ok did) r new before after Same runs works same = any_linked r new (appended before after) did runs works
  work_linked (Err e) r new before after Same runs works same = none_sent before after same.1
    where
      none_sent : (before after : List (TrioNode × TrioBody)) → after ≡ before → GoOverLinks plan (node_of role) (appended before after)
      none_sent before after e = sent_linked plan (node_of role) before after [] (e ∙ sym (append-nil before)) tt
