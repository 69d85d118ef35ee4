-- What comes of a piece of work, from what the calls of the nodes say.
use Rattle.std.proofs.Common.{◌≡◌, ◌∙◌, ◌≤◌, ◌+◌, ◌++◌, ℕ, [], List, Option, None, Some, Result, Ok, Err, length, refl, sym, ap, subst, arith}
use Rattle.std.specs.Prelude.{IfOk, OnErr, OnOk}
use Rattle.std.proofs.lemmas.List.{length-append}
use Rattle.tuple_edge.specs.Input.{Input}
use Rattle.tuple_edge.specs.Outbox.{OutboxView}
use Rattle.tuple_edge.specs.declared.event.Worked.{Worked}
use Rattle.tuple_edge.specs.declared.event.Worked.TheVariants.{Did, Idle}
use Rattle.tuple_edge.specs.declared.item.Item.{Item}
use Rattle.tuple_edge.specs.declared.memory.OutOfMemory.{OutOfMemory}
use Rattle.tuple_edge.specs.declared.node.NodeId.{NodeId}
use Rattle.tuple_edge.specs.declared.node.NodeId.TheVariants as node
use Rattle.tuple_edge.specs.declared.packet.Body.{Body}
use Rattle.merge_order.specs.MergeView.{item_of, least}
use Rattle.flux_consumer.specs.ConsumerView.{report_of}
use Rattle.plan_reader.specs.PlanView.{IsPlan, PlanView}
use Rattle.pair_machine.specs.Receivers.{GoOverLinks, appended}
use Rattle.ingress_egress.specs.EgressStands as egress
use Rattle.ingress_egress.specs.EgressView.{EgressView, IsFrontOf, merging_or_reporting, reporting, working}
use Rattle.ingress_egress.specs.IngressStands as ingress
use Rattle.ingress_egress.specs.IngressView.{IngressView, producer_at, sending_due, sending_first, source_due, working as sending}
use Rattle.flux_producer.specs.Due.{due_of}
use Rattle.flux_producer.specs.declared.due.Due.{Due}
use Rattle.replica_node.specs.Course as course
use Rattle.replica_node.specs.ReplicaView.{ReplicaView, node_of}
use Rattle.replica_node.specs.Rules.{contents_in}
use Rattle.replica_node.specs.Rules as rules
use Rattle.replica_node.specs.StandsFor as replica
use Rattle.node_tasks.specs.Tasks.{DoesStep}
use Rattle.node_tasks.specs.declared.task.Task.TheVariants as task
use Rattle.plan_nodes.specs.States.{HasDone, HasWorkedOnce, StandsFor, acks_unless_merged, id_of}
use Rattle.plan_nodes.specs.declared.state.NodeState.{NodeState}
use Rattle.plan_nodes.specs.declared.state.NodeState.TheVariants as state
use Rattle.plan_nodes.proofs.Acting.{ingress_came, acted, all_appended, all_of_none, all_rows, failed, failed_same, front_rows, idled, none_appended, replica_steps, sent_appended}
use Rattle.plan_nodes.proofs.Room.{replica_stays}

module _ (old new : NodeState) (before after : List (NodeId × Body)) where
  pub idle_work : new ≡ old → after ≡ before → HasWorkedOnce old new (Ok Idle) before after
  idle_work same quiet =
      record {
        done = idled old new task.Work (appended before after) same (none_appended before after quiet);
        packets = all_of_none before after quiet;
        as_many = λ e. absurd (let z : ◌≡◌ {A = Result Worked OutOfMemory} (Ok Idle) (Ok Did) = e in cc);
      }

  failed_work : (e : OutOfMemory) → after ≡ before → (appended before after ≡ [] → HasDone old new task.Work (Err e) (appended before after)) → HasWorkedOnce old new (Err e) before after
  failed_work x quiet fails =
      record {
        done = fails (none_appended before after quiet);
        packets = all_of_none before after quiet;
        as_many = λ e. absurd (let z : ◌≡◌ {A = Result Worked OutOfMemory} (Err x) (Ok Did) = e in cc);
      }

-- ---- a replica

pub replica_has_worked : (old new : ReplicaView) (rise : ℕ) (result : Result Worked OutOfMemory) (before after : OutboxView) → after.packets ≡ before.packets ++ appended before.packets after.packets →
    IfOk result (λ w. w ≡ Did → length after.packets ≡ length before.packets + rules.packets_of_work old.phase) →
    IfOk result (λ w. w ≡ Idle → (new ≡ old) × (after ≡ before)) → OnErr result ((contents_in new ≡ contents_in old) × (after.packets ≡ before.packets)) → length after.packets ≤ length before.packets + 1 →
    ((plan : PlanView) → replica.IsOfPlan plan old.role → GoOverLinks plan (node_of old.role) (appended before.packets after.packets)) → new.role ≡ old.role →
    IfOk result (λ w. rules.IsSure rise w → (plan : PlanView) (inputs : List Input) → IsPlan plan → course.IsWorked plan inputs old new (appended before.packets after.packets) w) →
    HasWorkedOnce (state.Replica old) (state.Replica new) result before.packets after.packets
replica_has_worked old new rise (Ok Did) before after packets many idle err few linked role worked =
    let sent = appended before.packets after.packets in
    let whole : length after.packets ≡ length before.packets + length sent = ap length packets ∙ length-append before.packets sent in
    let same : length after.packets ≡ length before.packets + rules.packets_of_work old.phase = many refl in
    record {
      done = replica_steps old new task.Work sent sent refl refl (λ plan inputs hp ht clock. worked tt plan inputs hp clock) (omega (arith, whole, few)) linked role;
      packets = packets;
      as_many = λ e. omega (arith, whole, same);
    }
replica_has_worked old new rise (Ok Idle) before after packets many idle err few linked role worked =
    let z = idle refl in
    idle_work (state.Replica old) (state.Replica new) before.packets after.packets (ap state.Replica z.0) (ap (λ (o : OutboxView). o.packets) z.1)
replica_has_worked old new rise (Err e) before after packets many idle err few linked role worked =
    failed_work (state.Replica old) (state.Replica new) before.packets after.packets e err.1
    (λ none. failed (state.Replica old) (state.Replica new) task.Work (appended before.packets after.packets) e none (λ plan inputs x h. replica_stays plan inputs old new x err.0 h) (ap state.Replica err.0) (ap node_of role)
    (λ plan h. subst (replica.IsOfPlan plan) (sym role) h) (all_rows []) refl refl)

-- ---- egress

reports_to_both : (e : EgressView) (o : Option (ℕ × ℕ)) → (reporting e o).worked ≡ Did → length (reporting e o).sent ≡ 2
reports_to_both e (Some report) did = refl
reports_to_both e None did = absurd (let z : ◌≡◌ {A = Worked} Idle Did = did in cc)

egress_sends : (e : EgressView) (o : Option Item) → (merging_or_reporting e o).worked ≡ Did → length (merging_or_reporting e o).sent ≡ acks_unless_merged o
egress_sends e (Some i) did = refl
egress_sends e None did = reports_to_both e (report_of e.consumer) did

pub egress_has_worked : (old new : EgressView) (result : Result Worked OutOfMemory) (before after : OutboxView) → IfOk result (λ w. w ≡ (working old).worked) → OnOk result (after.packets ≡ before.packets ++ (working old).sent) →
    IfOk result (λ w. w ≡ Idle → (new ≡ old) × (after ≡ before)) → OnErr result ((new ≡ old) × (after ≡ before)) → length after.packets ≤ length before.packets + 2 →
    ((plan : PlanView) → egress.IsOfPlan plan old → GoOverLinks plan node.Egress (appended before.packets after.packets)) → ((plan : PlanView) → egress.IsOfPlan plan old → egress.IsOfPlan plan new) → IsFrontOf old.emitted new.emitted → new.gone ≡ old.gone →
    IfOk result (λ w. (plan : PlanView) (inputs : List Input) → IsPlan plan → egress.IsWorked plan inputs old new (working old).sent w) → HasWorkedOnce (state.Egress old) (state.Egress new) result before.packets after.packets
egress_has_worked old new (Ok Did) before after did packets idle err few linked of_plan emitted gone worked =
    let sent = appended before.packets after.packets in
    let is : sent ≡ (working old).sent = sent_appended before.packets after.packets (working old).sent packets in
    let all = all_appended before.packets after.packets (working old).sent packets in
    let whole : length after.packets ≡ length before.packets + length sent = ap length all ∙ length-append before.packets sent in
    let step : DoesStep id_of StandsFor task.Work (state.Egress old) (state.Egress new) sent = subst (DoesStep id_of StandsFor task.Work (state.Egress old) (state.Egress new)) (sym is) (λ plan inputs hp ht clock. worked plan inputs hp clock) in
    record {
      done = acted (state.Egress old) (state.Egress new) task.Work sent refl step (omega (arith, whole, few)) linked refl of_plan (front_rows old.emitted new.emitted emitted) gone refl;
      packets = all;
      as_many = λ e. ap length is ∙ egress_sends old (item_of (least old.consumer.merge.waiting)) (sym did);
    }
egress_has_worked old new (Ok Idle) before after did packets idle err few linked of_plan emitted gone worked =
    let z = idle refl in
    idle_work (state.Egress old) (state.Egress new) before.packets after.packets (ap state.Egress z.0) (ap (λ (o : OutboxView). o.packets) z.1)
egress_has_worked old new (Err e) before after did packets idle err few linked of_plan emitted gone worked =
    failed_work (state.Egress old) (state.Egress new) before.packets after.packets e (ap (λ (o : OutboxView). o.packets) err.1)
    (λ none. failed_same (state.Egress old) (state.Egress new) task.Work (appended before.packets after.packets) e (ap state.Egress err.0) none)

-- ---- ingress

due_inputs : (i : IngressView) (q : ℕ) (d : Option Due) → ingress_came (sending_due i q d).after ≡ ingress_came i
due_inputs i q None = refl
due_inputs i q (Some d) = refl

sending_inputs : (i : IngressView) (q : Option ℕ) → ingress_came (sending_first i q).after ≡ ingress_came i
sending_inputs i None = refl
sending_inputs i (Some q) = due_inputs i q (due_of (producer_at i q))

pub ingress_has_worked : (old new : IngressView) (result : Result Worked OutOfMemory) (before after : OutboxView) → OnOk result (new ≡ (sending old).after) → OnOk result (after.packets ≡ before.packets ++ (sending old).sent) →
    IfOk result (λ w. w ≡ Did → length after.packets ≡ length before.packets + 1) →
    IfOk result (λ w. w ≡ Idle → (new ≡ old) × (after ≡ before)) → OnErr result ((new ≡ old) × (after ≡ before)) →
    ((plan : PlanView) → ingress.IsOfPlan plan old → GoOverLinks plan node.Ingress (appended before.packets after.packets)) → ((plan : PlanView) → ingress.IsOfPlan plan old → ingress.IsOfPlan plan new) →
    IfOk result (λ w. (plan : PlanView) (inputs : List Input) → IsPlan plan → ingress.IsWorked plan inputs old new (sending old).sent w) → HasWorkedOnce (state.Ingress old) (state.Ingress new) result before.packets after.packets
ingress_has_worked old new (Ok Did) before after to packets one idle err linked of_plan worked =
    let sent = appended before.packets after.packets in
    let is : sent ≡ (sending old).sent = sent_appended before.packets after.packets (sending old).sent packets in
    let all = all_appended before.packets after.packets (sending old).sent packets in
    let whole : length after.packets ≡ length before.packets + length sent = ap length all ∙ length-append before.packets sent in
    let single : length after.packets ≡ length before.packets + 1 = one refl in
    let step : DoesStep id_of StandsFor task.Work (state.Ingress old) (state.Ingress new) sent = subst (DoesStep id_of StandsFor task.Work (state.Ingress old) (state.Ingress new)) (sym is) (λ plan inputs hp ht clock. worked plan inputs hp clock) in
    record {
      done = acted (state.Ingress old) (state.Ingress new) task.Work sent refl step (omega (arith, whole, single)) linked refl of_plan (all_rows []) refl
          (ap ingress_came to ∙ sending_inputs old (source_due old));
      packets = all;
      as_many = λ e. omega (arith, whole, single);
    }
ingress_has_worked old new (Ok Idle) before after to packets one idle err linked of_plan worked =
    let z = idle refl in
    idle_work (state.Ingress old) (state.Ingress new) before.packets after.packets (ap state.Ingress z.0) (ap (λ (o : OutboxView). o.packets) z.1)
ingress_has_worked old new (Err e) before after to packets one idle err linked of_plan worked =
    failed_work (state.Ingress old) (state.Ingress new) before.packets after.packets e (ap (λ (o : OutboxView). o.packets) err.1)
    (λ none. failed_same (state.Ingress old) (state.Ingress new) task.Work (appended before.packets after.packets) e (ap state.Ingress err.0) none)
