-- Each event of a replica in code is a step of the machine's replica.
use Rattle.std.proofs.Common.{◌≡◌, ◌<◌, ◌≤◌, ◌+◌, ◌-◌, ◌++◌, ◌∙◌, ℕ, zero, suc, Bool, true, false, List, [], ◌∷◌, Option, None, Some, Result, Ok, Err, length, refl, sym, ap, subst, arith}
use Rattle.std.specs.Prelude.{◌==◌, IfOk, IsSome, OnOk, if◌then◌else◌, is_some, slice_get}
use Rattle.std.proofs.lemmas.Bool.{eq-eqb}
use Rattle.std.proofs.lemmas.Option.{slice_get_within}
use Rattle.tuple_edge.specs.Input.{Input}
use Rattle.tuple_edge.specs.declared.event.Worked.{Worked}
use Rattle.tuple_edge.specs.declared.event.Worked.TheVariants as worked
use Rattle.tuple_edge.specs.declared.item.Item.{Item}
use Rattle.tuple_edge.specs.declared.memory.OutOfMemory.{OutOfMemory}
use Rattle.tuple_edge.specs.declared.node.EdgeId.{EdgeId}
use Rattle.ack_buffer.specs.Buffer as buffer
use Rattle.merge_order.specs.Edges.{item_at}
use Rattle.merge_order.specs.MergeView.{item_of, least}
use Rattle.merge_order.specs.MergeView as merge
use Rattle.flux_consumer.specs.ConsumerView.{over, report_of}
use Rattle.flux_producer.specs.Due.{due_of}
use Rattle.flux_producer.specs.Limits.{max_copies}
use Rattle.flux_producer.specs.ProducerView.{buffer_at}
use Rattle.flux_producer.specs.ProducerView as producer
use Rattle.flux_producer.specs.declared.due.Due.{Due as Sending}
use Rattle.op_spec.specs.declared.spec.OpSpec.{OpSpec}
use Rattle.op_spec.specs.declared.spec.OpSpec.TheVariants as op
use Rattle.stream_ops.specs.Entries.{entries}
use Rattle.plan_reader.specs.Nodes.{parts_of, sources_of}
use Rattle.plan_reader.specs.PlanView.{IsPlan, PlanView}
use Rattle.plan_reader.specs.declared.stage.Stage.{Stage}
use Rattle.pair_machine.specs.Consumers.{is_ready, merged_one, offered, pulled, telling, untold}
use Rattle.pair_machine.specs.CountLaws.{IsMerging, IsOfStage}
use Rattle.pair_machine.specs.Counts.{entries_after, entries_by, flow_of, items_on, made_on}
use Rattle.pair_machine.specs.Drain.{partition}
use Rattle.pair_machine.specs.Machine.{new_consumer, new_producer}
use Rattle.pair_machine.specs.Numbers.{Consumer, Partition, in_edge, out_edge}
use Rattle.pair_machine.specs.Producers.{copies, due}
use Rattle.pair_machine.specs.Producers as producing
use Rattle.pair_machine.proofs.CountLaws.{all_made}
use Rattle.pair_machine.proofs.Tests.{nat_not}
use Rattle.node_edges.specs.InEdges.{ConsumerStands, edge_in}
use Rattle.node_edges.specs.OutEdges.{ProducerStands, any_due_in, due_in}
use Rattle.node_edges.proofs.Consumers as consumers
use Rattle.node_edges.proofs.Producers as producers
use Rattle.partition_step.specs.Answering.{targets_of}
use Rattle.partition_step.specs.Merging.{IsPartition, PartsStand}
use Rattle.partition_step.proofs.Merging as step
use Rattle.partition_step.proofs.Places as places
use Rattle.trio_machine.specs.Flow.{trio_flow}
use Rattle.trio_machine.specs.Lengths.{ReplicaBound}
use Rattle.trio_machine.specs.Machine.{as_replica, first_term, new_node, new_running, replica_in}
use Rattle.trio_machine.specs.Messages.{Act, Dies, Down, Envelope, NothingDue, Refusal, Report, Takes, Tuple, Works, envelope}
use Rattle.trio_machine.specs.Numbers.{Gone, Node, Replica, ReplicaNode, Running, RunningNumbers, control_at, group_size}
use Rattle.trio_machine.specs.Replicas.{replica_does, replica_takes, replica_works, reports, run_works, sends_due, sends_or_reports}
use Rattle.trio_machine.specs.declared.body.TrioBody.{TrioBody}
use Rattle.trio_machine.specs.declared.body.TrioBody.TheVariants as body
use Rattle.trio_machine.specs.declared.node.TrioNode.{TrioNode}
use Rattle.trio_machine.specs.declared.node.TrioNode.TheVariants as node
use Rattle.trio_nodes.specs.Contents.{ArePacketsFor, HasItem, message_of}
use Rattle.trio_nodes.specs.Replica.{IsOfPlan, IsWorked, RunningStands, StandsFor}
use Rattle.trio_nodes.specs.ReplicaView.{IsAdmitted, IsIntoHere, IsRunning, IsRunningIf, MergesOrSends, ReplicaView, copies_of, down_sent, node_of, opening, partition_of, parts_of_run, pulled_by, pulling, reporting, sending, taken_by, taking, tuples_of}
use Rattle.trio_nodes.specs.ReplicaView as code
use Rattle.trio_nodes.specs.Steps.{IsRefused, IsStep, IsTaken}
use Rattle.trio_nodes.specs.declared.role.TrioRole.{TrioRole}
use Rattle.trio_nodes.specs.declared.running.TrioRunning.{TrioRunning}

-- ---- of a plan

-- the operator keeps nothing of nothing
none_kept : (spec : OpSpec) → entries spec [] ≡ []
none_kept (op.Keep column compare limit) = refl
none_kept (op.Total by) = refl
none_kept (op.Last by n) = refl
none_kept (op.Window by width) = refl
none_kept (op.Crossing by limit) = refl
none_kept (op.Join by width n column compare limit) = refl

none_by : (stage : Option Stage) → entries_by stage [] ≡ []
none_by None = refl
none_by (Some stage) = none_kept stage.op

pub none_past : (xs : List Stage) (n : ℕ) → slice_get xs n ≡ None → length xs ≤ n
none_past [] n e = omega arith
none_past (x ∷ xs) zero e = let z : ⊥ = cc e in absurd z
none_past (x ∷ xs) (suc n) e = let h = none_past xs n e in omega arith

-- an offer merges nothing
offered_count : (x : Consumer) (q n : ℕ) → (offered x q n).count ≡ x.count
offered_count x q n = by_test (n == x.marks q + 1)
  where
    by_test : (t : Bool) → (if t then record x { marks = λ j. if j == q then n else x.marks j } else x).count ≡ x.count
    by_test true = refl
    by_test false = refl

first_is : (c : ℕ) → first_term c ≡ (if c == 0 then 1 else 0)
first_is zero = refl
first_is (suc c) = sym (ap (λ b. if b then 1 else 0) (nat_not (suc c) 0 (λ e. let z : ⊥ = omega arith in z)))

-- the edge into a partition is the in-edge of its source
into_is : (role : TrioRole) (e : EdgeId) → IsIntoHere role e → in_edge (partition_of role) e.from ≡ e
into_is role e into =
    let before : role.stage - 1 ≡ e.stage = let next : e.stage + 1 ≡ role.stage = into.0 in omega arith in
    λ i. record { stage = before i; from = e.from; to = sym into.1 i }

module _ (plan : PlanView) (inputs : List Input) (role : TrioRole) (here : IsOfPlan plan role) where
  few : (trio_flow plan inputs).replicas ≤ max_copies
  few = omega arith

  merging : IsMerging (flow_of plan inputs) (partition_of role)
  unfolding flow_of
  merging = record { first = here.place.first; last = let l = here.place.last in omega arith }

  of_stage : IsOfStage (flow_of plan inputs) (partition_of role)
  unfolding flow_of
  of_stage = record { first = here.place.first; last = here.place.last; part = subst (λ n. role.part < parts_of plan n) (let z : role.stage ≡ role.stage + 1 - 1 = omega arith in z) here.place.part }

  many_targets : (trio_flow plan inputs).targets role.stage ≡ targets_of role.task.next
  unfolding flow_of
  many_targets = places.targets_are plan (partition_of role) role.task here.place

  stages_are : (trio_flow plan inputs).stages ≡ length plan.stages
  unfolding flow_of
  stages_are = refl

  -- after the last stage there is one copy of egress, and of each other partition there are three
  many_copies : copies (trio_flow plan inputs) (partition_of role) ≡ copies_of role.task.next
  many_copies = by role.task.next here.place.next
    where
      by : (next : Option Stage) → slice_get plan.stages role.stage ≡ next → copies (trio_flow plan inputs) (partition_of role) ≡ copies_of next
      by None e =
          let most = here.place.last in
          let last : role.stage ≡ (trio_flow plan inputs).stages = let all = stages_are in let least = none_past plan.stages role.stage e in omega arith in
          ap (λ b. if b then 1 else group_size) (eq-eqb role.stage (trio_flow plan inputs).stages last)
      by (Some next) e =
          let all = stages_are in
          let before = slice_get_within plan.stages role.stage next e in
          ap (λ b. if b then 1 else group_size) (nat_not role.stage (trio_flow plan inputs).stages (λ at. let z : ⊥ = omega arith in z))

  -- ---- opening

  producer_opens : IsPlan plan → ProducerStands (trio_flow plan inputs) (items_on plan inputs) (partition_of role) (λ t. made_on plan inputs (out_edge (partition_of role) t) 0)
      (new_producer (first_term role.copy) (role.copy == 0)) (opening role).producer
  unfolding flow_of
  producer_opens is =
      let f = trio_flow plan inputs in
      let p = partition_of role in
      let leads = role.copy == 0 in
      let x = new_producer (first_term role.copy) leads in
      subst (λ made. ProducerStands f (items_on plan inputs) p made x (opening role).producer) (λ i t. sym (((all_made plan inputs is).by_parts p t of_stage).none) i)
      (subst (λ n. ProducerStands f (items_on plan inputs) p (λ t. 0) x (producer.opening role.stage role.part (targets_of role.task.next) n leads)) many_copies
      (subst (λ n. ProducerStands f (items_on plan inputs) p (λ t. 0) x (producer.opening role.stage role.part n (copies f p) leads)) many_targets
      (producers.opens f (items_on plan inputs) p (first_term role.copy) leads (first_is role.copy))))

  pub opens : IsPlan plan → (r : TrioRunning) → r ≡ opening role → StandsFor plan inputs (record { role = role; running = Some r }) (new_node (node_of role))
  opens is r same = record {
    of_plan = here;
    running = subst (λ z. RunningStands plan inputs (partition_of role) (Some z) (Running (new_running role.copy))) (sym same) (record {
      consumer = subst (λ n. ConsumerStands plan inputs (partition_of role) new_consumer (over (merge.opening n))) (sym here.sources) (consumers.begins plan inputs (partition_of role) is merging);
      producer = producer_opens is;
      entries = sym (none_by (slice_get plan.stages (role.stage - 1)));
    });
  }

  -- ---- packets

  offered_stands : (r : TrioRunning) (x : RunningNumbers) (q n : ℕ) (i : Item) → q < role.sources → (n ≡ x.consumer.marks q + 1 → item_at (items_on plan inputs (in_edge (partition_of role) q)) n ≡ Some i)
      → PartsStand (trio_flow plan inputs) plan inputs (partition_of role) x.consumer x.producer (parts_of_run r)
      → PartsStand (trio_flow plan inputs) plan inputs (partition_of role) (offered x.consumer q n) x.producer (parts_of_run (record r { consumer = record r.consumer { merge = merge.after_offer r.consumer.merge q n i } }))
  offered_stands r x q n i inside item s =
      let same = sym (offered_count x.consumer q n) in
      record {
        consumer = consumers.offers plan inputs (partition_of role) x.consumer r.consumer q n i merging (subst (λ k. q < k) here.sources inside) item s.consumer;
        producer = subst (λ c. ProducerStands (trio_flow plan inputs) (items_on plan inputs) (partition_of role) (λ t. made_on plan inputs (out_edge (partition_of role) t) c) x.producer r.producer) same s.producer;
        entries = s.entries ∙ ap (entries_after plan inputs (partition_of role)) same;
      }

  taken_stands : (b : TrioBody) → IsAdmitted role b → HasItem plan inputs b → (r : Option TrioRunning) (x : Replica) → RunningStands plan inputs (partition_of role) r x
      → RunningStands plan inputs (partition_of role) (taking b r) (replica_takes (message_of b) x)
  taken_stands (body.Tuple e n i) ok item (Some r) (Running x) s =
      offered_stands r x e.from n i ok.0.2 (λ next. subst (λ z. item_at (items_on plan inputs z) n ≡ Some i) (sym (into_is role e ok.0)) item) s
  taken_stands (body.Ack e upto) ok item (Some r) (Running x) s = record {
    consumer = s.consumer;
    producer = producers.acks (trio_flow plan inputs) (items_on plan inputs) (partition_of role) (λ t. made_on plan inputs (out_edge (partition_of role) t) x.consumer.count) x.producer r.producer e.to upto
        (subst (λ n. e.to < n) (sym many_targets) ok.0.2) s.producer;
    entries = s.entries;
  }
  taken_stands (body.Lead term) ok item (Some r) (Running x) s = record {
    consumer = s.consumer;
    producer = producers.leads (trio_flow plan inputs) (items_on plan inputs) (partition_of role) (λ t. made_on plan inputs (out_edge (partition_of role) t) x.consumer.count) x.producer r.producer term s.producer;
    entries = s.entries;
  }
  taken_stands (body.Report e upto) ok item (Some r) (Running x) s = absurd ok
  taken_stands body.Down ok item (Some r) (Running x) s = absurd ok
  taken_stands b ok item None Gone s = tt
  taken_stands b ok item None (Running x) s = absurd s
  taken_stands b ok item (Some r) Gone s = absurd s

pub take_step : (plan : PlanView) (inputs : List Input) (v : ReplicaView) (from : TrioNode) (b : TrioBody) → IsAdmitted v.role b
    → IsTaken plan inputs (node_of v.role) (StandsFor plan inputs v) (StandsFor plan inputs (record v { running = taking b v.running })) from b []
take_step plan inputs v from b ok m st x s asks = (
  (ReplicaNode (replica_takes m (replica_in x)), []),
  refl,
  record {
    of_plan = s.of_plan;
    running = subst (λ z. RunningStands plan inputs (partition_of v.role) (taking b v.running) (replica_takes z (replica_in x))) st.numbers (taken_stands plan inputs v.role s.of_plan b ok st.item v.running (replica_in x) s.running);
  },
  record { messages = refl; items = tt },
)

-- ---- acts that send

-- what an act comes to: the machine's is a step, and what the replica has, and what it sends, stands for its outcome
abbrev Comes : PlanView → List Input → Partition → Result (Replica × List Envelope) Refusal → Option TrioRunning → List (TrioNode × TrioBody) → Type 0
Comes plan inputs p does after sent = (d : Replica × List Envelope) × (does ≡ Ok d) × RunningStands plan inputs p after d.0 × ArePacketsFor plan inputs sent d.1

step_by : (plan : PlanView) (inputs : List Input) (v : ReplicaView) (after : Option TrioRunning) (sent : List (TrioNode × TrioBody)) (a : Act)
    → (IsOfPlan plan v.role → (x : Replica) → RunningStands plan inputs (partition_of v.role) v.running x → ReplicaBound (trio_flow plan inputs) (partition_of v.role) x
    → Comes plan inputs (partition_of v.role) (replica_does (trio_flow plan inputs) (partition_of v.role) a x) after sent)
    → IsStep plan inputs (node_of v.role) (StandsFor plan inputs v) (StandsFor plan inputs (record v { running = after })) a sent
step_by plan inputs v after sent a comes x s asks =
    let c = comes s.of_plan (replica_in x) s.running asks.0 in
    ((ReplicaNode c.0.0, c.0.1), ap as_replica c.1, record { of_plan = s.of_plan; running = c.2 }, c.3)

pub kill_step : (plan : PlanView) (inputs : List Input) (v : ReplicaView) → IsSome v.running
    → IsStep plan inputs (node_of v.role) (StandsFor plan inputs v) (StandsFor plan inputs (record v { running = None })) Dies (down_sent v.role)
kill_step plan inputs v runs = step_by plan inputs v None (down_sent v.role) Dies (λ here x s bound. dies v.running x runs s)
  where
    dies : (r : Option TrioRunning) (x : Replica) → IsSome r → RunningStands plan inputs (partition_of v.role) r x
        → Comes plan inputs (partition_of v.role) (replica_does (trio_flow plan inputs) (partition_of v.role) Dies x) None (down_sent v.role)
    dies (Some r) (Running x) some s = ((Gone, envelope (control_at (partition_of v.role)) Down ∷ []), refl, tt, record { messages = refl; items = (tt, tt) })
    dies (Some r) Gone some s = absurd s
    dies None x some s = let z : ⊥ = cc some in absurd z

-- ---- pulls

-- in each plan where it is the edge's next item, the machine's replica takes it
pub pull_stands : (plan : PlanView) (inputs : List Input) (v : ReplicaView) (q : ℕ) (i : Item) → q < v.role.sources → (x : RunningNumbers) (n : Node) → StandsFor plan inputs v n → replica_in n ≡ Running x
    → item_at (items_on plan inputs (in_edge (partition_of v.role) q)) (x.consumer.marks q + 1) ≡ Some i
    → StandsFor plan inputs (record v { running = pulling q i v.running }) (ReplicaNode (Running (record x { consumer = pulled x.consumer q })))
pull_stands plan inputs v q i there x n s runs item = record {
  of_plan = s.of_plan;
  running = pulls v.running (subst (RunningStands plan inputs (partition_of v.role) v.running) runs s.running);
}
  where
    pulls : (r : Option TrioRunning) → RunningStands plan inputs (partition_of v.role) r (Running x)
        → RunningStands plan inputs (partition_of v.role) (pulling q i r) (Running (record x { consumer = pulled x.consumer q }))
    pulls None stands = absurd stands
    pulls (Some r) stands = record {
      consumer = consumers.pulls plan inputs (partition_of v.role) x.consumer r.consumer q i (merging plan inputs v.role s.of_plan) (subst (λ k. q < k) s.of_plan.sources there) item stands.consumer;
      producer = stands.producer;
      entries = stands.entries;
    }

-- ---- work

module _ (plan : PlanView) (inputs : List Input) (is : IsPlan plan) (role : TrioRole) (here : IsOfPlan plan role) where
  -- what a piece of work comes to where the numbers are within the lengths; where there was none, nothing was due
  abbrev pub WorksSo : Replica → Option TrioRunning → List (TrioNode × TrioBody) → Worked → Type 0
  WorksSo x after sent worked.Did = ReplicaBound (trio_flow plan inputs) (partition_of role) x → Comes plan inputs (partition_of role) (replica_works (trio_flow plan inputs) (partition_of role) x) after sent
  WorksSo x after sent worked.Idle = replica_works (trio_flow plan inputs) (partition_of role) x ≡ Err NothingDue

  -- to whom an item that is due goes
  receiver_is : (d : Sending) → (if role.stage == (trio_flow plan inputs).stages then node.Egress else node.Replica (role.stage + 1) d.to d.copy) ≡ code.receiver_of role role.task.next d
  receiver_is d = by role.task.next here.place.next
    where
      by : (next : Option Stage) → slice_get plan.stages role.stage ≡ next
          → (if role.stage == (trio_flow plan inputs).stages then node.Egress else node.Replica (role.stage + 1) d.to d.copy) ≡ code.receiver_of role next d
      by None e =
          let most = here.place.last in
          let last : role.stage ≡ (trio_flow plan inputs).stages = let all = stages_are plan inputs role here in let least = none_past plan.stages role.stage e in omega arith in
          ap (λ b. if b then node.Egress else node.Replica (role.stage + 1) d.to d.copy) (eq-eqb role.stage (trio_flow plan inputs).stages last)
      by (Some next) e =
          let all = stages_are plan inputs role here in
          let before = slice_get_within plan.stages role.stage next e in
          ap (λ b. if b then node.Egress else node.Replica (role.stage + 1) d.to d.copy) (nat_not role.stage (trio_flow plan inputs).stages (λ at. let z : ⊥ = omega arith in z))

  module _ (r : TrioRunning) (x : RunningNumbers) (s : PartsStand (trio_flow plan inputs) plan inputs (partition_of role) x.consumer x.producer (parts_of_run r)) where
    ready_as : (o : Option Item) → item_of (least r.consumer.merge.waiting) ≡ o → is_ready (trio_flow plan inputs) (partition_of role) x.consumer ≡ is_some o
    ready_as o found = sym (consumers.gives plan inputs (partition_of role) x.consumer r.consumer is (merging plan inputs role here) s.consumer) ∙ ap is_some found

    -- where no item is ready it sends, or reports
    undue_as : (o : Option Sending) → item_of (least r.consumer.merge.waiting) ≡ None → due_of r.producer ≡ o
        → replica_works (trio_flow plan inputs) (partition_of role) (Running x) ≡ sends_or_reports (trio_flow plan inputs) (partition_of role) x (any_due_in o)
    unfolding flow_of
    undue_as o unready found =
        (λ i. if ready_as None unready i then Ok (Running (record x { consumer = merged_one x.consumer }), [])
        else sends_or_reports (trio_flow plan inputs) (partition_of role) x (due (trio_flow plan inputs) (partition_of role) (λ t. made_on plan inputs (out_edge (partition_of role) t) x.consumer.count) x.producer))
        ∙ ap (sends_or_reports (trio_flow plan inputs) (partition_of role) x)
        (sym (producers.due_is (trio_flow plan inputs) (items_on plan inputs) (partition_of role) (few plan inputs role here) (λ t. made_on plan inputs (out_edge (partition_of role) t) x.consumer.count) x.producer r.producer s.producer) ∙ ap any_due_in found)

    reports_so : item_of (least r.consumer.merge.waiting) ≡ None → due_of r.producer ≡ None → (o : Option (ℕ × ℕ)) → report_of r.consumer ≡ o
        → WorksSo (Running x) (Some (reporting role r o).after) (reporting role r o).sent (reporting role r o).worked
    reports_so unready undue None found =
        undue_as None unready undue ∙ ap (reports (trio_flow plan inputs) (partition_of role) x) (sym (consumers.reports plan inputs (partition_of role) x.consumer r.consumer s.consumer) ∙ ap edge_in found)
    reports_so unready undue (Some report) found = λ bound.
        let t = consumers.tells plan inputs (partition_of role) x.consumer r.consumer report found s.consumer in (
          (Running (record x { consumer = telling x.consumer report.0 }), envelope (control_at (partition_of role)) (Report (in_edge (partition_of role) report.0) (x.consumer.marks report.0)) ∷ []),
          undue_as None unready undue ∙ ap (reports (trio_flow plan inputs) (partition_of role) x) t.first,
          record { consumer = t.told; producer = s.producer; entries = s.entries },
          record { messages = λ j. envelope (control_at (partition_of role)) (Report (in_edge (partition_of role) report.0) (t.mark j)) ∷ []; items = (tt, tt) },
        )

    tuple_stands : (d : Sending) (i : Item) → item_at (items_on plan inputs (out_edge (partition_of role) d.to)) d.number ≡ Some i
        → ArePacketsFor plan inputs (tuples_of role d (Some i)) (sends_due (trio_flow plan inputs) (partition_of role) (due_in d))
    tuple_stands d i at = record {
      messages = ap (λ to. envelope to (Tuple (out_edge (partition_of role) d.to) d.number) ∷ []) (sym (receiver_is d));
      items = (at, tt);
    }

    sends_so : item_of (least r.consumer.merge.waiting) ≡ None → (o : Option Sending) → due_of r.producer ≡ o
        → WorksSo (Running x) (Some (sending role r o).after) (sending role r o).sent (sending role r o).worked
    unfolding flow_of
    sends_so unready None found = reports_so unready found (report_of r.consumer) refl
    sends_so unready (Some d) found = λ bound.
        let f = trio_flow plan inputs in
        let p = partition_of role in
        let h = producers.sends f (items_on plan inputs) p (few plan inputs role here) (λ t. made_on plan inputs (out_edge p t) x.consumer.count) x.producer r.producer d found s.producer in
        let held = h.held (bound.1.above d.to d.copy) (((all_made plan inputs is).by_parts p d.to (of_stage plan inputs role here)).most x.consumer.count) in (
          (Running (record x { producer = producing.sent_on x.producer (due_in d) }), sends_due f p (due_in d)),
          undue_as (Some d) unready found,
          record { consumer = s.consumer; producer = h.sent; entries = s.entries },
          subst (λ z. ArePacketsFor plan inputs (tuples_of role d z) (sends_due f p (due_in d))) (sym held.1) (tuple_stands d held.0 (h.item held.0 held.1)),
        )

    works_so : IsRunning role r → (o : Option Item) → item_of (least r.consumer.merge.waiting) ≡ o → (after : TrioRunning) (sent : List (TrioNode × TrioBody)) (did : Worked) → MergesOrSends role r o after sent did
        → WorksSo (Running x) (Some after) sent did
    works_so running None unready after sent did works =
        subst (λ (z : TrioRunning × List (TrioNode × TrioBody) × Worked). WorksSo (Running x) (Some z.0) z.1 z.2) (λ i. (sym works.0 i, sym works.1 i, sym works.2 i)) (sends_so unready (due_of r.producer) refl)
    works_so running (Some i) found after sent did works =
        let gives : WorksSo (Running x) (Some after) [] worked.Did = λ bound. (
          (Running (record x { consumer = merged_one x.consumer }), []),
          (λ j. if ready_as (Some i) found j then Ok (Running (record x { consumer = merged_one x.consumer }), [])
              else sends_or_reports (trio_flow plan inputs) (partition_of role) x (due (trio_flow plan inputs) (partition_of role) (λ t. (trio_flow plan inputs).made (out_edge (partition_of role) t) x.consumer.count) x.producer)),
          step.merge_stands plan inputs (partition_of role) role.task is here.place (trio_flow plan inputs) (parts_of_run r) (parts_of_run after) x.consumer x.producer i found running.op works.0 s,
          record { messages = refl; items = tt },
        ) in
        subst (λ (z : List (TrioNode × TrioBody) × Worked). WorksSo (Running x) (Some after) z.0 z.1) (λ j. (sym works.1 j, sym works.2 j)) gives

  -- any replica's
  pub work_comes : (r after : Option TrioRunning) (sent : List (TrioNode × TrioBody)) (did : Worked) → IsRunningIf role r → code.Works role r after sent did
      → (x : Replica) → RunningStands plan inputs (partition_of role) r x → WorksSo x after sent did
  work_comes (Some r) (Some after) sent did running works (Running x) s = works_so r x s running (item_of (least r.consumer.merge.waiting)) refl after sent did works
  work_comes None after sent did running works Gone s = subst (WorksSo Gone after sent) (sym works.2) refl
  work_comes (Some r) None sent did running works x s = absurd works
  work_comes (Some r) (Some after) sent did running works Gone s = absurd s
  work_comes None after sent did running works (Running x) s = absurd s

worked_so : (plan : PlanView) (inputs : List Input) → IsPlan plan → (v : ReplicaView) (after : Option TrioRunning) (sent : List (TrioNode × TrioBody)) (did : Worked) → IsRunningIf v.role v.running
    → code.Works v.role v.running after sent did → IsWorked plan inputs v (record v { running = after }) sent did
worked_so plan inputs is v after sent worked.Did running works =
    step_by plan inputs v after sent Works (λ here x s bound. work_comes plan inputs is v.role here v.running after sent worked.Did running works x s bound)
worked_so plan inputs is v after sent worked.Idle running works = λ x s. ap as_replica (work_comes plan inputs is v.role s.of_plan v.running after sent worked.Idle running works (replica_in x) s.running)

-- what was done is a step of the machine
pub work_done : (result : Result Worked OutOfMemory) (old new : ReplicaView) (sent : List (TrioNode × TrioBody)) → new.role ≡ old.role → IsRunningIf old.role old.running → IfOk result (code.Works old.role old.running new.running sent)
    → IfOk result (λ did. (plan : PlanView) (inputs : List Input) → IsPlan plan → IsWorked plan inputs old new sent did)
work_done (Ok did) old new sent role running works = λ plan inputs is.
    subst (λ z. IsWorked plan inputs old z sent did) (λ i. record { role = sym role i; running = new.running }) (worked_so plan inputs is old new.running sent did running works)
work_done (Err e) old new sent role running works = tt
