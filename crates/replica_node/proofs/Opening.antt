-- A replica of a plan's partition, as it opens, and as it pulls.
use Rattle.std.proofs.Common.{◌≡◌, ◌<◌, ◌+◌, ◌-◌, ℕ, List, [], Option, None, Some, Result, Ok, Err, refl, sym, subst}
use Rattle.std.specs.Prelude.{if◌then◌else◌, OnOk, slice_get}
use Rattle.tuple_edge.specs.declared.item.Item.{Item}
use Rattle.tuple_edge.specs.declared.memory.OutOfMemory.{OutOfMemory}
use Rattle.tuple_edge.specs.declared.node.Which.{Which}
use Rattle.tuple_edge.specs.declared.node.Which.TheVariants.{A, B}
use Rattle.tuple_edge.specs.Input.{Input}
use Rattle.merge_order.specs.Edges.{item_at}
use Rattle.merge_order.specs.MergeView as merge
use Rattle.flux_consumer.specs.ConsumerView.{over}
use Rattle.flux_producer.specs.ProducerView as producer
use Rattle.op_spec.specs.declared.spec.OpSpec.{OpSpec}
use Rattle.op_spec.specs.declared.spec.OpSpec.TheVariants as op
use Rattle.stream_ops.specs.Entries.{entries}
use Rattle.plan_reader.specs.PlanView.{IsPlan, PlanView}
use Rattle.plan_reader.specs.declared.stage.Stage.{Stage}
use Rattle.pair_machine.specs.Consumers.{pulled}
use Rattle.pair_machine.specs.Counts.{entries_by, flow_of, items_on, made_on}
use Rattle.pair_machine.specs.Machine.{first_term, leads_first, new_consumer, new_node, new_producer, new_running, replica_in}
use Rattle.pair_machine.specs.Numbers.{Node, ReplicaNode, RunningNumbers, in_edge, out_edge}
use Rattle.pair_machine.specs.Numbers as numbers
use Rattle.pair_machine.specs.Producers.{copies}
use Rattle.pair_machine.proofs.CountLaws.{all_made}
use Rattle.node_edges.specs.InEdges.{ConsumerStands}
use Rattle.node_edges.specs.OutEdges.{ProducerStands}
use Rattle.node_edges.proofs.Consumers as consumers
use Rattle.node_edges.proofs.Producers as producers
use Rattle.replica_node.specs.Phases.{item_pulled, opening}
use Rattle.replica_node.specs.ReplicaView.{ReplicaView, node_of, partition_of, targets_of, with_phase}
use Rattle.replica_node.specs.StandsFor.{IsOfPlan, PhaseStands, RunningStands, StandsFor}
use Rattle.replica_node.specs.declared.phase.Phase.{Phase}
use Rattle.replica_node.specs.declared.phase.Phase.TheVariants as phase
use Rattle.replica_node.specs.declared.role.Role.{Role}
use Rattle.replica_node.proofs.Roles.{many_copies, many_targets, merges, of_stage}

-- ---- the opening

none_kept : (spec : OpSpec) → entries spec [] ≡ []
none_kept (op.Keep column compare limit) = refl
none_kept (op.Total by) = refl
none_kept (op.Last by n) = refl
none_kept (op.Window by width) = refl
none_kept (op.Crossing by limit) = refl
none_kept (op.Join by width n column compare limit) = refl

none_by : (stage : Option Stage) → entries_by stage [] ≡ []
none_by None = refl
none_by (Some stage) = none_kept stage.op

first_is : (w : Which) → first_term w ≡ (if leads_first w then 1 else 0)
first_is A = refl
first_is B = refl

module _ (plan : PlanView) (inputs : List Input) (is : IsPlan plan) (role : Role) (here : IsOfPlan plan role) where
  none_made : (t : ℕ) → made_on plan inputs (out_edge (partition_of role) t) 0 ≡ 0
  unfolding flow_of
  none_made t = ((all_made plan inputs is).by_parts (partition_of role) t (of_stage plan inputs role here)).none

  producer_opens : ProducerStands (flow_of plan inputs) (items_on plan inputs) (partition_of role) (λ t. made_on plan inputs (out_edge (partition_of role) t) 0)
      (new_producer (first_term role.which) (leads_first role.which)) (opening role).producer
  producer_opens =
      let f = flow_of plan inputs in
      let p = partition_of role in
      let x = new_producer (first_term role.which) (leads_first role.which) in
      let leads = leads_first role.which in
      let opened = producers.opens f (items_on plan inputs) p (first_term role.which) leads (first_is role.which) in
      subst (λ made. ProducerStands f (items_on plan inputs) p made x (opening role).producer) (λ i t. sym (none_made t) i)
      (subst (λ n. ProducerStands f (items_on plan inputs) p (λ t. 0) x (producer.opening role.stage role.part (targets_of role.next) n leads)) (many_copies plan inputs role here)
      (subst (λ n. ProducerStands f (items_on plan inputs) p (λ t. 0) x (producer.opening role.stage role.part n (copies f p) leads)) (many_targets plan inputs role here) opened))

  consumer_opens : ConsumerStands plan inputs (partition_of role) new_consumer (opening role).consumer
  consumer_opens =
      subst (λ n. ConsumerStands plan inputs (partition_of role) new_consumer (over (merge.opening n))) (sym here.sources)
      (consumers.begins plan inputs (partition_of role) is (merges plan inputs role here))

  running_opens : RunningStands plan inputs (partition_of role) (opening role) (new_running role.which)
  running_opens = record {
    inc = refl;
    consumer = consumer_opens;
    producer = producer_opens;
    entries = sym (none_by (slice_get plan.stages (role.stage - 1)));
    served = refl;
    move = tt;
  }

  pub opens_stand : (v : ReplicaView) → v ≡ record { role = role; phase = phase.Running (opening role) } → StandsFor plan inputs v (new_node (node_of role))
  opens_stand v same = subst (λ z. StandsFor plan inputs z (new_node (node_of role))) (sym same) (record { of_plan = here; phase_stands = running_opens })

-- ---- a pull

-- in each plan where it is the edge's next item, the machine's replica takes it
abbrev pub PullsIn : ReplicaView → ReplicaView → ℕ → Item → Type 0
PullsIn old new q i =
    (plan : PlanView) (inputs : List Input) (x : RunningNumbers) (n : Node) → IsPlan plan → StandsFor plan inputs old n → replica_in n ≡ numbers.Running x
    → item_at (items_on plan inputs (in_edge (partition_of old.role) q)) (x.consumer.marks q + 1) ≡ Some i
    → StandsFor plan inputs new (ReplicaNode (numbers.Running (record x { consumer = pulled x.consumer q })))

module _ (plan : PlanView) (inputs : List Input) (role : Role) (here : IsOfPlan plan role) (q : ℕ) (i : Item) (there : q < role.sources) (x : RunningNumbers)
    (item : item_at (items_on plan inputs (in_edge (partition_of role) q)) (x.consumer.marks q + 1) ≡ Some i) where
  phase_pulls : (own : Phase) → PhaseStands plan inputs (partition_of role) own (numbers.Running x)
      → PhaseStands plan inputs (partition_of role) (item_pulled q i own) (numbers.Running (record x { consumer = pulled x.consumer q }))
  phase_pulls (phase.Running r) s = record {
    inc = s.inc;
    consumer = consumers.pulls plan inputs (partition_of role) x.consumer r.consumer q i (merges plan inputs role here) (subst (λ n. q < n) here.sources there) item s.consumer;
    producer = s.producer;
    entries = s.entries;
    served = s.served;
    move = s.move;
  }
  phase_pulls (phase.Gathering g) s = absurd s
  phase_pulls (phase.Gone inc) s = absurd s

pub pulls_stand : (r : Result (Unit {0}) OutOfMemory) (old : ReplicaView) (after : Phase) (q : ℕ) (i : Item) → q < old.role.sources → OnOk r (after ≡ item_pulled q i old.phase)
    → OnOk r (PullsIn old (with_phase old after) q i)
pulls_stand (Ok u) old after q i there same = λ plan rows x n is s runs item. record {
  of_plan = s.of_plan;
  phase_stands =
      subst (λ z. PhaseStands plan rows (partition_of old.role) z (numbers.Running (record x { consumer = pulled x.consumer q }))) (sym same)
      (phase_pulls plan rows old.role s.of_plan q i there x item old.phase (subst (PhaseStands plan rows (partition_of old.role) old.phase) runs s.phase_stands));
}
pulls_stand (Err e) old after q i there same = tt
