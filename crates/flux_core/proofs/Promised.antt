-- The promises hold of every core.
use Rattle.std.proofs.Common.{◌≡◌, ◌∙◌, ℕ, true, false, Bool, Option, Some, List, unwrap_or, sym, ap, subst, arith}
use Rattle.tuple_edge.specs.Input.{Input}
use Rattle.tuple_edge.specs.declared.node.NodeId.TheVariants as node
use Rattle.tuple_edge.specs.declared.node.Which.{Which}
use Rattle.plan_reader.specs.PlanView.{IsPlan, PlanView}
use Rattle.pair_machine.specs.CountLaws.{IsMerging}
use Rattle.pair_machine.specs.Counts.{entries_after, flow_of}
use Rattle.pair_machine.specs.Links.{HasNode}
use Rattle.pair_machine.specs.Machine.{replica_in}
use Rattle.pair_machine.specs.Numbers.{Gathering, Gone, Partition, Replica as ReplicaNumbers, Running as RunningNumbers}
use Rattle.pair_machine.proofs.CountLaws.{in_their_order}
use Rattle.pair_machine.proofs.MachineLaws.{sound_owes}
use Rattle.replica_node.specs.Phases.{running_in}
use Rattle.replica_node.specs.declared.phase.Running.{Running}
use Rattle.replica_node.specs.ReplicaView.{ReplicaView}
use Rattle.replica_node.specs.StandsFor.{PhaseStands}
use Rattle.replica_node.specs.declared.phase.Phase.{Phase}
use Rattle.replica_node.specs.declared.phase.Phase.TheVariants as phase
use Rattle.flux_core.specs.Acts.{merges_at}
use Rattle.plan_nodes.specs.declared.state.NodeState.{NodeState}
use Rattle.plan_nodes.specs.declared.state.NodeState.TheVariants as state
use Rattle.flux_core.specs.CoreView.{CoreView, inputs_of, station}
use Rattle.flux_core.specs.Promises.{HasMergedInOrder, HoldsWhatIsOwed, MergesInOrder}
use Rattle.flux_core.specs.Stands.{ContentStands, IsCore, IsKnown}
use Rattle.flux_core.proofs.Done.{some_state}

module _ (plan : PlanView) (inputs : List Input) (is : IsPlan plan) where
  merged_running : (p : Partition) → IsMerging (flow_of plan inputs) p → (f : Phase) (x : ReplicaNumbers) (r : Running) → PhaseStands plan inputs p f x → running_in f ≡ Some r → HasMergedInOrder plan inputs p r
  unfolding flow_of
  merged_running p m (phase.Running now) (RunningNumbers x) r h e =
      let same : now ≡ r = ap (λ o. unwrap_or o r) e in
      subst (HasMergedInOrder plan inputs p) same (record {
        entries = h.entries ∙ ap (entries_after plan inputs p) (sym h.consumer.count);
        edges = λ q l. in_their_order plan inputs is p q now.consumer.merge.count m l;
      })
  merged_running p m (phase.Running now) (Gathering g) r h e = absurd h
  merged_running p m (phase.Running now) (Gone i) r h e = absurd h
  merged_running p m (phase.Gathering g) x r h e = let z : ⊥ = cc e in absurd z
  merged_running p m (phase.Gone i) x r h e = let z : ⊥ = cc e in absurd z

  merged_there : (stage part : ℕ) (which : Which) → HasNode (flow_of plan inputs) (node.Replica stage part which) → (c : Option NodeState) (x : _) → ContentStands plan inputs (node.Replica stage part which) c x
      → (v : ReplicaView) (r : Running) → c ≡ Some (state.Replica v) → running_in v.phase ≡ Some r → HasMergedInOrder plan inputs (record { stage = stage; part = part }) r
  merged_there stage part which has c x h v r e running =
      let here : ContentStands plan inputs (node.Replica stage part which) (Some (state.Replica v)) x = subst (λ k. ContentStands plan inputs (node.Replica stage part which) k x) e h in
      let named = ap (merges_at plan inputs) here.0 in
      let first = has.0.0 in let last = has.0.1 in
      merged_running (record { stage = stage; part = part }) (record { first = first; last = omega (arith, last) }) v.phase (replica_in x) r (subst (λ p. PhaseStands plan inputs p v.phase (replica_in x)) named here.1.phase_stands) running

pub merges_in_order : (core : CoreView) → IsCore core → MergesInOrder core
merges_in_order core is stage part which has v r e running =
    let s = some_state core is in
    merged_there core.plan (inputs_of core) is.plan stage part which has (station core (node.Replica stage part which)).content (s.0.nodes (node.Replica stage part which)) (s.1 (node.Replica stage part which) has).content v r e running

owes : (core : CoreView) (whole : Bool) → IsPlan core.plan → IsKnown whole core → HoldsWhatIsOwed core
owes core true plan h = (h.state, h.stands, sound_owes core.plan (inputs_of core) plan h.state h.sound)
owes core false plan h = (h.state, h.stands, h.drainable.owed)

pub holds_what_is_owed : (core : CoreView) → IsCore core → HoldsWhatIsOwed core
holds_what_is_owed core is = owes core core.whole is.plan is.known
