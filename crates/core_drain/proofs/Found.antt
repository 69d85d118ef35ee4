-- What code finds of a core's nodes is what the machine's drain asks of their numbers.
use Rattle.std.proofs.Common.{◌≡◌, ◌&&◌, ◌↔◌, ℕ, Bool, true, false, List, Option, None, Some, refl, sym, ap, ◌∙◌, subst}
use Rattle.std.specs.Option.{option_map}
use Rattle.tuple_edge.specs.Input.{Input}
use Rattle.tuple_edge.specs.declared.node.NodeId.{NodeId}
use Rattle.tuple_edge.specs.declared.node.NodeId.TheVariants as node
use Rattle.tuple_edge.specs.declared.node.Which.{Which}
use Rattle.merge_order.specs.MergeView.{all_wait}
use Rattle.flux_consumer.specs.ConsumerView.{ConsumerView}
use Rattle.plan_reader.specs.Nodes.{has_node, has_pair}
use Rattle.plan_reader.specs.PlanView.{PlanView}
use Rattle.pair_control.specs.ControllerView.{ControllerView, numbers_of}
use Rattle.pair_machine.specs.Boundary.{egress_partition}
use Rattle.pair_machine.specs.Controllers.{counts}
use Rattle.pair_machine.specs.Counts.{flow_of}
use Rattle.pair_machine.specs.Drain.{MergeIsReady, ReplicaIsReady, is_running, is_serving, partition}
use Rattle.pair_machine.specs.Links.{HasNode}
use Rattle.pair_machine.specs.Machine.{State, controller_in, egress_in, replica_in}
use Rattle.pair_machine.specs.Numbers.{Gathering, Gone, Partition, Replica, Running}
use Rattle.pair_machine.specs.Pairs.{side_of}
use Rattle.pair_machine.specs.Replicas.{inc_of}
use Rattle.pair_machine.proofs.PlanNodes.{nodes_named}
use Rattle.node_edges.proofs.Consumers.{consumers_follow}
use Rattle.ingress_egress.specs.EgressStands as egress
use Rattle.ingress_egress.specs.EgressView.{EgressView}
use Rattle.replica_node.specs.Phases.{inc_in, mode_in, running_in}
use Rattle.replica_node.specs.ReplicaView.{ReplicaView}
use Rattle.replica_node.specs.StandsFor.{PhaseStands}
use Rattle.replica_node.specs.declared.phase.Phase.{Phase}
use Rattle.replica_node.specs.declared.phase.Phase.TheVariants as phase
use Rattle.flux_core.specs.Acts.{merges_at}
use Rattle.plan_nodes.specs.declared.state.NodeState.TheVariants as state
use Rattle.flux_core.specs.CoreView.{CoreView, flow_in, inputs_of, replica_contents, station}
use Rattle.flux_core.specs.Stands.{StandsFor}
use Rattle.flux_core.proofs.Contents.{given_stands}
use Rattle.core_drain.specs.Modes.{runs}

-- ---- what a replica's phase says

abbrev pub ready_in : Option ConsumerView → Bool
ready_in None = false
ready_in (Some c) = all_wait c.merge.waiting

module _ (plan : PlanView) (inputs : List Input) (p : Partition) where
  phase_running : (h : Phase) (x : Replica) → PhaseStands plan inputs p h x → (is_running x ≡ runs (mode_in h)) × (inc_of x ≡ inc_in h)
  phase_running (phase.Running r) (Running x) s = (refl, sym s.inc)
  phase_running (phase.Gathering g) (Gathering x) s = (refl, sym s.inc)
  phase_running (phase.Gone i) (Gone j) s = (refl, sym s)
  phase_running (phase.Running r) (Gathering x) s = absurd s
  phase_running (phase.Running r) (Gone j) s = absurd s
  phase_running (phase.Gathering g) (Running x) s = absurd s
  phase_running (phase.Gathering g) (Gone j) s = absurd s
  phase_running (phase.Gone i) (Running x) s = absurd s
  phase_running (phase.Gone i) (Gathering x) s = absurd s

  phase_ready : (h : Phase) (x : Replica) → PhaseStands plan inputs p h x → (ready_in (option_map (λ r. r.consumer) (running_in h)) ≡ true) ↔ ReplicaIsReady (flow_of plan inputs) p x
  phase_ready (phase.Running r) (Running x) s = let same = (consumers_follow plan inputs p).ready x.consumer r.consumer s.consumer in (λ e. sym same ∙ e, λ e. same ∙ e)
  phase_ready (phase.Gathering g) (Gathering x) s = (λ e. (let z : ⊥ = cc e in absurd z), λ e. absurd e)
  phase_ready (phase.Gone i) (Gone j) s = (λ e. (let z : ⊥ = cc e in absurd z), λ e. absurd e)
  phase_ready (phase.Running r) (Gathering x) s = absurd s
  phase_ready (phase.Running r) (Gone j) s = absurd s
  phase_ready (phase.Gathering g) (Running x) s = absurd s
  phase_ready (phase.Gathering g) (Gone j) s = absurd s
  phase_ready (phase.Gone i) (Running x) s = absurd s
  phase_ready (phase.Gone i) (Gathering x) s = absurd s

module _ (core : CoreView) (s : State) (stands : StandsFor core s) (stage part : ℕ) (pair : has_pair core.plan stage part ≡ true) where
  abbrev here : Partition
  here = partition stage part

  module _ (w : Which) (r : ReplicaView) (is : Some (state.Replica (replica_contents r)) ≡ (station core (node.Replica stage part w)).content) where
    has_replica : HasNode (flow_in core) (node.Replica stage part w)
    has_replica = (nodes_named core.plan (inputs_of core) (node.Replica stage part w)).there pair

    replica_stands : PhaseStands core.plan (inputs_of core) here r.phase (replica_in (s.nodes (node.Replica stage part w)))
    replica_stands =
        let z = given_stands core s stands (node.Replica stage part w) has_replica (state.Replica r) is in
        let named = ap (merges_at core.plan (inputs_of core)) z.0 in
        subst (λ p. PhaseStands core.plan (inputs_of core) p r.phase (replica_in (s.nodes (node.Replica stage part w)))) named z.1.phase_stands

    pub serves_so : (c : ControllerView) → Some (state.Control c) ≡ (station core (node.Control stage part)).content → is_serving (side_of s here w) ≡ (runs (mode_in r.phase) && counts ((numbers_of c).watched w) (inc_in r.phase))
    serves_so c control_is =
        let has : HasNode (flow_in core) (node.Control stage part) = (nodes_named core.plan (inputs_of core) (node.Control stage part)).there pair in
        let z = given_stands core s stands (node.Control stage part) has (state.Control c) control_is in
        let watched = ap (λ n. (controller_in n).watched w) z.1.numbers in
        let y = phase_running core.plan (inputs_of core) here r.phase (replica_in (s.nodes (node.Replica stage part w))) replica_stands in
        λ i. y.0 i && counts (watched i) (y.1 i)

    pub merges_so : (o : Option ConsumerView) → o ≡ option_map (λ r. r.consumer) (running_in r.phase) → (ready_in o ≡ true) ↔ MergeIsReady (flow_in core) (node.Replica stage part w) (s.nodes (node.Replica stage part w))
    merges_so o same = subst (λ k. (ready_in k ≡ true) ↔ MergeIsReady (flow_in core) (node.Replica stage part w) (s.nodes (node.Replica stage part w))) (sym same)
        (phase_ready core.plan (inputs_of core) here r.phase (replica_in (s.nodes (node.Replica stage part w))) replica_stands)

module _ (core : CoreView) (s : State) (stands : StandsFor core s) (e : EgressView) (is : Some (state.Egress e) ≡ (station core node.Egress).content) where
  pub egress_stands : egress.StandsFor core.plan (inputs_of core) e (s.nodes node.Egress)
  egress_stands = (given_stands core s stands node.Egress (tt, tt) (state.Egress e) is).1

  pub egress_merges_so : (all_wait e.consumer.merge.waiting ≡ true) ↔ MergeIsReady (flow_in core) node.Egress (s.nodes node.Egress)
  egress_merges_so =
      let f = flow_in core in
      let same = (consumers_follow core.plan (inputs_of core) (egress_partition f)).ready (egress_in (s.nodes node.Egress)) e.consumer egress_stands.consumer in
      (λ h. sym same ∙ h, λ h. same ∙ h)

-- ---- in the words of code

pub serves_found : (core : CoreView) (s : State) → StandsFor core s → (stage part : ℕ) → has_pair core.plan stage part ≡ true → (w : Which) (r : ReplicaView) → Some (state.Replica (replica_contents r)) ≡ (station core (node.Replica stage part w)).content
    → (c : ControllerView) → Some (state.Control c) ≡ (station core (node.Control stage part)).content → (running counted : Bool) (inc : ℕ) → running ≡ runs (mode_in r.phase) → inc ≡ inc_in r.phase
    → counted ≡ counts ((numbers_of c).watched w) inc → (running && counted) ≡ is_serving (side_of s (partition stage part) w)
serves_found core s stands stage part pair w r is c control_is running counted inc runs_is inc_is counts_is =
    (λ i. runs_is i && (counts_is ∙ ap (counts ((numbers_of c).watched w)) inc_is) i) ∙ sym (serves_so core s stands stage part pair w r is c control_is)

pub merges_found : (core : CoreView) (s : State) → StandsFor core s → (n : NodeId) (stage part : ℕ) (w : Which) → n ≡ node.Replica stage part w → has_node core.plan n ≡ true → (r : ReplicaView)
    → Some (state.Replica (replica_contents r)) ≡ (station core (node.Replica stage part w)).content → (o : Option ConsumerView) → o ≡ option_map (λ r. r.consumer) (running_in r.phase) → (result : Bool) → result ≡ ready_in o
    → (result ≡ true) ↔ MergeIsReady (flow_in core) n (s.nodes n)
merges_found core s stands n stage part w at named r is o same result ready =
    let z = merges_so core s stands stage part (subst (λ k. has_node core.plan k ≡ true) at named) w r is o same in
    subst (λ k. (result ≡ true) ↔ MergeIsReady (flow_in core) k (s.nodes k)) (sym at) (λ e. z.0 (sym ready ∙ e), λ m. ready ∙ z.1 m)

pub egress_merges_found : (core : CoreView) (s : State) → StandsFor core s → (n : NodeId) → n ≡ node.Egress → (e : EgressView) → Some (state.Egress e) ≡ (station core node.Egress).content → (c : ConsumerView) → c ≡ e.consumer
    → (result : Bool) → result ≡ all_wait c.merge.waiting → (result ≡ true) ↔ MergeIsReady (flow_in core) n (s.nodes n)
egress_merges_found core s stands n at e is c same result ready =
    let z = egress_merges_so core s stands e is in
    let wait = ready ∙ ap (λ (k : ConsumerView). all_wait k.merge.waiting) same in
    subst (λ k. (result ≡ true) ↔ MergeIsReady (flow_in core) k (s.nodes k)) (sym at) (λ h. z.0 (sym wait ∙ h), λ m. wait ∙ z.1 m)
