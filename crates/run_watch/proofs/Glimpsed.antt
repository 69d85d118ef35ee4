-- What is seen of a node is what is seen of the numbers that it stands for.
use Rattle.std.proofs.Common.{◌≡◌, ◌∙◌, ◌<◌, ◌+◌, ℕ, zero, suc, Bool, true, false, List, Option, None, Some, length, refl, sym, ap, subst, arith}
use Rattle.tuple_edge.specs.Input.{Input}
use Rattle.tuple_edge.specs.declared.item.Item.{Item}
use Rattle.tuple_edge.specs.declared.node.NodeId.{NodeId}
use Rattle.tuple_edge.specs.declared.node.NodeId.TheVariants as node
use Rattle.tuple_edge.specs.declared.node.Which.{Which}
use Rattle.tuple_edge.specs.declared.packet.Entry.{Entry}
use Rattle.plan_reader.specs.Nodes.{has_pair, sources_of}
use Rattle.plan_reader.specs.PlanView.{PlanView}
use Rattle.pair_control.specs.ControllerView.{ControllerView}
use Rattle.pair_machine.specs.Contents as contents
use Rattle.pair_machine.specs.Counts.{flow_of}
use Rattle.pair_machine.specs.Drain.{partition}
use Rattle.pair_machine.specs.Links.{HasNode}
use Rattle.pair_machine.specs.Machine.{State, controller_in, replica_in}
use Rattle.pair_machine.specs.Numbers.{Gathering, GatheringNumbers, Gone, Move, Partition, Replica, Running}
use Rattle.pair_machine.specs.Replicas.{sum_below}
use Rattle.pair_machine.proofs.PlanNodes.{nodes_named}
use Rattle.state_mover.specs.MoverView.{MoverView}
use Rattle.catch_up.specs.NewcomerView.{NewcomerView, held_of}
use Rattle.replica_node.specs.Phases.{inc_in, mode_in}
use Rattle.replica_node.specs.ReplicaView.{ReplicaView, partition_of}
use Rattle.replica_node.specs.declared.phase.Mode.TheVariants as mode
use Rattle.replica_node.specs.StandsFor.{GatheringStands, MoveStands, PhaseStands}
use Rattle.replica_node.specs.declared.phase.Phase.{Phase}
use Rattle.replica_node.specs.declared.phase.Phase.TheVariants as phase
use Rattle.plan_nodes.specs.declared.state.NodeState.TheVariants as state
use Rattle.flux_core.specs.CoreView.{CoreView, emitted_by, flow_in, ingress_contents, inputs_of, replica_contents, station}
use Rattle.flux_core.specs.Stands.{IsCore, IsKnown, StandsFor}
use Rattle.flux_core.proofs.Contents.{given_stands}
use Rattle.flux_core.proofs.Placed.{emitted_so}
use Rattle.flux_core.proofs.Lists.{length-map-of}
use Rattle.ingress_egress.specs.IngressView.{IngressView}
use Rattle.run_watch.specs.Watching.{emitted_in, made_in}
use Rattle.run_watch.specs.Glimpses.{controller_seen, glimpse_of, mode_of, moving_of, replica_seen}
use Rattle.run_watch.specs.Looks.{HasHeld, control_seen, held_below, mover_seen, phase_seen, runs_as}
use Rattle.run_watch.specs.declared.glimpse.Glimpse.TheVariants as glimpse
use Rattle.run_watch.specs.declared.mode.Mode.TheVariants as shown

-- ---- a replica

sum_same : (n : ℕ) (f g : ℕ → ℕ) → ((q : ℕ) → q < n → f q ≡ g q) → sum_below n f ≡ sum_below n g
sum_same zero f g h = refl
sum_same (suc n) f g h = λ j. sum_same n f g (λ q l. h q (omega (arith, l))) j + h n (omega arith) j

pub held_next : (g : NewcomerView) (n : ℕ) → held_below g (n + 1) ≡ held_below g n + length (held_of g n)
held_next g n = ap (held_below g) {x = n + 1} {y = suc n} (omega arith)

module _ (plan : PlanView) (inputs : List Input) (p : Partition) where
  mover_same : (m : Option MoverView) (old : Option (List Entry)) (x : Option Move) → MoveStands plan inputs p m old x → mover_seen m ≡ moving_of x
  mover_same None old None h = refl
  mover_same None old (Some x) h = absurd h
  mover_same (Some m) old None h = absurd h
  mover_same (Some m) old (Some x) h = λ j. Some (record { target = h.target j; sent = h.sent j })

  held_same : (g : NewcomerView) (x : GatheringNumbers) → GatheringStands plan inputs p g x → held_below g (length g.held) ≡ sum_below (sources_of plan p.stage) (λ q. length (x.held q))
  held_same g x h =
      sum_same (length g.held) (λ q. length (held_of g q)) (λ q. length (x.held q))
      (λ q l. sym (length-map-of (λ (e : ℕ × Item). e.0) (held_of g q)) ∙ ap length (h.held.under q l))
      ∙ ap (λ n. sum_below n (λ q. length (x.held q))) h.held.sources

  pub phase_same : (v : Phase) (r : Replica) → PhaseStands plan inputs p v r → phase_seen v ≡ replica_seen (sources_of plan p.stage) r
  phase_same (phase.Running r) (Running x) h = λ j. glimpse.Running (h.inc j) (h.producer.leads j) (h.producer.term j) (mover_same r.mover r.state.old x.move h.move j)
  phase_same (phase.Running r) (Gathering x) h = absurd h
  phase_same (phase.Running r) (Gone i) h = absurd h
  phase_same (phase.Gathering g) (Running x) h = absurd h
  phase_same (phase.Gathering g) (Gathering x) h = λ j. glimpse.Gathering (h.inc j) (h.count j) (held_same g x h j)
  phase_same (phase.Gathering g) (Gone i) h = absurd h
  phase_same (phase.Gone inc) (Running x) h = absurd h
  phase_same (phase.Gone inc) (Gathering x) h = absurd h
  phase_same (phase.Gone inc) (Gone i) h = ap glimpse.Gone h

  pub held_edges : (v : Phase) (x : Replica) (edges : ℕ) → PhaseStands plan inputs p v x → edges ≡ sources_of plan p.stage → HasHeld edges v
  held_edges (phase.Running r) x edges h e = tt
  held_edges (phase.Gathering g) (Running x) edges h e = absurd h
  held_edges (phase.Gathering g) (Gathering x) edges h e = e ∙ sym h.held.sources
  held_edges (phase.Gathering g) (Gone x) edges h e = absurd h
  held_edges (phase.Gone inc) x edges h e = tt

-- ---- modes

pub running_runs : (v : Phase) → mode.Running ≡ mode_in v → Some (inc_in v) ≡ runs_as (phase_seen v)
running_runs (phase.Running r) e = refl
running_runs (phase.Gathering g) e = absurd (let z : ⊥ = cc e in z)
running_runs (phase.Gone inc) e = absurd (let z : ⊥ = cc e in z)

pub gathering_runs : (v : Phase) → mode.Gathering ≡ mode_in v → None ≡ runs_as (phase_seen v)
gathering_runs (phase.Running r) e = absurd (let z : ⊥ = cc e in z)
gathering_runs (phase.Gathering g) e = refl
gathering_runs (phase.Gone inc) e = absurd (let z : ⊥ = cc e in z)

pub gone_runs : (v : Phase) → mode.Gone ≡ mode_in v → None ≡ runs_as (phase_seen v)
gone_runs (phase.Running r) e = absurd (let z : ⊥ = cc e in z)
gone_runs (phase.Gathering g) e = absurd (let z : ⊥ = cc e in z)
gone_runs (phase.Gone inc) e = refl

pub gathers_seen : (v : Phase) → mode.Gathering ≡ mode_in v → shown.Gathers ≡ mode_of (phase_seen v)
gathers_seen (phase.Running r) e = absurd (let z : ⊥ = cc e in z)
gathers_seen (phase.Gathering g) e = refl
gathers_seen (phase.Gone inc) e = absurd (let z : ⊥ = cc e in z)

pub gone_seen : (v : Phase) → mode.Gone ≡ mode_in v → glimpse.Gone (inc_in v) ≡ phase_seen v
gone_seen (phase.Running r) e = absurd (let z : ⊥ = cc e in z)
gone_seen (phase.Gathering g) e = absurd (let z : ⊥ = cc e in z)
gone_seen (phase.Gone inc) e = refl

-- ---- a pair of a core

record Stood (core : CoreView) : Type 0 where
  pub state : State
  pub stands : StandsFor core state

stood_of : (core : CoreView) (whole : Bool) → IsKnown whole core → Stood core
stood_of core true h = record { state = h.state; stands = h.stands }
stood_of core false h = record { state = h.state; stands = h.stands }

stood : (core : CoreView) → IsCore core → Stood core
stood core is = stood_of core core.whole is.known

module _ (core : CoreView) (stage part : ℕ) (named : has_pair core.plan stage part ≡ true) where
  phase_stands : (w : Which) (v : ReplicaView) → Some (state.Replica (replica_contents v)) ≡ (station core (node.Replica stage part w)).content → (s : State) → StandsFor core s
      → PhaseStands core.plan (inputs_of core) (partition stage part) v.phase (replica_in (s.nodes (node.Replica stage part w)))
  phase_stands w v same s stands =
      let n : NodeId = node.Replica stage part w in
      let has : HasNode (flow_in core) n = (nodes_named core.plan (inputs_of core) n).there named in
      let h = given_stands core s stands n has (state.Replica v) same in
      let own : partition_of v.role ≡ partition stage part = ap contents.partition_of h.0 in
      subst (λ p. PhaseStands core.plan (inputs_of core) p v.phase (replica_in (s.nodes n))) own h.1.phase_stands

  pub replica_glimpsed : (w : Which) (v : ReplicaView) → Some (state.Replica (replica_contents v)) ≡ (station core (node.Replica stage part w)).content → (s : State) → StandsFor core s
      → phase_seen v.phase ≡ glimpse_of (flow_in core) s (node.Replica stage part w)
  unfolding flow_of
  replica_glimpsed w v same s stands =
      phase_same core.plan (inputs_of core) (partition stage part) v.phase (replica_in (s.nodes (node.Replica stage part w))) (phase_stands w v same s stands)

  pub replica_edges : IsCore core → (w : Which) (v : ReplicaView) (edges : ℕ) → Some (state.Replica (replica_contents v)) ≡ (station core (node.Replica stage part w)).content → edges ≡ sources_of core.plan stage → HasHeld edges v.phase
  replica_edges is w v edges same e =
      let k = stood core is in
      held_edges core.plan (inputs_of core) (partition stage part) v.phase (replica_in (k.state.nodes (node.Replica stage part w))) edges (phase_stands w v same k.state k.stands) e

  pub control_glimpsed : (c : ControllerView) → Some (state.Control c) ≡ (station core (node.Control stage part)).content → (s : State) → StandsFor core s
      → control_seen c ≡ glimpse_of (flow_in core) s (node.Control stage part)
  control_glimpsed c same s stands =
      let n : NodeId = node.Control stage part in
      let has : HasNode (flow_in core) n = (nodes_named core.plan (inputs_of core) n).there named in
      let h = given_stands core s stands n has (state.Control c) same in
      ap (λ x. controller_seen (controller_in x)) (sym h.1.numbers)

-- ---- how far a core has come

pub made_so : (core : CoreView) (i : IngressView) → Some (state.Ingress (ingress_contents i)) ≡ (station core node.Ingress).content → (s : State) → StandsFor core s → i.makes ≡ made_in s
made_so core i same s stands = (given_stands core s stands node.Ingress (tt, tt) (state.Ingress i) same).1.makes

pub rows_so : (core : CoreView) (s : State) → StandsFor core s → length (emitted_by core) ≡ emitted_in core.plan (inputs_of core) s
rows_so core s stands = ap length (emitted_so core s stands)
