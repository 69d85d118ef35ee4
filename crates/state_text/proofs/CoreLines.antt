-- The lines of a core's nodes and links are those of whatever state the core stands for.
use Rattle.std.proofs.Common.{◌≡◌, ◌∙◌, ◌+◌, ℕ, Bool, true, false, IsTrue, List, [], ◌∷◌, ◌++◌, Some, length, refl, sym, ap, subst}
use Rattle.std.specs.Prelude.{◌↔◌, All}
use Rattle.std.proofs.lemmas.List.Elements.{All-head, All-tail}
use Rattle.std.specs.List.{flat_map}
use Rattle.tuple_edge.specs.Input.{Input}
use Rattle.tuple_edge.specs.declared.node.NodeId.{NodeId}
use Rattle.tuple_edge.specs.declared.node.NodeId.TheVariants as node
use Rattle.tuple_edge.specs.declared.node.Which.{Which}
use Rattle.text_words.specs.Lines.{Word}
use Rattle.plan_reader.specs.Nodes.{has_node, has_pair, sources_of, stage_of_node}
use Rattle.plan_reader.specs.PlanView.{IsPlan, PlanView}
use Rattle.pair_control.specs.ControllerView.{ControllerView, numbers_of}
use Rattle.pair_machine.specs.Boundary.{egress_partition}
use Rattle.pair_machine.specs.Contents as contents
use Rattle.pair_machine.specs.Contents.{BodyStands}
use Rattle.pair_machine.specs.CountLaws.{IsOfStage}
use Rattle.pair_machine.specs.Counts.{flow_of}
use Rattle.pair_machine.specs.Drain.{partition}
use Rattle.pair_machine.specs.Lengths.{NodeBound}
use Rattle.pair_machine.specs.Links.{HasNode, link}
use Rattle.pair_machine.specs.Machine.{State, controller_in, egress_in, ingress_in, replica_in}
use Rattle.pair_machine.specs.Numbers.{Node}
use Rattle.pair_machine.proofs.PlanNodes.{nodes_named}
use Rattle.ingress_egress.specs.EgressStands as egress
use Rattle.ingress_egress.specs.EgressView.{EgressView}
use Rattle.ingress_egress.specs.IngressView.{IngressView}
use Rattle.replica_node.specs.IsReplica.{IsMoving}
use Rattle.replica_node.specs.Phases.{running_in}
use Rattle.replica_node.specs.ReplicaView.{ReplicaView, partition_of}
use Rattle.replica_node.specs.StandsFor.{PhaseStands}
use Rattle.replica_node.specs.declared.phase.Running as running
use Rattle.plan_nodes.specs.declared.state.NodeState.TheVariants as state
use Rattle.flux_core.specs.CoreView.{CoreView, Log, flow_in, ingress_contents, inputs_of, replica_contents, station}
use Rattle.flux_core.specs.Sent.{bodies_to}
use Rattle.flux_core.specs.Stands.{ContentStands, IsCore, IsKnown, StandsFor}
use Rattle.flux_core.proofs.Contents.{given_stands}
use Rattle.run_journal.specs.Text.{node_name}
use Rattle.state_text.specs.Counted.{AreCounted, count_in, links_shown, packets_to}
use Rattle.std.specs.BTreeMap.{BTreeMap}
use Rattle.state_text.specs.Shown.{HasHeld, egress_shown, ingress_shown, replica_shown}
use Rattle.plan_nodes.specs.NodeOrder.{nodes_in}
use Rattle.state_text.specs.StateText.{controller_text, egress_text, ingress_text, replica_text, sent_by_text, sent_line}
use Rattle.state_text.proofs.Below.{each_same}
use Rattle.state_text.proofs.Counting.{pairwise_length}
use Rattle.state_text.proofs.NodeLines.{egress_same, held_edges, ingress_same, phase_same}

-- ---- what is known of a core

pub record Known (core : CoreView) : Type 0 where
  pub state : State
  pub stands : StandsFor core state
  pub bound : (n : NodeId) → NodeBound (flow_in core) n (state.nodes n)

known_of : (core : CoreView) (whole : Bool) → IsKnown whole core → Known core
known_of core true h = record { state = h.state; stands = h.stands; bound = h.sound.bound.nodes }
known_of core false h = record { state = h.state; stands = h.stands; bound = h.drainable.within }

known : (core : CoreView) → IsCore core → Known core
known core is = known_of core core.whole is.known

-- ---- a pair

module _ (core : CoreView) (is : IsCore core) (stage part : ℕ) (named : has_pair core.plan stage part ≡ true) where
  has : (w : Which) → HasNode (flow_in core) (node.Replica stage part w)
  has w = (nodes_named core.plan (inputs_of core) (node.Replica stage part w)).there named

  has_control : HasNode (flow_in core) (node.Control stage part)
  has_control = (nodes_named core.plan (inputs_of core) (node.Control stage part)).there named

  there : IsOfStage (flow_in core) (partition stage part)
  there = record { first = has_control.0.0; last = has_control.0.1; part = has_control.1 }

  phase_stands : (w : Which) (v : ReplicaView) → Some (state.Replica (replica_contents v)) ≡ (station core (node.Replica stage part w)).content → (s : State) → StandsFor core s
      → PhaseStands core.plan (inputs_of core) (partition stage part) v.phase (replica_in (s.nodes (node.Replica stage part w)))
  phase_stands w v same s stands =
      let n : NodeId = node.Replica stage part w in
      let h = given_stands core s stands n (has w) (state.Replica v) same in
      let own : partition_of v.role ≡ partition stage part = ap contents.partition_of h.0 in
      subst (λ p. PhaseStands core.plan (inputs_of core) p v.phase (replica_in (s.nodes n))) own h.1.phase_stands

  pub replica_lines : (w : Which) (v : ReplicaView) (name : Word) → Some (state.Replica (replica_contents v)) ≡ (station core (node.Replica stage part w)).content
      → ((r : running.Running) → running_in v.phase ≡ Some r → IsMoving r.mover r.state.old) → (s : State) → StandsFor core s
      → replica_shown name v ≡ replica_text (flow_in core) name (partition stage part) (replica_in (s.nodes (node.Replica stage part w)))
  replica_lines w v name same moving s stands =
      let k = known core is in
      let n : NodeId = node.Replica stage part w in
      phase_same core.plan (inputs_of core) (partition stage part) name is.plan there v.phase (replica_in (k.state.nodes n)) (replica_in (s.nodes n)) moving
      (phase_stands w v same k.state k.stands) (k.bound n) (phase_stands w v same s stands)

  pub replica_edges : (w : Which) (v : ReplicaView) (edges : ℕ) → Some (state.Replica (replica_contents v)) ≡ (station core (node.Replica stage part w)).content → edges ≡ sources_of core.plan stage → HasHeld edges v.phase
  replica_edges w v edges same e =
      let k = known core is in
      held_edges core.plan (inputs_of core) (partition stage part) (node_name (node.Replica stage part w)) is.plan there v.phase (replica_in (k.state.nodes (node.Replica stage part w))) edges
      (phase_stands w v same k.state k.stands) e

  controller_stands : (c : ControllerView) → Some (state.Control c) ≡ (station core (node.Control stage part)).content → (s : State) → StandsFor core s
      → ContentStands core.plan (inputs_of core) (node.Control stage part) (Some (state.Control c)) (s.nodes (node.Control stage part))
  controller_stands c same s stands = given_stands core s stands (node.Control stage part) has_control (state.Control c) same

  controller_sources : (c : ControllerView) → Some (state.Control c) ≡ (station core (node.Control stage part)).content → length c.acked ≡ (flow_in core).sources stage
  controller_sources c same =
      let k = known core is in
      let h = controller_stands c same k.state k.stands in
      h.1.edges ∙ ap (flow_in core).sources (ap (stage_of_node core.plan) h.0)

  pub controller_edges : (c : ControllerView) (edges : ℕ) → Some (state.Control c) ≡ (station core (node.Control stage part)).content → edges ≡ sources_of core.plan stage → edges ≡ length c.acked
  unfolding flow_of
  controller_edges c edges same e = e ∙ sym (controller_sources c same)

  pub controller_lines : (c : ControllerView) (name : Word) (edges : ℕ) → Some (state.Control c) ≡ (station core (node.Control stage part)).content → edges ≡ length c.acked → (s : State) → StandsFor core s
      → controller_text name edges (numbers_of c) ≡ controller_text name ((flow_in core).sources stage) (controller_in (s.nodes (node.Control stage part)))
  controller_lines c name edges same e s stands =
      let many : edges ≡ (flow_in core).sources stage = e ∙ controller_sources c same in
      let numbers : numbers_of c ≡ controller_in (s.nodes (node.Control stage part)) = sym (ap controller_in (controller_stands c same s stands).1.numbers) in
      (λ j. controller_text name (many j) (numbers j))

-- ---- ingress and egress

pub ingress_lines : (core : CoreView) (i : IngressView) → Some (state.Ingress (ingress_contents i)) ≡ (station core node.Ingress).content → (s : State) → StandsFor core s
    → ingress_shown i ≡ ingress_text (flow_in core) (ingress_in (s.nodes node.Ingress))
ingress_lines core i same s stands = ingress_same core.plan (inputs_of core) i (s.nodes node.Ingress) (given_stands core s stands node.Ingress (tt, tt) (state.Ingress i) same).1

pub egress_lines : (core : CoreView) → IsCore core → (e : EgressView) (done : Bool) → Some (state.Egress e) ≡ (station core node.Egress).content → done ≡ e.done
    → ((plan : PlanView) (inputs : List Input) (n : Node) → IsPlan plan → egress.StandsFor plan inputs e n → IsTrue done ↔ ((egress_in n).count ≡ (flow_of plan inputs).total (egress_partition (flow_of plan inputs))))
    → (s : State) → StandsFor core s → egress_shown e ≡ egress_text (flow_in core) (egress_in (s.nodes node.Egress))
egress_lines core is e done same read all s stands =
    let h = given_stands core s stands node.Egress (tt, tt) (state.Egress e) same in
    let whole = all core.plan (inputs_of core) (s.nodes node.Egress) is.plan h.1 in
    egress_same core.plan (inputs_of core) e (s.nodes node.Egress) h.1
    (subst (λ b. IsTrue b ↔ ((egress_in (s.nodes node.Egress)).count ≡ (flow_in core).total (egress_partition (flow_in core)))) read whole)

-- ---- links

pub counted_lines : (core : CoreView) (from : NodeId) (counts : BTreeMap NodeId ℕ) (packets : Log) (nodes : List NodeId) → packets ≡ (station core from).sent → AreCounted counts packets
    → flat_map (λ to. sent_line (link from to) (count_in counts to)) nodes ≡ links_shown core nodes from
counted_lines core from counts packets nodes same counted =
    each_same nodes (λ to. sent_line (link from to) (count_in counts to)) (λ to. sent_line (link from to) (packets_to to (station core from).sent))
    (λ to. ap (sent_line (link from to)) (counted to ∙ ap (packets_to to) same))

sent_same : (core : CoreView) (s : State) → StandsFor core s → (nodes : List NodeId) (from : NodeId) → has_node core.plan from ≡ true
    → links_shown core nodes from ≡ flat_map (λ to. sent_line (link from to) (length (s.sent (link from to)))) nodes
sent_same core s stands nodes from named =
    let has = (nodes_named core.plan (inputs_of core) from).there named in
    each_same nodes (λ to. sent_line (link from to) (packets_to to (station core from).sent)) (λ to. sent_line (link from to) (length (s.sent (link from to))))
    (λ to. ap (sent_line (link from to)) (pairwise_length (BodyStands core.plan (inputs_of core) (link from to)) (bodies_to to (station core from).sent) (s.sent (link from to)) ((stands from has).sent to)))

all_same : (core : CoreView) (s : State) → StandsFor core s → (nodes senders : List NodeId) → All (λ n. has_node core.plan n ≡ true) senders
    → flat_map (links_shown core nodes) senders ≡ flat_map (λ from. flat_map (λ to. sent_line (link from to) (length (s.sent (link from to)))) nodes) senders
all_same core s stands nodes [] named = refl
all_same core s stands nodes (from ∷ senders) named =
    let P : NodeId → Type 0 = λ n. has_node core.plan n ≡ true in
    (λ j. sent_same core s stands nodes from (All-head P from senders named) j ++ all_same core s stands nodes senders (All-tail P from senders named) j)

pub link_lines : (core : CoreView) (s : State) → StandsFor core s → (nodes : List NodeId) → nodes ≡ nodes_in (flow_in core) → All (λ n. has_node core.plan n ≡ true) nodes
    → flat_map (links_shown core nodes) nodes ≡ flat_map (sent_by_text (flow_in core) s) (nodes_in (flow_in core))
link_lines core s stands nodes all there =
    all_same core s stands nodes nodes there
    ∙ ap (λ ns. flat_map (λ from. flat_map (λ to. sent_line (link from to) (length (s.sent (link from to)))) ns) ns) all
