-- A node stands for numbers by what it holds, whatever room its edges have.
use Rattle.std.proofs.Common.{◌≡◌, ◌∙◌, List, Some, refl, sym, ap, subst}
use Rattle.tuple_edge.specs.Input.{Input}
use Rattle.tuple_edge.specs.declared.node.NodeId.{NodeId}
use Rattle.flux_producer.specs.ProducerView.{ProducerView, contents_of as producer_contents, without_room}
use Rattle.ingress_egress.specs.IngressView.{IngressView, contents_in}
use Rattle.pair_machine.specs.Links.{HasNode}
use Rattle.pair_machine.specs.Machine.{State}
use Rattle.pair_machine.specs.Numbers.{Node}
use Rattle.plan_reader.specs.PlanView.{PlanView}
use Rattle.replica_node.specs.ReplicaView.{ReplicaView}
use Rattle.replica_node.specs.Rules as rules
use Rattle.replica_node.specs.declared.phase.Phase.{Phase}
use Rattle.replica_node.specs.declared.phase.Phase.TheVariants as phase
use Rattle.plan_nodes.specs.States.{StandsFor, contents_of, gone_of, has_ended, id_of, inputs_in}
use Rattle.plan_nodes.specs.declared.state.NodeState.{NodeState}
use Rattle.plan_nodes.specs.declared.state.NodeState.TheVariants as state
use Rattle.plan_nodes.proofs.Room.{ingress_stays, replica_stays}
use Rattle.flux_core.specs.CoreView.{CoreView, Log, flow_in, inputs_of, station}
use Rattle.flux_core.specs.Stands.{ContentStands, StandsFor as StandsAt}
use Rattle.flux_core.specs.Acts.{ActsSo, IsRefusedSo}
use Rattle.flux_core.specs.declared.asked.Asked.{Asked}
use Rattle.flux_core.specs.declared.error.ApplyError.{ApplyError}
use Rattle.flux_core.proofs.Lists.{map-twice}

contents_twice : (p : ProducerView) → producer_contents (producer_contents p) ≡ producer_contents p
contents_twice p = ap (λ edges. record p { edges = edges }) (map-twice without_room (λ e. refl) p.edges)

ingress_twice : (i : IngressView) → contents_in (contents_in i) ≡ contents_in i
ingress_twice i = ap (λ producers. record i { producers = producers }) (map-twice producer_contents contents_twice i.producers)

phase_twice : (p : Phase) → rules.contents_in_phase (rules.contents_in_phase p) ≡ rules.contents_in_phase p
phase_twice (phase.Running r) = ap (λ q. phase.Running (record r { producer = q })) (contents_twice r.producer)
phase_twice (phase.Gathering g) = refl
phase_twice (phase.Gone inc) = refl

replica_twice : (v : ReplicaView) → rules.contents_in (rules.contents_in v) ≡ rules.contents_in v
replica_twice v = ap (λ p. record v { phase = p }) (phase_twice v.phase)

-- ---- any node

pub id_contents : (s : NodeState) → id_of (contents_of s) ≡ id_of s
id_contents (state.Ingress i) = refl
id_contents (state.Replica v) = refl
id_contents (state.Control c) = refl
id_contents (state.Egress e) = refl

pub inputs_contents : (s : NodeState) → inputs_in (contents_of s) ≡ inputs_in s
inputs_contents (state.Ingress i) = refl
inputs_contents (state.Replica v) = refl
inputs_contents (state.Control c) = refl
inputs_contents (state.Egress e) = refl

pub ended_contents : (s : NodeState) → has_ended (contents_of s) ≡ has_ended s
ended_contents (state.Ingress i) = refl
ended_contents (state.Replica v) = refl
ended_contents (state.Control c) = refl
ended_contents (state.Egress e) = refl

pub gone_contents : (s : NodeState) → gone_of (contents_of s) ≡ gone_of s
gone_contents (state.Ingress i) = refl
gone_contents (state.Replica v) = refl
gone_contents (state.Control c) = refl
gone_contents (state.Egress e) = refl

module _ (plan : PlanView) (inputs : List Input) where
  pub stands_in : (s : NodeState) (x : Node) → StandsFor plan inputs s x → StandsFor plan inputs (contents_of s) x
  stands_in (state.Ingress i) x h = ingress_stays plan inputs i (contents_in i) x (ingress_twice i) h
  stands_in (state.Replica v) x h = replica_stays plan inputs v (rules.contents_in v) x (replica_twice v) h
  stands_in (state.Control c) x h = h
  stands_in (state.Egress e) x h = h

  pub stands_out : (s : NodeState) (x : Node) → StandsFor plan inputs (contents_of s) x → StandsFor plan inputs s x
  stands_out (state.Ingress i) x h = ingress_stays plan inputs (contents_in i) i x (sym (ingress_twice i)) h
  stands_out (state.Replica v) x h = replica_stays plan inputs (rules.contents_in v) v x (sym (replica_twice v)) h
  stands_out (state.Control c) x h = h
  stands_out (state.Egress e) x h = h

  pub content_in : (n : NodeId) (s : NodeState) (x : Node) → ContentStands plan inputs n (Some s) x → ContentStands plan inputs n (Some (contents_of s)) x
  content_in n s x h = (id_contents s ∙ h.0, stands_in s x h.1)

  pub content_out : (n : NodeId) (s : NodeState) (x : Node) → ContentStands plan inputs n (Some (contents_of s)) x → ContentStands plan inputs n (Some s) x
  content_out n s x h = (sym (id_contents s) ∙ h.0, stands_out s x h.1)

-- what a node did, its room left aside
pub acts_in : (plan : PlanView) (t : Asked) (old new : NodeState) (sent : Log) → ActsSo plan t old new sent → ActsSo plan t (contents_of old) (contents_of new) sent
acts_in plan t (state.Ingress i) new sent h = λ rows p timely x a is s k.
    let z = h rows p timely x a is (stands_out plan rows (state.Ingress i) x s) k in (z.0, z.1, stands_in plan rows new z.0.0 z.2, z.3)
acts_in plan t (state.Replica v) new sent h = λ rows p timely x a is s k.
    let z = h rows p timely x a is (stands_out plan rows (state.Replica v) x s) k in (z.0, z.1, stands_in plan rows new z.0.0 z.2, z.3)
acts_in plan t (state.Control c) new sent h = λ rows p timely x a is s k.
    let z = h rows p timely x a is s k in (z.0, z.1, stands_in plan rows new z.0.0 z.2, z.3)
acts_in plan t (state.Egress e) new sent h = λ rows p timely x a is s k.
    let z = h rows p timely x a is s k in (z.0, z.1, stands_in plan rows new z.0.0 z.2, z.3)

pub refused_in : (plan : PlanView) (t : Asked) (old : NodeState) (e : ApplyError) → IsRefusedSo plan t old e → IsRefusedSo plan t (contents_of old) e
refused_in plan t (state.Ingress i) e h = λ came rows p x a is s. h came rows p x a is (stands_out plan rows (state.Ingress i) x s)
refused_in plan t (state.Replica v) e h = λ came rows p x a is s. h came rows p x a is (stands_out plan rows (state.Replica v) x s)
refused_in plan t (state.Control c) e h = h
refused_in plan t (state.Egress d) e h = h

-- the node that a core gives under a name stands for the numbers of that name, with the room that its edges have
pub given_stands : (core : CoreView) (s : State) → StandsAt core s → (n : NodeId) → HasNode (flow_in core) n → (v : NodeState) → Some (contents_of v) ≡ (station core n).content → ContentStands core.plan (inputs_of core) n (Some v) (s.nodes n)
given_stands core s stands n has v is =
    content_out core.plan (inputs_of core) n v (s.nodes n) (subst (λ o. ContentStands core.plan (inputs_of core) n o (s.nodes n)) (sym is) (stands n has).content)
