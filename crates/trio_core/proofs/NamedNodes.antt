-- The nodes of a core: each name of the plan has its station, of the kind that the name says, which stands for its part of the state.
use Rattle.std.proofs.Common.{◌≡◌, ◌∙◌, ◌<◌, ℕ, List, Option, None, Some, IsSome, length, slice_index_or, sym, ap, subst, true, unwrap_or}
use Rattle.std.specs.Option.{option_and_then}
use Rattle.tuple_edge.specs.Input.{Input}
use Rattle.ingress_egress.specs.EgressView.{EgressView}
use Rattle.plan_reader.specs.Nodes.{has_pair}
use Rattle.plan_reader.specs.PlanView.{PlanView}
use Rattle.pair_machine.specs.Counts.{flow_of}
use Rattle.pair_machine.proofs.PlanNodes.{nodes_named}
use Rattle.tuple_edge.specs.declared.node.NodeId.TheVariants as pairs
use Rattle.trio_machine.specs.Flow.{trio_flow}
use Rattle.trio_machine.specs.Links.{HasNode}
use Rattle.trio_machine.specs.Machine.{State}
use Rattle.trio_machine.specs.Numbers.{group_size}
use Rattle.trio_machine.specs.declared.node.TrioNode.{TrioNode}
use Rattle.trio_machine.specs.declared.node.TrioNode.TheVariants as node
use Rattle.trio_nodes.specs.ControllerPackets as of_control
use Rattle.trio_nodes.specs.ControllerView.{ControllerView, node_of}
use Rattle.trio_nodes.specs.Egress as of_egress
use Rattle.trio_nodes.specs.Ingress as of_ingress
use Rattle.trio_nodes.specs.IngressView.{IngressView, contents_in}
use Rattle.trio_nodes.specs.Replica as of_replica
use Rattle.trio_nodes.specs.ReplicaView as replica_view
use Rattle.trio_nodes.specs.ReplicaView.{ReplicaView}
use Rattle.trio_core.specs.CoreView.{CoreView, StationView, contents_of_replica, core_of, flow_in, found, inputs_of, name_of, place_of}
use Rattle.trio_core.specs.Ends.{control_in, egress_in, ingress_in, replica_in}
use Rattle.trio_core.specs.Stands.{IsCore, IsThere, MemberStands, StandsFor, StationStands}
use Rattle.trio_core.specs.declared.member.Member.{Member}
use Rattle.trio_core.specs.declared.member.Member.TheVariants as member
use Rattle.trio_core.proofs.Contents.{ingress_from, replica_from}
use Rattle.trio_core.proofs.Known.{is_there}
use Rattle.trio_core.proofs.Lists.{get_at}
use Rattle.trio_core.proofs.Placing.{found_is, stands_at}

-- ---- the station of a name

module _ (plan : PlanView) (xs ys : List StationView) (self : CoreView) (n : TrioNode) (same : core_of plan xs ≡ self) (list : ys ≡ xs) (is : IsCore (core_of plan xs)) (has : HasNode (flow_in self) n) where
  pub some_there : IsSome (found n ys)
  some_there = subst (λ (zs : List StationView). IsSome (found n zs)) (sym list) (is_there (core_of plan xs) is n (subst (λ (k : CoreView). HasNode (flow_in k) n) (sym same) has))

module _ (plan : PlanView) (xs ys : List StationView) (self : CoreView) (n : TrioNode) (same : core_of plan xs ≡ self) (list : ys ≡ xs) (i : ℕ) (place : place_of n ys ≡ Some i) where
  at_place : place_of n xs ≡ Some i
  at_place = subst (λ (zs : List StationView). place_of n zs ≡ Some i) list place

  pub within : i < length xs
  within = (stands_at n xs i at_place).within

  pub station_found : (at : StationView) → at ≡ slice_index_or xs i at → found n self.stations ≡ Some at
  station_found at here = subst (λ (k : CoreView). found n k.stations ≡ Some at) same (found_is n xs i at_place ∙ get_at xs i at within here)

-- ---- of its kind

-- a controller's name in the plan is one of the machine's
pub control_there : (plan : PlanView) (inputs : List Input) (s p : ℕ) → has_pair plan s p ≡ true → HasNode (trio_flow plan inputs) (node.Control s p)
unfolding flow_of
control_there plan inputs s p h = let z = (nodes_named plan inputs (pairs.Control s p)).there h in record { first = z.0.0; last = z.0.1; part = z.1 }

-- and so is a replica's
pub replica_there : (plan : PlanView) (inputs : List Input) (s p c : ℕ) → has_pair plan s p ≡ true → c < group_size → HasNode (trio_flow plan inputs) (node.Replica s p c)
replica_there plan inputs s p c h below = (control_there plan inputs s p h, below)

module _ (core : CoreView) (n : TrioNode) (at : StationView) (here : found n core.stations ≡ Some at) where
  stands_here : (s : State) → StandsFor core s → HasNode (flow_in core) n → StationStands core.plan (inputs_of core) n at s
  stands_here s stands has = subst (λ (o : Option StationView). IsThere core.plan (inputs_of core) n o s) here (stands n has)

  pub named_here : IsCore core → HasNode (flow_in core) n → name_of at.member ≡ n
  named_here is has = (stands_here is.state is.stands has).name

  pub through : {X : Type 0} (kind : Member → Option X) (v : X) → Some v ≡ kind at.member → option_and_then (λ (k : StationView). kind k.member) (found n core.stations) ≡ Some v
  through kind v e = ap (option_and_then (λ (k : StationView). kind k.member)) here ∙ sym e

no_ingress : (m : Member) → name_of m ≡ node.Ingress → None ≡ ingress_in m → ⊥
no_ingress (member.Ingress i) name h = cc h
no_ingress (member.Replica r) name h = cc name
no_ingress (member.Control c) name h = cc name
no_ingress (member.Egress e) name h = cc name

no_control : (s p : ℕ) (m : Member) → name_of m ≡ node.Control s p → None ≡ control_in m → ⊥
no_control s p (member.Ingress i) name h = cc name
no_control s p (member.Replica r) name h = cc name
no_control s p (member.Control c) name h = cc h
no_control s p (member.Egress e) name h = cc name

no_replica : (s p c : ℕ) (m : Member) → name_of m ≡ node.Replica s p c → None ≡ replica_in m → ⊥
no_replica s p c (member.Ingress i) name h = cc name
no_replica s p c (member.Replica r) name h = cc h
no_replica s p c (member.Control d) name h = cc name
no_replica s p c (member.Egress e) name h = cc name

no_egress : (m : Member) → name_of m ≡ node.Egress → None ≡ egress_in m → ⊥
no_egress (member.Ingress i) name h = cc name
no_egress (member.Replica r) name h = cc name
no_egress (member.Control c) name h = cc name
no_egress (member.Egress e) name h = cc h

module _ (core : CoreView) (at : StationView) where
  pub is_ingress : found node.Ingress core.stations ≡ Some at → IsCore core → None ≡ ingress_in at.member → ⊥
  is_ingress here is h = no_ingress at.member (named_here core node.Ingress at here is tt) h

  pub is_control : (s p : ℕ) → found (node.Control s p) core.stations ≡ Some at → IsCore core → has_pair core.plan s p ≡ true → None ≡ control_in at.member → ⊥
  is_control s p here is has h = no_control s p at.member (named_here core (node.Control s p) at here is (control_there core.plan (inputs_of core) s p has)) h

  pub is_replica : (s p c : ℕ) → found (node.Replica s p c) core.stations ≡ Some at → IsCore core → has_pair core.plan s p ≡ true → c < group_size → None ≡ replica_in at.member → ⊥
  is_replica s p c here is has below h = no_replica s p c at.member (named_here core (node.Replica s p c) at here is (replica_there core.plan (inputs_of core) s p c has below)) h

  pub is_egress : found node.Egress core.stations ≡ Some at → IsCore core → None ≡ egress_in at.member → ⊥
  is_egress here is h = no_egress at.member (named_here core node.Egress at here is tt) h

-- ---- and what it stands for

control_named : (c : ControllerView) (n : TrioNode) (m : Member) → name_of m ≡ n → Some c ≡ control_in m → node_of c ≡ n
control_named c n (member.Ingress i) name e = let z : ⊥ = cc e in absurd z
control_named c n (member.Replica r) name e = let z : ⊥ = cc e in absurd z
control_named c n (member.Control d) name e = let same : c ≡ d = ap (λ o. unwrap_or o c) e in ap node_of same ∙ name
control_named c n (member.Egress g) name e = let z : ⊥ = cc e in absurd z

replica_named : (r : ReplicaView) (n : TrioNode) (m : Member) → name_of m ≡ n → Some (contents_of_replica r) ≡ replica_in m → replica_view.node_of r.role ≡ n
replica_named r n (member.Ingress i) name e = let z : ⊥ = cc e in absurd z
replica_named r n (member.Replica k) name e = let same : contents_of_replica r ≡ k = ap (λ o. unwrap_or o k) e in ap (λ (v : ReplicaView). replica_view.node_of v.role) same ∙ name
replica_named r n (member.Control d) name e = let z : ⊥ = cc e in absurd z
replica_named r n (member.Egress g) name e = let z : ⊥ = cc e in absurd z

module _ (plan : PlanView) (inputs : List Input) (s : State) where
  of_the_ingress : (i : IngressView) (m : Member) → MemberStands plan inputs m (s.nodes node.Ingress) → Some (contents_in i) ≡ ingress_in m → of_ingress.StandsFor plan inputs i (s.nodes node.Ingress)
  of_the_ingress i (member.Ingress j) h e =
      let same : contents_in i ≡ j = ap (λ o. unwrap_or o j) e in
      ingress_from plan inputs i (s.nodes node.Ingress) (subst (λ k. of_ingress.StandsFor plan inputs k (s.nodes node.Ingress)) (sym same) h)
  of_the_ingress i (member.Replica r) h e = let z : ⊥ = cc e in absurd z
  of_the_ingress i (member.Control c) h e = let z : ⊥ = cc e in absurd z
  of_the_ingress i (member.Egress g) h e = let z : ⊥ = cc e in absurd z

  of_a_control : (n : TrioNode) (c : ControllerView) (m : Member) → MemberStands plan inputs m (s.nodes n) → Some c ≡ control_in m → of_control.StandsFor (trio_flow plan inputs) c (s.nodes n)
  of_a_control n c (member.Ingress i) h e = let z : ⊥ = cc e in absurd z
  of_a_control n c (member.Replica r) h e = let z : ⊥ = cc e in absurd z
  of_a_control n c (member.Control d) h e =
      let same : c ≡ d = ap (λ o. unwrap_or o d) e in
      subst (λ k. of_control.StandsFor (trio_flow plan inputs) k (s.nodes n)) (sym same) h
  of_a_control n c (member.Egress g) h e = let z : ⊥ = cc e in absurd z

  of_a_replica : (n : TrioNode) (r : ReplicaView) (m : Member) → MemberStands plan inputs m (s.nodes n) → Some (contents_of_replica r) ≡ replica_in m → of_replica.StandsFor plan inputs r (s.nodes n)
  of_a_replica n r (member.Ingress i) h e = let z : ⊥ = cc e in absurd z
  of_a_replica n r (member.Replica k) h e =
      let same : contents_of_replica r ≡ k = ap (λ o. unwrap_or o k) e in
      replica_from plan inputs r (s.nodes n) (subst (λ v. of_replica.StandsFor plan inputs v (s.nodes n)) (sym same) h)
  of_a_replica n r (member.Control c) h e = let z : ⊥ = cc e in absurd z
  of_a_replica n r (member.Egress g) h e = let z : ⊥ = cc e in absurd z

  of_the_egress : (g : EgressView) (m : Member) → MemberStands plan inputs m (s.nodes node.Egress) → Some g ≡ egress_in m → of_egress.StandsFor plan inputs g (s.nodes node.Egress)
  of_the_egress g (member.Ingress i) h e = let z : ⊥ = cc e in absurd z
  of_the_egress g (member.Replica r) h e = let z : ⊥ = cc e in absurd z
  of_the_egress g (member.Control c) h e = let z : ⊥ = cc e in absurd z
  of_the_egress g (member.Egress k) h e =
      let same : g ≡ k = ap (λ o. unwrap_or o k) e in
      subst (λ v. of_egress.StandsFor plan inputs v (s.nodes node.Egress)) (sym same) h

module _ (core : CoreView) (at : StationView) where
  pub ingress_stands : (i : IngressView) → found node.Ingress core.stations ≡ Some at → Some (contents_in i) ≡ ingress_in at.member
      → (s : State) → StandsFor core s → of_ingress.StandsFor core.plan (inputs_of core) i (s.nodes node.Ingress)
  ingress_stands i here e s stands = of_the_ingress core.plan (inputs_of core) s i at.member (stands_here core node.Ingress at here s stands tt).member e

  pub control_is_named : (s p : ℕ) (c : ControllerView) → found (node.Control s p) core.stations ≡ Some at → IsCore core → has_pair core.plan s p ≡ true → Some c ≡ control_in at.member → node_of c ≡ node.Control s p
  control_is_named s p c here is has e = control_named c (node.Control s p) at.member (named_here core (node.Control s p) at here is (control_there core.plan (inputs_of core) s p has)) e

  pub control_stands : (s p : ℕ) (c : ControllerView) → found (node.Control s p) core.stations ≡ Some at → has_pair core.plan s p ≡ true → Some c ≡ control_in at.member
      → (t : State) → StandsFor core t → of_control.StandsFor (flow_in core) c (t.nodes (node.Control s p))
  control_stands s p c here has e t stands =
      of_a_control core.plan (inputs_of core) t (node.Control s p) c at.member (stands_here core (node.Control s p) at here t stands (control_there core.plan (inputs_of core) s p has)).member e

  pub replica_is_named : (s p c : ℕ) (r : ReplicaView) → found (node.Replica s p c) core.stations ≡ Some at → IsCore core → has_pair core.plan s p ≡ true → c < group_size → Some (contents_of_replica r) ≡ replica_in at.member
      → replica_view.node_of r.role ≡ node.Replica s p c
  replica_is_named s p c r here is has below e =
      replica_named r (node.Replica s p c) at.member (named_here core (node.Replica s p c) at here is (replica_there core.plan (inputs_of core) s p c has below)) e

  pub replica_stands : (s p c : ℕ) (r : ReplicaView) → found (node.Replica s p c) core.stations ≡ Some at → has_pair core.plan s p ≡ true → c < group_size → Some (contents_of_replica r) ≡ replica_in at.member
      → (t : State) → StandsFor core t → of_replica.StandsFor core.plan (inputs_of core) r (t.nodes (node.Replica s p c))
  replica_stands s p c r here has below e t stands =
      of_a_replica core.plan (inputs_of core) t (node.Replica s p c) r at.member (stands_here core (node.Replica s p c) at here t stands (replica_there core.plan (inputs_of core) s p c has below)).member e

  pub egress_stands : (g : EgressView) → found node.Egress core.stations ≡ Some at → Some g ≡ egress_in at.member
      → (s : State) → StandsFor core s → of_egress.StandsFor core.plan (inputs_of core) g (s.nodes node.Egress)
  egress_stands g here e s stands = of_the_egress core.plan (inputs_of core) s g at.member (stands_here core node.Egress at here s stands tt).member e
