-- A node stands for the same numbers whatever room its edges have.
use Rattle.std.proofs.Common.{◌≡◌, ◌∙◌, ℕ, zero, suc, List, [], ◌∷◌, Some, length, refl, sym, ap, subst, Bool}
use lib.ListN.{length-map}
use Rattle.std.specs.Prelude.{map, slice_index_or}
use Rattle.tuple_edge.specs.Input.{Input}
use Rattle.tuple_edge.specs.declared.item.Item.{Item}
use Rattle.tuple_edge.specs.declared.node.EdgeId.{EdgeId}
use Rattle.flux_producer.specs.OutEdge.{OutEdgeView, unused}
use Rattle.flux_producer.specs.ProducerView.{ProducerView, contents_of, edge_at, without_room}
use Rattle.plan_reader.specs.PlanView.{PlanView}
use Rattle.pair_machine.specs.Flow.{Flow}
use Rattle.pair_machine.specs.Numbers.{Node, Partition, Producer}
use Rattle.pair_machine.specs.Numbers as numbers
use Rattle.pair_machine.specs.Machine.{replica_in}
use Rattle.node_edges.specs.InEdges.{ConsumerStands}
use Rattle.node_edges.specs.OutEdges.{EdgeStands, ProducerStands}
use Rattle.ingress_egress.specs.IngressStands as ingress
use Rattle.ingress_egress.specs.IngressView.{IngressView, contents_in as ingress_contents, producer_at}
use Rattle.replica_node.specs.ReplicaView.{ReplicaView, partition_of}
use Rattle.replica_node.specs.Rules.{contents_in, contents_in_phase, contents_in_running}
use Rattle.replica_node.specs.StandsFor as replica
use Rattle.replica_node.specs.declared.phase.Phase.{Phase}
use Rattle.replica_node.specs.declared.phase.Phase.TheVariants as phase
use Rattle.replica_node.specs.declared.phase.Running.{Running}

edge_stays : (items : List Item) (made acked : ℕ) (next : ℕ → ℕ) (e z : OutEdgeView) → without_room z ≡ without_room e → EdgeStands items made acked next e → EdgeStands items made acked next z
edge_stays items made acked next e z same s = record {
  low = ap (λ (x : OutEdgeView). x.buffer.low) same ∙ s.low;
  produced = ap (λ (x : OutEdgeView). x.buffer.produced) same ∙ s.produced;
  kept = ap (λ (x : OutEdgeView). x.buffer.items) same ∙ s.kept;
  cursors = ap (λ (x : OutEdgeView). x.cursors) same ∙ s.cursors;
}

same_at : (zs es : List OutEdgeView) → map without_room zs ≡ map without_room es → (t : ℕ) → without_room (slice_index_or zs t unused) ≡ without_room (slice_index_or es t unused)
same_at [] [] e t = refl
same_at [] (y ∷ es) e t = let z : [] ≡ without_room y ∷ map without_room es = e in cc
same_at (x ∷ zs) [] e t = let z : without_room x ∷ map without_room zs ≡ [] = e in cc
same_at (x ∷ zs) (y ∷ es) e zero = let z : without_room x ≡ without_room y = cc e in z
same_at (x ∷ zs) (y ∷ es) e (suc t) = same_at zs es (let z : map without_room zs ≡ map without_room es = cc e in z) t

producer_stays : (f : Flow) (on : EdgeId → List Item) (p : Partition) (made : ℕ → ℕ) (x : Producer) (y z : ProducerView) → contents_of z ≡ contents_of y → ProducerStands f on p made x y → ProducerStands f on p made x z
producer_stays f on p made x y z same s =
    let edges : map without_room z.edges ≡ map without_room y.edges = ap (λ (v : ProducerView). v.edges) same in
    record {
      stage = ap (λ (v : ProducerView). v.stage) same ∙ s.stage;
      from = ap (λ (v : ProducerView). v.from) same ∙ s.from;
      copies = ap (λ (v : ProducerView). v.copies) same ∙ s.copies;
      targets = sym (length-map z.edges without_room) ∙ (ap length edges ∙ (length-map y.edges without_room ∙ s.targets));
      term = ap (λ (v : ProducerView). v.term) same ∙ s.term;
      leads = ap (λ (v : ProducerView). v.leads) same ∙ s.leads;
      edges = λ t l. edge_stays _ _ _ _ (edge_at y t) (edge_at z t) (same_at z.edges y.edges edges t) (s.edges t l);
    }

-- ---- a replica

running_stays : (plan : PlanView) (inputs : List Input) (p : Partition) (r s : Running) (x : numbers.RunningNumbers) → contents_in_running s ≡ contents_in_running r → replica.RunningStands plan inputs p r x → replica.RunningStands plan inputs p s x
running_stays plan inputs p r s x same h = record {
  inc = ap (λ (v : Running). v.inc) same ∙ h.inc;
  consumer = subst (λ (v : Running). ConsumerStands plan inputs p x.consumer v.consumer) (sym same) h.consumer;
  producer = producer_stays _ _ _ _ _ r.producer s.producer (ap (λ (v : Running). v.producer) same) h.producer;
  entries = ap (λ (v : Running). v.state.entries) same ∙ h.entries;
  served = ap (λ (v : Running). v.served) same ∙ h.served;
  move = subst (λ (v : Running). replica.MoveStands plan inputs p v.mover v.state.old x.move) (sym same) h.move;
}

phase_stays : (plan : PlanView) (inputs : List Input) (p : Partition) (old new : Phase) (x : numbers.Replica) → contents_in_phase new ≡ contents_in_phase old → replica.PhaseStands plan inputs p old x → replica.PhaseStands plan inputs p new x
phase_stays plan inputs p (phase.Running r) (phase.Running s) (numbers.Running x) same h =
    let e : contents_in_running s ≡ contents_in_running r = cc same in running_stays plan inputs p r s x e h
phase_stays plan inputs p (phase.Running r) (phase.Running s) (numbers.Gathering x) same h = absurd h
phase_stays plan inputs p (phase.Running r) (phase.Running s) (numbers.Gone i) same h = absurd h
phase_stays plan inputs p (phase.Gathering g) (phase.Gathering k) x same h = subst (λ v. replica.PhaseStands plan inputs p v x) (sym same) h
phase_stays plan inputs p (phase.Gone i) (phase.Gone j) x same h = subst (λ v. replica.PhaseStands plan inputs p v x) (sym same) h
phase_stays plan inputs p (phase.Running r) (phase.Gathering k) x same h = let z : phase.Gathering k ≡ phase.Running (contents_in_running r) = same in cc
phase_stays plan inputs p (phase.Running r) (phase.Gone j) x same h = let z : phase.Gone j ≡ phase.Running (contents_in_running r) = same in cc
phase_stays plan inputs p (phase.Gathering g) (phase.Running s) x same h = let z : phase.Running (contents_in_running s) ≡ phase.Gathering g = same in cc
phase_stays plan inputs p (phase.Gathering g) (phase.Gone j) x same h = let z : phase.Gone j ≡ phase.Gathering g = same in cc
phase_stays plan inputs p (phase.Gone i) (phase.Running s) x same h = let z : phase.Running (contents_in_running s) ≡ phase.Gone i = same in cc
phase_stays plan inputs p (phase.Gone i) (phase.Gathering k) x same h = let z : phase.Gathering k ≡ phase.Gone i = same in cc

pub replica_stays : (plan : PlanView) (inputs : List Input) (old new : ReplicaView) (x : Node) → contents_in new ≡ contents_in old → replica.StandsFor plan inputs old x → replica.StandsFor plan inputs new x
replica_stays plan inputs old new x same h =
    let role : new.role ≡ old.role = ap (λ (v : ReplicaView). v.role) same in
    record {
      of_plan = subst (replica.IsOfPlan plan) (sym role) h.of_plan;
      phase_stands = subst (λ k. replica.PhaseStands plan inputs (partition_of k) new.phase (replica_in x)) (sym role)
          (phase_stays plan inputs (partition_of old.role) old.phase new.phase (replica_in x) (ap (λ (v : ReplicaView). v.phase) same) h.phase_stands);
    }

-- ---- ingress

producers_at : (d : ProducerView) (zs ys : List ProducerView) → map contents_of zs ≡ map contents_of ys → (q : ℕ) → contents_of (slice_index_or zs q d) ≡ contents_of (slice_index_or ys q d)
producers_at d [] [] e q = refl
producers_at d [] (y ∷ ys) e q = let z : [] ≡ contents_of y ∷ map contents_of ys = e in cc
producers_at d (z ∷ zs) [] e q = let w : contents_of z ∷ map contents_of zs ≡ [] = e in cc
producers_at d (z ∷ zs) (y ∷ ys) e zero = let w : contents_of z ≡ contents_of y = cc e in w
producers_at d (z ∷ zs) (y ∷ ys) e (suc q) = producers_at d zs ys (let w : map contents_of zs ≡ map contents_of ys = cc e in w) q

pub ingress_stays : (plan : PlanView) (inputs : List Input) (old new : IngressView) (x : Node) → ingress_contents new ≡ ingress_contents old → ingress.StandsFor plan inputs old x → ingress.StandsFor plan inputs new x
ingress_stays plan inputs old new x same h =
    let all : map contents_of new.producers ≡ map contents_of old.producers = ap (λ (v : IngressView). v.producers) same in
    record {
      inputs = subst (λ (came : Bool × List Input). ingress.AreCome came.0 came.1 inputs) (ap (λ (v : IngressView). (v.ended, v.inputs)) (sym same)) h.inputs;
      first = h.first ∙ ap (λ (v : IngressView). Some v.first) (sym same);
      mark = ap (λ (v : IngressView). v.mark) same ∙ h.mark;
      makes = ap (λ (v : IngressView). v.makes) same ∙ h.makes;
      sources = sym (length-map new.producers contents_of) ∙ (ap length all ∙ (length-map old.producers contents_of ∙ h.sources));
      producers = λ q l. producer_stays _ _ _ _ _ (producer_at old q) (producer_at new q) (producers_at _ new.producers old.producers all q) (h.producers q l);
    }
