-- What a Pull asks of its node is the next item of the edge, which the producer keeps.
use Rattle.std.proofs.Common.{◌≡◌, ◌≢◌, ◌∙◌, ◌⊎◌, inl, inr, ◌≤◌, ◌<◌, ◌+◌, ◌-◌, ◌&&◌, ℕ, zero, suc, Bool, true, false, List, Option, None, Some, Ok, Err, length, unwrap_or, refl, sym, ap, subst, arith, nat_le, nat_lt, leb-true, ltb-true, le-leb, lt-ltb, if◌then◌else◌}
use Rattle.std.specs.Option.{option_map, option_or}
use Rattle.tuple_edge.specs.Input.{Input}
use Rattle.tuple_edge.specs.Node.{part_of}
use Rattle.tuple_edge.specs.declared.event.Event.TheVariants as event
use Rattle.tuple_edge.specs.declared.item.Item.{Item}
use Rattle.tuple_edge.specs.declared.node.EdgeId.{EdgeId}
use Rattle.tuple_edge.specs.declared.node.NodeId.{NodeId}
use Rattle.tuple_edge.specs.declared.node.NodeId.TheVariants as node
use Rattle.tuple_edge.specs.declared.node.Which.{Which}
use Rattle.ack_buffer.specs.Buffer as buffer
use Rattle.flux_consumer.specs.ConsumerView.{ConsumerView}
use Rattle.flux_producer.specs.ProducerView.{ProducerView, buffer_at, edge_at}
use Rattle.ingress_egress.specs.IngressStands as ingress
use Rattle.ingress_egress.specs.IngressView.{IngressView, producer_at}
use Rattle.merge_order.specs.Edges.{item_at}
use Rattle.merge_order.specs.MergeView.{mark_of}
use Rattle.node_edges.specs.OutEdges.{EdgeStands}
use Rattle.node_edges.proofs.OutEdges.{held_is}
use Rattle.plan_reader.specs.PlanView.{IsPlan, PlanView}
use Rattle.pair_machine.specs.Boundary.{source_made}
use Rattle.pair_machine.specs.Consumers.{first_below}
use Rattle.pair_machine.specs.Counts.{flow_of, items_on, made_on}
use Rattle.pair_machine.specs.Links.{HasEdge}
use Rattle.pair_machine.specs.Machine.{State, act_of, buffer_of, egress_in, ingress_in, is_behind, pull_of, pulled_source, replica_in, source_pulled}
use Rattle.pair_machine.specs.Machine as machine
use Rattle.pair_machine.specs.Messages.{Act, NotHeld, NotRunning, Pulls}
use Rattle.pair_machine.specs.Numbers.{Gathering, Gone, Node, Partition, Replica, Running, in_edge, ingress_edge, out_edge}
use Rattle.replica_node.specs.Phases.{running_in}
use Rattle.replica_node.specs.ReplicaView.{partition_of}
use Rattle.replica_node.specs.StandsFor.{PhaseStands}
use Rattle.replica_node.specs.declared.phase.Phase.{Phase}
use Rattle.replica_node.specs.declared.phase.Phase.TheVariants as phase
use Rattle.flux_core.specs.Acts.{IsActOf, IsNextAt, merges_at}
use Rattle.plan_nodes.specs.declared.state.NodeState.{NodeState}
use Rattle.plan_nodes.specs.declared.state.NodeState.TheVariants as state
use Rattle.flux_core.specs.Ends.{IsNextSource, IsOfTwo, consumer_in, producer_in}
use Rattle.flux_core.specs.Pulls.{IsAhead, IsNoPull, IsPullOf}
use Rattle.flux_core.specs.Refusals.{IsRefusal}
use Rattle.flux_core.specs.Stands.{ContentStands}
use Rattle.flux_core.specs.declared.asked.Asked.{Asked}
use Rattle.flux_core.specs.declared.asked.Asked.TheVariants as asked
use Rattle.flux_core.specs.declared.error.ApplyError.{ApplyError}
use Rattle.flux_core.specs.declared.error.ApplyError.TheVariants as error

module _ (plan : PlanView) (inputs : List Input) where
  -- ---- the producer's end

  -- the machine's buffer is the producer's, and what this keeps are items of the edge
  pub record Buffered (p : ProducerView) (t : ℕ) (o : Option machine.Buffer) (edge : EdgeId) : Type 0 where
    pub numbers : o ≡ Some (record { low = (buffer_at p t).low; produced = (buffer_at p t).produced })
    pub item : (k : ℕ) (i : Item) → buffer.item_at (buffer_at p t) k ≡ Some i → item_at (items_on plan inputs edge) k ≡ Some i

  by_edge : (made low : ℕ) (cursors : ℕ → ℕ) (p : ProducerView) (t : ℕ) (edge : EdgeId) → EdgeStands (items_on plan inputs edge) made low cursors (edge_at p t)
      → Buffered p t (Some (record { low = low; produced = made })) edge
  by_edge made low cursors p t edge h = record {
    numbers = λ j. Some (record { low = sym h.low j; produced = sym h.produced j });
    item = λ k i e. held_is (items_on plan inputs edge) made low cursors (edge_at p t) k i h e;
  }

  pub ingress_buffered : (i : IngressView) (n : Node) (q t : ℕ) → ingress.StandsFor plan inputs i n → q < length i.producers → t < length (producer_at i q).edges
      → Buffered (producer_at i q) t (buffer_of (flow_of plan inputs) q t node.Ingress n) (ingress_edge q t)
  ingress_buffered i n q t h l m =
      let p = h.producers q (subst (λ k. q < k) h.sources l) in
      by_edge (source_made (flow_of plan inputs) (ingress_in n) q t) (((ingress_in n).producers q).lows t) (((ingress_in n).producers q).cursors t) (producer_at i q) t (ingress_edge q t)
      (p.edges t (subst (λ k. t < k) p.targets m))

  phase_buffered : (p : Partition) (f : Phase) (x : Replica) (y : ProducerView) (t : ℕ) → PhaseStands plan inputs p f x → option_map (λ r. r.producer) (running_in f) ≡ Some y → t < length y.edges
      → Buffered y t (machine.buffer_in (flow_of plan inputs) p t x) (out_edge p t)
  unfolding flow_of
  phase_buffered p (phase.Running r) (Running x) y t h e l =
      let same : r.producer ≡ y = ap (λ o. unwrap_or o y) e in
      let at = h.producer.edges t (subst (λ k. t < k) h.producer.targets (subst (λ z. t < length z.edges) (sym same) l)) in
      subst (λ z. Buffered z t (machine.buffer_in (flow_of plan inputs) p t (Running x)) (out_edge p t)) same
      (by_edge (made_on plan inputs (out_edge p t) x.consumer.count) (x.producer.lows t) (x.producer.cursors t) r.producer t (out_edge p t) at)
  phase_buffered p (phase.Running r) (Gathering g) y t h e l = absurd h
  phase_buffered p (phase.Running r) (Gone i) y t h e l = absurd h
  phase_buffered p (phase.Gathering g) x y t h e l = let z : ⊥ = cc e in absurd z
  phase_buffered p (phase.Gone i) x y t h e l = let z : ⊥ = cc e in absurd z

  phase_unbuffered : (p : Partition) (f : Phase) (x : Replica) (t : ℕ) → PhaseStands plan inputs p f x → option_map (λ r. r.producer) (running_in f) ≡ None → machine.buffer_in (flow_of plan inputs) p t x ≡ None
  phase_unbuffered p (phase.Running r) x t h e = let z : ⊥ = cc e in absurd z
  phase_unbuffered p (phase.Gathering g) (Running x) t h e = absurd h
  phase_unbuffered p (phase.Gathering g) (Gathering x) t h e = refl
  phase_unbuffered p (phase.Gathering g) (Gone i) t h e = refl
  phase_unbuffered p (phase.Gone i) (Running x) t h e = absurd h
  phase_unbuffered p (phase.Gone i) (Gathering x) t h e = refl
  phase_unbuffered p (phase.Gone i) (Gone j) t h e = refl

  -- ---- the consumer's end

  phase_marked : (p : Partition) (f : Phase) (x : Replica) (c : ConsumerView) (q : ℕ) → PhaseStands plan inputs p f x → option_map (λ r. r.consumer) (running_in f) ≡ Some c → q < length c.merge.marks
      → machine.mark_in q x ≡ Some (mark_of c.merge q)
  phase_marked p (phase.Running r) (Running x) c q h e l =
      let same : r.consumer ≡ c = ap (λ o. unwrap_or o c) e in
      let within = subst (λ k. q < k) h.consumer.edges (subst (λ z. q < length z.merge.marks) (sym same) l) in
      ap Some (sym (h.consumer.marks q within) ∙ ap (λ z. mark_of z.merge q) same)
  phase_marked p (phase.Running r) (Gathering g) c q h e l = absurd h
  phase_marked p (phase.Running r) (Gone i) c q h e l = absurd h
  phase_marked p (phase.Gathering g) x c q h e l = let z : ⊥ = cc e in absurd z
  phase_marked p (phase.Gone i) x c q h e l = let z : ⊥ = cc e in absurd z

  phase_unmarked : (p : Partition) (f : Phase) (x : Replica) (q : ℕ) → PhaseStands plan inputs p f x → option_map (λ r. r.consumer) (running_in f) ≡ None → machine.mark_in q x ≡ None
  phase_unmarked p (phase.Running r) x q h e = let z : ⊥ = cc e in absurd z
  phase_unmarked p (phase.Gathering g) (Running x) q h e = absurd h
  phase_unmarked p (phase.Gathering g) (Gathering x) q h e = refl
  phase_unmarked p (phase.Gathering g) (Gone i) q h e = refl
  phase_unmarked p (phase.Gone i) (Running x) q h e = absurd h
  phase_unmarked p (phase.Gone i) (Gathering x) q h e = refl
  phase_unmarked p (phase.Gone i) (Gone j) q h e = refl

  pub marked : (n : NodeId) (c : Option NodeState) (x : Node) (k : ConsumerView) (q : ℕ) → ContentStands plan inputs n c x → consumer_in c ≡ Some k → q < length k.merge.marks → machine.mark_of q n x ≡ Some (mark_of k.merge q)
  marked n (Some (state.Ingress i)) x k q h e l = let z : ⊥ = cc e in absurd z
  marked n (Some (state.Replica v)) x k q h e l = subst (λ m. machine.mark_of q m x ≡ Some (mark_of k.merge q)) h.0 (phase_marked (partition_of v.role) v.phase (replica_in x) k q h.1.phase_stands e l)
  marked n (Some (state.Control c)) x k q h e l = let z : ⊥ = cc e in absurd z
  marked n (Some (state.Egress g)) x k q h e l =
      let same : g.consumer ≡ k = ap (λ o. unwrap_or o k) e in
      let within = subst (λ m. q < m) h.1.consumer.edges (subst (λ z. q < length z.merge.marks) (sym same) l) in
      subst (λ m. machine.mark_of q m x ≡ Some (mark_of k.merge q)) h.0 (ap Some (sym (h.1.consumer.marks q within) ∙ ap (λ z. mark_of z.merge q) same))
  marked n None x k q h e l = absurd h

  pub unmarked : (n : NodeId) (c : Option NodeState) (x : Node) (q : ℕ) → ContentStands plan inputs n c x → consumer_in c ≡ None → machine.mark_of q n x ≡ None
  unmarked n (Some (state.Ingress i)) x q h e = subst (λ m. machine.mark_of q m x ≡ None) h.0 refl
  unmarked n (Some (state.Replica v)) x q h e = subst (λ m. machine.mark_of q m x ≡ None) h.0 (phase_unmarked (partition_of v.role) v.phase (replica_in x) q h.1.phase_stands e)
  unmarked n (Some (state.Control c)) x q h e = subst (λ m. machine.mark_of q m x ≡ None) h.0 refl
  unmarked n (Some (state.Egress g)) x q h e = let z : ⊥ = cc e in absurd z
  unmarked n None x q h e = absurd h

  -- ---- any producer

  -- the edge from a node's source q to target t
  abbrev edge_from : NodeId → ℕ → ℕ → EdgeId
  edge_from node.Ingress q t = ingress_edge q t
  edge_from (node.Replica s p w) q t = out_edge (record { stage = s; part = p }) t
  edge_from (node.Control s p) q t = ingress_edge q t
  edge_from node.Egress q t = ingress_edge q t

  pub buffered : (n : NodeId) (c : Option NodeState) (x : Node) (p : ProducerView) (q t : ℕ) → ContentStands plan inputs n c x → ((i : IngressView) → c ≡ Some (state.Ingress i) → q < length i.producers) → producer_in c q ≡ Some p → t < length p.edges
      → Buffered p t (buffer_of (flow_of plan inputs) q t n x) (edge_from n q t)
  buffered n (Some (state.Ingress i)) x p q t h few e l =
      let same : producer_at i q ≡ p = ap (λ o. unwrap_or o p) e in
      subst (λ m. Buffered p t (buffer_of (flow_of plan inputs) q t m x) (edge_from m q t)) h.0
      (subst (λ y. Buffered y t (buffer_of (flow_of plan inputs) q t node.Ingress x) (ingress_edge q t)) same (ingress_buffered i x q t h.1 (few i refl) (subst (λ y. t < length y.edges) (sym same) l)))
  buffered n (Some (state.Replica v)) x p q t h few e l =
      subst (λ m. Buffered p t (buffer_of (flow_of plan inputs) q t m x) (edge_from m q t)) h.0 (phase_buffered (partition_of v.role) v.phase (replica_in x) p t h.1.phase_stands e l)
  buffered n (Some (state.Control c)) x p q t h few e l = let z : ⊥ = cc e in absurd z
  buffered n (Some (state.Egress g)) x p q t h few e l = let z : ⊥ = cc e in absurd z
  buffered n None x p q t h few e l = absurd h

  pub unbuffered : (n : NodeId) (c : Option NodeState) (x : Node) (q t : ℕ) → ContentStands plan inputs n c x → producer_in c q ≡ None → buffer_of (flow_of plan inputs) q t n x ≡ None
  unbuffered n (Some (state.Ingress i)) x q t h e = let z : ⊥ = cc e in absurd z
  unbuffered n (Some (state.Replica v)) x q t h e = subst (λ m. buffer_of (flow_of plan inputs) q t m x ≡ None) h.0 (phase_unbuffered (partition_of v.role) v.phase (replica_in x) t h.1.phase_stands e)
  unbuffered n (Some (state.Control c)) x q t h e = subst (λ m. buffer_of (flow_of plan inputs) q t m x ≡ None) h.0 refl
  unbuffered n (Some (state.Egress g)) x q t h e = subst (λ m. buffer_of (flow_of plan inputs) q t m x ≡ None) h.0 refl
  unbuffered n None x q t h e = absurd h

  -- ---- the edge between the two

  between : (from to : NodeId) (q : ℕ) → HasEdge (flow_of plan inputs) from to → ((s p : ℕ) (w : Which) → from ≡ node.Replica s p w → q ≡ p) → in_edge (merges_at plan inputs to) q ≡ edge_from from q (part_of to)
  unfolding flow_of
  between from node.Ingress q e same = absurd e.2
  between from (node.Control s p) q e same = absurd e.2
  between node.Ingress (node.Replica s p w) q e same =
      let z : s - 1 ≡ 0 = omega (arith, e.2.0, e.1.0) in λ j. record { stage = z j; from = q; to = p }
  between (node.Replica t r v) (node.Replica s p w) q e same =
      let z : s - 1 ≡ t = omega (arith, e.2.0, e.1.1) in λ j. record { stage = z j; from = same t r v refl j; to = p }
  between (node.Control t r) to q e same = absurd e.1
  between node.Egress to q e same = absurd e.1
  between node.Ingress node.Egress q e same =
      let z : length plan.stages + 1 - 1 ≡ 0 = omega (arith, e.2.0, e.1.0) in λ j. record { stage = z j; from = q; to = 0 }
  between (node.Replica t r v) node.Egress q e same =
      let z : length plan.stages + 1 - 1 ≡ t = omega (arith, e.2.0, e.1.1) in λ j. record { stage = z j; from = same t r v refl j; to = 0 }

-- ---- the source

first_none : (test : ℕ → Bool) → ((q : ℕ) → test q ≡ false) → (n : ℕ) → first_below test n ≡ None
first_none test h zero = refl
first_none test h (suc n) = λ j. option_or (first_none test h n j) (if h n j then Some n else None)

module _ (plan : PlanView) (inputs : List Input) (i : IngressView) (x : Node) (to : NodeId) (c : Option NodeState) (y : Node) (stands : ingress.StandsFor plan inputs i x) (at : ContentStands plan inputs to c y) where
  abbrev test : ℕ → Bool
  test q = is_behind (machine.mark_of q to y) (source_made (flow_of plan inputs) (ingress_in x) q (part_of to))

  none_ahead : consumer_in c ≡ None → (q : ℕ) → test q ≡ false
  none_ahead e q = ap (λ m. is_behind m (source_made (flow_of plan inputs) (ingress_in x) q (part_of to))) (unmarked plan inputs to c y q at e)

  first_test : (k : ConsumerView) → consumer_in c ≡ Some k → IsOfTwo i (part_of to) k 0 ⊎ IsOfTwo i (part_of to) k 1 → test 0 ≡ nat_lt (mark_of k.merge 0) (buffer_at (producer_at i 0) (part_of to)).produced
  first_test k e two =
      let z = either_two two in
      let mark = marked plan inputs to c y k 0 at e z.1 in
      let made = ingress_buffered plan inputs i x 0 (part_of to) stands z.2 z.0 in
      let made_is : source_made (flow_of plan inputs) (ingress_in x) 0 (part_of to) ≡ (buffer_at (producer_at i 0) (part_of to)).produced = ap (λ o. (unwrap_or {T = machine.Buffer} o (record { low = 0; produced = 0 })).produced) made.numbers in
      (λ j. is_behind (mark j) (made_is j))
    where
      either_two : IsOfTwo i (part_of to) k 0 ⊎ IsOfTwo i (part_of to) k 1 → (part_of to < length (producer_at i 0).edges) × (0 < length k.merge.marks) × (0 < length i.producers)
      either_two (inl h) = (h.target, h.source, omega (arith, h.two))
      either_two (inr h) = (h.target, h.source, omega (arith, h.two))

  pub source_of : IsPlan plan → (o : Option ConsumerView) → consumer_in c ≡ o → (q : ℕ) → IsNextSource i (part_of to) o q → pulled_source (flow_of plan inputs) (ingress_in x) to y ≡ q
  unfolding flow_of
  source_of p None e q h =
      let many = stands.sources in
      ap (λ o. unwrap_or o (plan.version - 1)) (first_none test (none_ahead e) (plan.version - 1)) ∙ omega (arith, h, many)
  source_of p (Some k) e q (inl h) =
      let many = stands.sources in
      let low = p.version_low in
      let high = p.version_high in
      let one : plan.version ≡ 1 = by_two plan.version low high (λ two. h.0 (many ∙ two)) in
      let zero_is : 0 ≡ q = omega (arith, h.1, many, one) in
      ap (λ v. unwrap_or (first_below test (v - 1)) (v - 1)) one ∙ zero_is
    where
      by_two : (v : ℕ) → 1 ≤ v → v ≤ 2 → (v ≡ 2 → ⊥) → v ≡ 1
      by_two v low high ne = let z : v ≢ 2 = ne in omega arith
  source_of p (Some k) e q (inr h) =
      let two : plan.version ≡ 2 = sym stands.sources ∙ h.two in
      ap (λ v. unwrap_or (first_below test (v - 1)) (v - 1)) two ∙ go h.first
    where
      go : ((q ≡ 0) × IsAhead (producer_at i 0) (part_of to) k 0) ⊎ ((q ≡ 1) × (IsAhead (producer_at i 0) (part_of to) k 0 → ⊥)) → unwrap_or (first_below test 1) 1 ≡ q
      go (inl a) =
          let true_is : test 0 ≡ true = first_test k e (inl (subst (λ j. IsOfTwo i (part_of to) k j) a.0 h)) ∙ lt-ltb (mark_of k.merge 0) (buffer_at (producer_at i 0) (part_of to)).produced a.1 in
          ap (λ b. unwrap_or (option_or None (if b then Some 0 else None)) 1) true_is ∙ sym a.0
      go (inr a) =
          let false_is : test 0 ≡ false = first_test k e (inr (subst (λ j. IsOfTwo i (part_of to) k j) a.0 h)) ∙ not_ahead (nat_lt (mark_of k.merge 0) (buffer_at (producer_at i 0) (part_of to)).produced) refl a.1 in
          ap (λ b. unwrap_or (option_or None (if b then Some 0 else None)) 1) false_is ∙ sym a.0
        where
          not_ahead : (b : Bool) → nat_lt (mark_of k.merge 0) (buffer_at (producer_at i 0) (part_of to)).produced ≡ b → (IsAhead (producer_at i 0) (part_of to) k 0 → ⊥) → b ≡ false
          not_ahead true e ne = absurd (ne (ltb-true (mark_of k.merge 0) (buffer_at (producer_at i 0) (part_of to)).produced e))
          not_ahead false e ne = refl

-- ---- a pull

pull_none : (q : ℕ) (o : Option machine.Buffer) → pull_of q o None ≡ Err NotRunning
pull_none q None = refl
pull_none q (Some o) = refl

and_true : (a b : Bool) → a ≡ true → b ≡ true → (a && b) ≡ true
and_true true b x y = y
and_true false b x y = x

pull_kept : (q low mark produced : ℕ) → low ≤ mark → mark < produced → pull_of q (Some (record { low = low; produced = produced })) (Some mark) ≡ Ok (Pulls q)
pull_kept q low mark produced l m = ap (λ b. if b then Ok (Pulls q) else Err (NotHeld low mark produced)) (and_true (nat_le low mark) (nat_lt mark produced) (le-leb low mark l) (lt-ltb mark produced m))

pull_lost : (q low mark produced : ℕ) → (mark < low) ⊎ (produced ≤ mark) → pull_of q (Some (record { low = low; produced = produced })) (Some mark) ≡ Err (NotHeld low mark produced)
pull_lost q low mark produced h = go (nat_le low mark) (nat_lt mark produced) refl refl
  where
    go : (a b : Bool) → nat_le low mark ≡ a → nat_lt mark produced ≡ b → (if a && b then Ok (Pulls q) else Err (NotHeld low mark produced)) ≡ Err (NotHeld low mark produced)
    go true true x y = let l = leb-true low mark x in let m = ltb-true mark produced y in absurd (not_both h l m)
      where
        not_both : (mark < low) ⊎ (produced ≤ mark) → low ≤ mark → mark < produced → ⊥
        not_both (inl k) l m = omega (arith, k, l)
        not_both (inr k) l m = omega (arith, k, m)
    go true false x y = refl
    go false b x y = refl

module _ (plan : PlanView) (inputs : List Input) (s : State) (from to : NodeId) (cf ct : Option NodeState) (here : ContentStands plan inputs from cf (s.nodes from)) (there_to : ContentStands plan inputs to ct (s.nodes to))
    (edge : HasEdge (flow_of plan inputs) from to) (q : ℕ) (source : source_pulled (flow_of plan inputs) from (s.nodes from) to (s.nodes to) ≡ q)
    (few : (i : IngressView) → cf ≡ Some (state.Ingress i) → q < length i.producers) (same : (st p : ℕ) (w : Which) → from ≡ node.Replica st p w → q ≡ p) where
  act_at : (o : Option machine.Buffer) (m : Option ℕ) → buffer_of (flow_of plan inputs) q (part_of to) from (s.nodes from) ≡ o → machine.mark_of q to (s.nodes to) ≡ m → act_of (flow_of plan inputs) s (event.Pull from to) ≡ pull_of q o m
  act_at o m e k = ap (λ j. pull_of j (buffer_of (flow_of plan inputs) j (part_of to) from (s.nodes from)) (machine.mark_of j to (s.nodes to))) source ∙ (λ j. pull_of q (e j) (k j))

  pub pull_asked : (op : Option ProducerView) (oc : Option ConsumerView) → producer_in cf q ≡ op → consumer_in ct ≡ oc → (t : Asked) → IsPullOf op (part_of to) oc q t
      → (a : Act) × (act_of (flow_of plan inputs) s (event.Pull from to) ≡ Ok a) × IsActOf plan inputs to t (s.nodes to) a
  pull_asked (Some p) (Some c) ep ec (asked.Pull k i) h =
      let b = buffered plan inputs from cf (s.nodes from) p q (part_of to) here few ep h.1 in
      let m = marked plan inputs to ct (s.nodes to) c q there_to ec h.2 in
      let mark = mark_of c.merge q in
      let item : item_at (items_on plan inputs (in_edge (merges_at plan inputs to) q)) (mark + 1) ≡ Some i =
      subst (λ e. item_at (items_on plan inputs e) (mark + 1) ≡ Some i) (sym (between plan inputs from to q edge same)) (b.item (mark + 1) i h.3.item) in
      let next : IsNextAt plan inputs to q i (machine.mark_of q to (s.nodes to)) = subst (IsNextAt plan inputs to q i) (sym m) item in (
        Pulls q,
        act_at _ _ b.numbers m ∙ pull_kept q (buffer_at p (part_of to)).low mark (buffer_at p (part_of to)).produced h.3.low h.3.produced,
        subst (λ j. (Pulls q ≡ Pulls j) × IsNextAt plan inputs to j i (machine.mark_of j to (s.nodes to))) (sym h.0) (refl, next),
      )
  pull_asked (Some p) (Some c) ep ec (asked.Task t) h = absurd h
  pull_asked None oc ep ec t h = absurd (no_producer oc t h)
    where
      no_producer : (oc : Option ConsumerView) (t : Asked) → IsPullOf None (part_of to) oc q t → ⊥
      no_producer oc t h = h
  pull_asked (Some p) None ep ec t h = absurd (no_consumer t h)
    where
      no_consumer : (t : Asked) → IsPullOf (Some p) (part_of to) None q t → ⊥
      no_consumer t h = h

  pub pull_refused : (op : Option ProducerView) (oc : Option ConsumerView) → producer_in cf q ≡ op → consumer_in ct ≡ oc → (x : ApplyError) → IsNoPull op (part_of to) oc q x
      → IsRefusal (act_of (flow_of plan inputs) s (event.Pull from to)) x
  pull_refused op oc ep ec error.OutOfMemory h = tt
  pull_refused None oc ep ec error.NotRunning h = act_at None (machine.mark_of q to (s.nodes to)) (unbuffered plan inputs from cf (s.nodes from) q (part_of to) here ep) refl
  pull_refused (Some p) None ep ec error.NotRunning h =
      act_at (buffer_of (flow_of plan inputs) q (part_of to) from (s.nodes from)) None refl (unmarked plan inputs to ct (s.nodes to) q there_to ec) ∙ pull_none q (buffer_of (flow_of plan inputs) q (part_of to) from (s.nodes from))
  pull_refused (Some p) (Some c) ep ec error.NotRunning h = absurd h
  pull_refused (Some p) (Some c) ep ec (error.NotHeld low mark produced) h =
      let b = buffered plan inputs from cf (s.nodes from) p q (part_of to) here few ep h.0 in
      let m = marked plan inputs to ct (s.nodes to) c q there_to ec h.1 in
      let lost = pull_lost q low mark produced h.5 in
      act_at _ _ b.numbers m ∙ (λ j. pull_of q (Some (record { low = sym h.2 j; produced = sym h.4 j })) (Some (sym h.3 j))) ∙ lost
  pull_refused None oc ep ec (error.NotHeld low mark produced) h = absurd h
  pull_refused (Some p) None ep ec (error.NotHeld low mark produced) h = absurd h
  pull_refused None oc ep ec (error.NotSent l k n) h = absurd h
  pull_refused (Some p) None ep ec (error.NotSent l k n) h = absurd h
  pull_refused (Some p) (Some c) ep ec (error.NotSent l k n) h = absurd h
  pull_refused None oc ep ec error.NothingDue h = absurd h
  pull_refused (Some p) None ep ec error.NothingDue h = absurd h
  pull_refused (Some p) (Some c) ep ec error.NothingDue h = absurd h
  pull_refused None oc ep ec error.NoMoreRows h = absurd h
  pull_refused (Some p) None ep ec error.NoMoreRows h = absurd h
  pull_refused (Some p) (Some c) ep ec error.NoMoreRows h = absurd h
