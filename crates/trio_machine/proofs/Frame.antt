-- A state stays sound where its node of the step and what that node sends are sound, and where what is acknowledged and the marks have not
-- fallen.
use Rattle.std.proofs.Common.{◌≡◌, ◌≤◌, ℕ, Bool, true, false, List, [], ◌∷◌, ◌++◌, ◌+◌, ◌==◌, refl, sym, ap, subst, arith}
use Rattle.std.specs.Prelude.{if◌then◌else◌}
use Rattle.tuple_edge.specs.declared.node.EdgeId.{EdgeId}
use Rattle.pair_machine.specs.Drain.{partition}
use Rattle.pair_machine.specs.Flow.{Flow}
use Rattle.pair_machine.specs.Lists.{Each}
use Rattle.pair_machine.specs.Numbers.{Partition, ingress_edge, out_edge}
use Rattle.pair_machine.proofs.Lists.{each_append, each_map}
use Rattle.pair_machine.proofs.Tests.{if_elim}
use Rattle.trio_machine.specs.Acknowledged.{MessageLows, NodeLows, ReplicaLows, acked_of}
use Rattle.trio_machine.specs.Reports.{IsRunning, MarkAtLeast, MessageReports, NodeReports, OfReplica, replicas_of}
use Rattle.trio_machine.specs.Machine.{State, changed, controller_in, egress_in, messages_to, put, replica_in}
use Rattle.trio_machine.specs.Messages.{Ack, Down, Envelope, Message, Report}
use Rattle.trio_machine.specs.Numbers.{Gone, Node, Replica, Running, is_node}
use Rattle.trio_machine.specs.Sound.{IsSound, IsSoundMessage, IsSoundNode}
use Rattle.trio_machine.specs.declared.node.TrioNode.{TrioNode}
use Rattle.trio_machine.specs.declared.node.TrioNode.TheVariants as node
use Rattle.trio_machine.proofs.Names.{is_node-true}

-- what is acknowledged and the marks of those that run don't fall, and none that is gone comes back
pub record Ahead (k k_after : EdgeId → ℕ) (r r_after : Partition → ℕ → Replica) : Type 0 where
  pub acked : (e : EdgeId) → k e ≤ k_after e
  pub marks : (p : Partition) (c q j : ℕ) → MarkAtLeast q j (r p c) → MarkAtLeast q j (r_after p c)
  pub gone : (p : Partition) (c : ℕ) → IsRunning (r_after p c) → IsRunning (r p c)

module _ (f : Flow) (k k_after : EdgeId → ℕ) (r r_after : Partition → ℕ → Replica) (up : Ahead k k_after r r_after) where
  lows_wider : (x : Replica) (p : Partition) → ReplicaLows (λ t. k (out_edge p t)) x → ReplicaLows (λ t. k_after (out_edge p t)) x
  lows_wider Gone p h = tt
  lows_wider (Running x) p h = λ t. let l = h t in let u = up.acked (out_edge p t) in omega arith

  node_lows_wider : (n : TrioNode) (x : Node) → NodeLows k n x → NodeLows k_after n x
  node_lows_wider node.Ingress x h = λ t. let l = h t in let u = up.acked (ingress_edge 0 t) in omega arith
  node_lows_wider (node.Replica s p c) x h = lows_wider (replica_in x) (partition s p) h
  node_lows_wider (node.Control s p) x h = h
  node_lows_wider node.Egress x h = tt

  node_reports_wider : (n : TrioNode) (x : Node) → NodeReports r n x → NodeReports r_after n x
  node_reports_wider node.Ingress x h = tt
  node_reports_wider (node.Replica s p c) x h = tt
  node_reports_wider (node.Control s p) x h = record {
    reports = λ c q. up.marks (partition s p) c q ((controller_in x).reports c q) (h.reports c q);
    up = λ c run. h.up c (up.gone (partition s p) c run);
  }
  node_reports_wider node.Egress x h = tt

  pub node_wider : (n : TrioNode) (x : Node) → IsSoundNode f k r n x → IsSoundNode f k_after r_after n x
  node_wider n x h = record { bound = h.bound; lows = node_lows_wider n x h.lows; reports = node_reports_wider n x h.reports }

  message_lows_wider : (m : Message) → MessageLows k m → MessageLows k_after m
  message_lows_wider (Ack e j) h = let u = up.acked e in omega arith
  message_lows_wider m h = tt

  of_replica_wider : (P : Replica → Type 0) → ((p : Partition) (c : ℕ) → P (r p c) → P (r_after p c)) → (from : TrioNode) → OfReplica r P from → OfReplica r_after P from
  of_replica_wider P g node.Ingress h = tt
  of_replica_wider P g (node.Replica s p c) h = g (partition s p) c h
  of_replica_wider P g (node.Control s p) h = tt
  of_replica_wider P g node.Egress h = tt

  message_reports_wider : (from : TrioNode) (m : Message) → MessageReports r from m → MessageReports r_after from m
  message_reports_wider from (Report e j) h = of_replica_wider (MarkAtLeast e.from j) (λ p c. up.marks p c e.from j) from h
  message_reports_wider from Down h = of_replica_wider (λ x. IsRunning x → ⊥) (λ p c none run. none (up.gone p c run)) from h
  message_reports_wider from m h = tt

  pub message_wider : (from to : TrioNode) (m : Message) → IsSoundMessage f k r from to m → IsSoundMessage f k_after r_after from to m
  message_wider from to m h = record { carried = h.carried; bound = h.bound; lows = message_lows_wider m h.lows; reports = message_reports_wider from m h.reports }

-- ---- what is sent

-- each of what a node sends is sound
abbrev pub AreSound : Flow → (EdgeId → ℕ) → (Partition → ℕ → Replica) → TrioNode → List Envelope → Type 0
AreSound f k r n out = Each (λ (l : Envelope). IsSoundMessage f k r n l.to l.message) out

received : (M : TrioNode → Message → Type 0) (to : TrioNode) (out : List Envelope) → Each (λ (l : Envelope). M l.to l.message) out → Each (M to) (messages_to to out)
received M to [] h = tt
received M to (x ∷ xs) h = go (is_node x.to to) (is_node-true x.to to) (received M to xs h.1)
  where
    go : (b : Bool) → (b ≡ true → x.to ≡ to) → Each (M to) (messages_to to xs) → Each (M to) (if b then x.message ∷ messages_to to xs else messages_to to xs)
    go true e k = (subst (λ n. M n x.message) (e refl) h.0, k)
    go false e k = k

-- what all nodes and all that was sent meet is met after a step where its node and what that node sends meet it
pub met : (N : TrioNode → Node → Type 0) (M : (from to : TrioNode) → Message → Type 0) (s : State) (n : TrioNode) (x : Node) (out : List Envelope)
    → ((m : TrioNode) → N m (s.nodes m)) → ((from to : TrioNode) → Each (M from to) (s.sent from to)) → N n x → Each (λ (l : Envelope). M n l.to l.message) out
    → ((m : TrioNode) → N m ((put n s x out).nodes m)) × ((from to : TrioNode) → Each (M from to) ((put n s x out).sent from to))
met N M s n x out nodes sent at envelopes = (
  (λ m. if_elim (N m) (is_node m n) x (s.nodes m) (λ e. subst (λ i. N i x) (sym (is_node-true m n e)) at) (λ e. nodes m)),
  (λ from to. if_elim (Each (M from to)) (is_node from n) (s.sent from to ++ messages_to to out) (s.sent from to)
      (λ e. each_append (M from to) (s.sent from to) (messages_to to out) (sent from to)
      (subst (λ i. Each (M i to) (messages_to to out)) (sym (is_node-true from n e)) (received (M n) to out envelopes)))
      (λ e. sent from to)),
)

pub put_sound : (f : Flow) (s : State) (n : TrioNode) (x : Node) (out : List Envelope) → Ahead (acked_of f s) (acked_of f (put n s x out)) (replicas_of s) (replicas_of (put n s x out)) → IsSound f s
    → IsSoundNode f (acked_of f (put n s x out)) (replicas_of (put n s x out)) n x → AreSound f (acked_of f (put n s x out)) (replicas_of (put n s x out)) n out → IsSound f (put n s x out)
put_sound f s n x out up old at envelopes =
    let k = acked_of f (put n s x out) in
    let r = replicas_of (put n s x out) in
    let z = met (IsSoundNode f k r) (IsSoundMessage f k r) s n x out
    (λ m. node_wider f (acked_of f s) k (replicas_of s) r up m (s.nodes m) (old.nodes m))
    (λ from to. each_map (IsSoundMessage f (acked_of f s) (replicas_of s) from to) (IsSoundMessage f k r from to) (message_wider f (acked_of f s) k (replicas_of s) r up from to) (s.sent from to) (old.sent from to)) at envelopes in
    record { nodes = z.0; sent = z.1 }

-- ---- what a node's step must not lower

pub record ReplicaRises (x y : Replica) : Type 0 where
  pub marks : (q j : ℕ) → MarkAtLeast q j x → MarkAtLeast q j y
  pub gone : IsRunning y → IsRunning x

abbrev pub Rises : TrioNode → Node → Node → Type 0
Rises node.Ingress x y = Unit {0}
Rises (node.Replica s p c) x y = ReplicaRises (replica_in x) (replica_in y)
Rises (node.Control s p) x y = (q : ℕ) → (controller_in x).acked q ≤ (controller_in y).acked q
Rises node.Egress x y = (q : ℕ) → (egress_in x).told q ≤ (egress_in y).told q

module _ (f : Flow) (s : State) where
  by_control : (t q a b i : ℕ) (x : Node) → ((j : ℕ) → (controller_in (s.nodes (node.Control t q))).acked j ≤ (controller_in x).acked j) →
      (controller_in (s.nodes (node.Control a b))).acked i ≤ (controller_in (changed (node.Control t q) x s.nodes (node.Control a b))).acked i
  by_control t q a b i x h = if_elim (λ (n : Node). (controller_in (s.nodes (node.Control a b))).acked i ≤ (controller_in n).acked i) (is_node (node.Control a b) (node.Control t q)) x (s.nodes (node.Control a b))
      (λ e. let same = ap (λ n. (controller_in (s.nodes n)).acked i) (is_node-true (node.Control a b) (node.Control t q) e) in let l = h i in omega arith) (λ e. omega arith)

  acked_rises : (n : TrioNode) (x : Node) (out : List Envelope) → Rises n (s.nodes n) x → (e : EdgeId) → acked_of f s e ≤ acked_of f (put n s x out) e
  acked_rises node.Ingress x out h e = omega arith
  acked_rises (node.Replica t q c) x out h e = omega arith
  acked_rises node.Egress x out h e = go (e.stage == f.stages)
    where
      go : (b : Bool) → (if b then (egress_in (s.nodes node.Egress)).told e.from else (controller_in (s.nodes (node.Control (e.stage + 1) e.to))).acked e.from) ≤
          (if b then (egress_in x).told e.from else (controller_in (s.nodes (node.Control (e.stage + 1) e.to))).acked e.from)
      go true = h e.from
      go false = omega arith
  acked_rises (node.Control t q) x out h e = go (e.stage == f.stages)
    where
      go : (b : Bool) → (if b then (egress_in (s.nodes node.Egress)).told e.from else (controller_in (s.nodes (node.Control (e.stage + 1) e.to))).acked e.from) ≤
          (if b then (egress_in (s.nodes node.Egress)).told e.from else (controller_in (changed (node.Control t q) x s.nodes (node.Control (e.stage + 1) e.to))).acked e.from)
      go true = omega arith
      go false = by_control t q (e.stage + 1) e.to e.from x h

  marks_rise : (n : TrioNode) (x : Node) (out : List Envelope) → Rises n (s.nodes n) x → (p : Partition) (c q j : ℕ) → MarkAtLeast q j (replicas_of s p c) → MarkAtLeast q j (replicas_of (put n s x out) p c)
  marks_rise node.Ingress x out h p c q j m = m
  marks_rise node.Egress x out h p c q j m = m
  marks_rise (node.Control t i) x out h p c q j m = m
  marks_rise (node.Replica t i d) x out h p c q j m = if_elim (λ (n : Node). MarkAtLeast q j (replica_in n)) (is_node (node.Replica p.stage p.part c) (node.Replica t i d)) x (s.nodes (node.Replica p.stage p.part c))
      (λ e. h.marks q j (subst (λ n. MarkAtLeast q j (replica_in (s.nodes n))) (is_node-true (node.Replica p.stage p.part c) (node.Replica t i d) e) m)) (λ e. m)

  none_comes_back : (n : TrioNode) (x : Node) (out : List Envelope) → Rises n (s.nodes n) x → (p : Partition) (c : ℕ) → IsRunning (replicas_of (put n s x out) p c) → IsRunning (replicas_of s p c)
  none_comes_back node.Ingress x out h p c run = run
  none_comes_back node.Egress x out h p c run = run
  none_comes_back (node.Control t i) x out h p c run = run
  none_comes_back (node.Replica t i d) x out h p c run = if_elim (λ (n : Node). IsRunning (replica_in n) → IsRunning (replicas_of s p c)) (is_node (node.Replica p.stage p.part c) (node.Replica t i d)) x (s.nodes (node.Replica p.stage p.part c))
      (λ e ran. subst (λ n. IsRunning (replica_in (s.nodes n))) (sym (is_node-true (node.Replica p.stage p.part c) (node.Replica t i d) e)) (h.gone ran)) (λ e ran. ran) run

  pub ahead : (n : TrioNode) (x : Node) (out : List Envelope) → Rises n (s.nodes n) x → Ahead (acked_of f s) (acked_of f (put n s x out)) (replicas_of s) (replicas_of (put n s x out))
  ahead n x out h = record { acked = acked_rises n x out h; marks = marks_rise n x out h; gone = none_comes_back n x out h }
