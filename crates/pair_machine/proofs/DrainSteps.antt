-- One event of the drain: what it leaves as it was, that it keeps what the drain needs, and when it is a step.
use Rattle.std.proofs.Common.{◌≡◌, ◌≤◌, ℕ, true, List, [], ◌++◌, ◌&&◌, Option, None, Some, Result, Ok, Err, refl, sym, ap, ◌∙◌, subst, arith}
use Rattle.std.specs.Prelude.{◌==◌, ◌+◌, if◌then◌else◌, nat_le, nat_lt}
use Rattle.std.proofs.lemmas.Bool.{eqb-true}
use Rattle.std.proofs.lemmas.List.{append-nil}
use Rattle.tuple_edge.specs.declared.event.Event.{Event}
use Rattle.tuple_edge.specs.declared.event.Event.TheVariants as event
use Rattle.tuple_edge.specs.declared.node.EdgeId.{EdgeId}
use Rattle.tuple_edge.specs.declared.node.NodeId.{NodeId}
use Rattle.tuple_edge.specs.declared.node.NodeId.TheVariants as node
use Rattle.tuple_edge.specs.Node.{part_of}
use Rattle.pair_machine.specs.Acknowledged.{acked_of}
use Rattle.pair_machine.specs.Boundary.{egress_edge, egress_partition}
use Rattle.pair_machine.specs.Consumers.{is_ready, merged_one, pulled}
use Rattle.pair_machine.specs.Controllers.{counts}
use Rattle.pair_machine.specs.Drain.{IsDrainEvent, IsDrainable, IsQuiet, MergeIsReady, ReplicaIsReady, partition}
use Rattle.pair_machine.specs.Flow.{Flow, IsFlow}
use Rattle.pair_machine.specs.Journal.{TakesNoMessage}
use Rattle.pair_machine.specs.Lengths.{IsWithinLengths, NodeBound}
use Rattle.pair_machine.specs.Links.{IsThere}
use Rattle.pair_machine.specs.Machine.{Buffer, State, acted, after, as_ingress, as_replica, at_node, buffer_of, changed, controller_in, does, egress_in, ingress_in, mark_of, messages_to, posted, pull_of, replica_in, source_pulled, step}
use Rattle.pair_machine.specs.Messages.{Envelope, Makes, Pulls, Refusal, Works}
use Rattle.pair_machine.specs.Numbers.{Consumer, Gathering, Gone, Node, Replica, Running, RunningNumbers, Watched, control_at, in_edge, ingress_edge, is_node, out_edge, replica_at}
use Rattle.pair_machine.specs.Replicas.{replica_pulls, replica_works}
use Rattle.pair_machine.specs.Sound.{IsOwed, LowAtMost, MarkAtLeast}
use Rattle.pair_machine.proofs.Journal.{step_too, with_sent}
use Rattle.pair_machine.proofs.LengthsKept.{bound_kept}
use Rattle.pair_machine.proofs.Names.{is_node-true}
use Rattle.pair_machine.proofs.StepTurns.{HoldsOnOk}
use Rattle.pair_machine.proofs.Tests.{if_elim}

-- ---- nodes that only took, merged and made more

pub record ConsumerGrew (c d : Consumer) : Type 0 where
  pub marks : (q : ℕ) → c.marks q ≤ d.marks q
  pub told : d.told ≡ c.told
  pub count : c.count ≤ d.count

pub record RunningGrew (x y : RunningNumbers) : Type 0 where
  pub inc : y.inc ≡ x.inc
  pub producer : y.producer ≡ x.producer
  pub consumer : ConsumerGrew x.consumer y.consumer

abbrev pub ReplicaGrew : Replica → Replica → Type 0
ReplicaGrew (Gone i) r = r ≡ Gone i
ReplicaGrew (Gathering g) r = r ≡ Gathering g
ReplicaGrew (Running x) (Running y) = RunningGrew x y
ReplicaGrew (Running x) (Gone i) = ⊥
ReplicaGrew (Running x) (Gathering g) = ⊥

abbrev pub Grew : NodeId → Node → Node → Type 0
Grew node.Ingress x y = ((ingress_in y).producers ≡ (ingress_in x).producers) × ((ingress_in x).makes ≤ (ingress_in y).makes)
Grew (node.Replica s p w) x y = ReplicaGrew (replica_in x) (replica_in y)
Grew (node.Control s p) x y = y ≡ x
Grew node.Egress x y = ConsumerGrew (egress_in x) (egress_in y)

abbrev pub Ahead : State → State → Type 0
Ahead s t = (n : NodeId) → Grew n (s.nodes n) (t.nodes n)

pub consumer_self : (c : Consumer) → ConsumerGrew c c
consumer_self c = record { marks = λ q. omega arith; told = refl; count = omega arith }

consumer_on : (c d e : Consumer) → ConsumerGrew c d → ConsumerGrew d e → ConsumerGrew c e
consumer_on c d e a b = record { marks = λ q. let x = a.marks q in let y = b.marks q in omega arith; told = b.told ∙ a.told; count = omega (arith, a.count, b.count) }

replica_self : (r : Replica) → ReplicaGrew r r
replica_self (Gone i) = refl
replica_self (Running x) = record { inc = refl; producer = refl; consumer = consumer_self x.consumer }
replica_self (Gathering g) = refl

replica_on : (r s t : Replica) → ReplicaGrew r s → ReplicaGrew s t → ReplicaGrew r t
replica_on (Gone i) s t a b = let z : ReplicaGrew (Gone i) t = subst (λ k. ReplicaGrew k t) a b in z
replica_on (Gathering g) s t a b = let z : ReplicaGrew (Gathering g) t = subst (λ k. ReplicaGrew k t) a b in z
replica_on (Running x) (Gone i) t a b = absurd a
replica_on (Running x) (Gathering g) t a b = absurd a
replica_on (Running x) (Running y) (Gone i) a b = absurd b
replica_on (Running x) (Running y) (Gathering g) a b = absurd b
replica_on (Running x) (Running y) (Running z) a b = record { inc = b.inc ∙ a.inc; producer = b.producer ∙ a.producer; consumer = consumer_on x.consumer y.consumer z.consumer a.consumer b.consumer }

pub grew_self : (n : NodeId) (x : Node) → Grew n x x
grew_self node.Ingress x = (refl, omega arith)
grew_self (node.Replica s p w) x = replica_self (replica_in x)
grew_self (node.Control s p) x = refl
grew_self node.Egress x = consumer_self (egress_in x)

pub grew_on : (n : NodeId) (x y z : Node) → Grew n x y → Grew n y z → Grew n x z
grew_on node.Ingress x y z a b = (b.0 ∙ a.0, omega (arith, a.1, b.1))
grew_on (node.Replica s p w) x y z a b = replica_on (replica_in x) (replica_in y) (replica_in z) a b
grew_on (node.Control s p) x y z a b = b ∙ a
grew_on node.Egress x y z a b = consumer_on (egress_in x) (egress_in y) (egress_in z) a b

-- ---- what is owed is kept

low_grew : (t k : ℕ) (r s : Replica) → ReplicaGrew r s → LowAtMost t k r → LowAtMost t k s
low_grew t k (Gone i) s g h = subst (LowAtMost t k) (sym g) h
low_grew t k (Gathering g) s e h = subst (LowAtMost t k) (sym e) h
low_grew t k (Running x) (Gone i) g h = absurd g
low_grew t k (Running x) (Gathering i) g h = absurd g
low_grew t k (Running x) (Running y) g h = subst (λ p. p.lows t ≤ k) (sym g.producer) h

mark_grew : (q k : ℕ) (h : Watched) (r s : Replica) → ReplicaGrew r s → MarkAtLeast q k h r → MarkAtLeast q k h s
mark_grew q k h (Gone i) s g m = subst (MarkAtLeast q k h) (sym g) m
mark_grew q k h (Gathering g) s e m = subst (MarkAtLeast q k h) (sym e) m
mark_grew q k h (Running x) (Gone i) g m = absurd g
mark_grew q k h (Running x) (Gathering i) g m = absurd g
mark_grew q k h (Running x) (Running y) g m = λ e. let a = m (subst (λ i. counts h i ≡ true) g.inc e) in let b = g.consumer.marks q in omega arith

acked_same : (f : Flow) (s t : State) → Ahead s t → (e : EdgeId) → acked_of f t e ≡ acked_of f s e
acked_same f s t a e =
    let told = (a node.Egress).told in
    let control = a (node.Control (e.stage + 1) e.to) in
    λ i. if e.stage == f.stages then (told i) e.from else (controller_in (control i)).acked e.from

pub owed_ahead : (f : Flow) (s t : State) → Ahead s t → IsOwed f s → IsOwed f t
owed_ahead f s t a h = record {
  ingress = λ q j. subst (λ k. ((ingress_in (t.nodes node.Ingress)).producers q).lows j ≤ k) (sym (acked_same f s t a (ingress_edge q j)))
      (subst (λ ps. (ps q).lows j ≤ acked_of f s (ingress_edge q j)) (sym (a node.Ingress).0) (h.ingress q j));
  producers = λ p w j l m. subst (λ k. LowAtMost j k (replica_in (t.nodes (replica_at p w)))) (sym (acked_same f s t a (out_edge p j)))
      (low_grew j (acked_of f s (out_edge p j)) (replica_in (s.nodes (replica_at p w))) (replica_in (t.nodes (replica_at p w))) (a (replica_at p w)) (h.producers p w j l m));
  consumers = λ p w q l m.
      let Goal : ℕ → Node → Type 0 = λ k x. MarkAtLeast q k ((controller_in x).watched w) (replica_in (t.nodes (replica_at p w))) in
      subst (λ k. Goal k (t.nodes (control_at p))) (sym (acked_same f s t a (in_edge p q)))
      (subst (Goal (acked_of f s (in_edge p q))) (sym (a (control_at p)))
      (mark_grew q (acked_of f s (in_edge p q)) ((controller_in (s.nodes (control_at p))).watched w) (replica_in (s.nodes (replica_at p w))) (replica_in (t.nodes (replica_at p w))) (a (replica_at p w)) (h.consumers p w q l m)));
  egress = λ q. let x = acked_same f s t a (egress_edge f q) in let y = h.egress q in let z = (a node.Egress).marks q in omega arith;
}

-- ---- numbers within lengths are kept, whatever was sent

pub within_kept : (f : Flow) → IsFlow f → (s t : State) (e : Event) → IsThere f e → TakesNoMessage e → ((n : NodeId) → NodeBound f n (s.nodes n)) → step f s e ≡ Ok t → (n : NodeId) → NodeBound f n (t.nodes n)
within_kept f ok s t e there free h done n =
    let z = step_too f s.nodes s.sent (λ l. []) t e free done in
    let kept : IsWithinLengths f z.0 = subst (HoldsOnOk (IsWithinLengths f)) z.1 (bound_kept f ok (with_sent s.nodes (λ l. [])) e there (λ l. tt) (record { nodes = h; sent = λ l. tt })) in
    subst (λ nodes. NodeBound f n (nodes n)) z.2 (kept.nodes n)

-- ---- a node put in place of another, with nothing sent

abbrev pub put : NodeId → State → Node → State
put n s x = record { nodes = changed n x s.nodes; sent = posted n [] s.sent }

pub put_ahead : (n : NodeId) (s : State) (x : Node) → Grew n (s.nodes n) x → Ahead s (put n s x)
put_ahead n s x g m = if_elim (Grew m (s.nodes m)) (is_node m n) x (s.nodes m) (λ e. subst (λ k. Grew k (s.nodes k) x) (sym (is_node-true m n e)) g) (λ e. grew_self m (s.nodes m))

pub put_quiet : (n : NodeId) (s : State) (x : Node) → IsQuiet s (put n s x)
put_quiet n s x l = if_elim (λ ms. ms ≡ s.sent l) (is_node l.from n) (s.sent l ++ messages_to l.to []) (s.sent l) (λ e. append-nil (s.sent l)) (λ e. refl)

-- what a node does without sending
pub record Quietly (n : NodeId) (x : Node) (d : Node × List Envelope) : Type 0 where
  pub silent : d.1 ≡ []
  pub grew : Grew n x d.0

abbrev pub OnDone : (Node × List Envelope → Type 0) → Result (Node × List Envelope) Refusal → Type 0
OnDone P (Ok d) = P d
OnDone P (Err e) = Unit {0}

pulled_grew : (c : Consumer) (q : ℕ) → ConsumerGrew c (pulled c q)
pulled_grew c q = record { marks = λ j. if_elim (λ m. c.marks j ≤ m) (j == q) (c.marks q + 1) (c.marks j) (λ e. let same = ap c.marks (eqb-true j q e) in omega arith) (λ e. omega arith); told = refl; count = omega arith }

merged_grew : (c : Consumer) → ConsumerGrew c (merged_one c)
merged_grew c = record { marks = λ j. omega arith; told = refl; count = omega arith }

pulls_quietly : (f : Flow) (n : NodeId) (q : ℕ) (x : Node) → OnDone (Quietly n x) (does f n (Pulls q) x)
pulls_quietly f node.Ingress q x = tt
pulls_quietly f (node.Control s p) q x = tt
pulls_quietly f node.Egress q x = record { silent = refl; grew = pulled_grew (egress_in x) q }
pulls_quietly f (node.Replica s p w) q x = go (replica_in x) refl
  where
    go : (r : Replica) → replica_in x ≡ r → OnDone (Quietly (node.Replica s p w) x) (as_replica (replica_pulls q r))
    go (Gone i) e = tt
    go (Gathering g) e = tt
    go (Running y) e = record { silent = refl; grew = subst (λ k. ReplicaGrew k (Running (record y { consumer = pulled y.consumer q }))) (sym e) (record { inc = refl; producer = refl; consumer = pulled_grew y.consumer q }) }

makes_quietly : (f : Flow) (x : Node) → OnDone (Quietly node.Ingress x) (does f node.Ingress Makes x)
makes_quietly f x = if_elim (λ r. OnDone (Quietly node.Ingress x) (as_ingress r)) (nat_lt (ingress_in x).makes f.makes) (Ok (record (ingress_in x) { makes = (ingress_in x).makes + 1 }, [])) _
    (λ e. record { silent = refl; grew = (refl, omega arith) }) (λ e. tt)

works_quietly : (f : Flow) (n : NodeId) (x : Node) → MergeIsReady f n x → OnDone (Quietly n x) (does f n Works x)
works_quietly f node.Ingress x h = absurd h
works_quietly f (node.Control s p) x h = absurd h
works_quietly f node.Egress x h = let e : is_ready f (egress_partition f) (egress_in x) ≡ true = h in simp e (record { silent = refl; grew = merged_grew (egress_in x) })
works_quietly f (node.Replica s p w) x h = go (replica_in x) refl h
  where
    go : (r : Replica) → replica_in x ≡ r → ReplicaIsReady f (partition s p) r → OnDone (Quietly (node.Replica s p w) x) (as_replica (replica_works f (partition s p) w r))
    go (Gone i) e h = absurd h
    go (Gathering g) e h = absurd h
    go (Running y) e h = let z : is_ready f (partition s p) y.consumer ≡ true = h in
        simp z (record { silent = refl; grew = subst (λ k. ReplicaGrew k (Running (record y { consumer = merged_one y.consumer }))) (sym e) (record { inc = refl; producer = refl; consumer = merged_grew y.consumer }) })

-- the state after a step that is quiet
pub record IsPut (s : State) (n : NodeId) (t : State) : Type 0 where
  pub node : Node
  pub state : t ≡ put n s node
  pub grew : Grew n (s.nodes n) node

after_put : (f : Flow) (s : State) (n : NodeId) (r : Result (Node × List Envelope) Refusal) → OnDone (Quietly n (s.nodes n)) r → HoldsOnOk (IsPut s n) (after n s r)
after_put f s n (Ok d) h = record { node = d.0; state = λ i. record { nodes = changed n d.0 s.nodes; sent = posted n (h.silent i) s.sent }; grew = h.grew }
after_put f s n (Err x) h = tt

pulled_put : (f : Flow) (s : State) (n : NodeId) (q : ℕ) (o : Option Buffer) (m : Option ℕ) → HoldsOnOk (IsPut s n) (acted f n s (pull_of q o m))
pulled_put f s n q None m = tt
pulled_put f s n q (Some o) None = tt
pulled_put f s n q (Some o) (Some mark) = if_elim (λ r. HoldsOnOk (IsPut s n) (acted f n s r)) (nat_le o.low mark && nat_lt mark o.produced) (Ok (Pulls q)) _
    (λ e. after_put f s n (does f n (Pulls q) (s.nodes n)) (pulls_quietly f n q (s.nodes n))) (λ e. tt)

pub step_put : (f : Flow) (s : State) (e : Event) → IsDrainEvent f s e → HoldsOnOk (IsPut s (at_node e)) (step f s e)
unfolding step
step_put f s (event.Take l k) h = absurd h
step_put f s (event.Kill n) h = absurd h
step_put f s (event.AskStop n) h = absurd h
step_put f s (event.AskBack n) h = absurd h
step_put f s event.Make h = after_put f s node.Ingress (does f node.Ingress Makes (s.nodes node.Ingress)) (makes_quietly f (s.nodes node.Ingress))
step_put f s (event.Work n) h = after_put f s n (does f n Works (s.nodes n)) (works_quietly f n (s.nodes n) h)
step_put f s (event.Pull from to) h =
    let q = source_pulled f from (s.nodes from) to (s.nodes to) in
    pulled_put f s to q (buffer_of f q (part_of to) from (s.nodes from)) (mark_of q to (s.nodes to))

drain_free : (f : Flow) (s : State) (e : Event) → IsDrainEvent f s e → TakesNoMessage e
drain_free f s (event.Take l k) h = absurd h
drain_free f s (event.Kill n) h = tt
drain_free f s (event.AskStop n) h = tt
drain_free f s (event.AskBack n) h = tt
drain_free f s event.Make h = tt
drain_free f s (event.Work n) h = tt
drain_free f s (event.Pull from to) h = tt

-- one event of the drain, as a step
pub record IsDrainStep (f : Flow) (s : State) (e : Event) (t : State) : Type 0 where
  pub drainable : IsDrainable f t
  pub ahead : Ahead s t
  pub quiet : IsQuiet s t

pub drain_step : (f : Flow) → IsFlow f → (s t : State) (e : Event) → IsThere f e → IsDrainEvent f s e → IsDrainable f s → step f s e ≡ Ok t → IsDrainStep f s e t
drain_step f ok s t e there h d done =
    let p : IsPut s (at_node e) t = subst (HoldsOnOk (IsPut s (at_node e))) done (step_put f s e h) in
    let ahead : Ahead s t = subst (Ahead s) (sym p.state) (put_ahead (at_node e) s p.node p.grew) in
    record {
      drainable = record { owed = owed_ahead f s t ahead d.owed; within = within_kept f ok s t e there (drain_free f s e h) d.within done };
      ahead = ahead;
      quiet = subst (IsQuiet s) (sym p.state) (put_quiet (at_node e) s p.node);
    }
