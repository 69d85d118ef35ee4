-- One event of the drain as a step, and many: nodes only take, merge and make more by it, nothing is sent, and the state stays sound.
use Rattle.std.proofs.Common.{◌≡◌, ◌≤◌, ◌+◌, ℕ, zero, suc, true, List, [], ◌∷◌, ◌++◌, ◌&&◌, Option, None, Some, Result, Ok, Err, replicate, refl, sym, ap, ◌∙◌, subst, arith}
use Rattle.std.specs.Prelude.{◌==◌, nat_le, nat_lt}
use Rattle.std.proofs.lemmas.Bool.{eqb-true}
use Rattle.pair_machine.specs.Boundary.{egress_partition}
use Rattle.pair_machine.specs.Consumers.{is_ready, merged_one, pulled}
use Rattle.pair_machine.specs.Drain.{partition}
use Rattle.pair_machine.specs.Flow.{Flow}
use Rattle.pair_machine.specs.Machine.{Buffer}
use Rattle.pair_machine.specs.Numbers.{Consumer}
use Rattle.pair_machine.proofs.Tests.{if_elim}
use Rattle.trio_machine.specs.Drain.{AreDrainEvents, IsDrainEvent, IsQuiet, MergeIsReady, ReplicaIsReady}
use Rattle.trio_machine.specs.Flow.{IsTrioFlow}
use Rattle.trio_machine.specs.Legal.{IsLegalFrom}
use Rattle.trio_machine.specs.Links.{IsThere}
use Rattle.trio_machine.specs.Machine.{State, acted, after, as_ingress, as_replica, at_node, buffer_of, does, egress_in, follow, ingress_in, mark_of, pull_of, put, replica_in, step}
use Rattle.trio_machine.specs.Messages.{Envelope, Makes, Pulls, Refusal, Works}
use Rattle.trio_machine.specs.Numbers.{Gone, Node, Replica, Running, is_node, part_of}
use Rattle.trio_machine.specs.Replicas.{replica_pulls, replica_works}
use Rattle.trio_machine.specs.Sound.{IsSound}
use Rattle.trio_machine.specs.declared.event.TrioEvent.{TrioEvent}
use Rattle.trio_machine.specs.declared.event.TrioEvent.TheVariants as event
use Rattle.trio_machine.specs.declared.node.TrioNode.{TrioNode}
use Rattle.trio_machine.specs.declared.node.TrioNode.TheVariants as node
use Rattle.trio_machine.proofs.DrainMoves.{put_quiet}
use Rattle.trio_machine.proofs.Legal.{follow_err}
use Rattle.trio_machine.proofs.Names.{is_node-true}
use Rattle.trio_machine.proofs.SoundKept.{sound_kept}
use Rattle.trio_machine.proofs.Steps.{HoldsOnOk}

-- ---- nodes that only took, merged and made more

pub record ConsumerGrew (c d : Consumer) : Type 0 where
  pub marks : (q : ℕ) → c.marks q ≤ d.marks q
  pub count : c.count ≤ d.count

-- one that runs runs on, and one that is gone stays gone
abbrev pub ReplicaGrew : Replica → Replica → Type 0
ReplicaGrew Gone r = r ≡ Gone
ReplicaGrew (Running x) Gone = ⊥
ReplicaGrew (Running x) (Running y) = ConsumerGrew x.consumer y.consumer

abbrev pub Grew : TrioNode → Node → Node → Type 0
Grew node.Ingress x y = (ingress_in x).makes ≤ (ingress_in y).makes
Grew (node.Replica s p c) x y = ReplicaGrew (replica_in x) (replica_in y)
Grew (node.Control s p) x y = y ≡ x
Grew node.Egress x y = ConsumerGrew (egress_in x) (egress_in y)

abbrev pub Ahead : State → State → Type 0
Ahead s t = (n : TrioNode) → Grew n (s.nodes n) (t.nodes n)

pub consumer_self : (c : Consumer) → ConsumerGrew c c
consumer_self c = record { marks = λ q. omega arith; count = omega arith }

consumer_on : (c d e : Consumer) → ConsumerGrew c d → ConsumerGrew d e → ConsumerGrew c e
consumer_on c d e a b = record { marks = λ q. let x = a.marks q in let y = b.marks q in omega arith; count = omega (arith, a.count, b.count) }

replica_self : (r : Replica) → ReplicaGrew r r
replica_self Gone = refl
replica_self (Running x) = consumer_self x.consumer

replica_on : (r s t : Replica) → ReplicaGrew r s → ReplicaGrew s t → ReplicaGrew r t
replica_on Gone s t a b = let z : ReplicaGrew Gone t = subst (λ k. ReplicaGrew k t) a b in z
replica_on (Running x) Gone t a b = absurd a
replica_on (Running x) (Running y) Gone a b = absurd b
replica_on (Running x) (Running y) (Running z) a b = consumer_on x.consumer y.consumer z.consumer a b

pub grew_self : (n : TrioNode) (x : Node) → Grew n x x
grew_self node.Ingress x = omega arith
grew_self (node.Replica s p c) x = replica_self (replica_in x)
grew_self (node.Control s p) x = refl
grew_self node.Egress x = consumer_self (egress_in x)

pub grew_on : (n : TrioNode) (x y z : Node) → Grew n x y → Grew n y z → Grew n x z
grew_on node.Ingress x y z a b = omega (arith, a, b)
grew_on (node.Replica s p c) x y z a b = replica_on (replica_in x) (replica_in y) (replica_in z) a b
grew_on (node.Control s p) x y z a b = b ∙ a
grew_on node.Egress x y z a b = consumer_on (egress_in x) (egress_in y) (egress_in z) a b

put_ahead : (n : TrioNode) (s : State) (x : Node) → Grew n (s.nodes n) x → Ahead s (put n s x [])
put_ahead n s x g m = if_elim (Grew m (s.nodes m)) (is_node m n) x (s.nodes m) (λ e. subst (λ k. Grew k (s.nodes k) x) (sym (is_node-true m n e)) g) (λ e. grew_self m (s.nodes m))

-- ---- what a node does without sending

record Quietly (n : TrioNode) (x : Node) (d : Node × List Envelope) : Type 0 where
  silent : d.1 ≡ []
  grew : Grew n x d.0

abbrev OnDone : (Node × List Envelope → Type 0) → Result (Node × List Envelope) Refusal → Type 0
OnDone P (Ok d) = P d
OnDone P (Err e) = Unit {0}

pulled_grew : (c : Consumer) (q : ℕ) → ConsumerGrew c (pulled c q)
pulled_grew c q = record { marks = λ j. if_elim (λ m. c.marks j ≤ m) (j == q) (c.marks q + 1) (c.marks j) (λ e. let same = ap c.marks (eqb-true j q e) in omega arith) (λ e. omega arith); count = omega arith }

merged_grew : (c : Consumer) → ConsumerGrew c (merged_one c)
merged_grew c = record { marks = λ j. omega arith; count = omega arith }

pulls_quietly : (f : Flow) (n : TrioNode) (q : ℕ) (x : Node) → OnDone (Quietly n x) (does f n (Pulls q) x)
pulls_quietly f node.Ingress q x = tt
pulls_quietly f (node.Control s p) q x = tt
pulls_quietly f node.Egress q x = record { silent = refl; grew = pulled_grew (egress_in x) q }
pulls_quietly f (node.Replica s p c) q x = go (replica_in x) refl
  where
    go : (r : Replica) → replica_in x ≡ r → OnDone (Quietly (node.Replica s p c) x) (as_replica (replica_pulls q r))
    go Gone e = tt
    go (Running y) e = record { silent = refl; grew = subst (λ k. ReplicaGrew k (Running (record y { consumer = pulled y.consumer q }))) (sym e) (pulled_grew y.consumer q) }

makes_quietly : (f : Flow) (x : Node) → OnDone (Quietly node.Ingress x) (does f node.Ingress Makes x)
makes_quietly f x = if_elim (λ r. OnDone (Quietly node.Ingress x) (as_ingress r)) (nat_lt (ingress_in x).makes f.makes) (Ok (record (ingress_in x) { makes = (ingress_in x).makes + 1 }, [])) _
    (λ e. record { silent = refl; grew = omega arith }) (λ e. tt)

works_quietly : (f : Flow) (n : TrioNode) (x : Node) → MergeIsReady f n x → OnDone (Quietly n x) (does f n Works x)
works_quietly f node.Ingress x h = absurd h
works_quietly f (node.Control s p) x h = absurd h
works_quietly f node.Egress x h = let e : is_ready f (egress_partition f) (egress_in x) ≡ true = h in simp e (record { silent = refl; grew = merged_grew (egress_in x) })
works_quietly f (node.Replica s p c) x h = go (replica_in x) refl h
  where
    go : (r : Replica) → replica_in x ≡ r → ReplicaIsReady f (partition s p) r → OnDone (Quietly (node.Replica s p c) x) (as_replica (replica_works f (partition s p) r))
    go Gone e h = absurd h
    go (Running y) e h = let z : is_ready f (partition s p) y.consumer ≡ true = h in
        simp z (record { silent = refl; grew = subst (λ k. ReplicaGrew k (Running (record y { consumer = merged_one y.consumer }))) (sym e) (merged_grew y.consumer) })

-- the state after a step that is quiet
record IsPut (s : State) (n : TrioNode) (t : State) : Type 0 where
  node : Node
  state : t ≡ put n s node []
  grew : Grew n (s.nodes n) node

after_put : (f : Flow) (s : State) (n : TrioNode) (r : Result (Node × List Envelope) Refusal) → OnDone (Quietly n (s.nodes n)) r → HoldsOnOk (IsPut s n) (after n s r)
after_put f s n (Ok d) h = record { node = d.0; state = λ i. put n s d.0 (h.silent i); grew = h.grew }
after_put f s n (Err x) h = tt

pulled_put : (f : Flow) (s : State) (n : TrioNode) (q : ℕ) (o : Option Buffer) (m : Option ℕ) → HoldsOnOk (IsPut s n) (acted f n s (pull_of q o m))
pulled_put f s n q None m = tt
pulled_put f s n q (Some o) None = tt
pulled_put f s n q (Some o) (Some mark) = if_elim (λ r. HoldsOnOk (IsPut s n) (acted f n s r)) (nat_le o.low mark && nat_lt mark o.produced) (Ok (Pulls q)) _
    (λ e. after_put f s n (does f n (Pulls q) (s.nodes n)) (pulls_quietly f n q (s.nodes n))) (λ e. tt)

step_put : (f : Flow) (s : State) (e : TrioEvent) → IsDrainEvent f s e → HoldsOnOk (IsPut s (at_node e)) (step f s e)
unfolding step
step_put f s (event.Take from to k) h = absurd h
step_put f s (event.Kill n) h = absurd h
step_put f s event.Make h = after_put f s node.Ingress (does f node.Ingress Makes (s.nodes node.Ingress)) (makes_quietly f (s.nodes node.Ingress))
step_put f s (event.Work n) h = after_put f s n (does f n Works (s.nodes n)) (works_quietly f n (s.nodes n) h)
step_put f s (event.Pull from to) h = pulled_put f s to (part_of from) (buffer_of f (part_of to) from (s.nodes from)) (mark_of (part_of from) to (s.nodes to))

-- ---- one event of the drain, as a step

pub record IsDrainStep (f : Flow) (s t : State) : Type 0 where
  pub sound : IsSound f t
  pub ahead : Ahead s t
  pub quiet : IsQuiet s t

pub drain_step : (f : Flow) → IsTrioFlow f → (s t : State) (e : TrioEvent) → IsThere f e → IsDrainEvent f s e → IsSound f s → step f s e ≡ Ok t → IsDrainStep f s t
drain_step f trio s t e there h sound done =
    let p : IsPut s (at_node e) t = subst (HoldsOnOk (IsPut s (at_node e))) done (step_put f s e h) in
    record {
      sound = subst (HoldsOnOk (IsSound f)) done (sound_kept f trio s sound e there);
      ahead = subst (Ahead s) (sym p.state) (put_ahead (at_node e) s p.node p.grew);
      quiet = subst (IsQuiet s) (sym p.state) (put_quiet (at_node e) s p.node);
    }

-- ---- many

along_on : (f : Flow) (s m t : State) → IsDrainStep f s m → IsDrainStep f m t → IsDrainStep f s t
along_on f s m t a b = record {
  sound = b.sound;
  ahead = λ n. grew_on n (s.nodes n) (m.nodes n) (t.nodes n) (a.ahead n) (b.ahead n);
  quiet = λ from to. b.quiet from to ∙ a.quiet from to;
}

pub along : (f : Flow) → IsTrioFlow f → (es : List TrioEvent) (s t : State) → IsSound f s → IsLegalFrom f s es t → AreDrainEvents f es (Ok s) → IsDrainStep f s t
along f trio [] s t g legal ready = let same : s ≡ t = cc legal.leads in subst (IsDrainStep f s) same (record { sound = g; ahead = λ n. grew_self n (s.nodes n); quiet = λ from to. refl })
along f trio (e ∷ es) s t g legal ready = go (step f s e) refl legal.leads ready.1 (λ m. along f trio es m t)
  where
    go : (r : Result State Refusal) → step f s e ≡ r → follow f es r ≡ Ok t → AreDrainEvents f es r → ((m : State) → IsSound f m → IsLegalFrom f m es t → AreDrainEvents f es (Ok m) → IsDrainStep f m t) → IsDrainStep f s t
    go (Ok m) q l r later =
        let x = drain_step f trio s m e legal.there.0 ready.0 g q in
        along_on f s m t x (later m x.sound (record { there = legal.there.1; leads = l }) r)
    go (Err x) q l r later = let z : Err x ≡ Ok t = sym (follow_err f es x) ∙ l in let w : ⊥ = cc z in absurd w

-- the events after the first ones
pub drains_split : (f : Flow) (xs ys : List TrioEvent) (r : Result State Refusal) (t : State) → follow f xs r ≡ Ok t → AreDrainEvents f (xs ++ ys) r → AreDrainEvents f ys (Ok t)
drains_split f [] ys r t l h = subst (AreDrainEvents f ys) l h
drains_split f (x ∷ xs) ys (Ok s) t l h = drains_split f xs ys (step f s x) t l h.1
drains_split f (x ∷ xs) ys (Err e) t l h = let w : ⊥ = cc l in absurd w

-- the first events
pub drains_front : (f : Flow) (xs ys : List TrioEvent) (r : Result State Refusal) → AreDrainEvents f (xs ++ ys) r → AreDrainEvents f xs r
drains_front f [] ys r h = tt
drains_front f (x ∷ xs) ys (Ok s) h = (h.0, drains_front f xs ys (step f s x) h.1)
drains_front f (x ∷ xs) ys (Err e) h = tt

-- and one list after another
pub drains_on : (f : Flow) (xs ys : List TrioEvent) (r : Result State Refusal) (t : State) → follow f xs r ≡ Ok t → AreDrainEvents f xs r → AreDrainEvents f ys (Ok t) → AreDrainEvents f (xs ++ ys) r
drains_on f [] ys r t leads a b = subst (AreDrainEvents f ys) (sym leads) b
drains_on f (x ∷ xs) ys (Ok s) t leads a b = (a.0, drains_on f xs ys (step f s x) t leads a.1 b)
drains_on f (x ∷ xs) ys (Err e) t leads a b = tt

-- the same event again and again
pub replicate_join : {X : Type 0} (x : X) (m k n : ℕ) → n ≡ m + k → replicate n x ≡ replicate m x ++ replicate k x
replicate_join x zero k n h = let e : n ≡ k = omega arith in ap (λ j. replicate j x) e
replicate_join x (suc m) k zero h = absurd (omega arith)
replicate_join x (suc m) k (suc n) h = let e : n ≡ m + k = omega arith in ap (λ xs. x ∷ xs) (replicate_join x m k n e)
