-- When the drain's events are steps, and what they give: a consumer that runs takes one more item, or merges one more.
use Rattle.std.proofs.Common.{◌≡◌, ◌<◌, ◌≤◌, ℕ, zero, suc, true, List, [], ◌∷◌, ◌++◌, Some, Result, Ok, Err, refl, sym, ap, ◌∙◌, subst, arith}
use Rattle.std.specs.Prelude.{nat_le, nat_lt, replicate}
use Rattle.std.proofs.lemmas.Bool.{le-leb, lt-ltb}
use Rattle.std.proofs.lemmas.List.{append-nil}
use Rattle.pair_machine.specs.Boundary.{egress_partition}
use Rattle.pair_machine.specs.Consumers.{is_ready, merged_one, pulled}
use Rattle.pair_machine.specs.Drain.{partition}
use Rattle.pair_machine.specs.Flow.{Flow}
use Rattle.pair_machine.specs.Lengths.{ConsumerBound}
use Rattle.pair_machine.specs.Machine.{Buffer, new_consumer}
use Rattle.pair_machine.specs.Numbers.{Consumer, Partition}
use Rattle.pair_machine.proofs.Tests.{if_elim}
use Rattle.trio_machine.specs.Drain.{AreDrainEvents, IsQuiet, MergeIsReady, ReplicaIsReady, consumer_in}
use Rattle.trio_machine.specs.Legal.{IsLegalFrom}
use Rattle.trio_machine.specs.Lengths.{NodeBound, ReplicaBound}
use Rattle.trio_machine.specs.Machine.{State, act_of, acted, after, as_replica, at_node, buffer_of, does, egress_in, follow, ingress_in, mark_in, mark_of, messages_to, pull_of, put, replica_in, step}
use Rattle.trio_machine.specs.Messages.{Act, Pulls, Refusal, Works}
use Rattle.trio_machine.specs.Numbers.{EgressNode, Gone, Node, Replica, ReplicaNode, Running, is_node, part_of}
use Rattle.trio_machine.specs.Replicas.{replica_pulls, replica_works}
use Rattle.trio_machine.specs.Reports.{IsRunning}
use Rattle.trio_machine.specs.declared.event.TrioEvent.{TrioEvent}
use Rattle.trio_machine.specs.declared.event.TrioEvent.TheVariants as event
use Rattle.trio_machine.specs.declared.node.TrioNode.{TrioNode}
use Rattle.trio_machine.specs.declared.node.TrioNode.TheVariants as node
use Rattle.trio_machine.proofs.Legal.{legal_join}
use Rattle.trio_machine.proofs.Names.{is_node-true}

-- ---- what the drain leaves of a node

-- who runs runs on, and no count falls
abbrev pub Stays : TrioNode → Node → Node → Type 0
Stays node.Ingress x y = (ingress_in x).makes ≤ (ingress_in y).makes
Stays (node.Replica s p c) x y = (IsRunning (replica_in x) → IsRunning (replica_in y)) × ((consumer_in (replica_in x)).count ≤ (consumer_in (replica_in y)).count)
Stays (node.Control s p) x y = y ≡ x
Stays node.Egress x y = Unit {0}

stays_self : (n : TrioNode) (x : Node) → Stays n x x
stays_self node.Ingress x = omega arith
stays_self (node.Replica s p c) x = ((λ h. h), omega arith)
stays_self (node.Control s p) x = refl
stays_self node.Egress x = tt

stays_on : (n : TrioNode) (x y z : Node) → Stays n x y → Stays n y z → Stays n x z
stays_on node.Ingress x y z a b = omega (arith, a, b)
stays_on (node.Replica s p c) x y z a b = ((λ h. b.0 (a.0 h)), omega (arith, a.1, b.1))
stays_on (node.Control s p) x y z a b = b ∙ a
stays_on node.Egress x y z a b = tt

pub put_stays : (n : TrioNode) (s : State) (x : Node) → Stays n (s.nodes n) x → (m : TrioNode) → Stays m (s.nodes m) ((put n s x []).nodes m)
put_stays n s x h m = if_elim (Stays m (s.nodes m)) (is_node m n) x (s.nodes m) (λ e. subst (λ k. Stays k (s.nodes k) x) (sym (is_node-true m n e)) h) (λ e. stays_self m (s.nodes m))

pub put_quiet : (n : TrioNode) (s : State) (x : Node) → IsQuiet s (put n s x [])
put_quiet n s x from to = if_elim (λ ms. ms ≡ s.sent from to) (is_node from n) (s.sent from to ++ messages_to to []) (s.sent from to) (λ e. append-nil (s.sent from to)) (λ e. refl)

-- ---- events that lead on quietly

drains_join : (f : Flow) (xs ys : List TrioEvent) (r : Result State Refusal) (t : State) → follow f xs r ≡ Ok t → AreDrainEvents f xs r → AreDrainEvents f ys (Ok t) → AreDrainEvents f (xs ++ ys) r
drains_join f [] ys r t leads a b = subst (AreDrainEvents f ys) (sym leads) b
drains_join f (x ∷ xs) ys (Ok s) t leads a b = (a.0, drains_join f xs ys (step f s x) t leads a.1 b)
drains_join f (x ∷ xs) ys (Err e) t leads a b = tt

pub record Went (f : Flow) (s : State) (es : List TrioEvent) (t : State) : Type 0 where
  pub legal : IsLegalFrom f s es t
  pub ready : AreDrainEvents f es (Ok s)
  pub stays : (n : TrioNode) → Stays n (s.nodes n) (t.nodes n)
  pub quiet : IsQuiet s t

pub went_none : (f : Flow) (s : State) → Went f s [] s
went_none f s = record { legal = record { there = tt; leads = refl }; ready = tt; stays = λ n. stays_self n (s.nodes n); quiet = λ from to. refl }

pub went_on : (f : Flow) (s t u : State) (xs ys : List TrioEvent) → Went f s xs t → Went f t ys u → Went f s (xs ++ ys) u
went_on f s t u xs ys a b = record {
  legal = legal_join f s t u xs ys a.legal b.legal;
  ready = drains_join f xs ys (Ok s) t a.legal.leads a.ready b.ready;
  stays = λ n. stays_on n (s.nodes n) (t.nodes n) (u.nodes n) (a.stays n) (b.stays n);
  quiet = λ from to. b.quiet from to ∙ a.quiet from to;
}

-- the same event, until a measure is none
pub looped : (f : Flow) (e : TrioEvent) (I : State → Type 0) (left : State → ℕ) →
    ((s : State) (m : ℕ) → I s → left s ≡ suc m → (t : State) × Went f s (e ∷ []) t × I t × (left t ≡ m)) →
    (n : ℕ) (s : State) → I s → left s ≡ n → (t : State) × Went f s (replicate n e) t × I t × (left t ≡ 0)
looped f e I left one zero s i z = (s, went_none f s, i, z)
looped f e I left one (suc m) s i z =
    let a = one s m i z in
    let b = looped f e I left one m a.0 a.2 a.3 in
    (b.0, went_on f s a.0 b.0 (e ∷ []) (replicate m e) a.1 b.1, b.2, b.3)

-- ---- consumers: replicas and egress

abbrev pub partition_at : Flow → TrioNode → Partition
partition_at f node.Ingress = partition 0 0
partition_at f (node.Replica s p c) = partition s p
partition_at f (node.Control s p) = partition 0 0
partition_at f node.Egress = egress_partition f

abbrev pub consumer_at : TrioNode → Node → Consumer
consumer_at node.Ingress x = new_consumer
consumer_at (node.Replica s p c) x = consumer_in (replica_in x)
consumer_at (node.Control s p) x = new_consumer
consumer_at node.Egress x = egress_in x

-- it is a consumer that runs
abbrev pub Eats : TrioNode → Node → Type 0
Eats node.Ingress x = ⊥
Eats (node.Replica s p c) x = IsRunning (replica_in x)
Eats (node.Control s p) x = ⊥
Eats node.Egress x = Unit {0}

mark_running : (q : ℕ) (r : Replica) → IsRunning r → mark_in q r ≡ Some ((consumer_in r).marks q)
mark_running q Gone h = absurd h
mark_running q (Running x) h = refl

pub mark_there : (to : TrioNode) (x : Node) (q : ℕ) → Eats to x → mark_of q to x ≡ Some ((consumer_at to x).marks q)
mark_there node.Ingress x q h = absurd h
mark_there (node.Replica s p c) x q h = mark_running q (replica_in x) h
mark_there (node.Control s p) x q h = absurd h
mark_there node.Egress x q h = refl

replica_bound : (f : Flow) (p : Partition) (r : Replica) → IsRunning r → ReplicaBound f p r → ConsumerBound f p (consumer_in r)
replica_bound f p Gone h b = absurd h
replica_bound f p (Running x) h b = b.0

pub bound_of : (f : Flow) (to : TrioNode) (x : Node) → Eats to x → NodeBound f to x → ConsumerBound f (partition_at f to) (consumer_at to x)
bound_of f node.Ingress x h b = absurd h
bound_of f (node.Replica s p c) x h b = replica_bound f (partition s p) (replica_in x) h b
bound_of f (node.Control s p) x h b = absurd h
bound_of f node.Egress x h b = b

-- ---- what a consumer does

-- what an act makes of a node that sends nothing by it
pub record Does (f : Flow) (to : TrioNode) (a : Act) (x : Node) (c : Consumer) : Type 0 where
  pub node : Node
  pub done : does f to a x ≡ Ok (node, [])
  pub stays : Stays to x node
  pub consumer : consumer_at to node ≡ c

pub pulls_done : (f : Flow) (to : TrioNode) (q : ℕ) (x : Node) → Eats to x → Does f to (Pulls q) x (pulled (consumer_at to x) q)
pulls_done f node.Ingress q x h = absurd h
pulls_done f (node.Control s p) q x h = absurd h
pulls_done f node.Egress q x h = record { node = EgressNode (pulled (egress_in x) q); done = refl; stays = tt; consumer = refl }
pulls_done f (node.Replica s p c) q x h = let z = go (replica_in x) h in record { node = ReplicaNode z.0; done = z.1; stays = z.2; consumer = z.3 }
  where
    go : (r : Replica) → IsRunning r → (y : Replica) × (as_replica (replica_pulls q r) ≡ Ok (ReplicaNode y, [])) × ((IsRunning r → IsRunning y) × ((consumer_in r).count ≤ (consumer_in y).count)) × (consumer_in y ≡ pulled (consumer_in r) q)
    go Gone h = absurd h
    go (Running y) h = (Running (record y { consumer = pulled y.consumer q }), refl, ((λ z. tt), omega arith), refl)

pub works_done : (f : Flow) (to : TrioNode) (x : Node) → Eats to x → is_ready f (partition_at f to) (consumer_at to x) ≡ true → Does f to Works x (merged_one (consumer_at to x))
works_done f node.Ingress x h e = absurd h
works_done f (node.Control s p) x h e = absurd h
works_done f node.Egress x h e = record { node = EgressNode (merged_one (egress_in x)); done = simp e; stays = tt; consumer = refl }
works_done f (node.Replica s p c) x h e = let z = go (replica_in x) h e in record { node = ReplicaNode z.0; done = z.1; stays = z.2; consumer = z.3 }
  where
    go : (r : Replica) → IsRunning r → is_ready f (partition s p) (consumer_in r) ≡ true
        → (y : Replica) × (as_replica (replica_works f (partition s p) r) ≡ Ok (ReplicaNode y, [])) × ((IsRunning r → IsRunning y) × ((consumer_in r).count ≤ (consumer_in y).count)) × (consumer_in y ≡ merged_one (consumer_in r))
    go Gone h e = absurd h
    go (Running y) h e = (Running (record y { consumer = merged_one y.consumer }), simp e, ((λ z. tt), omega arith), refl)

pub ready_there : (f : Flow) (to : TrioNode) (x : Node) → Eats to x → is_ready f (partition_at f to) (consumer_at to x) ≡ true → MergeIsReady f to x
ready_there f node.Ingress x h e = absurd h
ready_there f (node.Control s p) x h e = absurd h
ready_there f node.Egress x h e = e
ready_there f (node.Replica s p c) x h e = go (replica_in x) h e
  where
    go : (r : Replica) → IsRunning r → is_ready f (partition s p) (consumer_in r) ≡ true → ReplicaIsReady f (partition s p) r
    go Gone h e = absurd h
    go (Running y) h e = e

-- ---- the steps

pub act_done : (f : Flow) (s : State) (e : TrioEvent) (a : Act) (x : Node) → act_of f s e ≡ Ok a → does f (at_node e) a (s.nodes (at_node e)) ≡ Ok (x, []) → step f s e ≡ Ok (put (at_node e) s x [])
unfolding step
act_done f s e a x act done = ap (acted f (at_node e) s) act ∙ ap (after (at_node e) s) done

-- a pull is one where the item after the mark is in the buffer of the edge that it uses
pub pull_act : (f : Flow) (s : State) (from to : TrioNode) (q : ℕ) (o : Buffer) (mark : ℕ) → part_of from ≡ q →
    buffer_of f (part_of to) from (s.nodes from) ≡ Some o → mark_of q to (s.nodes to) ≡ Some mark → o.low ≤ mark → mark < o.produced → act_of f s (event.Pull from to) ≡ Ok (Pulls q)
pull_act f s from to q o mark source buffer marks low made =
    let at : act_of f s (event.Pull from to) ≡ pull_of q (buffer_of f (part_of to) from (s.nodes from)) (mark_of q to (s.nodes to)) =
    λ i. pull_of (source i) (buffer_of f (part_of to) from (s.nodes from)) (mark_of (source i) to (s.nodes to)) in
    let with : pull_of q (buffer_of f (part_of to) from (s.nodes from)) (mark_of q to (s.nodes to)) ≡ pull_of q (Some o) (Some mark) = λ i. pull_of q (buffer i) (marks i) in
    let a : nat_le o.low mark ≡ true = le-leb o.low mark low in
    let b : nat_lt mark o.produced ≡ true = lt-ltb mark o.produced made in
    let last : pull_of q (Some o) (Some mark) ≡ Ok (Pulls q) = simp (a, b) in
    at ∙ (with ∙ last)
