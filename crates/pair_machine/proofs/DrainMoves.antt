-- When the drain's events are steps, and what they give: a consumer that runs takes one more item, or merges one more.
use Rattle.std.proofs.Common.{◌≡◌, ◌<◌, ◌≤◌, ℕ, true, [], Some, Ok, refl, ap, ◌∙◌}
use Rattle.std.specs.Prelude.{nat_le, nat_lt}
use Rattle.std.proofs.lemmas.Bool.{le-leb, lt-ltb}
use Rattle.tuple_edge.specs.declared.event.Event.{Event}
use Rattle.tuple_edge.specs.declared.event.Event.TheVariants as event
use Rattle.tuple_edge.specs.declared.node.NodeId.{NodeId}
use Rattle.tuple_edge.specs.declared.node.NodeId.TheVariants as node
use Rattle.tuple_edge.specs.Node.{part_of}
use Rattle.pair_machine.specs.Boundary.{egress_partition}
use Rattle.pair_machine.specs.Consumers.{is_ready, merged_one, pulled}
use Rattle.pair_machine.specs.Controllers.{counts}
use Rattle.pair_machine.specs.Drain.{MergeIsReady, ReplicaIsReady, consumer_in, partition}
use Rattle.pair_machine.specs.Flow.{Flow}
use Rattle.pair_machine.specs.Lengths.{ConsumerBound, NodeBound, ReplicaBound}
use Rattle.pair_machine.specs.Machine.{Buffer, State, act_of, acted, after, as_replica, at_node, buffer_of, does, egress_in, mark_in, mark_of, new_consumer, pull_of, replica_in, source_pulled, step}
use Rattle.pair_machine.specs.Messages.{Act, Pulls, Works}
use Rattle.pair_machine.specs.Numbers.{Consumer, EgressNode, Gathering, Gone, Node, Partition, Replica, ReplicaNode, Running, Watched}
use Rattle.pair_machine.specs.Replicas.{inc_of, replica_pulls, replica_works}
use Rattle.pair_machine.specs.Sound.{IsRunning, MarkAtLeast}
use Rattle.pair_machine.proofs.DrainSteps.{ConsumerGrew, Grew, ReplicaGrew, put}
use Rattle.pair_machine.proofs.Names.{node_self}

-- ---- consumers: replicas and egress

abbrev pub partition_at : Flow → NodeId → Partition
partition_at f node.Ingress = partition 0 0
partition_at f (node.Replica s p w) = partition s p
partition_at f (node.Control s p) = partition 0 0
partition_at f node.Egress = egress_partition f

abbrev pub consumer_at : NodeId → Node → Consumer
consumer_at node.Ingress x = new_consumer
consumer_at (node.Replica s p w) x = consumer_in (replica_in x)
consumer_at (node.Control s p) x = new_consumer
consumer_at node.Egress x = egress_in x

-- it is a consumer that runs
abbrev pub Eats : NodeId → Node → Type 0
Eats node.Ingress x = ⊥
Eats (node.Replica s p w) x = IsRunning (replica_in x)
Eats (node.Control s p) x = ⊥
Eats node.Egress x = Unit {0}

mark_running : (q : ℕ) (r : Replica) → IsRunning r → mark_in q r ≡ Some ((consumer_in r).marks q)
mark_running q (Gone i) h = absurd h
mark_running q (Running x) h = refl
mark_running q (Gathering g) h = absurd h

pub mark_there : (to : NodeId) (x : Node) (q : ℕ) → Eats to x → mark_of q to x ≡ Some ((consumer_at to x).marks q)
mark_there node.Ingress x q h = absurd h
mark_there (node.Replica s p w) x q h = mark_running q (replica_in x) h
mark_there (node.Control s p) x q h = absurd h
mark_there node.Egress x q h = refl

-- ---- a consumer that grew

pub running_grew : (r s : Replica) → ReplicaGrew r s → IsRunning r → IsRunning s × (inc_of s ≡ inc_of r)
running_grew (Gone i) s g h = absurd h
running_grew (Gathering x) s g h = absurd h
running_grew (Running x) (Gone i) g h = absurd g
running_grew (Running x) (Gathering y) g h = absurd g
running_grew (Running x) (Running y) g h = (tt, g.inc)

replica_grew : (r s : Replica) → ReplicaGrew r s → IsRunning r → ConsumerGrew (consumer_in r) (consumer_in s)
replica_grew (Gone i) s g h = absurd h
replica_grew (Gathering x) s g h = absurd h
replica_grew (Running x) (Gone i) g h = absurd g
replica_grew (Running x) (Gathering y) g h = absurd g
replica_grew (Running x) (Running y) g h = g.consumer

pub eats_grew : (to : NodeId) (x y : Node) → Grew to x y → Eats to x → Eats to y
eats_grew node.Ingress x y g h = absurd h
eats_grew (node.Replica s p w) x y g h = (running_grew (replica_in x) (replica_in y) g h).0
eats_grew (node.Control s p) x y g h = absurd h
eats_grew node.Egress x y g h = tt

pub consumer_grew : (to : NodeId) (x y : Node) → Grew to x y → Eats to x → ConsumerGrew (consumer_at to x) (consumer_at to y)
consumer_grew node.Ingress x y g h = absurd h
consumer_grew (node.Replica s p w) x y g h = replica_grew (replica_in x) (replica_in y) g h
consumer_grew (node.Control s p) x y g h = absurd h
consumer_grew node.Egress x y g h = g

replica_bound : (f : Flow) (p : Partition) (r : Replica) → IsRunning r → ReplicaBound f p r → ConsumerBound f p (consumer_in r)
replica_bound f p (Gone i) h b = absurd h
replica_bound f p (Running x) h b = b.0
replica_bound f p (Gathering g) h b = absurd h

pub bound_of : (f : Flow) (to : NodeId) (x : Node) → Eats to x → NodeBound f to x → ConsumerBound f (partition_at f to) (consumer_at to x)
bound_of f node.Ingress x h b = absurd h
bound_of f (node.Replica s p w) x h b = replica_bound f (partition s p) (replica_in x) h b
bound_of f (node.Control s p) x h b = absurd h
bound_of f node.Egress x h b = b

pub mark_counted : (q k : ℕ) (h : Watched) (r : Replica) → MarkAtLeast q k h r → IsRunning r → counts h (inc_of r) ≡ true → k ≤ (consumer_in r).marks q
mark_counted q k h (Gone i) m run c = absurd run
mark_counted q k h (Running x) m run c = m c
mark_counted q k h (Gathering g) m run c = absurd run

-- ---- what a consumer does

-- what an act makes of a node that sends nothing by it
pub record Does (f : Flow) (to : NodeId) (a : Act) (x : Node) (c : Consumer) : Type 0 where
  pub node : Node
  pub done : does f to a x ≡ Ok (node, [])
  pub eats : Eats to node
  pub consumer : consumer_at to node ≡ c

pub pulls_done : (f : Flow) (to : NodeId) (q : ℕ) (x : Node) → Eats to x → Does f to (Pulls q) x (pulled (consumer_at to x) q)
pulls_done f node.Ingress q x h = absurd h
pulls_done f (node.Control s p) q x h = absurd h
pulls_done f node.Egress q x h = record { node = EgressNode (pulled (egress_in x) q); done = refl; eats = tt; consumer = refl }
pulls_done f (node.Replica s p w) q x h = let z = go (replica_in x) h in record { node = ReplicaNode z.0; done = z.1; eats = z.2; consumer = z.3 }
  where
    go : (r : Replica) → IsRunning r → (y : Replica) × (as_replica (replica_pulls q r) ≡ Ok (ReplicaNode y, [])) × IsRunning y × (consumer_in y ≡ pulled (consumer_in r) q)
    go (Gone i) h = absurd h
    go (Gathering g) h = absurd h
    go (Running y) h = (Running (record y { consumer = pulled y.consumer q }), refl, tt, refl)

pub works_done : (f : Flow) (to : NodeId) (x : Node) → Eats to x → is_ready f (partition_at f to) (consumer_at to x) ≡ true → Does f to Works x (merged_one (consumer_at to x))
works_done f node.Ingress x h e = absurd h
works_done f (node.Control s p) x h e = absurd h
works_done f node.Egress x h e = record { node = EgressNode (merged_one (egress_in x)); done = simp e; eats = tt; consumer = refl }
works_done f (node.Replica s p w) x h e = let z = go (replica_in x) h e in record { node = ReplicaNode z.0; done = z.1; eats = z.2; consumer = z.3 }
  where
    go : (r : Replica) → IsRunning r → is_ready f (partition s p) (consumer_in r) ≡ true → (y : Replica) × (as_replica (replica_works f (partition s p) w r) ≡ Ok (ReplicaNode y, [])) × IsRunning y × (consumer_in y ≡ merged_one (consumer_in r))
    go (Gone i) h e = absurd h
    go (Gathering g) h e = absurd h
    go (Running y) h e = (Running (record y { consumer = merged_one y.consumer }), simp e, tt, refl)

pub ready_there : (f : Flow) (to : NodeId) (x : Node) → Eats to x → is_ready f (partition_at f to) (consumer_at to x) ≡ true → MergeIsReady f to x
ready_there f node.Ingress x h e = absurd h
ready_there f (node.Control s p) x h e = absurd h
ready_there f node.Egress x h e = e
ready_there f (node.Replica s p w) x h e = go (replica_in x) h e
  where
    go : (r : Replica) → IsRunning r → is_ready f (partition s p) (consumer_in r) ≡ true → ReplicaIsReady f (partition s p) r
    go (Gone i) h e = absurd h
    go (Gathering g) h e = absurd h
    go (Running y) h e = e

-- ---- the steps

pub put_there : (n : NodeId) (s : State) (x : Node) → (put n s x).nodes n ≡ x
put_there n s x = simp node_self

pub act_done : (f : Flow) (s : State) (e : Event) (a : Act) (x : Node) → act_of f s e ≡ Ok a → does f (at_node e) a (s.nodes (at_node e)) ≡ Ok (x, []) → step f s e ≡ Ok (put (at_node e) s x)
unfolding step
act_done f s e a x act done = ap (acted f (at_node e) s) act ∙ ap (after (at_node e) s) done

-- a pull is one where the item after the mark is in the buffer of the edge that it uses
pub pull_act : (f : Flow) (s : State) (from to : NodeId) (q : ℕ) (o : Buffer) (mark : ℕ) → source_pulled f from (s.nodes from) to (s.nodes to) ≡ q →
    buffer_of f q (part_of to) from (s.nodes from) ≡ Some o → mark_of q to (s.nodes to) ≡ Some mark → o.low ≤ mark → mark < o.produced → act_of f s (event.Pull from to) ≡ Ok (Pulls q)
pull_act f s from to q o mark source buffer marks low made =
    let at : act_of f s (event.Pull from to) ≡ pull_of q (buffer_of f q (part_of to) from (s.nodes from)) (mark_of q to (s.nodes to)) =
    λ i. pull_of (source i) (buffer_of f (source i) (part_of to) from (s.nodes from)) (mark_of (source i) to (s.nodes to)) in
    let with : pull_of q (buffer_of f q (part_of to) from (s.nodes from)) (mark_of q to (s.nodes to)) ≡ pull_of q (Some o) (Some mark) = λ i. pull_of q (buffer i) (marks i) in
    let a : nat_le o.low mark ≡ true = le-leb o.low mark low in
    let b : nat_lt mark o.produced ≡ true = lt-ltb mark o.produced made in
    let last : pull_of q (Some o) (Some mark) ≡ Ok (Pulls q) = simp (a, b) in
    at ∙ (with ∙ last)
