-- A step of the machine is some turns of each pair.
use Rattle.std.proofs.Common.{◌≡◌, inl, inr, ◌<◌, ◌≤◌, ◌-◌, ℕ, Bool, true, false, List, [], ◌∷◌, Option, None, Some, Result, Ok, Err, ◌&&◌, refl, sym, subst, subst₂, zero, suc, arith}
use Rattle.std.specs.Prelude.{◌==◌, nat_lt, nat_le, unwrap_or}
use Rattle.std.proofs.lemmas.Bool.{eqb-true, ltb-true, leb-true}
use Rattle.tuple_edge.specs.declared.event.Event.TheVariants as event
use Rattle.tuple_edge.specs.declared.node.NodeId.TheVariants as node
use Rattle.pair_machine.proofs.Orders.{IsOrderedEvent, Orders}
use Rattle.pair_machine.specs.Boundary.{egress_does, ingress_does, source_made}
use Rattle.pair_machine.specs.Consumers.{first_below}
use Rattle.pair_machine.specs.Controllers.{controller_takes}
use Rattle.pair_machine.specs.Flow.{Flow}
use Rattle.pair_machine.specs.Links.{AreOnTheirLinks, Carries, HasEdge, HasNode, HasStage, IsAcross, IsConsumer, IsProducer, IsThere, IsUp, link}
use Rattle.pair_machine.specs.Lists.{Among}
use Rattle.tuple_edge.specs.Node.{part_of}
use Rattle.pair_machine.specs.Machine.{Buffer, State, act_of, acted, after, as_egress, as_ingress, as_replica, at_node, buffer_of, changed, controller_does, controller_in, does, egress_in, ingress_in, is_behind, mark_of, nth_from_one, partner_node, posted, pull_of, replica_in, source_pulled, step, taking_of}
use Rattle.pair_machine.specs.Messages.{Ack, Act, AskBack, AskStop, AsksBack, AsksStop, Begin, Caught, Chunk, ChunkEnd, Dies, Down, Envelope, Lead, Makes, Message, Pulls, Refusal, Report, Serve, Stop, Takes, Tuple, Want, Works}
use Rattle.pair_machine.specs.Numbers.{Consumer, Controller, ControllerNode, Ingress, Node, Partition, Replica, ReplicaNode, control_at, other, replica_at}
use Rattle.pair_machine.specs.Pairs.{side_of}
use Rattle.pair_machine.specs.Replicas.{replica_does, which_of}
use Rattle.tuple_edge.specs.declared.event.Event.{Event}
use Rattle.tuple_edge.specs.declared.node.EdgeId.{EdgeId}
use Rattle.tuple_edge.specs.declared.node.LinkId.{LinkId}
use Rattle.tuple_edge.specs.declared.node.NodeId.{NodeId}
use Rattle.tuple_edge.specs.declared.node.Which.{Which}
use Rattle.tuple_edge.specs.declared.node.Which.TheVariants.{A, B}
use Rattle.pair_machine.proofs.Found.{FoundIn, first_found}
use Rattle.pair_machine.proofs.Lists.{each_at}
use Rattle.pair_machine.proofs.PairKept.{Turns, none, swapped}
use Rattle.pair_machine.proofs.ReplicaTurns.{Permits, Heard, HeardIn, DoneBy, DoneIfOk, does_done}
use Rattle.pair_machine.proofs.ControllerTurns.{HeardUp, PairDone, controller_done}
use Rattle.pair_machine.proofs.Tests.{both, if_elim, nat_self}

abbrev pub HoldsOnOk : (State → Type 0) → Result State Refusal → Type 0
HoldsOnOk P (Ok s) = P s
HoldsOnOk P (Err e) = Unit {0}

-- the pair before and after
abbrev pub Goes : Flow → Partition → Orders → State → State → Type 0
Goes f p o s t = Turns f p (o.kill (replica_at p A)) (o.stop (replica_at p A)) (o.kill (replica_at p B)) (o.stop (replica_at p B)) (side_of s p A) (side_of s p B) (side_of t p A) (side_of t p B)

stays : (f : Flow) (p : Partition) (o : Orders) (s : State) → Goes f p o s s
stays f p o s = none (side_of s p A) (side_of s p B)

-- another pair's replica or controller, which is at another place
abbrev put : NodeId → State → Node → List Envelope → State
put n s x out = record { nodes = changed n x s.nodes; sent = posted n out s.sent }

not_here : (a b : Bool) → ((a ≡ true) × (b ≡ true) → ⊥) → (a && b) ≡ false
not_here true true h = absurd (h (refl, refl))
not_here true false h = refl
not_here false b h = refl

replica_elsewhere : (f : Flow) (p : Partition) (o : Orders) (t q : ℕ) (w : Which) (s : State) (x : Node) (out : List Envelope) → ((p.stage == t) && (p.part == q)) ≡ false → Goes f p o s (put (node.Replica t q w) s x out)
replica_elsewhere f p o t q w s x out e = simp e (stays f p o s)

controller_elsewhere : (f : Flow) (p : Partition) (o : Orders) (t q : ℕ) (s : State) (x : Node) (out : List Envelope) → ((p.stage == t) && (p.part == q)) ≡ false → Goes f p o s (put (node.Control t q) s x out)
controller_elsewhere f p o t q s x out e = simp e (stays f p o s)

replica_here : (f : Flow) (p : Partition) (o : Orders) (w : Which) (s : State) (r : Replica) (out : List Envelope) →
    DoneBy f p w (o.kill (replica_at p w)) (o.stop (replica_at p w)) (o.kill (replica_at p (other w))) (o.stop (replica_at p (other w))) (side_of s p w) (side_of s p (other w)) (r, out) → Goes f p o s (put (replica_at p w) s (ReplicaNode r) out)
replica_here f p o A s r out t = simp nat_self t
replica_here f p o B s r out t = simp nat_self (swapped t)

controller_here : (f : Flow) (p : Partition) (o : Orders) (s : State) (c : Controller) (out : List Envelope) →
    PairDone f p (o.kill (replica_at p A)) (o.stop (replica_at p A)) (o.kill (replica_at p B)) (o.stop (replica_at p B)) (λ w. replica_in (s.nodes (replica_at p w))) (λ w. s.sent (link (replica_at p w) (control_at p))) (λ w. s.sent (link (replica_at p w) (replica_at p (other w))))
    (controller_in (s.nodes (control_at p))) (λ w. s.sent (link (control_at p) (replica_at p w))) (c, out) →
    Goes f p o s (put (control_at p) s (ControllerNode c) out)
controller_here f p o s c out t = simp nat_self t

place_path : (p : Partition) (t q : ℕ) → p.stage ≡ t → p.part ≡ q → record { stage = t; part = q } ≡ p
place_path p t q e inner = λ i. record { stage = sym e i; part = sym inner i }

abbrev place : ℕ → ℕ → Partition
place t q = record { stage = t; part = q }

replica_goes : (f : Flow) (p : Partition) (o : Orders) (t q : ℕ) (w : Which) (s : State) (r : Result (Replica × List Envelope) Refusal) →
    DoneIfOk f (place t q) w (o.kill (node.Replica t q w)) (o.stop (node.Replica t q w)) (o.kill (node.Replica t q (other w))) (o.stop (node.Replica t q (other w))) (side_of s (place t q) w) (side_of s (place t q) (other w)) r →
    HoldsOnOk (Goes f p o s) (after (node.Replica t q w) s (as_replica r))
replica_goes f p o t q w s (Err e) h = tt
replica_goes f p o t q w s (Ok d) h = go ((p.stage == t) && (p.part == q)) refl
  where
    go : (c : Bool) → ((p.stage == t) && (p.part == q)) ≡ c → Goes f p o s (put (node.Replica t q w) s (ReplicaNode d.0) d.1)
    go true e =
        let z = both (p.stage == t) (p.part == q) e in
        let P : Partition → Type 0 = λ v. Goes f v o s (put (node.Replica t q w) s (ReplicaNode d.0) d.1) in
        subst P (place_path p t q (eqb-true p.stage t z.0) (eqb-true p.part q z.1)) (replica_here f (place t q) o w s d.0 d.1 h)
    go false e = replica_elsewhere f p o t q w s (ReplicaNode d.0) d.1 e

controller_goes : (f : Flow) (p : Partition) (o : Orders) (t q : ℕ) (s : State) (d : Controller × List Envelope) →
    PairDone f (place t q) (o.kill (node.Replica t q A)) (o.stop (node.Replica t q A)) (o.kill (node.Replica t q B)) (o.stop (node.Replica t q B)) (λ w. replica_in (s.nodes (replica_at (place t q) w))) (λ w. s.sent (link (replica_at (place t q) w) (control_at (place t q))))
    (λ w. s.sent (link (replica_at (place t q) w) (replica_at (place t q) (other w))))
    (controller_in (s.nodes (control_at (place t q)))) (λ w. s.sent (link (control_at (place t q)) (replica_at (place t q) w))) d →
    Goes f p o s (put (node.Control t q) s (ControllerNode d.0) d.1)
controller_goes f p o t q s d h = go ((p.stage == t) && (p.part == q)) refl
  where
    go : (c : Bool) → ((p.stage == t) && (p.part == q)) ≡ c → Goes f p o s (put (node.Control t q) s (ControllerNode d.0) d.1)
    go true e =
        let z = both (p.stage == t) (p.part == q) e in
        let P : Partition → Type 0 = λ v. Goes f v o s (put (node.Control t q) s (ControllerNode d.0) d.1) in
        subst P (place_path p t q (eqb-true p.stage t z.0) (eqb-true p.part q z.1)) (controller_here f (place t q) o s d.0 d.1 h)
    go false e = controller_elsewhere f p o t q s (ControllerNode d.0) d.1 e

ingress_goes : (f : Flow) (p : Partition) (o : Orders) (s : State) (r : Result (Ingress × List Envelope) Refusal) → HoldsOnOk (Goes f p o s) (after node.Ingress s (as_ingress r))
ingress_goes f p o s (Ok d) = stays f p o s
ingress_goes f p o s (Err e) = tt

egress_goes : (f : Flow) (p : Partition) (o : Orders) (s : State) (r : Result (Consumer × List Envelope) Refusal) → HoldsOnOk (Goes f p o s) (after node.Egress s (as_egress r))
egress_goes f p o s (Ok d) = stays f p o s
egress_goes f p o s (Err e) = tt

-- where a message stands that its link carries ----------------------------------

down_heard : (s : State) (m : Message) (t q : ℕ) (w : Which) (from : NodeId) → IsUp (node.Replica t q w) from → Among m (s.sent (link from (node.Replica t q w))) →
    Among m (s.sent (link (node.Control t q) (node.Replica t q w)))
down_heard s m t q w node.Ingress u c = absurd u
down_heard s m t q w node.Egress u c = absurd u
down_heard s m t q w (node.Replica a b v) u c = absurd u
down_heard s m t q w (node.Control a b) u c = subst₂ (λ x y. Among m (s.sent (link (node.Control x y) (node.Replica t q w)))) (sym u.0) (sym u.1) c

other_twice : (w : Which) → other (other w) ≡ w
other_twice A = refl
other_twice B = refl

pub across_heard : (s : State) (m : Message) (t q : ℕ) (w : Which) (from : NodeId) → IsAcross from (node.Replica t q w) → Among m (s.sent (link from (node.Replica t q w))) →
    Among m (s.sent (link (node.Replica t q (other w)) (node.Replica t q (other (other w)))))
across_heard s m t q w node.Ingress u c = absurd u
across_heard s m t q w node.Egress u c = absurd u
across_heard s m t q w (node.Control a b) u c = absurd u
across_heard s m t q w (node.Replica a b v) u c =
    rw (other_twice w, ← u.2) (subst₂ (λ x y. Among m (s.sent (link (node.Replica x y v) (node.Replica t q w)))) u.0 u.1 c)

up_heard : (s : State) (m : Message) (t q : ℕ) (from : NodeId) → IsUp from (node.Control t q) → Among m (s.sent (link from (node.Control t q))) →
    Among m (s.sent (link (node.Replica t q (which_of from)) (node.Control t q)))
up_heard s m t q node.Ingress u c = absurd u
up_heard s m t q node.Egress u c = absurd u
up_heard s m t q (node.Control a b) u c = absurd u
up_heard s m t q (node.Replica a b v) u c = subst₂ (λ x y. Among m (s.sent (link (node.Replica x y v) (node.Control t q)))) u.0 u.1 c

replica_heard : (f : Flow) (s : State) (t q : ℕ) (w : Which) (from : NodeId) (m : Message) → Carries f (link from (node.Replica t q w)) m → Among m (s.sent (link from (node.Replica t q w))) →
    Heard (side_of s (place t q) w) (side_of s (place t q) (other w)) m
replica_heard f s t q w from (Tuple e k) h c = tt
replica_heard f s t q w from (Ack e k) h c = tt
replica_heard f s t q w from (Want e k) h c = tt
replica_heard f s t q w from (Report i e k) h c = tt
replica_heard f s t q w from (Lead i k) h c = tt
replica_heard f s t q w from (Serve i k) h c = down_heard s (Serve i k) t q w from h c
replica_heard f s t q w from (Begin i) h c = down_heard s (Begin i) t q w from h c
replica_heard f s t q w from (Stop i) h c = down_heard s (Stop i) t q w from h c
replica_heard f s t q w from (Chunk i k m) h c = across_heard s (Chunk i k m) t q w from h c
replica_heard f s t q w from (ChunkEnd i k m) h c = across_heard s (ChunkEnd i k m) t q w from h c
replica_heard f s t q w from message h c = tt

controller_heard : (f : Flow) (o : Orders) (s : State) (t q : ℕ) (from : NodeId) (m : Message) → Carries f (link from (node.Control t q)) m → Among m (s.sent (link from (node.Control t q))) →
    HeardUp f (place t q) (o.kill (node.Replica t q A)) (o.stop (node.Replica t q A)) (o.kill (node.Replica t q B)) (o.stop (node.Replica t q B)) (λ w. replica_in (s.nodes (node.Replica t q w))) (λ w. s.sent (link (node.Replica t q w) (node.Control t q))) (λ w. s.sent (link (node.Replica t q w) (node.Replica t q (other w)))) (which_of from) m
controller_heard f o s t q from (Tuple e k) h c = tt
controller_heard f o s t q from (Ack e k) h c = tt
controller_heard f o s t q from (Want e k) h c = tt
controller_heard f o s t q from (Report i e k) h c = up_heard s (Report i e k) t q from h.0 c
controller_heard f o s t q from (Lead i k) h c = tt
controller_heard f o s t q from (Serve i k) h c = tt
controller_heard f o s t q from (Begin i) h c = tt
controller_heard f o s t q from (Stop i) h c = tt
controller_heard f o s t q from (Chunk i k m) h c = tt
controller_heard f o s t q from (ChunkEnd i k m) h c = tt
controller_heard f o s t q from (Caught i) h c = up_heard s (Caught i) t q from h c
controller_heard f o s t q from (Down i) h c = up_heard s (Down i) t q from h c
controller_heard f o s t q from (AskStop i) h c = up_heard s (AskStop i) t q from h c
controller_heard f o s t q from AskBack h c = tt

-- the two ends of a pull
pub record IsPulled (f : Flow) (s : State) (n : NodeId) (q : ℕ) : Type 0 where
  pub from : NodeId
  pub edge : EdgeId
  pub has_node : HasNode f from
  pub producer : IsProducer f edge from
  pub consumer : IsConsumer f edge n
  pub part : edge.from ≡ q
  pub buffer : Buffer
  pub buffer_is : buffer_of f edge.from edge.to from (s.nodes from) ≡ Some buffer
  pub mark : ℕ
  pub marks : mark_of q n (s.nodes n) ≡ Some mark
  pub above_low : buffer.low ≤ mark
  pub below_made : mark < buffer.produced

-- what a node is given was sent on its link
abbrev pub WasSent : Flow → State → NodeId → Act → Type 0
WasSent f s n (Takes from m) = Among m (s.sent (link from n))
WasSent f s n Works = Unit {0}
WasSent f s n Makes = Unit {0}
WasSent f s n Dies = Unit {0}
WasSent f s n AsksStop = Unit {0}
WasSent f s n AsksBack = Unit {0}
WasSent f s n (Pulls q) = IsPulled f s n q

heard_in : (f : Flow) (s : State) (t q : ℕ) (w : Which) (a : Act) → AreOnTheirLinks f s → WasSent f s (node.Replica t q w) a → HeardIn (side_of s (place t q) w) (side_of s (place t q) (other w)) a
heard_in f s t q w (Takes from m) all c = replica_heard f s t q w from m (each_at (Carries f (link from (node.Replica t q w))) m (s.sent (link from (node.Replica t q w))) c (all (link from (node.Replica t q w)))) c
heard_in f s t q w act all c = tt

controller_turn_goes : (f : Flow) (p : Partition) (o : Orders) (t q : ℕ) (s : State) (a : Act) → 1 ≤ t → AreOnTheirLinks f s → WasSent f s (node.Control t q) a → HoldsOnOk (Goes f p o s) (after (node.Control t q) s (controller_does f (place t q) a (controller_in (s.nodes (node.Control t q)))))
controller_turn_goes f p o t q s (Takes from m) h all c =
    let here = controller_heard f o s t q from m (each_at (Carries f (link from (node.Control t q))) m (s.sent (link from (node.Control t q))) c (all (link from (node.Control t q)))) c in
    controller_goes f p o t q s (controller_takes (f.sources t) (place t q) (which_of from) m (controller_in (s.nodes (node.Control t q))))
    (controller_done f (place t q) (o.kill (node.Replica t q A)) (o.stop (node.Replica t q A)) (o.kill (node.Replica t q B)) (o.stop (node.Replica t q B)) (λ w. replica_in (s.nodes (node.Replica t q w))) (λ w. s.sent (link (node.Replica t q w) (node.Control t q))) (λ w. s.sent (link (node.Replica t q w) (node.Replica t q (other w)))) h (which_of from) m
    (controller_in (s.nodes (node.Control t q))) (λ w. s.sent (link (node.Control t q) (node.Replica t q w))) here)
controller_turn_goes f p o t q s act h all c = tt

pub node_goes : (f : Flow) (p : Partition) (o : Orders) (n : NodeId) (s : State) (a : Act) → HasStage f n → AreOnTheirLinks f s → Permits (o.kill n) (o.stop n) a → WasSent f s n a → HoldsOnOk (Goes f p o s) (after n s (does f n a (s.nodes n)))
node_goes f p o node.Ingress s a h all y c = ingress_goes f p o s (ingress_does f a (ingress_in (s.nodes node.Ingress)))
node_goes f p o node.Egress s a h all y c = egress_goes f p o s (egress_does f a (egress_in (s.nodes node.Egress)))
node_goes f p o (node.Control t q) s a h all y c = controller_turn_goes f p o t q s a h.0 all c
node_goes f p o (node.Replica t q w) s a h all y c =
    let here = heard_in f s t q w a all c in
    replica_goes f p o t q w s (replica_does f (place t q) w a (replica_in (s.nodes (node.Replica t q w))))
    (does_done f (place t q) w (o.kill (node.Replica t q w)) (o.stop (node.Replica t q w)) (o.kill (node.Replica t q (other w))) (o.stop (node.Replica t q (other w))) ((controller_in (s.nodes (node.Control t q))).watched w) (s.sent (link (node.Replica t q w) (node.Control t q))) (s.sent (link (node.Control t q) (node.Replica t q w)))
    (s.sent (link (node.Replica t q w) (node.Replica t q (other w)))) (side_of s (place t q) (other w)) h.0 a (replica_in (s.nodes (node.Replica t q w))) y here)

-- an event's act was sent
abbrev pub ActSent : Flow → State → NodeId → Result Act Refusal → Type 0
ActSent f s n (Ok a) = WasSent f s n a
ActSent f s n (Err e) = Unit {0}

nth_among : (f : Flow) (l : LinkId) (k j : ℕ) (s : State) (all xs : List Message) → ((m : Message) → Among m xs → Among m (s.sent l)) → ActSent f s l.to (taking_of l k all (nth_from_one xs j))
nth_among f l k zero s all xs h = tt
nth_among f l k (suc j) s all [] h = tt
nth_among f l k (suc zero) s all (x ∷ xs) h = h x (inl refl)
nth_among f l k (suc (suc j)) s all (x ∷ xs) h = nth_among f l k (suc j) s all xs (λ m c. h m (inr c))

-- the one edge that a pull uses between its ends
record UsedEdge (f : Flow) (from n : NodeId) (q : ℕ) : Type 0 where
  edge : EdgeId
  producer : IsProducer f edge from
  consumer : IsConsumer f edge n
  part : edge.from ≡ q

-- where there is a source, the search gives one
pub some_found : (sources : ℕ) (test : ℕ → Bool) → 1 ≤ sources → unwrap_or (first_below test (sources - 1)) (sources - 1) < sources
some_found sources test l = by (first_below test (sources - 1)) (first_found (sources - 1) test)
  where
    by : (o : Option ℕ) → FoundIn test (sources - 1) o → unwrap_or o (sources - 1) < sources
    by None h = omega arith
    by (Some q) h = omega (arith, h.1)

consumer_of_any : (f : Flow) (e : EdgeId) (q : ℕ) (n : NodeId) → IsConsumer f e n → IsConsumer f (record { stage = e.stage; from = q; to = e.to }) n
consumer_of_any f e q node.Ingress h = h
consumer_of_any f e q (node.Replica s p w) h = h
consumer_of_any f e q (node.Control s p) h = h
consumer_of_any f e q node.Egress h = h

used_edge : (f : Flow) (from : NodeId) (x : Node) (n : NodeId) (y : Node) → HasEdge f from n → UsedEdge f from n (source_pulled f from x n y)
used_edge f node.Ingress x n y g =
    let q = source_pulled f node.Ingress x n y in
    let within : q < f.sources 1 = some_found (f.sources 1) (λ j. is_behind (mark_of j n y) (source_made f (ingress_in x) j (part_of n))) (omega (arith, g.1.1)) in
    record { edge = record { stage = g.0.stage; from = q; to = g.0.to }; producer = (g.1.0, within); consumer = consumer_of_any f g.0 q n g.2; part = refl }
used_edge f (node.Replica s p w) x n y g = record { edge = g.0; producer = g.1; consumer = g.2; part = g.1.2 }
used_edge f (node.Control s p) x n y g = absurd g.1
used_edge f node.Egress x n y g = absurd g.1

part_of_consumer : (f : Flow) (e : EdgeId) (n : NodeId) → IsConsumer f e n → e.to ≡ part_of n
part_of_consumer f e node.Ingress h = absurd h
part_of_consumer f e (node.Replica s p w) h = h.1
part_of_consumer f e (node.Control s p) h = absurd h
part_of_consumer f e node.Egress h = h.1

pull_sent : (f : Flow) (s : State) (from n : NodeId) (q : ℕ) → HasNode f from → UsedEdge f from n q → (o : Option (Buffer)) → buffer_of f q (part_of n) from (s.nodes from) ≡ o →
    (m : Option ℕ) → mark_of q n (s.nodes n) ≡ m → ActSent f s n (pull_of q o m)
pull_sent f s from n q h g None e m inner = tt
pull_sent f s from n q h g (Some o) e None inner = tt
pull_sent f s from n q h g (Some o) e (Some mark) inner = if_elim (ActSent f s n) (nat_le o.low mark && nat_lt mark o.produced) _ _
    (λ z. let y = both (nat_le o.low mark) (nat_lt mark o.produced) z in
    record {
      from = from;
      edge = g.edge;
      has_node = h;
      producer = g.producer;
      consumer = g.consumer;
      part = g.part;
      buffer = o;
      buffer_is = rw (g.part, part_of_consumer f g.edge n g.consumer) e;
      mark = mark;
      marks = inner;
      above_low = leb-true o.low mark y.0;
      below_made = ltb-true mark o.produced y.1;
    })
    (λ z. tt)

pub act_sent : (f : Flow) (s : State) (e : Event) → IsThere f e → ActSent f s (at_node e) (act_of f s e)
act_sent f s (event.Take l k) h = nth_among f l k k s (s.sent l) (s.sent l) (λ m c. c)
act_sent f s (event.Work n) h = tt
act_sent f s event.Make h = tt
act_sent f s (event.Kill n) h = tt
act_sent f s (event.AskStop n) h = tt
act_sent f s (event.AskBack n) h = tt
act_sent f s (event.Pull from to) h =
    let q = source_pulled f from (s.nodes from) to (s.nodes to) in
    pull_sent f s from to q h.0 (used_edge f from (s.nodes from) to (s.nodes to) h.2) (buffer_of f q (part_of to) from (s.nodes from)) refl (mark_of q to (s.nodes to)) refl

partner_there : (f : Flow) (n : NodeId) → HasNode f n → HasNode f (partner_node n)
partner_there f node.Ingress h = h
partner_there f (node.Replica s p w) h = h
partner_there f (node.Control s p) h = h
partner_there f node.Egress h = h

-- the node of an event that is there is a node of the plan
pub at_there : (f : Flow) (e : Event) → IsThere f e → HasNode f (at_node e)
at_there f (event.Take l k) h = h
at_there f (event.Work n) h = h
at_there f event.Make h = (tt, tt)
at_there f (event.Kill n) h = h
at_there f (event.AskStop n) h = h
at_there f (event.AskBack n) h = partner_there f n h
at_there f (event.Pull from to) h = h.1

-- what each act that was sent brings about holds after a step
pub step_by : (f : Flow) (s : State) (e : Event) (P : State → Type 0) → IsThere f e →
    ((a : Act) → HasNode f (at_node e) → WasSent f s (at_node e) a → HoldsOnOk P (after (at_node e) s (does f (at_node e) a (s.nodes (at_node e))))) → HoldsOnOk P (step f s e)
unfolding step
step_by f s e P there h = go (act_of f s e) (act_sent f s e there)
  where
    go : (r : Result Act Refusal) → ActSent f s (at_node e) r → HoldsOnOk P (acted f (at_node e) s r)
    go (Ok a) c = h a (at_there f e there) c
    go (Err r) c = tt

-- an act that its event's order allows
abbrev ActAllowed : Orders → NodeId → Result Act Refusal → Type 0
ActAllowed o n (Ok a) = Permits (o.kill n) (o.stop n) a
ActAllowed o n (Err e) = Unit {0}

taking_allowed : (o : Orders) (n : NodeId) (l : LinkId) (k : ℕ) (sent : List Message) (m : Option Message) → ActAllowed o n (taking_of l k sent m)
taking_allowed o n l k sent None = tt
taking_allowed o n l k sent (Some m) = tt

pull_allowed : (o : Orders) (n : NodeId) (q : ℕ) (a : Option (Buffer)) (m : Option ℕ) → ActAllowed o n (pull_of q a m)
pull_allowed o n q None m = tt
pull_allowed o n q (Some a) None = tt
pull_allowed o n q (Some a) (Some mark) = if_elim (ActAllowed o n) (nat_le a.low mark && nat_lt mark a.produced) _ _ (λ e. tt) (λ e. tt)

act_allowed : (f : Flow) (o : Orders) (s : State) (e : Event) → IsOrderedEvent o e → ActAllowed o (at_node e) (act_of f s e)
act_allowed f o s (event.Take l k) h = taking_allowed o l.to l k (s.sent l) (nth_from_one (s.sent l) k)
act_allowed f o s (event.Work n) h = tt
act_allowed f o s event.Make h = tt
act_allowed f o s (event.Kill n) h = h
act_allowed f o s (event.AskStop n) h = h
act_allowed f o s (event.AskBack n) h = tt
act_allowed f o s (event.Pull from to) h =
    let q = source_pulled f from (s.nodes from) to (s.nodes to) in pull_allowed o to q (buffer_of f q (part_of to) from (s.nodes from)) (mark_of q to (s.nodes to))

pub step_goes : (f : Flow) (o : Orders) (s : State) (e : Event) (p : Partition) → IsThere f e → IsOrderedEvent o e → AreOnTheirLinks f s → HoldsOnOk (Goes f p o s) (step f s e)
unfolding step
step_goes f o s e p there allowed all = go (act_of f s e) (act_sent f s e there) (act_allowed f o s e allowed)
  where
    go : (r : Result Act Refusal) → ActSent f s (at_node e) r → ActAllowed o (at_node e) r → HoldsOnOk (Goes f p o s) (acted f (at_node e) s r)
    go (Ok a) c y = node_goes f p o (at_node e) s a (at_there f e there).0 all y c
    go (Err r) c y = tt
