-- What a step's act rests on: what is taken was sent, and what is pulled is made and above the producer's low.
use Rattle.std.proofs.Common.{◌≡◌, ◌<◌, ◌≤◌, inl, inr, ℕ, zero, suc, List, [], ◌∷◌, Option, None, Some, Result, Ok, Err, ◌&&◌, refl}
use Rattle.std.specs.Prelude.{nat_lt, nat_le}
use Rattle.std.proofs.lemmas.Bool.{ltb-true, leb-true}
use Rattle.tuple_edge.specs.declared.node.EdgeId.{EdgeId}
use Rattle.pair_machine.specs.Flow.{Flow}
use Rattle.pair_machine.specs.Lists.{Among}
use Rattle.pair_machine.specs.Machine.{Buffer, nth_from_one}
use Rattle.pair_machine.proofs.Tests.{both, if_elim}
use Rattle.trio_machine.specs.Links.{HasEdge, HasNode, IsConsumer, IsProducer, IsThere}
use Rattle.trio_machine.specs.Machine.{State, act_of, acted, after, at_node, buffer_of, does, mark_of, pull_of, step, taking_of}
use Rattle.trio_machine.specs.Messages.{Act, Dies, Makes, Message, Pulls, Refusal, Takes, Works}
use Rattle.trio_machine.specs.Numbers.{part_of}
use Rattle.trio_machine.specs.declared.event.TrioEvent.{TrioEvent}
use Rattle.trio_machine.specs.declared.event.TrioEvent.TheVariants as event
use Rattle.trio_machine.specs.declared.node.TrioNode.{TrioNode}
use Rattle.trio_machine.specs.declared.node.TrioNode.TheVariants as node

abbrev pub HoldsOnOk : (State → Type 0) → Result State Refusal → Type 0
HoldsOnOk P (Ok s) = P s
HoldsOnOk P (Err e) = Unit {0}

-- what a pull takes from in-edge q of a node
pub record IsPulled (f : Flow) (s : State) (n : TrioNode) (q : ℕ) : Type 0 where
  pub from : TrioNode
  pub has_node : HasNode f from
  pub edge : EdgeId
  pub producer : IsProducer f edge from
  pub consumer : IsConsumer f edge n
  pub part : edge.from ≡ q
  pub buffer : Buffer
  pub buffer_is : buffer_of f edge.to from (s.nodes from) ≡ Some buffer
  pub mark : ℕ
  pub marks : mark_of q n (s.nodes n) ≡ Some mark
  pub above_low : buffer.low ≤ mark
  pub below_made : mark < buffer.produced

-- what a node takes was sent to it
abbrev pub WasSent : Flow → State → TrioNode → Act → Type 0
WasSent f s n (Takes from m) = Among m (s.sent from n)
WasSent f s n Works = Unit {0}
WasSent f s n Makes = Unit {0}
WasSent f s n Dies = Unit {0}
WasSent f s n (Pulls q) = IsPulled f s n q

abbrev pub ActSent : Flow → State → TrioNode → Result Act Refusal → Type 0
ActSent f s n (Ok a) = WasSent f s n a
ActSent f s n (Err e) = Unit {0}

nth_among : (f : Flow) (from to : TrioNode) (k j : ℕ) (s : State) (all xs : List Message) → ((m : Message) → Among m xs → Among m (s.sent from to)) → ActSent f s to (taking_of from k all (nth_from_one xs j))
nth_among f from to k zero s all xs h = tt
nth_among f from to k (suc j) s all [] h = tt
nth_among f from to k (suc zero) s all (x ∷ xs) h = h x (inl refl)
nth_among f from to k (suc (suc j)) s all (x ∷ xs) h = nth_among f from to k (suc j) s all xs (λ m c. h m (inr c))

part_of_producer : (f : Flow) (e : EdgeId) (n : TrioNode) → IsProducer f e n → e.from ≡ part_of n
part_of_producer f e node.Ingress h = h.1
part_of_producer f e (node.Replica s p c) h = h.2
part_of_producer f e (node.Control s p) h = absurd h
part_of_producer f e node.Egress h = absurd h

part_of_consumer : (f : Flow) (e : EdgeId) (n : TrioNode) → IsConsumer f e n → e.to ≡ part_of n
part_of_consumer f e node.Ingress h = absurd h
part_of_consumer f e (node.Replica s p c) h = h.1
part_of_consumer f e (node.Control s p) h = absurd h
part_of_consumer f e node.Egress h = h.1

pull_sent : (f : Flow) (s : State) (from n : TrioNode) → HasNode f from → HasEdge f from n → (o : Option Buffer) → buffer_of f (part_of n) from (s.nodes from) ≡ o →
    (m : Option ℕ) → mark_of (part_of from) n (s.nodes n) ≡ m → ActSent f s n (pull_of (part_of from) o m)
pull_sent f s from n h g None e m marks = tt
pull_sent f s from n h g (Some o) e None marks = tt
pull_sent f s from n h g (Some o) e (Some mark) marks = if_elim (ActSent f s n) (nat_le o.low mark && nat_lt mark o.produced) _ _
    (λ z. let y = both (nat_le o.low mark) (nat_lt mark o.produced) z in
    record {
      from = from;
      has_node = h;
      edge = g.0;
      producer = g.1;
      consumer = g.2;
      part = part_of_producer f g.0 from g.1;
      buffer = o;
      buffer_is = rw (part_of_consumer f g.0 n g.2) e;
      mark = mark;
      marks = marks;
      above_low = leb-true o.low mark y.0;
      below_made = ltb-true mark o.produced y.1;
    })
    (λ z. tt)

pub act_sent : (f : Flow) (s : State) (e : TrioEvent) → IsThere f e → ActSent f s (at_node e) (act_of f s e)
act_sent f s (event.Take from to k) h = nth_among f from to k k s (s.sent from to) (s.sent from to) (λ m c. c)
act_sent f s (event.Work n) h = tt
act_sent f s event.Make h = tt
act_sent f s (event.Kill n) h = tt
act_sent f s (event.Pull from to) h = pull_sent f s from to h.0 h.2 (buffer_of f (part_of to) from (s.nodes from)) refl (mark_of (part_of from) to (s.nodes to)) refl

-- the node of an event that is there is a node of the plan
pub at_there : (f : Flow) (e : TrioEvent) → IsThere f e → HasNode f (at_node e)
at_there f (event.Take from to k) h = h
at_there f (event.Work n) h = h
at_there f event.Make h = tt
at_there f (event.Kill n) h = h
at_there f (event.Pull from to) h = h.1

-- what each act that was sent brings about holds after a step
pub step_by : (f : Flow) (s : State) (e : TrioEvent) (P : State → Type 0) → IsThere f e →
    ((a : Act) → HasNode f (at_node e) → WasSent f s (at_node e) a → HoldsOnOk P (after (at_node e) s (does f (at_node e) a (s.nodes (at_node e))))) → HoldsOnOk P (step f s e)
unfolding step
step_by f s e P there h = go (act_of f s e) (act_sent f s e there)
  where
    go : (r : Result Act Refusal) → ActSent f s (at_node e) r → HoldsOnOk P (acted f (at_node e) s r)
    go (Ok a) c = h a (at_there f e there) c
    go (Err r) c = tt
