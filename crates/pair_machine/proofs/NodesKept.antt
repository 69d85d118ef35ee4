-- Each step sends only to nodes of the plan.
use Rattle.std.proofs.Common.{◌≡◌, ◌≢◌, ◌<◌, ◌≤◌, ℕ, zero, suc, false, List, [], ◌∷◌, Option, None, Some, Result, Ok, Err, ◌+◌, ◌-◌, ◌&&◌, subst, arith}
use Rattle.std.specs.Prelude.{◌==◌, nat_lt, nat_le}
use Rattle.std.proofs.lemmas.Bool.{eqb-true, eq-eqb, leb-true}
use Rattle.tuple_edge.specs.declared.event.Event.{Event}
use Rattle.tuple_edge.specs.declared.node.LinkId.{LinkId}
use Rattle.tuple_edge.specs.declared.node.NodeId.{NodeId}
use Rattle.tuple_edge.specs.declared.node.NodeId.TheVariants as node
use Rattle.tuple_edge.specs.declared.node.Which.{Which}
use Rattle.tuple_edge.specs.declared.node.Which.TheVariants.{A, B}
use Rattle.pair_machine.specs.Boundary.{egress_does, egress_partition, egress_tells, ingress_does, ingress_source, source_made}
use Rattle.pair_machine.specs.Consumers.{is_ready, untold}
use Rattle.std.specs.Option.{is_none}
use Rattle.pair_machine.specs.Controllers.{acks, acks_from, backs, controller_hears, controller_takes, counts, goes_down, is_catching, is_down, is_up, leads_now, least, stops, then_do}
use Rattle.pair_machine.specs.Flow.{Flow, IsFlow}
use Rattle.pair_machine.specs.Links.{AreBetweenNodes, HasNode, IsThere, link}
use Rattle.pair_machine.specs.Lists.{Each}
use Rattle.pair_machine.specs.Machine.{State, after, as_egress, as_ingress, as_replica, at_node, changed, posted, controller_does, controller_in, does, egress_in, ingress_in, replica_in, step}
use Rattle.pair_machine.specs.Messages.{Ack, Act, AskBack, AskStop, AsksBack, AsksStop, Caught, Chunk, ChunkEnd, Dies, Down, Envelope, Makes, Message, Pulls, Refusal, Report, Takes, Tuple, Want, Works, envelope}
use Rattle.pair_machine.specs.Numbers.{Consumer, Controller, ControllerNode, EgressNode, Gathering, Gone, Ingress, IngressNode, Move, MoveNumbers, Node, Partition, Producer, Replica, ReplicaNode, Running, RunningNumbers, in_edge, other, out_edge, replica_at}
use Rattle.pair_machine.specs.Producers.{Due, due, sends_due, to_producers}
use Rattle.pair_machine.specs.Replicas.{chunk_wants, made_by, moves_or_sends, replica_does, replica_takes, replica_works, reports, sends_or_reports, size, which_of}
use Rattle.pair_machine.proofs.Lists.{each_append, each_map}
use Rattle.pair_machine.proofs.StepTurns.{HoldsOnOk, step_by}
use Rattle.pair_machine.proofs.Frame.{framed}
use Rattle.pair_machine.proofs.Found.{FoundIn, IsDue, first_found, is_due}
use Rattle.pair_machine.proofs.Sources.{works_by}
use Rattle.pair_machine.proofs.Tests.{both, if_elim}

module _ (f : Flow) (ok : IsFlow f) where
  -- each envelope is for a node of the plan
  abbrev AllThere : List Envelope → Type 0
  AllThere out = Each (λ (x : Envelope). HasNode f x.to) out

  producers_there : (p : Partition) (q : ℕ) (m : Message) → 1 ≤ p.stage → p.stage ≤ f.stages + 1 → q < f.sources p.stage → AllThere (to_producers p q m)
  producers_there p q m some within few = if_elim AllThere (p.stage == 1) _ _ (λ e. ((tt, tt), tt)) (λ e. let there = before e in (there, (there, tt)))
    where
      before : (p.stage == 1) ≡ false → ((1 ≤ p.stage - 1) × (p.stage - 1 ≤ f.stages)) × (q < f.sources (p.stage - 1 + 1))
      before e =
          let far : p.stage ≢ 1 = λ z. (let y = eq-eqb p.stage 1 z in cc) in
          let back : p.stage ≡ p.stage - 1 + 1 = omega arith in
          ((omega arith, omega arith), subst (λ s. q < f.sources s) back few)

  due_there : (p : Partition) (made : ℕ → ℕ) (x : Producer) (d : Due) → p.stage ≤ f.stages → IsDue made x (f.targets p.stage) (Some d) → AllThere (sends_due f p d)
  due_there p made x d within h = if_elim (λ n. AllThere (envelope n (Tuple (out_edge p d.to) d.number) ∷ [])) (p.stage == f.stages) _ _ (λ e. ((tt, tt), tt)) (λ e. (next e, tt))
    where
      next : (p.stage == f.stages) ≡ false → ((1 ≤ p.stage + 1) × (p.stage + 1 ≤ f.stages)) × (d.to < f.sources (p.stage + 1 + 1))
      next e =
          let far : p.stage ≢ f.stages = λ z. (let y = eq-eqb p.stage f.stages z in cc) in
          let next_stage : p.stage + 2 ≡ p.stage + 1 + 1 = omega arith in
          ((omega arith, omega arith), subst (λ s. d.to < f.sources s) next_stage (subst (λ n. d.to < n) (ok.next_parts p.stage (omega arith)) h.0))

  abbrev ThereOnOk : {X : Type 0} → Result (X × List Envelope) Refusal → Type 0
  ThereOnOk (Ok d) = AllThere d.1
  ThereOnOk (Err e) = Unit {0}

  -- replicas
  module _ (p : Partition) (w : Which) (some : 1 ≤ p.stage) (within : p.stage ≤ f.stages) (few : p.part < f.sources (p.stage + 1)) where
    abbrev NodeOfPair : Type 0
    NodeOfPair = ((1 ≤ p.stage) × (p.stage ≤ f.stages)) × (p.part < f.sources (p.stage + 1))

    there : NodeOfPair
    there = ((some, within), few)

    wants_there : (n : ℕ) (m : MoveNumbers) → 1 ≤ n → AllThere (chunk_wants f p n m)
    wants_there n m l = if_elim AllThere (nat_le n (f.sources p.stage)) _ _
        (λ e. let most = leb-true n (f.sources p.stage) e in producers_there p (n - 1) (Want (in_edge p (n - 1)) (m.marks (n - 1) + 1)) some (omega arith) (omega arith)) (λ e. tt)

    takes_there : (from : NodeId) (m : Message) (r : Replica) → AllThere (replica_takes f p from m r).1
    takes_there from (Chunk i n m) (Gone j) = tt
    takes_there from (Chunk i n m) (Running x) = tt
    takes_there from (Chunk i n m) (Gathering g) = if_elim (λ (d : Replica × List Envelope). AllThere d.1) ((i == g.inc) && (n == g.taken + 1)) _ _
        (λ e. let z = eqb-true n (g.taken + 1) (both (i == g.inc) (n == g.taken + 1) e).1 in wants_there n m (omega arith)) (λ e. tt)
    takes_there from (ChunkEnd i n m) (Gone j) = tt
    takes_there from (ChunkEnd i n m) (Running x) = tt
    takes_there from (ChunkEnd i n m) (Gathering g) = if_elim (λ (d : Replica × List Envelope). AllThere d.1) ((i == g.inc) && (n == g.taken)) _ _ (λ e. (there, tt)) (λ e. tt)
    takes_there from message r = tt

    reports_there : (x : RunningNumbers) (o : Option ℕ) → ThereOnOk (reports f p x o)
    reports_there x None = tt
    reports_there x (Some q) = (there, tt)

    sends_there : (x : RunningNumbers) (made : ℕ → ℕ) (d : Option Due) → IsDue made x.producer (f.targets p.stage) d → ThereOnOk (sends_or_reports f p x d)
    sends_there x made (Some d) h = due_there p made x.producer d within h
    sends_there x made None h = reports_there x (untold f p x.consumer)

    moves_there : (x : RunningNumbers) (mv : Option Move) → ThereOnOk (moves_or_sends f p (replica_at p (other w)) x mv)
    moves_there x None = sends_there x (made_by f p x.consumer.count) (due f p (made_by f p x.consumer.count) x.producer) (is_due f p (made_by f p x.consumer.count) x.producer)
    moves_there x (Some mv) = if_elim (λ (d : Replica × List Envelope). AllThere d.1) (nat_lt mv.sent (size f p mv.numbers)) _ _ (λ e. (there, tt)) (λ e. (there, tt))

    works_there : (r : Replica) → ThereOnOk (replica_works f p w r)
    works_there (Gone i) = tt
    works_there (Gathering g) = tt
    works_there (Running x) = if_elim (ThereOnOk {X = Replica}) (is_ready f p x.consumer) _ _ (λ e. tt) (λ e. moves_there x x.move)

    does_there : (a : Act) (r : Replica) → ThereOnOk (replica_does f p w a r)
    does_there (Takes from m) r = takes_there from m r
    does_there Works r = works_there r
    does_there Makes r = tt
    does_there Dies (Gone i) = tt
    does_there Dies (Running x) = (there, tt)
    does_there Dies (Gathering g) = (there, tt)
    does_there AsksStop (Gone i) = tt
    does_there AsksStop (Running x) = (there, tt)
    does_there AsksStop (Gathering g) = tt
    does_there AsksBack (Gone i) = tt
    does_there AsksBack (Running x) = (there, tt)
    does_there AsksBack (Gathering g) = tt
    does_there (Pulls q) (Gone i) = tt
    does_there (Pulls q) (Running x) = tt
    does_there (Pulls q) (Gathering g) = tt

    -- controllers
    goes_down_there : (v : Which) (c : Controller) → AllThere (goes_down p v c).1
    goes_down_there v c = if_elim (λ (d : Controller × List Envelope). AllThere d.1) (leads_now c.leader v) _ _
        (λ e. if_elim (λ (d : Controller × List Envelope). AllThere d.1) (is_up (c.watched (other v)).status) _ _ (λ up. (there, tt)) (λ up. tt)) (λ e. tt)

    hears_there : (v : Which) (m : Message) (c : Controller) → AllThere (controller_hears p v m c).1
    hears_there v (Report i e k) c = if_elim (λ (d : Controller × List Envelope). AllThere d.1) (counts (c.watched v) i) _ _ (λ t. tt) (λ t. tt)
    hears_there v (Down i) c = if_elim (λ (d : Controller × List Envelope). AllThere d.1) (counts (c.watched v) i) _ _ (λ t. goes_down_there v c) (λ t. tt)
    hears_there v (AskStop i) c = if_elim (λ (d : Controller × List Envelope). AllThere d.1) (counts (c.watched v) i) _ _ (λ t. tt) (λ t. tt)
    hears_there v AskBack c = tt
    hears_there v (Caught i) c = if_elim (λ (d : Controller × List Envelope). AllThere d.1) ((i == (c.watched v).inc) && is_catching (c.watched v).status) _ _
        (λ t. if_elim (λ (d : Controller × List Envelope). AllThere d.1) (is_none c.leader) _ _ (λ e. (there, tt)) (λ e. tt)) (λ t. tt)
    hears_there v message c = tt

    backs_there : (v : Which) (c : Controller) → AllThere (backs p v c).1
    backs_there v c = if_elim (λ (d : Controller × List Envelope). AllThere d.1) ((c.watched v).back && (is_down (c.watched v).status && is_up (c.watched (other v)).status)) _ _ (λ t. (there, (there, tt))) (λ t. tt)

    stops_there : (v : Which) (c : Controller) → AllThere (stops p v c).1
    stops_there v c = if_elim (λ (d : Controller × List Envelope). AllThere d.1) ((c.watched v).stop && (is_up (c.watched v).status && is_up (c.watched (other v)).status)) _ _ (λ t. (there, goes_down_there v c)) (λ t. tt)

    acks_there : (n q : ℕ) (c : Controller) → q + n ≤ f.sources p.stage → AllThere (acks_from n q p c)
    acks_there zero q c l = tt
    acks_there (suc n) q c l = each_append (λ (x : Envelope). HasNode f x.to) _ (acks_from n (q + 1) p c)
        (if_elim AllThere (nat_lt (c.acked q) (least c q)) (to_producers p q (Ack (in_edge p q) (least c q))) []
        (λ e. producers_there p q (Ack (in_edge p q) (least c q)) some (omega arith) (omega arith)) (λ e. tt))
        (acks_there n (q + 1) c (omega arith))

    then_there : (d : Controller × List Envelope) (g : Controller → (Controller × List Envelope)) → AllThere d.1 → ((c : Controller) → AllThere (g c).1) → AllThere (then_do d g).1
    then_there d g h more = each_append (λ (x : Envelope). HasNode f x.to) d.1 (g d.0).1 h (more d.0)

    controller_there : (v : Which) (m : Message) (c : Controller) → AllThere (controller_takes (f.sources p.stage) p v m c).1
    controller_there v m c =
        let heard = controller_hears p v m c in
        let first = then_do heard (backs p A) in
        let backed = then_do first (backs p B) in
        let stopped = then_do backed (stops p A) in
        then_there (then_do stopped (stops p B)) (acks (f.sources p.stage) p)
        (then_there stopped (stops p B) (then_there backed (stops p A) (then_there first (backs p B) (then_there heard (backs p A) (hears_there v m c) (backs_there A)) (backs_there B)) (stops_there A)) (stops_there B))
        (λ c. acks_there (f.sources p.stage) 0 c (omega arith))

  -- ingress and egress
  ingress_there : (a : Act) (x : Ingress) → ThereOnOk (ingress_does f a x)
  ingress_there (Takes from m) x = tt
  ingress_there Works x = works_by f x (ThereOnOk {X = Ingress}) tt (λ q d l h. due_there (ingress_source q) (source_made f x q) (x.producers q) d (omega arith) h)
  ingress_there Makes x = if_elim (ThereOnOk {X = Ingress}) (nat_lt x.makes f.makes) _ _ (λ e. tt) (λ e. tt)
  ingress_there act x = tt

  egress_tells_there : (x : Consumer) (o : Option ℕ) → FoundIn (λ q. nat_lt (x.told q) (x.marks q)) (f.sources (f.stages + 1)) o → ThereOnOk (egress_tells f x o)
  egress_tells_there x None h = tt
  egress_tells_there x (Some q) h = producers_there (egress_partition f) q (Ack (in_edge (egress_partition f) q) (x.marks q)) (omega arith) (omega arith) h.1

  egress_there : (a : Act) (x : Consumer) → ThereOnOk (egress_does f a x)
  egress_there (Takes from m) x = tt
  egress_there Works x = if_elim (ThereOnOk {X = Consumer}) (is_ready f (egress_partition f) x) _ _ (λ e. tt)
      (λ e. egress_tells_there x (untold f (egress_partition f) x) (first_found (f.sources (f.stages + 1)) (λ q. nat_lt (x.told q) (x.marks q))))
  egress_there act x = tt

  -- a step
  module _ (s : State) (n : NodeId) (at : HasNode f n) (old : AreBetweenNodes f s) where
    abbrev Between : LinkId → Message → Type 0
    Between l m = HasNode f l.from × HasNode f l.to

    put_there : (x : Node) (out : List Envelope) → AllThere out → AreBetweenNodes f (record { nodes = changed n x s.nodes; sent = posted n out s.sent })
    put_there x out h = (
        framed (λ m y. Unit {0}) (λ m y. Unit {0}) Between Between s n x out (λ m y t. t) (λ l m b. b) (record { nodes = λ m. tt; sent = old }) tt
        (each_map (λ (e : Envelope). HasNode f e.to) (λ (e : Envelope). Between (link n e.to) e.message) (λ e t. (at, t)) out h)
        ).sent

    replica_sends : (r : Result (Replica × List Envelope) Refusal) → ThereOnOk r → HoldsOnOk (AreBetweenNodes f) (after n s (as_replica r))
    replica_sends (Ok d) h = put_there (ReplicaNode d.0) d.1 h
    replica_sends (Err e) h = tt

    ingress_sends_on : (r : Result (Ingress × List Envelope) Refusal) → ThereOnOk r → HoldsOnOk (AreBetweenNodes f) (after n s (as_ingress r))
    ingress_sends_on (Ok d) h = put_there (IngressNode d.0) d.1 h
    ingress_sends_on (Err e) h = tt

    egress_sends : (r : Result (Consumer × List Envelope) Refusal) → ThereOnOk r → HoldsOnOk (AreBetweenNodes f) (after n s (as_egress r))
    egress_sends (Ok d) h = put_there (EgressNode d.0) d.1 h
    egress_sends (Err e) h = tt

    controller_sends : (p : Partition) → 1 ≤ p.stage → p.stage ≤ f.stages → p.part < f.sources (p.stage + 1) → (a : Act) (c : Controller) → HoldsOnOk (AreBetweenNodes f) (after n s (controller_does f p a c))
    controller_sends p some within few (Takes from m) c =
        let d = controller_takes (f.sources p.stage) p (which_of from) m c in put_there (ControllerNode d.0) d.1 (controller_there p A some within few (which_of from) m c)
    controller_sends p some within few act c = tt

  node_sends : (s : State) (n : NodeId) (a : Act) → HasNode f n → AreBetweenNodes f s → HoldsOnOk (AreBetweenNodes f) (after n s (does f n a (s.nodes n)))
  node_sends s node.Ingress a h old = ingress_sends_on s node.Ingress h old (ingress_does f a (ingress_in (s.nodes node.Ingress))) (ingress_there a (ingress_in (s.nodes node.Ingress)))
  node_sends s node.Egress a h old = egress_sends s node.Egress h old (egress_does f a (egress_in (s.nodes node.Egress))) (egress_there a (egress_in (s.nodes node.Egress)))
  node_sends s (node.Control t q) a h old = controller_sends s (node.Control t q) h old (record { stage = t; part = q }) h.0.0 h.0.1 h.1 a (controller_in (s.nodes (node.Control t q)))
  node_sends s (node.Replica t q w) a h old =
      let p : Partition = record { stage = t; part = q } in
      replica_sends s (node.Replica t q w) h old (replica_does f p w a (replica_in (s.nodes (node.Replica t q w)))) (does_there p w h.0.0 h.0.1 h.1 a (replica_in (s.nodes (node.Replica t q w))))

  pub between_nodes_kept : (s : State) (e : Event) → IsThere f e → AreBetweenNodes f s → HoldsOnOk (AreBetweenNodes f) (step f s e)
  between_nodes_kept s e there old = step_by f s e (AreBetweenNodes f) there (λ a h c. node_sends s (at_node e) a h old)
