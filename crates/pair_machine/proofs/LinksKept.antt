-- Each step sends only what the links carry.
use Rattle.std.proofs.Common.{◌≡◌, ◌≢◌, ◌<◌, ◌≤◌, ℕ, zero, suc, false, List, [], ◌∷◌, Option, None, Some, Result, Ok, Err, ◌+◌, ◌-◌, ◌&&◌, refl, ap, arith}
use Rattle.std.specs.Prelude.{◌==◌, nat_lt, nat_le}
use Rattle.std.proofs.lemmas.Bool.{eqb-true, eq-eqb, leb-true}
use Rattle.tuple_edge.specs.declared.node.NodeId.TheVariants as node
use Rattle.pair_machine.specs.Boundary.{egress_does, egress_partition, egress_tells, ingress_does, ingress_source, source_made}
use Rattle.pair_machine.specs.Consumers.{is_ready, untold}
use Rattle.std.specs.Option.{is_none}
use Rattle.pair_machine.specs.Controllers.{acks, acks_from, backs, controller_hears, controller_takes, counts, goes_down, is_catching, is_down, is_up, leads_now, least, stops, then_do}
use Rattle.pair_machine.specs.Flow.{Flow, IsFlow}
use Rattle.pair_machine.specs.Links.{AreOnTheirLinks, Carries, HasStage, IsProducer, IsThere, link}
use Rattle.pair_machine.specs.Machine.{State, after, as_egress, as_ingress, as_replica, at_node, changed, controller_does, controller_in, does, egress_in, ingress_in, posted, replica_in, step}
use Rattle.pair_machine.specs.Messages.{Ack, Act, AskBack, AskStop, AsksBack, AsksStop, Caught, Chunk, ChunkEnd, Dies, Down, Envelope, Makes, Message, Pulls, Refusal, Report, Takes, Tuple, Want, Works, envelope}
use Rattle.pair_machine.specs.Numbers.{Consumer, Controller, ControllerNode, EgressNode, Gathering, Gone, Ingress, IngressNode, Move, MoveNumbers, Node, Partition, Producer, Replica, ReplicaNode, Running, RunningNumbers, control_at, in_edge, other, out_edge, replica_at}
use Rattle.pair_machine.specs.Producers.{Due, due, sends_due, to_producers}
use Rattle.pair_machine.specs.Replicas.{chunk_wants, made_by, moves_or_sends, replica_does, replica_takes, replica_works, reports, sends_or_reports, size, which_of}
use Rattle.tuple_edge.specs.declared.event.Event.{Event}
use Rattle.tuple_edge.specs.declared.node.NodeId.{NodeId}
use Rattle.tuple_edge.specs.declared.node.Which.{Which}
use Rattle.tuple_edge.specs.declared.node.Which.TheVariants.{A, B}
use Rattle.pair_machine.proofs.Lists.{each_append}
use Rattle.pair_machine.proofs.StepTurns.{HoldsOnOk, step_by}
use Rattle.pair_machine.proofs.Frame.{EnvelopesMeet, framed}
use Rattle.pair_machine.proofs.Found.{FoundIn, first_found, IsDue, is_due}
use Rattle.pair_machine.proofs.Sources.{works_by}
use Rattle.pair_machine.proofs.Tests.{both, if_elim}

module _ (f : Flow) (ok : IsFlow f) where
  abbrev Fit : NodeId → List Envelope → Type 0
  Fit n out = EnvelopesMeet (Carries f) n out

  -- the producers of an in-edge
  producers_fit : (p : Partition) (from : NodeId) (q : ℕ) (m : Message) → 1 ≤ p.stage → p.stage ≤ f.stages + 1 → q < f.sources p.stage →
      ((to : NodeId) → IsProducer f (in_edge p q) to → Carries f (link from to) m) → Fit from (to_producers p q m)
  producers_fit p from q m s within l h = if_elim (Fit from) (p.stage == 1) _ _
      (λ e. let one = eqb-true p.stage 1 e in let few = ap f.sources one in (h node.Ingress (omega arith, omega arith), tt))
      (λ e. let far : 1 ≤ p.stage - 1 = not_one p.stage s e in (h (node.Replica (p.stage - 1) q A) (far, refl, refl), (h (node.Replica (p.stage - 1) q B) (far, refl, refl), tt)))
    where
      not_one : (t : ℕ) → 1 ≤ t → (t == 1) ≡ false → 1 ≤ t - 1
      not_one t l e = let ne : t ≢ 1 = λ z. (let y = eq-eqb t 1 z in cc) in omega arith

  due_fit : (p : Partition) (from : NodeId) (made : ℕ → ℕ) (x : Producer) (d : Due) → IsDue made x (f.targets p.stage) (Some d) → IsProducer f (out_edge p d.to) from → Fit from (sends_due f p d)
  due_fit p from made x d h o = if_elim (λ n. Fit from (envelope n (Tuple (out_edge p d.to) d.number) ∷ [])) (p.stage == f.stages) _ _
      (λ e. let last = eqb-true p.stage f.stages e in let few = ap f.targets last in let only = ok.last_targets in let l = h.0 in ((o, (last, omega arith)), tt))
      (λ e. ((o, (refl, refl)), tt))

  abbrev FitsAt : NodeId → Result (Replica × List Envelope) Refusal → Type 0
  FitsAt n (Ok d) = Fit n d.1
  FitsAt n (Err e) = Unit {0}

  -- replicas
  module _ (p : Partition) (w : Which) (s : 1 ≤ p.stage) (within : p.stage ≤ f.stages) where
    abbrev me : NodeId
    me = replica_at p w

    abbrev FitIfOk : Result (Replica × List Envelope) Refusal → Type 0
    FitIfOk r = FitsAt me r

    twice : (v : Which) → v ≡ other (other v)
    twice A = refl
    twice B = refl

    wants_fit : (n : ℕ) (m : MoveNumbers) → 1 ≤ n → Fit me (chunk_wants f p n m)
    wants_fit n m l = if_elim (Fit me) (nat_le n (f.sources p.stage)) _ _
        (λ e. let few = leb-true n (f.sources p.stage) e in
        producers_fit p me (n - 1) (Want (in_edge p (n - 1)) (m.marks (n - 1) + 1)) s (omega arith) (omega arith) (λ to o. ((omega arith, refl), o)))
        (λ e. tt)

    takes_fit : (from : NodeId) (m : Message) (r : Replica) → Fit me (replica_takes f p from m r).1
    takes_fit from (Chunk i n m) (Gone j) = tt
    takes_fit from (Chunk i n m) (Running x) = tt
    takes_fit from (Chunk i n m) (Gathering g) = if_elim (λ (d : Replica × List Envelope). Fit me d.1) ((i == g.inc) && (n == g.taken + 1)) _ _
        (λ e. let z = eqb-true n (g.taken + 1) (both (i == g.inc) (n == g.taken + 1) e).1 in wants_fit n m (omega arith)) (λ e. tt)
    takes_fit from (ChunkEnd i n m) (Gone j) = tt
    takes_fit from (ChunkEnd i n m) (Running x) = tt
    takes_fit from (ChunkEnd i n m) (Gathering g) = if_elim (λ (d : Replica × List Envelope). Fit me d.1) ((i == g.inc) && (n == g.taken)) _ _ (λ e. ((refl, refl), tt)) (λ e. tt)
    takes_fit from message r = tt

    reports_fit : (x : RunningNumbers) (q : Option ℕ) → FoundIn (λ q. nat_lt (x.consumer.told q) (x.consumer.marks q)) (f.sources p.stage) q → FitIfOk (reports f p x q)
    reports_fit x None h = tt
    reports_fit x (Some q) h = let l = h.1 in (((refl, refl), (omega arith, refl, omega arith)), tt)

    sends_fit : (x : RunningNumbers) (made : ℕ → ℕ) (d : Option Due) → IsDue made x.producer (f.targets p.stage) d → FitIfOk (sends_or_reports f p x d)
    sends_fit x made (Some d) h = due_fit p me made x.producer d h (s, refl, refl)
    sends_fit x made None h = reports_fit x (untold f p x.consumer) (first_found (f.sources p.stage) (λ q. nat_lt (x.consumer.told q) (x.consumer.marks q)))

    moves_fit : (x : RunningNumbers) (mv : Option Move) → FitIfOk (moves_or_sends f p (replica_at p (other w)) x mv)
    moves_fit x None = sends_fit x (made_by f p x.consumer.count) (due f p (made_by f p x.consumer.count) x.producer) (is_due f p (made_by f p x.consumer.count) x.producer)
    moves_fit x (Some mv) = if_elim (λ (d : Replica × List Envelope). Fit me d.1) (nat_lt mv.sent (size f p mv.numbers)) _ _ (λ e. ((refl, refl, twice w), tt)) (λ e. ((refl, refl, twice w), tt))

    works_fit : (r : Replica) → FitIfOk (replica_works f p w r)
    works_fit (Gone i) = tt
    works_fit (Gathering g) = tt
    works_fit (Running x) = if_elim FitIfOk (is_ready f p x.consumer) _ _ (λ e. tt) (λ e. moves_fit x x.move)

    does_fit : (a : Act) (r : Replica) → FitIfOk (replica_does f p w a r)
    does_fit (Takes from m) r = takes_fit from m r
    does_fit Works r = works_fit r
    does_fit Makes r = tt
    does_fit Dies (Gone i) = tt
    does_fit Dies (Running x) = ((refl, refl), tt)
    does_fit Dies (Gathering g) = ((refl, refl), tt)
    does_fit AsksStop (Gone i) = tt
    does_fit AsksStop (Running x) = ((refl, refl), tt)
    does_fit AsksStop (Gathering g) = tt
    does_fit AsksBack (Gone i) = tt
    does_fit AsksBack (Running x) = ((refl, refl), tt)
    does_fit AsksBack (Gathering g) = tt
    does_fit (Pulls q) (Gone i) = tt
    does_fit (Pulls q) (Running x) = tt
    does_fit (Pulls q) (Gathering g) = tt

  -- controllers
  module _ (p : Partition) (s : 1 ≤ p.stage) (within : p.stage ≤ f.stages) where
    abbrev ctl : NodeId
    ctl = control_at p

    goes_down_fit : (w : Which) (c : Controller) → Fit ctl (goes_down p w c).1
    goes_down_fit w c = if_elim (λ (d : Controller × List Envelope). Fit ctl d.1) (leads_now c.leader w) _ _
        (λ e. if_elim (λ (d : Controller × List Envelope). Fit ctl d.1) (is_up (c.watched (other w)).status) _ _ (λ inner. ((refl, refl), tt)) (λ inner. tt)) (λ e. tt)

    controller_hears_fit : (w : Which) (m : Message) (c : Controller) → Fit ctl (controller_hears p w m c).1
    controller_hears_fit w (Report i e k) c = if_elim (λ (d : Controller × List Envelope). Fit ctl d.1) (counts (c.watched w) i) _ _ (λ t. tt) (λ t. tt)
    controller_hears_fit w (Down i) c = if_elim (λ (d : Controller × List Envelope). Fit ctl d.1) (counts (c.watched w) i) _ _ (λ t. goes_down_fit w c) (λ t. tt)
    controller_hears_fit w (AskStop i) c = if_elim (λ (d : Controller × List Envelope). Fit ctl d.1) (counts (c.watched w) i) _ _ (λ t. tt) (λ t. tt)
    controller_hears_fit w AskBack c = tt
    controller_hears_fit w (Caught i) c = if_elim (λ (d : Controller × List Envelope). Fit ctl d.1) ((i == (c.watched w).inc) && is_catching (c.watched w).status) _ _
        (λ t. if_elim (λ (d : Controller × List Envelope). Fit ctl d.1) (is_none c.leader) _ _ (λ e. ((refl, refl), tt)) (λ e. tt)) (λ t. tt)
    controller_hears_fit w message c = tt

    backs_fit : (w : Which) (c : Controller) → Fit ctl (backs p w c).1
    backs_fit w c = if_elim (λ (d : Controller × List Envelope). Fit ctl d.1) ((c.watched w).back && (is_down (c.watched w).status && is_up (c.watched (other w)).status)) _ _ (λ t. ((refl, refl), ((refl, refl), tt))) (λ t. tt)

    stops_fit : (w : Which) (c : Controller) → Fit ctl (stops p w c).1
    stops_fit w c = if_elim (λ (d : Controller × List Envelope). Fit ctl d.1) ((c.watched w).stop && (is_up (c.watched w).status && is_up (c.watched (other w)).status)) _ _ (λ t. ((refl, refl), goes_down_fit w c)) (λ t. tt)

    acks_fit : (n q : ℕ) (c : Controller) → q + n ≤ f.sources p.stage → Fit ctl (acks_from n q p c)
    acks_fit zero q c l = tt
    acks_fit (suc n) q c l = each_append (λ (l : Envelope). Carries f (link ctl l.to) l.message) _ (acks_from n (q + 1) p c)
        (if_elim (Fit ctl) (nat_lt (c.acked q) (least c q)) (to_producers p q (Ack (in_edge p q) (least c q))) []
        (λ e. producers_fit p ctl q (Ack (in_edge p q) (least c q)) s (omega arith) (omega arith) (λ to o. ((omega arith, refl), o))) (λ e. tt))
        (acks_fit n (q + 1) c (omega arith))

    then_fit : (d : Controller × List Envelope) (g : Controller → (Controller × List Envelope)) → Fit ctl d.1 → Fit ctl (g d.0).1 → Fit ctl (then_do d g).1
    then_fit d g h h_after = each_append (λ (l : Envelope). Carries f (link ctl l.to) l.message) d.1 (g d.0).1 h h_after

    pub controller_fit : (w : Which) (m : Message) (c : Controller) → Fit ctl (controller_takes (f.sources p.stage) p w m c).1
    controller_fit w m c =
        let r0 = controller_hears p w m c in
        let r1 = then_do r0 (backs p A) in
        let r2 = then_do r1 (backs p B) in
        let r3 = then_do r2 (stops p A) in
        let r4 = then_do r3 (stops p B) in
        then_fit r4 (acks (f.sources p.stage) p) (then_fit r3 (stops p B) (then_fit r2 (stops p A) (then_fit r1 (backs p B) (then_fit r0 (backs p A) (controller_hears_fit w m c) (backs_fit A r0.0)) (backs_fit B r1.0)) (stops_fit A r2.0)) (stops_fit B r3.0))
        (acks_fit (f.sources p.stage) 0 r4.0 (omega arith))

  -- ingress and egress
  abbrev IngressFits : Result (Ingress × List Envelope) Refusal → Type 0
  IngressFits (Ok d) = Fit node.Ingress d.1
  IngressFits (Err e) = Unit {0}

  ingress_fit : (a : Act) (x : Ingress) → IngressFits (ingress_does f a x)
  ingress_fit (Takes from m) x = tt
  ingress_fit Works x = works_by f x IngressFits tt (λ q d l h. due_fit (ingress_source q) node.Ingress (source_made f x q) (x.producers q) d h (refl, l))
  ingress_fit Makes x = if_elim IngressFits (nat_lt x.makes f.makes) _ _ (λ e. tt) (λ e. tt)
  ingress_fit act x = tt

  abbrev EgressFits : Result (Consumer × List Envelope) Refusal → Type 0
  EgressFits (Ok d) = Fit node.Egress d.1
  EgressFits (Err e) = Unit {0}

  egress_tells_fit : (x : Consumer) (o : Option ℕ) → FoundIn (λ q. nat_lt (x.told q) (x.marks q)) (f.sources (f.stages + 1)) o → EgressFits (egress_tells f x o)
  egress_tells_fit x None h = tt
  egress_tells_fit x (Some q) h = producers_fit (egress_partition f) node.Egress q (Ack (in_edge (egress_partition f) q) (x.marks q)) (omega arith) (omega arith) (let l = h.1 in omega arith) (λ to o. ((omega arith, refl), o))

  egress_fit : (a : Act) (x : Consumer) → EgressFits (egress_does f a x)
  egress_fit (Takes from m) x = tt
  egress_fit Works x = if_elim EgressFits (is_ready f (egress_partition f) x) _ _ (λ e. tt)
      (λ e. egress_tells_fit x (untold f (egress_partition f) x) (first_found (f.sources (f.stages + 1)) (λ q. nat_lt (x.told q) (x.marks q))))
  egress_fit act x = tt

  -- a step
  abbrev put : NodeId → State → Node → List Envelope → State
  put n s x out = record { nodes = changed n x s.nodes; sent = posted n out s.sent }

  carried_by : (s : State) (n : NodeId) (x : Node) (out : List Envelope) → AreOnTheirLinks f s → Fit n out → AreOnTheirLinks f (put n s x out)
  carried_by s n x out old h = (framed (λ n x. Unit {0}) (λ n x. Unit {0}) (Carries f) (Carries f) s n x out (λ m y h. h) (λ l m h. h) (record { nodes = λ m. tt; sent = old }) tt h).sent

  replica_carried : (s : State) (t q : ℕ) (w : Which) (r : Result (Replica × List Envelope) Refusal) → AreOnTheirLinks f s → FitsAt (node.Replica t q w) r → HoldsOnOk (AreOnTheirLinks f) (after (node.Replica t q w) s (as_replica r))
  replica_carried s t q w (Ok d) old h = carried_by s (node.Replica t q w) (ReplicaNode d.0) d.1 old h
  replica_carried s t q w (Err e) old h = tt

  ingress_carried : (s : State) (r : Result (Ingress × List Envelope) Refusal) → AreOnTheirLinks f s → IngressFits r → HoldsOnOk (AreOnTheirLinks f) (after node.Ingress s (as_ingress r))
  ingress_carried s (Ok d) old h = carried_by s node.Ingress (IngressNode d.0) d.1 old h
  ingress_carried s (Err e) old h = tt

  egress_carried : (s : State) (r : Result (Consumer × List Envelope) Refusal) → AreOnTheirLinks f s → EgressFits r → HoldsOnOk (AreOnTheirLinks f) (after node.Egress s (as_egress r))
  egress_carried s (Ok d) old h = carried_by s node.Egress (EgressNode d.0) d.1 old h
  egress_carried s (Err e) old h = tt

  controller_carried : (s : State) (t q : ℕ) (a : Act) (c : Controller) → 1 ≤ t → t ≤ f.stages → AreOnTheirLinks f s → HoldsOnOk (AreOnTheirLinks f) (after (node.Control t q) s (controller_does f (record { stage = t; part = q }) a c))
  controller_carried s t q (Takes from m) c h h_after old =
      let d = controller_takes (f.sources t) (record { stage = t; part = q }) (which_of from) m c in
      carried_by s (node.Control t q) (ControllerNode d.0) d.1 old (controller_fit (record { stage = t; part = q }) h h_after (which_of from) m c)
  controller_carried s t q act c h h_after old = tt

  node_carried : (s : State) (n : NodeId) (a : Act) → HasStage f n → AreOnTheirLinks f s → HoldsOnOk (AreOnTheirLinks f) (after n s (does f n a (s.nodes n)))
  node_carried s node.Ingress a h old = ingress_carried s (ingress_does f a (ingress_in (s.nodes node.Ingress))) old (ingress_fit a (ingress_in (s.nodes node.Ingress)))
  node_carried s node.Egress a h old = egress_carried s (egress_does f a (egress_in (s.nodes node.Egress))) old (egress_fit a (egress_in (s.nodes node.Egress)))
  node_carried s (node.Control t q) a h old = controller_carried s t q a (controller_in (s.nodes (node.Control t q))) h.0 h.1 old
  node_carried s (node.Replica t q w) a h old = replica_carried s t q w (replica_does f (record { stage = t; part = q }) w a (replica_in (s.nodes (node.Replica t q w)))) old
      (does_fit (record { stage = t; part = q }) w h.0 h.1 a (replica_in (s.nodes (node.Replica t q w))))

  pub carried_kept : (s : State) (e : Event) → IsThere f e → AreOnTheirLinks f s → HoldsOnOk (AreOnTheirLinks f) (step f s e)
  carried_kept s e there old = step_by f s e (AreOnTheirLinks f) there (λ a h c. node_carried s (at_node e) a h.0 old)
