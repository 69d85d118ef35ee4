-- Each step keeps what is known of acknowledgements.
use Rattle.std.proofs.Common.{◌≡◌, ◌≤◌, ℕ, zero, suc, Bool, true, false, List, [], Option, None, Some, Result, Ok, Err, ◌+◌, ◌-◌, ◌&&◌, refl, ap, ◌∙◌, subst, subst₂, arith}
use Rattle.std.specs.Prelude.{max, ◌==◌, if◌then◌else◌, nat_lt, nat_le}
use Rattle.std.proofs.lemmas.Bool.{eqb-true, eq-eqb, ltb-true}
use Rattle.tuple_edge.specs.declared.node.NodeId.TheVariants as node
use Rattle.tuple_edge.specs.declared.status.Status.TheVariants as status
use Rattle.pair_machine.specs.Acknowledged.{ChunkLows, ControllerAcks, IsAckedAtMostReported, MessageLows, MoveLows, MovedLows, NodeLows, ReplicaLows, acked_of}
use Rattle.pair_machine.specs.Boundary.{egress_does, egress_partition, egress_takes, egress_tells, ingress_does, ingress_takes}
use Rattle.pair_machine.specs.Consumers.{is_ready, merged_one, offered, pulled, untold, with_at}
use Rattle.std.specs.Option.{is_none}
use Rattle.pair_machine.specs.Controllers.{acks, acks_from, backs, controller_hears, controller_takes, counts, downed, goes_down, is_catching, is_down, is_up, leads_now, least, least_of, named, stops, then_do, with_which}
use Rattle.pair_machine.specs.Flow.{Flow}
use Rattle.pair_machine.specs.Links.{AreOnTheirLinks, Carries, HasStage, IsAcross, IsThere, link}
use Rattle.pair_machine.specs.Machine.{State, after, as_egress, as_ingress, as_replica, at_node, changed, controller_does, controller_in, does, egress_in, ingress_in, posted, replica_in, step}
use Rattle.pair_machine.specs.Messages.{Ack, Act, AskBack, AskStop, AsksBack, AsksStop, Begin, Caught, Chunk, ChunkEnd, Dies, Down, Envelope, Lead, Makes, Message, Pulls, Refusal, Report, Serve, Stop, Takes, Tuple, Want, Works}
use Rattle.pair_machine.specs.Numbers.{Consumer, Controller, ControllerNode, EgressNode, Gathering, Gone, Ingress, IngressNode, Move, MoveNumbers, Node, Partition, Producer, Replica, ReplicaNode, Running, RunningNumbers, Watched, control_at, in_edge, ingress_edge, is_node, other, replica_at, copy_of}
use Rattle.pair_machine.specs.Producers.{Due, acked_to, due, leading, rewound, sent_on, to_producers, wanted}
use Rattle.pair_machine.specs.Replicas.{inc_of, made_by, moves_or_sends, replica_asks, replica_dies, replica_does, replica_pulls, replica_takes, replica_works, reports, sends_or_reports, size, which_of}
use Rattle.tuple_edge.specs.declared.event.Event.{Event}
use Rattle.tuple_edge.specs.declared.node.EdgeId.{EdgeId}
use Rattle.tuple_edge.specs.declared.node.LinkId.{LinkId}
use Rattle.tuple_edge.specs.declared.node.NodeId.{NodeId}
use Rattle.tuple_edge.specs.declared.node.Which.{Which}
use Rattle.tuple_edge.specs.declared.node.Which.TheVariants.{A, B}
use Rattle.tuple_edge.specs.declared.status.Status.{Status}
use Rattle.pair_machine.proofs.Lists.{each_append, each_map, each_at}
use Rattle.pair_machine.proofs.StepTurns.{HoldsOnOk, WasSent, step_by}
use Rattle.pair_machine.proofs.Frame.{EnvelopesMeet, framed}
use Rattle.pair_machine.proofs.Found.{FoundIn, first_found}
use Rattle.pair_machine.proofs.Names.{is_node-true}
use Rattle.pair_machine.proofs.Sources.{each_producer, works_by}
use Rattle.pair_machine.proofs.Tests.{both, if_elim, nat_not, nat_self}

-- replicas --------------------------------------------------------------

abbrev TakenLows : (ℕ → ℕ) → Message → Type 0
TakenLows j (Ack e u) = u ≤ j e.to
TakenLows j (Chunk i n m) = (t : ℕ) → m.lows t ≤ j t
TakenLows j (ChunkEnd i n m) = (t : ℕ) → m.lows t ≤ j t
TakenLows j m = Unit {0}

abbrev ActLows : (ℕ → ℕ) → Act → Type 0
ActLows j (Takes from m) = TakenLows j m
ActLows j act = Unit {0}

-- what a producer does keeps its lows at most those numbers
acked_lows : (j : ℕ → ℕ) (x : Producer) (t u : ℕ) → u ≤ j t → ((i : ℕ) → x.lows i ≤ j i) → (i : ℕ) → (acked_to x t u).lows i ≤ j i
acked_lows j x t u h old i = if_elim (λ v. v ≤ j i) (i == t) (max (x.lows t) u) (x.lows i)
    (λ e. let same = eqb-true i t e in let at = ap j same in let low = old t in omega arith) (λ e. old i)

wanted_lows : (j : ℕ → ℕ) (x : Producer) (t c n : ℕ) → ((i : ℕ) → x.lows i ≤ j i) → (i : ℕ) → (wanted x t c n).lows i ≤ j i
wanted_lows j x t c n old = if_elim (λ (y : Producer). (i : ℕ) → y.lows i ≤ j i) x.leads (rewound x t c n) x (λ e. old) (λ e. old)

leading_lows : (j : ℕ → ℕ) (x : Producer) (term : ℕ) → ((i : ℕ) → x.lows i ≤ j i) → (i : ℕ) → (leading x term).lows i ≤ j i
leading_lows j x term old = if_elim (λ (y : Producer). (i : ℕ) → y.lows i ≤ j i) (nat_lt x.term term) _ x (λ e. old) (λ e. old)

move_lows : (j : ℕ → ℕ) (o : Option Move) (mv : Move) → o ≡ Some mv → MoveLows j o → MoveLows j (Some mv)
move_lows j o mv e h = subst (MoveLows j) e h

module _ (f : Flow) (k : EdgeId → ℕ) (p : Partition) (w : Which) where
  abbrev lows_at : ℕ → ℕ
  lows_at t = k (record { stage = p.stage; from = p.part; to = t })

  abbrev LowsDone : (Replica × List Envelope) → Type 0
  LowsDone d = ReplicaLows lows_at d.0 × EnvelopesMeet (MessageLows k) (replica_at p w) d.1

  abbrev LowsIfOk : Result (Replica × List Envelope) Refusal → Type 0
  LowsIfOk (Ok d) = LowsDone d
  LowsIfOk (Err e) = Unit {0}

  producers_lows : (from : NodeId) (q : ℕ) (e : EdgeId) (n : ℕ) → EnvelopesMeet (MessageLows k) from (to_producers p q (Want e n))
  producers_lows from q e n = if_elim (EnvelopesMeet (MessageLows k) from) (p.stage == 1) _ _ (λ e. (tt, tt)) (λ e. (tt, (tt, tt)))

  takes_lows : (from : NodeId) (m : Message) (r : Replica) → TakenLows lows_at m → ReplicaLows lows_at r → LowsDone (replica_takes f p from m r)
  takes_lows from (Tuple e n) (Gone i) h c = (tt, tt)
  takes_lows from (Tuple e n) (Running x) h c = (c, tt)
  takes_lows from (Tuple e n) (Gathering g) h c = (c, tt)
  takes_lows from (Ack e u) (Gone i) h c = (tt, tt)
  takes_lows from (Ack e u) (Running x) h c = ((acked_lows lows_at x.producer e.to u h c.0, c.1), tt)
  takes_lows from (Ack e u) (Gathering g) h c = (c, tt)
  takes_lows from (Lead i t) (Gone j) h c = (tt, tt)
  takes_lows from (Lead i t) (Running x) h c = if_elim (λ r. LowsDone (r, [])) (i == x.inc) _ _ (λ e. ((leading_lows lows_at x.producer t c.0, c.1), tt)) (λ e. (c, tt))
  takes_lows from (Lead i t) (Gathering g) h c = (c, tt)
  takes_lows from (Serve i t) (Gone j) h c = (tt, tt)
  takes_lows from (Serve i t) (Running x) h c = if_elim (λ r. LowsDone (r, [])) ((i == x.inc) && nat_lt x.served t) _ _ (λ e. ((c.0, c.0), tt)) (λ e. (c, tt))
  takes_lows from (Serve i t) (Gathering g) h c = (c, tt)
  takes_lows from (Begin i) r h c = if_elim (λ r. LowsDone (r, [])) (nat_lt (inc_of r) i) _ _ (λ e. (tt, tt)) (λ e. (c, tt))
  takes_lows from (Stop i) r h c = if_elim (λ r. LowsDone (r, [])) (i == inc_of r) _ _ (λ e. (tt, tt)) (λ e. (c, tt))
  takes_lows from (Chunk i n m) (Gone j) h c = (tt, tt)
  takes_lows from (Chunk i n m) (Running x) h c = (c, tt)
  takes_lows from (Chunk i n m) (Gathering g) h c = if_elim LowsDone ((i == g.inc) && (n == g.taken + 1)) _ _
      (λ e. (h, if_elim (EnvelopesMeet (MessageLows k) (replica_at p w)) (nat_le n (f.sources p.stage)) _ _ (λ z. producers_lows (replica_at p w) (n - 1) (in_edge p (n - 1)) (m.marks (n - 1) + 1)) (λ z. tt))) (λ e. (c, tt))
  takes_lows from (ChunkEnd i n m) (Gone j) h c = (tt, tt)
  takes_lows from (ChunkEnd i n m) (Running x) h c = (c, tt)
  takes_lows from (ChunkEnd i n m) (Gathering g) h c = if_elim LowsDone ((i == g.inc) && (n == g.taken)) _ _ (λ e. ((h, tt), (tt, tt))) (λ e. (c, tt))
  takes_lows from (Want e n) (Gone i) h c = (tt, tt)
  takes_lows from (Want e n) (Running x) h c = ((wanted_lows lows_at x.producer e.to (copy_of (which_of from)) n c.0, c.1), tt)
  takes_lows from (Want e n) (Gathering g) h c = (c, tt)
  takes_lows from message r h c = (c, tt)

  reports_lows : (x : RunningNumbers) (q : Option ℕ) → ReplicaLows lows_at (Running x) → LowsIfOk (reports f p x q)
  reports_lows x None c = tt
  reports_lows x (Some q) c = (c, (tt, tt))

  sends_lows : (x : RunningNumbers) (d : Option Due) → ReplicaLows lows_at (Running x) → LowsIfOk (sends_or_reports f p x d)
  sends_lows x (Some d) c = (c, (tt, tt))
  sends_lows x None c = reports_lows x (untold f p x.consumer) c

  moves_lows : (x : RunningNumbers) (mv : Option Move) → x.move ≡ mv → ReplicaLows lows_at (Running x) → LowsIfOk (moves_or_sends f p (replica_at p (other w)) x mv)
  moves_lows x None e c = sends_lows x (due f p (made_by f p x.consumer.count) x.producer) c
  moves_lows x (Some mv) e c =
      let l = move_lows lows_at x.move mv e c.1 in
      if_elim LowsDone (nat_lt mv.sent (size f p mv.numbers)) _ _ (λ z. ((c.0, l), (l, tt))) (λ z. ((c.0, tt), (l, tt)))

  works_lows : (r : Replica) → ReplicaLows lows_at r → LowsIfOk (replica_works f p w r)
  works_lows (Gone i) c = tt
  works_lows (Gathering g) c = tt
  works_lows (Running x) c = if_elim LowsIfOk (is_ready f p x.consumer) _ _ (λ e. (c, tt)) (λ e. moves_lows x x.move refl c)

  dies_lows : (r : Replica) → LowsIfOk (replica_dies p r)
  dies_lows (Gone i) = tt
  dies_lows (Running x) = (tt, (tt, tt))
  dies_lows (Gathering g) = (tt, (tt, tt))

  asks_stop_lows : (r : Replica) → ReplicaLows lows_at r → LowsIfOk (replica_asks p (λ i. AskStop i) r)
  asks_stop_lows (Gone i) c = tt
  asks_stop_lows (Running x) c = (c, (tt, tt))
  asks_stop_lows (Gathering g) c = tt

  asks_back_lows : (r : Replica) → ReplicaLows lows_at r → LowsIfOk (replica_asks p (λ i. AskBack) r)
  asks_back_lows (Gone i) c = tt
  asks_back_lows (Running x) c = (c, (tt, tt))
  asks_back_lows (Gathering g) c = tt

  pulls_lows : (q : ℕ) (r : Replica) → ReplicaLows lows_at r → LowsIfOk (replica_pulls q r)
  pulls_lows q (Gone i) c = tt
  pulls_lows q (Running x) c = (c, tt)
  pulls_lows q (Gathering g) c = tt

  does_lows : (a : Act) (r : Replica) → ActLows lows_at a → ReplicaLows lows_at r → LowsIfOk (replica_does f p w a r)
  does_lows (Takes from m) r h c = takes_lows from m r h c
  does_lows Works r h c = works_lows r c
  does_lows Makes r h c = tt
  does_lows Dies r h c = dies_lows r
  does_lows AsksStop r h c = asks_stop_lows r c
  does_lows AsksBack r h c = asks_back_lows r c
  does_lows (Pulls q) r h c = pulls_lows q r c

-- controllers -----------------------------------------------------------

-- a replica's numbers change so that what is acknowledged stays reported
with_acks : (c : Controller) (w : Which) (h : Watched) → ((q : ℕ) → is_down h.status ≡ false → c.acked q ≤ h.reports q) → ControllerAcks c → (q : ℕ) (u : Which) → is_down (with_which c.watched w h u).status ≡ false → c.acked q ≤ (with_which c.watched w h u).reports q
with_acks c A h new old q A = new q
with_acks c A h new old q B = old q B
with_acks c B h new old q A = old q A
with_acks c B h new old q B = new q

-- a part of the controller's step that acknowledges nothing
abbrev Quiet : (EdgeId → ℕ) → NodeId → Controller → (Controller × List Envelope) → Type 0
Quiet k n c d = (d.0.acked ≡ c.acked) × ControllerAcks d.0 × EnvelopesMeet (MessageLows k) n d.1

not_false : (b : Bool) → b ≡ true → b ≡ false → ⊥
not_false true e inner = cc
not_false false e inner = cc

up_not_down : (s : Status) → is_up s ≡ true → is_down s ≡ false
up_not_down status.Up e = refl
up_not_down status.Catching e = cc
up_not_down status.Down e = cc

catching_not_down : (s : Status) → is_catching s ≡ true → is_down s ≡ false
catching_not_down status.Up e = cc
catching_not_down status.Catching e = refl
catching_not_down status.Down e = cc

hears_acks : (c : Controller) (w : Which) (e : EdgeId) (u : ℕ) → ControllerAcks c → (q : ℕ) → is_down (c.watched w).status ≡ false → c.acked q ≤ with_at (c.watched w).reports e.from (max ((c.watched w).reports e.from) u) q
hears_acks c w e u old q n = if_elim (λ v. c.acked q ≤ v) (q == e.from) (max ((c.watched w).reports e.from) u) ((c.watched w).reports q)
    (λ z. let l = old q w n in let same = ap (c.watched w).reports (eqb-true q e.from z) in omega arith) (λ z. old q w n)

module _ (k : EdgeId → ℕ) (p : Partition) where
  named_quiet : (w : Which) (c : Controller) → ControllerAcks c → Quiet k (control_at p) c (named p w c)
  named_quiet w c old = (refl, old, (tt, tt))

  downed_acks : (w : Which) (c : Controller) → ControllerAcks c → ControllerAcks (downed w c)
  downed_acks w c old = with_acks c w (record (c.watched w) { status = status.Down; stop = false }) (λ q e. absurd (let z : ⊥ = cc in z)) old

  goes_down_quiet : (w : Which) (c : Controller) → ControllerAcks c → Quiet k (control_at p) c (goes_down p w c)
  goes_down_quiet w c old = if_elim (Quiet k (control_at p) c) (leads_now c.leader w) _ _
      (λ e. if_elim (Quiet k (control_at p) c) (is_up (c.watched (other w)).status) _ _ (λ inner. (refl, downed_acks w c old, (tt, tt))) (λ inner. (refl, downed_acks w c old, tt)))
      (λ e. (refl, downed_acks w c old, tt))

  same_quiet : (c : Controller) → ControllerAcks c → Quiet k (control_at p) c (c, [])
  same_quiet c old = (refl, old, tt)

  takes_quiet : (w : Which) (m : Message) (c : Controller) → ControllerAcks c → Quiet k (control_at p) c (controller_hears p w m c)
  takes_quiet w (Report i e u) c old = if_elim (Quiet k (control_at p) c) (counts (c.watched w) i) _ _
      (λ t. (refl, with_acks c w (record (c.watched w) { reports = with_at (c.watched w).reports e.from (max ((c.watched w).reports e.from) u) }) (hears_acks c w e u old) old, tt)) (λ t. same_quiet c old)
  takes_quiet w (Down i) c old = if_elim (Quiet k (control_at p) c) (counts (c.watched w) i) _ _ (λ t. goes_down_quiet w c old) (λ t. same_quiet c old)
  takes_quiet w (AskStop i) c old = if_elim (Quiet k (control_at p) c) (counts (c.watched w) i) _ _
      (λ t. (refl, with_acks c w (record (c.watched w) { stop = true }) (λ q. old q w) old, tt)) (λ t. same_quiet c old)
  takes_quiet w AskBack c old = (refl, with_acks c (other w) (record (c.watched (other w)) { back = true }) (λ q. old q (other w)) old, tt)
  takes_quiet w (Caught i) c old = if_elim (Quiet k (control_at p) c) ((i == (c.watched w).inc) && is_catching (c.watched w).status) _ _
      (λ t. let z = both (i == (c.watched w).inc) (is_catching (c.watched w).status) t in
      let up = with_acks c w (record (c.watched w) { status = status.Up }) (λ q e. old q w (catching_not_down (c.watched w).status z.1)) old in
      if_elim (Quiet k (control_at p) c) (is_none c.leader) _ _ (λ e. (refl, up, (tt, tt))) (λ e. (refl, up, tt)))
      (λ t. same_quiet c old)
  takes_quiet w message c old = same_quiet c old

  backs_quiet : (w : Which) (c : Controller) → ControllerAcks c → Quiet k (control_at p) c (backs p w c)
  backs_quiet w c old = if_elim (Quiet k (control_at p) c) ((c.watched w).back && (is_down (c.watched w).status && is_up (c.watched (other w)).status)) _ _
      (λ t. let z = both (c.watched w).back (is_down (c.watched w).status && is_up (c.watched (other w)).status) t in
      let y = both (is_down (c.watched w).status) (is_up (c.watched (other w)).status) z.1 in
      (refl, with_acks c w (record { status = status.Catching; inc = (c.watched w).inc + 1; reports = (c.watched (other w)).reports; stop = (c.watched w).stop; back = false }) (λ q e. old q (other w) (up_not_down (c.watched (other w)).status y.1)) old, (tt, (tt, tt))))
      (λ t. same_quiet c old)

  stops_quiet : (w : Which) (c : Controller) → ControllerAcks c → Quiet k (control_at p) c (stops p w c)
  stops_quiet w c old = if_elim (Quiet k (control_at p) c) ((c.watched w).stop && (is_up (c.watched w).status && is_up (c.watched (other w)).status)) _ _
      (λ t. let g = goes_down_quiet w c old in (g.0, g.1, (tt, g.2))) (λ t. same_quiet c old)

  then_quiet : (c : Controller) (d : Controller × List Envelope) (g : Controller → (Controller × List Envelope)) → Quiet k (control_at p) c d → Quiet k (control_at p) d.0 (g d.0) → Quiet k (control_at p) c (then_do d g)
  then_quiet c d g h h_after = (h_after.0 ∙ h.0, h_after.1, each_append (λ (l : Envelope). MessageLows k (link (control_at p) l.to) l.message) d.1 (g d.0).1 h.2 h_after.2)

  least_left : (a b u : ℕ) (s s_other : Status) → is_down s ≡ false → least_of u s a s_other b ≤ a
  least_left a b u status.Up status.Up e = omega arith
  least_left a b u status.Up status.Catching e = omega arith
  least_left a b u status.Up status.Down e = omega arith
  least_left a b u status.Catching status.Up e = omega arith
  least_left a b u status.Catching status.Catching e = omega arith
  least_left a b u status.Catching status.Down e = omega arith
  least_left a b u status.Down s_other e = cc

  least_right : (a b u : ℕ) (s s_other : Status) → is_down s_other ≡ false → least_of u s a s_other b ≤ b
  least_right a b u status.Up status.Up e = omega arith
  least_right a b u status.Catching status.Up e = omega arith
  least_right a b u status.Down status.Up e = omega arith
  least_right a b u status.Up status.Catching e = omega arith
  least_right a b u status.Catching status.Catching e = omega arith
  least_right a b u status.Down status.Catching e = omega arith
  least_right a b u status.Up status.Down e = cc
  least_right a b u status.Catching status.Down e = cc
  least_right a b u status.Down status.Down e = cc

  least_below : (c : Controller) (q : ℕ) (w : Which) → is_down (c.watched w).status ≡ false → least c q ≤ (c.watched w).reports q
  least_below c q A = least_left ((c.watched A).reports q) ((c.watched B).reports q) (c.acked q) (c.watched A).status (c.watched B).status
  least_below c q B = least_right ((c.watched A).reports q) ((c.watched B).reports q) (c.acked q) (c.watched A).status (c.watched B).status

  -- the acknowledgements
  after_acks : (f : Flow) (c : Controller) → ControllerAcks c → ControllerAcks (acks (f.sources p.stage) p c).0
  after_acks f c old q w e = let l = old q w e in let m = least_below c q w e in omega arith

  acks_lows : (n q : ℕ) (c : Controller) → ((i : ℕ) → least c i ≤ k (in_edge p i)) → EnvelopesMeet (MessageLows k) (control_at p) (acks_from n q p c)
  acks_lows zero q c h = tt
  acks_lows (suc n) q c h = each_append (λ (l : Envelope). MessageLows k (link (control_at p) l.to) l.message) _ (acks_from n (q + 1) p c)
      (if_elim (EnvelopesMeet (MessageLows k) (control_at p)) (nat_lt (c.acked q) (least c q)) (to_producers p q (Ack (in_edge p q) (least c q))) []
      (λ e. if_elim (EnvelopesMeet (MessageLows k) (control_at p)) (p.stage == 1) _ _ (λ z. (h q, tt)) (λ z. (h q, (h q, tt)))) (λ e. tt))
      (acks_lows n (q + 1) c h)

  -- a controller's step: what it had acknowledged rises, and each Ack is at most what is acknowledged then
  abbrev KeepsAcks : Controller → (Controller × List Envelope) → Type 0
  KeepsAcks c d = ((q : ℕ) → c.acked q ≤ d.0.acked q) × ControllerAcks d.0 × (((q : ℕ) → d.0.acked q ≤ k (in_edge p q)) → EnvelopesMeet (MessageLows k) (control_at p) d.1)

  controller_acks : (f : Flow) (w : Which) (m : Message) (c : Controller) → ControllerAcks c → KeepsAcks c (controller_takes (f.sources p.stage) p w m c)
  controller_acks f w m c old =
      let r0 = controller_hears p w m c in
      let r1 = then_do r0 (backs p A) in
      let r2 = then_do r1 (backs p B) in
      let r3 = then_do r2 (stops p A) in
      let r4 = then_do r3 (stops p B) in
      let q0 = takes_quiet w m c old in
      let q1 = then_quiet c r0 (backs p A) q0 (backs_quiet A r0.0 q0.1) in
      let q2 = then_quiet c r1 (backs p B) q1 (backs_quiet B r1.0 q1.1) in
      let q3 = then_quiet c r2 (stops p A) q2 (stops_quiet A r2.0 q2.1) in
      let q4 = then_quiet c r3 (stops p B) q3 (stops_quiet B r3.0 q3.1) in
      acked_then r4 q4
    where
      acked_then : (r : Controller × List Envelope) → Quiet k (control_at p) c r → KeepsAcks c (then_do r (acks (f.sources p.stage) p))
      acked_then r h = (
        (λ q. let same = ap (λ (g : ℕ → ℕ). g q) h.0 in omega arith),
        after_acks f r.0 h.1,
        (λ top. each_append (λ (l : Envelope). MessageLows k (link (control_at p) l.to) l.message) r.1 (acks (f.sources p.stage) p r.0).1 h.2 (acks_lows (f.sources p.stage) 0 r.0 (λ i. let z = top i in omega arith))),
      )

-- ingress -----------------------------------------------------------------

module _ (f : Flow) (k : EdgeId → ℕ) where
  -- the lows of a source's producer are at most those numbers
  abbrev SourceLows : ℕ → Producer → Type 0
  SourceLows q x = (t : ℕ) → x.lows t ≤ k (ingress_edge q t)

  abbrev IngressLows : Ingress → Type 0
  IngressLows x = (q : ℕ) → SourceLows q (x.producers q)

  abbrev IngressIfOk : Result (Ingress × List Envelope) Refusal → Type 0
  IngressIfOk (Ok d) = IngressLows d.0 × EnvelopesMeet (MessageLows k) node.Ingress d.1
  IngressIfOk (Err e) = Unit {0}

  -- an acknowledgement of a source's edge
  abbrev SourceAcked : Message → Type 0
  SourceAcked (Ack e u) = u ≤ k (ingress_edge e.from e.to)
  SourceAcked m = Unit {0}

  abbrev ActAcked : Act → Type 0
  ActAcked (Takes from m) = SourceAcked m
  ActAcked act = Unit {0}

  ingress_takes_lows : (from : NodeId) (m : Message) (x : Ingress) → SourceAcked m → IngressLows x → IngressLows (ingress_takes from m x)
  ingress_takes_lows from (Ack e u) x h c =
      each_producer SourceLows x e.from (acked_to (x.producers e.from) e.to u) (acked_lows (λ t. k (ingress_edge e.from t)) (x.producers e.from) e.to u h (c e.from)) c
  ingress_takes_lows from (Want e n) x h c =
      each_producer SourceLows x e.from (wanted (x.producers e.from) e.to (copy_of (which_of from)) n) (wanted_lows (λ t. k (ingress_edge e.from t)) (x.producers e.from) e.to (copy_of (which_of from)) n (c e.from)) c
  ingress_takes_lows from message x h c = c

  ingress_lows : (a : Act) (x : Ingress) → ActAcked a → IngressLows x → IngressIfOk (ingress_does f a x)
  ingress_lows (Takes from m) x h c = (ingress_takes_lows from m x h c, tt)
  ingress_lows Works x h c = works_by f x IngressIfOk tt (λ q d l due. (each_producer SourceLows x q (sent_on (x.producers q) d) (c q) c, (tt, tt)))
  ingress_lows Makes x h c = if_elim IngressIfOk (nat_lt x.makes f.makes) _ _ (λ e. (c, tt)) (λ e. tt)
  ingress_lows act x h c = tt

-- egress --------------------------------------------------------------------

-- what egress told rises, and each Ack is at most what it told then
abbrev EgressAcks : Flow → (EdgeId → ℕ) → Consumer → Result (Consumer × List Envelope) Refusal → Type 0
EgressAcks f k x (Ok d) = ((q : ℕ) → x.told q ≤ d.0.told q) × (((q : ℕ) → d.0.told q ≤ k (in_edge (egress_partition f) q)) → EnvelopesMeet (MessageLows k) node.Egress d.1)
EgressAcks f k x (Err e) = Unit {0}

egress_same : (f : Flow) (k : EdgeId → ℕ) (x y : Consumer) → x.told ≡ y.told → EgressAcks f k x (Ok (y, []))
egress_same f k x y e = ((λ q. let same = ap (λ (g : ℕ → ℕ). g q) e in omega arith), (λ top. tt))

offered_told : (t : Consumer) (q n : ℕ) → t.told ≡ (offered t q n).told
offered_told t q n = if_elim (λ (u : Consumer). t.told ≡ u.told) (n == t.marks q + 1) _ t (λ e. refl) (λ e. refl)

egress_takes_acks : (f : Flow) (k : EdgeId → ℕ) (m : Message) (x : Consumer) → EgressAcks f k x (Ok (egress_takes m x, []))
egress_takes_acks f k (Tuple e n) x = egress_same f k x (offered x e.from n) (offered_told x e.from n)
egress_takes_acks f k message x = egress_same f k x x refl

egress_tells_acks : (f : Flow) (k : EdgeId → ℕ) (x : Consumer) (n : ℕ) (o : Option ℕ) → FoundIn (λ q. nat_lt (x.told q) (x.marks q)) n o → EgressAcks f k x (egress_tells f x o)
egress_tells_acks f k x n None h = tt
egress_tells_acks f k x n (Some q) h =
    let l = ltb-true (x.told q) (x.marks q) h.0 in (
      (λ i. if_elim (λ v. x.told i ≤ v) (i == q) (x.marks q) (x.told i) (λ e. let same = ap x.told (eqb-true i q e) in omega arith) (λ e. omega arith)),
      (λ top. let at : x.marks q ≤ k (in_edge (egress_partition f) q) = simp nat_self at (top q) in
          if_elim (EnvelopesMeet (MessageLows k) node.Egress) (f.stages + 1 == 1) _ _ (λ z. (at, tt)) (λ z. (at, (at, tt)))),
    )

egress_acks : (f : Flow) (k : EdgeId → ℕ) (a : Act) (x : Consumer) → EgressAcks f k x (egress_does f a x)
egress_acks f k (Takes from m) x = egress_takes_acks f k m x
egress_acks f k Works x = if_elim (EgressAcks f k x) (is_ready f (egress_partition f) x) _ _ (λ e. egress_same f k x (merged_one x) refl)
    (λ e. egress_tells_acks f k x (f.sources (f.stages + 1)) (untold f (egress_partition f) x) (first_found (f.sources (f.stages + 1)) (λ q. nat_lt (x.told q) (x.marks q))))
egress_acks f k Makes x = tt
egress_acks f k Dies x = tt
egress_acks f k AsksStop x = tt
egress_acks f k AsksBack x = tt
egress_acks f k (Pulls q) x = egress_same f k x (pulled x q) refl

-- a step --------------------------------------------------------------------

-- what the node had acknowledged rises
abbrev Rises : NodeId → Node → Node → Type 0
Rises node.Ingress n m = Unit {0}
Rises (node.Replica s p w) n m = Unit {0}
Rises (node.Control s p) n m = (q : ℕ) → (controller_in n).acked q ≤ (controller_in m).acked q
Rises node.Egress n m = (q : ℕ) → (egress_in n).told q ≤ (egress_in m).told q

abbrev put : NodeId → State → Node → List Envelope → State
put n s x out = record { nodes = changed n x s.nodes; sent = posted n out s.sent }

pair_rises : (t q : ℕ) (a b i : ℕ) (s : State) (x : Node) → ((j : ℕ) → (controller_in (s.nodes (node.Control t q))).acked j ≤ (controller_in x).acked j) →
    (controller_in (s.nodes (node.Control a b))).acked i ≤ (controller_in (changed (node.Control t q) x s.nodes (node.Control a b))).acked i
pair_rises t q a b i s x h = if_elim (λ (n : Node). (controller_in (s.nodes (node.Control a b))).acked i ≤ (controller_in n).acked i) (is_node (node.Control a b) (node.Control t q)) x (s.nodes (node.Control a b))
    (λ e. let same = ap (λ n. (controller_in (s.nodes n)).acked i) (is_node-true (node.Control a b) (node.Control t q) e) in let l = h i in omega arith) (λ e. omega arith)

rises : (f : Flow) (s : State) (n : NodeId) (x : Node) (out : List Envelope) → Rises n (s.nodes n) x → (e : EdgeId) → acked_of f s e ≤ acked_of f (put n s x out) e
rises f s node.Ingress x out h e = omega arith
rises f s (node.Replica t q w) x out h e = omega arith
rises f s node.Egress x out h e = go (e.stage == f.stages)
  where
    go : (c : Bool) → (if c then (egress_in (s.nodes node.Egress)).told e.from else (controller_in (s.nodes (node.Control (e.stage + 1) e.to))).acked e.from) ≤
        (if c then (egress_in x).told e.from else (controller_in (s.nodes (node.Control (e.stage + 1) e.to))).acked e.from)
    go true = h e.from
    go false = omega arith
rises f s (node.Control t q) x out h e = go (e.stage == f.stages)
  where
    go : (c : Bool) → (if c then (egress_in (s.nodes node.Egress)).told e.from else (controller_in (s.nodes (node.Control (e.stage + 1) e.to))).acked e.from) ≤
        (if c then (egress_in (s.nodes node.Egress)).told e.from else (controller_in (changed (node.Control t q) x s.nodes (node.Control (e.stage + 1) e.to))).acked e.from)
    go true = omega arith
    go false = pair_rises t q (e.stage + 1) e.to e.from s x h

module _ (k k_after : EdgeId → ℕ) (up : (e : EdgeId) → k e ≤ k_after e) where
  move_wider : (o : Option Move) (s p : ℕ) → MoveLows (λ t. k (record { stage = s; from = p; to = t })) o → MoveLows (λ t. k_after (record { stage = s; from = p; to = t })) o
  move_wider None s p h = tt
  move_wider (Some mv) s p h = λ t. let l = h t in let u = up (record { stage = s; from = p; to = t }) in omega arith

  moved_wider : (o : Option MoveNumbers) (s p : ℕ) → MovedLows (λ t. k (record { stage = s; from = p; to = t })) o → MovedLows (λ t. k_after (record { stage = s; from = p; to = t })) o
  moved_wider None s p h = tt
  moved_wider (Some m) s p h = λ t. let l = h t in let u = up (record { stage = s; from = p; to = t }) in omega arith

  replica_wider : (r : Replica) (s p : ℕ) → ReplicaLows (λ t. k (record { stage = s; from = p; to = t })) r → ReplicaLows (λ t. k_after (record { stage = s; from = p; to = t })) r
  replica_wider (Gone i) s p h = tt
  replica_wider (Running x) s p h = ((λ t. let l = h.0 t in let u = up (record { stage = s; from = p; to = t }) in omega arith), move_wider x.move s p h.1)
  replica_wider (Gathering g) s p h = moved_wider g.moved s p h

  node_wider : (n : NodeId) (x : Node) → NodeLows k n x → NodeLows k_after n x
  node_wider node.Ingress x h = λ q t. let l = h q t in let u = up (ingress_edge q t) in omega arith
  node_wider (node.Replica s p w) x h = replica_wider (replica_in x) s p h
  node_wider (node.Control s p) x h = h
  node_wider node.Egress x h = tt

  chunk_wider : (from : NodeId) (m : MoveNumbers) → ChunkLows k from m → ChunkLows k_after from m
  chunk_wider node.Ingress m h = tt
  chunk_wider (node.Replica s p w) m h = λ t. let l = h t in let u = up (record { stage = s; from = p; to = t }) in omega arith
  chunk_wider (node.Control s p) m h = tt
  chunk_wider node.Egress m h = tt

  message_wider : (l : LinkId) (m : Message) → MessageLows k l m → MessageLows k_after l m
  message_wider l (Ack e u) h = let z = up e in omega arith
  message_wider l (Chunk i n m) h = chunk_wider l.from m h
  message_wider l (ChunkEnd i n m) h = chunk_wider l.from m h
  message_wider l message h = tt

replica_sends_messages : (f : Flow) (k : EdgeId → ℕ) (t q : ℕ) (w : Which) (from : NodeId) (m : MoveNumbers) → IsAcross from (node.Replica t q w) → ChunkLows k from m → (i : ℕ) → m.lows i ≤ k (record { stage = t; from = q; to = i })
replica_sends_messages f k t q w node.Ingress m h c i = absurd h
replica_sends_messages f k t q w node.Egress m h c i = absurd h
replica_sends_messages f k t q w (node.Control a b) m h c i = absurd h
replica_sends_messages f k t q w (node.Replica a b v) m h c i = subst₂ (λ x y. m.lows i ≤ k (record { stage = x; from = y; to = i })) h.0 h.1 (c i)

replica_messages : (f : Flow) (k : EdgeId → ℕ) (t q : ℕ) (w : Which) (from : NodeId) (m : Message) → Carries f (link from (node.Replica t q w)) m → MessageLows k (link from (node.Replica t q w)) m →
    TakenLows (λ i. k (record { stage = t; from = q; to = i })) m
replica_messages f k t q w from (Ack e u) h l = let same : e ≡ record { stage = t; from = q; to = e.to } = λ i. record { stage = h.1.1 i; from = h.1.2 i; to = e.to } in let at = ap k same in omega arith
replica_messages f k t q w from (Chunk i n m) h l = replica_sends_messages f k t q w from m h l
replica_messages f k t q w from (ChunkEnd i n m) h l = replica_sends_messages f k t q w from m h l
replica_messages f k t q w from message h l = tt

ingress_messages : (f : Flow) (k : EdgeId → ℕ) (from : NodeId) (m : Message) → Carries f (link from node.Ingress) m → MessageLows k (link from node.Ingress) m → SourceAcked f k m
ingress_messages f k from (Ack e u) h l = let same : e ≡ ingress_edge e.from e.to = λ i. record { stage = h.1.0 i; from = e.from; to = e.to } in let at = ap k same in omega arith
ingress_messages f k from message h l = tt

module _ (f : Flow) (s : State) (all : AreOnTheirLinks f s) (old : IsAckedAtMostReported f s) where
  abbrev here : EdgeId → ℕ
  here = acked_of f s

  acked_by : (n : NodeId) (x : Node) (out : List Envelope) → Rises n (s.nodes n) x → NodeLows here n x →
      (((e : EdgeId) → here e ≤ acked_of f (put n s x out) e) → EnvelopesMeet (MessageLows (acked_of f (put n s x out))) n out) → IsAckedAtMostReported f (put n s x out)
  acked_by n x out up at envelopes =
      let k_after = acked_of f (put n s x out) in
      let rise = rises f s n x out up in
      framed (NodeLows here) (NodeLows k_after) (MessageLows here) (MessageLows k_after) s n x out (node_wider here k_after rise) (message_wider here k_after rise) old (node_wider here k_after rise n x at) (envelopes rise)

  replica_acked : (t q : ℕ) (w : Which) (r : Result (Replica × List Envelope) Refusal) → LowsIfOk f here (record { stage = t; part = q }) w r → HoldsOnOk (IsAckedAtMostReported f) (after (node.Replica t q w) s (as_replica r))
  replica_acked t q w (Err e) h = tt
  replica_acked t q w (Ok d) h =
      let n = node.Replica t q w in let k_after = acked_of f (put n s (ReplicaNode d.0) d.1) in
      acked_by n (ReplicaNode d.0) d.1 tt h.0 (λ rise. each_map (λ (l : Envelope). MessageLows here (link n l.to) l.message) (λ (l : Envelope). MessageLows k_after (link n l.to) l.message) (λ l. message_wider here k_after rise (link n l.to) l.message) d.1 h.1)

  ingress_acked : (r : Result (Ingress × List Envelope) Refusal) → IngressIfOk f here r → HoldsOnOk (IsAckedAtMostReported f) (after node.Ingress s (as_ingress r))
  ingress_acked (Err e) h = tt
  ingress_acked (Ok d) h =
      let n = node.Ingress in let k_after = acked_of f (put n s (IngressNode d.0) d.1) in
      acked_by n (IngressNode d.0) d.1 tt h.0 (λ rise. each_map (λ (l : Envelope). MessageLows here (link n l.to) l.message) (λ (l : Envelope). MessageLows k_after (link n l.to) l.message) (λ l. message_wider here k_after rise (link n l.to) l.message) d.1 h.1)

  egress_top : (x : Consumer) (out : List Envelope) (q : ℕ) → x.told q ≤ acked_of f (put node.Egress s (EgressNode x) out) (in_edge (egress_partition f) q)
  egress_top x out q = let z : ((f.stages + 1 - 1) == f.stages) ≡ true = eq-eqb (f.stages + 1 - 1) f.stages (omega arith) in simp z (omega arith)

  egress_acked : (r : Result (Consumer × List Envelope) Refusal) → ((k : EdgeId → ℕ) → EgressAcks f k (egress_in (s.nodes node.Egress)) r) → HoldsOnOk (IsAckedAtMostReported f) (after node.Egress s (as_egress r))
  egress_acked (Err e) h = tt
  egress_acked (Ok d) h =
      let g = h (acked_of f (put node.Egress s (EgressNode d.0) d.1)) in
      acked_by node.Egress (EgressNode d.0) d.1 g.0 tt (λ rise. g.1 (egress_top d.0 d.1))

  controller_top : (t q : ℕ) (c : Controller) (out : List Envelope) → 1 ≤ t → t ≤ f.stages → (i : ℕ) → c.acked i ≤ acked_of f (put (node.Control t q) s (ControllerNode c) out) (in_edge (record { stage = t; part = q }) i)
  controller_top t q c out h h_after i =
      let z : ((t - 1) == f.stages) ≡ false = nat_not (t - 1) f.stages (omega arith) in
      let y : t - 1 + 1 ≡ t = omega arith in
      simp (z, y, nat_self) (omega arith)

  controller_acked : (t q : ℕ) (a : Act) → 1 ≤ t → t ≤ f.stages → HoldsOnOk (IsAckedAtMostReported f) (after (node.Control t q) s (controller_does f (record { stage = t; part = q }) a (controller_in (s.nodes (node.Control t q)))))
  controller_acked t q (Takes from m) h h_after =
      let c = controller_in (s.nodes (node.Control t q)) in
      let d = controller_takes (f.sources t) (record { stage = t; part = q }) (which_of from) m c in
      let g = controller_acks (acked_of f (put (node.Control t q) s (ControllerNode d.0) d.1)) (record { stage = t; part = q }) f (which_of from) m c (old.nodes (node.Control t q)) in
      acked_by (node.Control t q) (ControllerNode d.0) d.1 g.0 g.1 (λ rise. g.2 (controller_top t q d.0 d.1 h h_after))
  controller_acked t q act h h_after = tt

  replica_act : (t q : ℕ) (w : Which) (a : Act) → WasSent f s (node.Replica t q w) a → ActLows (λ i. here (record { stage = t; from = q; to = i })) a
  replica_act t q w (Takes from m) c =
      let l = link from (node.Replica t q w) in
      replica_messages f here t q w from m (each_at (Carries f l) m (s.sent l) c (all l)) (each_at (MessageLows here l) m (s.sent l) c (old.sent l))
  replica_act t q w act c = tt

  ingress_act : (a : Act) → WasSent f s node.Ingress a → ActAcked f here a
  ingress_act (Takes from m) c =
      let l = link from node.Ingress in
      ingress_messages f here from m (each_at (Carries f l) m (s.sent l) c (all l)) (each_at (MessageLows here l) m (s.sent l) c (old.sent l))
  ingress_act act c = tt

  node_acked : (n : NodeId) (a : Act) → HasStage f n → WasSent f s n a → HoldsOnOk (IsAckedAtMostReported f) (after n s (does f n a (s.nodes n)))
  node_acked node.Ingress a h c = ingress_acked (ingress_does f a (ingress_in (s.nodes node.Ingress))) (ingress_lows f here a (ingress_in (s.nodes node.Ingress)) (ingress_act a c) (old.nodes node.Ingress))
  node_acked node.Egress a h c = egress_acked (egress_does f a (egress_in (s.nodes node.Egress))) (λ k. egress_acks f k a (egress_in (s.nodes node.Egress)))
  node_acked (node.Control t q) a h c = controller_acked t q a h.0 h.1
  node_acked (node.Replica t q w) a h c = replica_acked t q w (replica_does f (record { stage = t; part = q }) w a (replica_in (s.nodes (node.Replica t q w))))
      (does_lows f here (record { stage = t; part = q }) w a (replica_in (s.nodes (node.Replica t q w))) (replica_act t q w a c) (old.nodes (node.Replica t q w)))

pub acked_kept : (f : Flow) (s : State) (e : Event) → IsThere f e → AreOnTheirLinks f s → IsAckedAtMostReported f s → HoldsOnOk (IsAckedAtMostReported f) (step f s e)
acked_kept f s e there all old = step_by f s e (IsAckedAtMostReported f) there (λ a h c. node_acked f s all old (at_node e) a h.0 c)
