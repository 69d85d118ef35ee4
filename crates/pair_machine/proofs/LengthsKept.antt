-- Each step keeps the bounds on numbers.
use Rattle.std.proofs.Common.{◌≡◌, ◌≢◌, ◌<◌, ◌≤◌, ℕ, zero, suc, Bool, true, false, List, [], ◌∷◌, Option, None, Some, Result, Ok, Err, ◌+◌, ◌-◌, ◌&&◌, refl, sym, ap, ◌∙◌, subst, subst₂, arith}
use Rattle.std.specs.Prelude.{max, min, ◌==◌, if◌then◌else◌, nat_lt, nat_le, length}
use Rattle.std.proofs.lemmas.Bool.{eqb-true, eq-eqb, ltb-true}
use Rattle.tuple_edge.specs.declared.node.NodeId.TheVariants as node
use Rattle.pair_machine.specs.Boundary.{egress_does, egress_partition, egress_takes, egress_tells, ingress_does, ingress_source, ingress_takes, source_made, with_producer}
use Rattle.pair_machine.specs.Consumers.{all_below, is_ready, merged_one, offered, telling, untold, with_at}
use Rattle.pair_machine.specs.Controllers.{controller_takes}
use Rattle.pair_machine.specs.Flow.{Flow, IsFlow}
use Rattle.pair_machine.specs.Lengths.{ChunkBound, ConsumerBound, EndBound, IsWithinLengths, MessageBound, MoveBound, MoverBound, NodeBound, ProducerBound, ReplicaBound}
use Rattle.pair_machine.specs.Links.{AreOnTheirLinks, Carries, HasNode, IsAcross, IsProducer, IsThere, link}
use Rattle.pair_machine.specs.Lists.{Each}
use Rattle.pair_machine.specs.Machine.{Buffer, State, after, as_egress, as_ingress, as_replica, at_node, buffer_in, buffer_of, changed, controller_does, controller_in, does, egress_in, ingress_in, mark_in, posted, replica_in, step}
use Rattle.pair_machine.specs.Messages.{Ack, Act, AsksBack, AsksStop, Begin, Chunk, ChunkEnd, Dies, Envelope, Lead, Makes, Message, Pulls, Refusal, Serve, Stop, Takes, Tuple, Want, Works}
use Rattle.pair_machine.specs.Numbers.{Consumer, Controller, ControllerNode, EgressNode, Gathering, Gone, Ingress, IngressNode, Move, MoveNumbers, Node, Partition, Producer, Replica, ReplicaNode, Running, RunningNumbers, in_edge, other, out_edge, replica_at, copy_of}
use Rattle.pair_machine.specs.Producers.{Due, acked_to, due, leading, rewound, sends_due, sent_on, to_producers, wanted}
use Rattle.pair_machine.specs.Replicas.{caught_up, contains, inc_of, insert_in, made_by, moves_or_sends, replica_does, replica_takes, replica_works, reports, run_up, sends_or_reports, size, which_of}
use Rattle.tuple_edge.specs.declared.event.Event.{Event}
use Rattle.tuple_edge.specs.declared.node.EdgeId.{EdgeId}
use Rattle.tuple_edge.specs.declared.node.NodeId.{NodeId}
use Rattle.tuple_edge.specs.declared.node.Which.{Which}
use Rattle.pair_machine.proofs.Lists.{each_map, each_at}
use Rattle.pair_machine.proofs.StepTurns.{HoldsOnOk, WasSent, IsPulled, step_by}
use Rattle.pair_machine.proofs.Frame.{EnvelopesMeet, framed}
use Rattle.pair_machine.proofs.CountedKept.{run_up-above}
use Rattle.pair_machine.proofs.LinksKept.{controller_fit}
use Rattle.pair_machine.proofs.Found.{IsDue, is_due}
use Rattle.pair_machine.proofs.Sources.{each_producer, works_by}
use Rattle.pair_machine.proofs.Tests.{both, if_elim}

all_holds : (n : ℕ) (p : ℕ → Bool) → all_below n p ≡ true → (q : ℕ) → q < n → p q ≡ true
all_holds zero p e q l = absurd (omega arith)
all_holds (suc n) p e q l = go (q == n) (eqb-true q n) (eq-eqb q n) (λ h. all_holds n p (both (all_below n p) (p n) e).0 q h)
  where
    go : (c : Bool) → (c ≡ true → q ≡ n) → (q ≡ n → c ≡ true) → (q < n → p q ≡ true) → p q ≡ true
    go true is isn old = ap p (is refl) ∙ (both (all_below n p) (p n) e).1
    go false is isn old = old (let ne : q ≢ n = λ z. (let y = isn z in cc) in omega arith)

module _ (f : Flow) (ok : IsFlow f) where
  -- consumers
  module _ (p : Partition) (s : 1 ≤ p.stage) (within : p.stage ≤ f.stages + 1) where
    merged_bound : (t : Consumer) → is_ready f p t ≡ true → ConsumerBound f p t → ConsumerBound f p (merged_one t)
    merged_bound t r b = record {
      used = λ q l. let z = ltb-true (f.used p q t.count) (t.marks q) (all_holds (f.sources p.stage) (λ i. nat_lt (f.used p i t.count) (t.marks i)) r q l) in
          let n = ok.used_next p q t.count in omega arith;
      most = b.most;
      told = b.told;
      count = let c = ok.more_left p t.count s within (λ q l. let z = ltb-true (f.used p q t.count) (t.marks q) (all_holds (f.sources p.stage) (λ i. nat_lt (f.used p i t.count) (t.marks i)) r q l) in
          let m = b.most q in omega arith) in omega arith;
    }

    -- a mark rises by one
    mark_bound : (t : Consumer) (q n : ℕ) → n ≡ t.marks q + 1 → n ≤ f.length (in_edge p q) → ConsumerBound f p t → ConsumerBound f p (record { marks = with_at t.marks q n; told = t.told; count = t.count })
    mark_bound t q n e l b = record {
      used = λ j h. let u = b.used j h in if_elim (λ v. f.used p j t.count ≤ v) (j == q) n (t.marks j) (λ z. let same = ap t.marks (eqb-true j q z) in omega arith) (λ z. u);
      most = λ j. if_elim (λ v. v ≤ f.length (in_edge p j)) (j == q) n (t.marks j) (λ z. let same = ap (λ i. f.length (in_edge p i)) (eqb-true j q z) in omega arith) (λ z. b.most j);
      told = λ j. let u = b.told j in if_elim (λ v. t.told j ≤ v) (j == q) n (t.marks j) (λ z. let same = ap t.marks (eqb-true j q z) in omega arith) (λ z. u);
      count = b.count;
    }

    offered_bound : (t : Consumer) (q n : ℕ) → n ≤ f.length (in_edge p q) → ConsumerBound f p t → ConsumerBound f p (offered t q n)
    offered_bound t q n l b = if_elim (ConsumerBound f p) (n == t.marks q + 1) _ t (λ e. mark_bound t q n (eqb-true n (t.marks q + 1) e) l b) (λ e. b)

    telling_bound : (t : Consumer) (q : ℕ) → ConsumerBound f p t → ConsumerBound f p (telling t q)
    telling_bound t q b = record {
      used = b.used;
      most = b.most;
      told = λ j. if_elim (λ v. v ≤ t.marks j) (j == q) (t.marks q) (t.told j) (λ z. let same = ap t.marks (eqb-true j q z) in omega arith) (λ z. b.told j);
      count = b.count;
    }

  -- producers
  acked_bound : (x : Producer) (t u : ℕ) → ProducerBound x → ProducerBound (acked_to x t u)
  acked_bound x t u b = record { above = λ j c. go j c (j == t) (eqb-true j t) }
    where
      go : (j c : ℕ) (e : Bool) → (e ≡ true → j ≡ t) → (if e then max (x.lows t) u else x.lows j) < (if e then max (x.cursors t c) (max (x.lows t) u + 1) else x.cursors j c)
      go j c true z = omega arith
      go j c false z = b.above j c

  wanted_bound : (x : Producer) (t d n : ℕ) → ProducerBound x → ProducerBound (wanted x t d n)
  wanted_bound x t d n b = if_elim ProducerBound x.leads (rewound x t d n) x
      (λ e. record {
        above = λ j c. let old = b.above j c in if_elim (λ v. x.lows j < v) ((j == t) && (c == d)) (min (x.cursors t d) (max n (x.lows t + 1))) (x.cursors j c)
            (λ z. let is = eqb-true j t (both (j == t) (c == d) z).0 in let same = ap x.lows is in let b_after = b.above t d in omega arith) (λ z. old);
      })
      (λ e. b)

  leading_bound : (x : Producer) (term : ℕ) → ProducerBound x → ProducerBound (leading x term)
  leading_bound x term b = if_elim ProducerBound (nat_lt x.term term) _ x (λ e. record { above = λ j c. omega arith }) (λ e. b)

  sent_bound : (x : Producer) (d : Due) → d.number ≡ x.cursors d.to d.copy → ProducerBound x → ProducerBound (sent_on x d)
  sent_bound x d e b = record {
    above = λ j c. let old = b.above j c in if_elim (λ v. x.lows j < v) ((j == d.to) && (c == d.copy)) (d.number + 1) (x.cursors j c)
        (λ z. let is = eqb-true j d.to (both (j == d.to) (c == d.copy) z).0 in let same = ap x.lows is in let b_after = b.above d.to d.copy in omega arith) (λ z. old);
  }

  -- held numbers
  insert_each : (P : ℕ → Type 0) (n : ℕ) (xs : List ℕ) → P n → Each P xs → Each P (insert_in n xs)
  insert_each P n [] h k = (h, tt)
  insert_each P n (x ∷ xs) h k = if_elim (Each P) (n == x) _ _ (λ e. k) (λ e. if_elim (Each P) (nat_lt n x) _ _ (λ inner. (h, k)) (λ inner. (k.0, insert_each P n xs h k.1)))

  contains_each : (P : ℕ → Type 0) (n : ℕ) (xs : List ℕ) → contains n xs ≡ true → Each P xs → P n
  contains_each P n [] e k = cc
  contains_each P n (x ∷ xs) e k = go (n == x) (eqb-true n x) e (λ z. contains_each P n xs z k.1)
    where
      go : (c : Bool) → (c ≡ true → n ≡ x) → (if c then true else contains n xs) ≡ true → (contains n xs ≡ true → P n) → P n
      go true z inner old = subst P (sym (z refl)) k.0
      go false z inner old = old inner

  run_up-most : (n k m : ℕ) (held : List ℕ) → k ≤ m → Each (λ i. (1 ≤ i) × (i ≤ m)) held → run_up n k held ≤ m
  run_up-most zero k m held l h = l
  run_up-most (suc n) k m held l h = go (contains (k + 1) held) refl (λ z. run_up-most n (k + 1) m held z h)
    where
      go : (c : Bool) → contains (k + 1) held ≡ c → (k + 1 ≤ m → run_up n (k + 1) held ≤ m) → (if c then run_up n (k + 1) held else k) ≤ m
      go true e old = old (contains_each (λ i. (1 ≤ i) × (i ≤ m)) (k + 1) held e h).1
      go false e old = l

  caught_bound : (p : Partition) (i : ℕ) (m : MoveNumbers) (held : ℕ → List ℕ) → MoveBound f p m → ((q : ℕ) → Each (λ n. (1 ≤ n) × (n ≤ f.length (in_edge p q))) (held q)) → ReplicaBound f p (Running (caught_up i m held))
  caught_bound p i m held b h = (
    record {
      used = λ q l. let u = b.used q l in let a = run_up-above (length (held q)) (m.marks q) (held q) in omega arith;
      most = λ q. run_up-most (length (held q)) (m.marks q) (f.length (in_edge p q)) (held q) (b.most q) (h q);
      told = λ q. omega arith;
      count = b.count;
    },
    record { above = λ t c. omega arith },
    tt,
  )

  -- replicas
  abbrev TakenBound : Partition → Message → Type 0
  TakenBound p (Tuple e n) = (1 ≤ n) × (n ≤ f.length (in_edge p e.from))
  TakenBound p (Chunk i n m) = MoveBound f p m × (1 ≤ n) × (n ≤ size f p m)
  TakenBound p (ChunkEnd i n m) = MoveBound f p m
  TakenBound p m = Unit {0}

  module _ (p : Partition) (w : Which) (s : 1 ≤ p.stage) (within : p.stage ≤ f.stages) (few : p.part < f.sources (p.stage + 1)) where
    abbrev me : NodeId
    me = replica_at p w

    abbrev BoundDone : (Replica × List Envelope) → Type 0
    BoundDone d = ReplicaBound f p d.0 × EnvelopesMeet (MessageBound f) (replica_at p w) d.1

    producers_bound : (q : ℕ) (e : EdgeId) (n : ℕ) → EnvelopesMeet (MessageBound f) me (to_producers p q (Want e n))
    producers_bound q e n = if_elim (EnvelopesMeet (MessageBound f) me) (p.stage == 1) _ _ (λ e. (tt, tt)) (λ e. (tt, (tt, tt)))

    takes_bound : (from : NodeId) (m : Message) (r : Replica) → TakenBound p m → ReplicaBound f p r → BoundDone (replica_takes f p from m r)
    takes_bound from (Tuple e n) (Gone i) h c = (tt, tt)
    takes_bound from (Tuple e n) (Running x) h c = ((offered_bound p s (omega arith) x.consumer e.from n h.1 c.0, c.1, c.2), tt)
    takes_bound from (Tuple e n) (Gathering g) h c = (
      (
        c.0,
        λ q. if_elim (Each (λ i. (1 ≤ i) × (i ≤ f.length (in_edge p q)))) (q == e.from) (insert_in n (g.held e.from)) (g.held q)
            (λ z. subst (λ j. Each (λ i. (1 ≤ i) × (i ≤ f.length (in_edge p j))) (insert_in n (g.held e.from))) (sym (eqb-true q e.from z)) (insert_each (λ i. (1 ≤ i) × (i ≤ f.length (in_edge p e.from))) n (g.held e.from) h (c.1 e.from))) (λ z. c.1 q),
      ),
      tt,
    )
    takes_bound from (Ack e u) (Gone i) h c = (tt, tt)
    takes_bound from (Ack e u) (Running x) h c = ((c.0, acked_bound x.producer e.to u c.1, c.2), tt)
    takes_bound from (Ack e u) (Gathering g) h c = (c, tt)
    takes_bound from (Lead i t) (Gone j) h c = (tt, tt)
    takes_bound from (Lead i t) (Running x) h c = if_elim (λ r. BoundDone (r, [])) (i == x.inc) _ _ (λ e. ((c.0, leading_bound x.producer t c.1, c.2), tt)) (λ e. (c, tt))
    takes_bound from (Lead i t) (Gathering g) h c = (c, tt)
    takes_bound from (Serve i t) (Gone j) h c = (tt, tt)
    takes_bound from (Serve i t) (Running x) h c = if_elim (λ r. BoundDone (r, [])) ((i == x.inc) && nat_lt x.served t) _ _
        (λ e. ((c.0, c.1, (record { used = c.0.used; most = c.0.most; count = c.0.count }, omega arith)), tt)) (λ e. (c, tt))
    takes_bound from (Serve i t) (Gathering g) h c = (c, tt)
    takes_bound from (Begin i) r h c = if_elim (λ r. BoundDone (r, [])) (nat_lt (inc_of r) i) _ _ (λ e. ((tt, λ q. tt), tt)) (λ e. (c, tt))
    takes_bound from (Stop i) r h c = if_elim (λ r. BoundDone (r, [])) (i == inc_of r) _ _ (λ e. (tt, tt)) (λ e. (c, tt))
    takes_bound from (Chunk i n m) (Gone j) h c = (tt, tt)
    takes_bound from (Chunk i n m) (Running x) h c = (c, tt)
    takes_bound from (Chunk i n m) (Gathering g) h c = if_elim BoundDone ((i == g.inc) && (n == g.taken + 1)) _ _
        (λ e. (((h.0, h.2), c.1), if_elim (EnvelopesMeet (MessageBound f) me) (nat_le n (f.sources p.stage)) _ _ (λ z. producers_bound (n - 1) (in_edge p (n - 1)) (m.marks (n - 1) + 1)) (λ z. tt))) (λ e. (c, tt))
    takes_bound from (ChunkEnd i n m) (Gone j) h c = (tt, tt)
    takes_bound from (ChunkEnd i n m) (Running x) h c = (c, tt)
    takes_bound from (ChunkEnd i n m) (Gathering g) h c = if_elim BoundDone ((i == g.inc) && (n == g.taken)) _ _ (λ e. (caught_bound p i m g.held h c.1, (tt, tt))) (λ e. (c, tt))
    takes_bound from (Want e n) (Gone i) h c = (tt, tt)
    takes_bound from (Want e n) (Running x) h c = ((c.0, wanted_bound x.producer e.to (copy_of (which_of from)) n c.1, c.2), tt)
    takes_bound from (Want e n) (Gathering g) h c = (c, tt)
    takes_bound from message r h c = (c, tt)

    abbrev BoundIfOk : Result (Replica × List Envelope) Refusal → Type 0
    BoundIfOk (Ok d) = BoundDone d
    BoundIfOk (Err e) = Unit {0}

    due_bound : (x : RunningNumbers) (d : Due) → IsDue (made_by f p x.consumer.count) x.producer (f.targets p.stage) (Some d) → ReplicaBound f p (Running x) → EnvelopesMeet (MessageBound f) me (sends_due f p d)
    due_bound x d h c =
        let l = c.1.above d.to d.copy in let m = h.2 in let most = ok.made_most p d.to x.consumer.count s within few in
        ((omega (arith, h.1), omega arith), tt)

    reports_bound : (x : RunningNumbers) (q : Option ℕ) → ReplicaBound f p (Running x) → BoundIfOk (reports f p x q)
    reports_bound x None c = tt
    reports_bound x (Some q) c = ((telling_bound p s (omega arith) x.consumer q c.0, c.1, c.2), (tt, tt))

    sends_bound : (x : RunningNumbers) (d : Option Due) → IsDue (made_by f p x.consumer.count) x.producer (f.targets p.stage) d → ReplicaBound f p (Running x) → BoundIfOk (sends_or_reports f p x d)
    sends_bound x (Some d) h c = ((c.0, sent_bound x.producer d h.1 c.1, c.2), due_bound x d h c)
    sends_bound x None h c = reports_bound x (untold f p x.consumer) c

    moves_bound : (x : RunningNumbers) (mv : Option Move) → x.move ≡ mv → ReplicaBound f p (Running x) → BoundIfOk (moves_or_sends f p (replica_at p (other w)) x mv)
    moves_bound x None e c = sends_bound x (due f p (made_by f p x.consumer.count) x.producer) (is_due f p (made_by f p x.consumer.count) x.producer) c
    moves_bound x (Some mv) e c =
        let l = subst (MoverBound f p) e c.2 in
        if_elim BoundDone (nat_lt mv.sent (size f p mv.numbers)) _ _
        (λ z. let lt = ltb-true mv.sent (size f p mv.numbers) z in ((c.0, c.1, (l.0, omega arith)), ((l.0, omega arith, omega arith), tt)))
        (λ z. ((c.0, c.1, tt), (l.0, tt)))

    works_bound : (r : Replica) → ReplicaBound f p r → BoundIfOk (replica_works f p w r)
    works_bound (Gone i) c = tt
    works_bound (Gathering g) c = tt
    works_bound (Running x) c = if_elim BoundIfOk (is_ready f p x.consumer) _ _ (λ e. ((merged_bound p s (omega arith) x.consumer e c.0, c.1, c.2), tt)) (λ e. moves_bound x x.move refl c)

    abbrev ActBound : Act → Replica → Type 0
    ActBound (Takes from m) r = TakenBound p m
    ActBound (Pulls q) r = (x : RunningNumbers) → r ≡ Running x → x.consumer.marks q + 1 ≤ f.length (in_edge p q)
    ActBound act r = Unit {0}

    does_bound : (a : Act) (r : Replica) → ActBound a r → ReplicaBound f p r → BoundIfOk (replica_does f p w a r)
    does_bound (Takes from m) r h c = takes_bound from m r h c
    does_bound Works r h c = works_bound r c
    does_bound Makes r h c = tt
    does_bound Dies (Gone i) h c = tt
    does_bound Dies (Running x) h c = (tt, (tt, tt))
    does_bound Dies (Gathering g) h c = (tt, (tt, tt))
    does_bound AsksStop (Gone i) h c = tt
    does_bound AsksStop (Running x) h c = (c, (tt, tt))
    does_bound AsksStop (Gathering g) h c = tt
    does_bound AsksBack (Gone i) h c = tt
    does_bound AsksBack (Running x) h c = (c, (tt, tt))
    does_bound AsksBack (Gathering g) h c = tt
    does_bound (Pulls q) (Gone i) h c = tt
    does_bound (Pulls q) (Running x) h c = ((mark_bound p s (omega arith) x.consumer q (x.consumer.marks q + 1) refl (h x refl) c.0, c.1, c.2), tt)
    does_bound (Pulls q) (Gathering g) h c = tt

  -- ingress and egress
  abbrev IngressBound : Ingress → Type 0
  IngressBound x = (x.makes ≤ f.makes) × ((q : ℕ) → ProducerBound (x.producers q))

  of_source_bound : (x : Ingress) (q : ℕ) (y : Producer) → ProducerBound y → IngressBound x → IngressBound (with_producer x q y)
  of_source_bound x q y h c = (c.0, each_producer (λ j. ProducerBound) x q y h c.1)

  abbrev IngressBoundOk : Result (Ingress × List Envelope) Refusal → Type 0
  IngressBoundOk (Ok d) = IngressBound d.0 × EnvelopesMeet (MessageBound f) node.Ingress d.1
  IngressBoundOk (Err e) = Unit {0}

  ingress_takes_bound : (from : NodeId) (m : Message) (x : Ingress) → IngressBound x → IngressBound (ingress_takes from m x)
  ingress_takes_bound from (Ack e u) x c = of_source_bound x e.from (acked_to (x.producers e.from) e.to u) (acked_bound (x.producers e.from) e.to u (c.1 e.from)) c
  ingress_takes_bound from (Want e n) x c = of_source_bound x e.from (wanted (x.producers e.from) e.to (copy_of (which_of from)) n) (wanted_bound (x.producers e.from) e.to (copy_of (which_of from)) n (c.1 e.from)) c
  ingress_takes_bound from message x c = c

  source_sends_bound : (x : Ingress) (q : ℕ) (d : Due) → IsDue (source_made f x q) (x.producers q) (f.targets 0) (Some d) → IngressBound x
      → IngressBoundOk (Ok (with_producer x q (sent_on (x.producers q) d), sends_due f (ingress_source q) d))
  source_sends_bound x q d h c =
      let l = (c.1 q).above d.to d.copy in let most = ok.makes_most q d.to x.makes in
      (of_source_bound x q (sent_on (x.producers q) d) (sent_bound (x.producers q) d h.1 (c.1 q)) c, ((omega (arith, h.1), omega (arith, h.2)), tt))

  ingress_bound : (a : Act) (x : Ingress) → IngressBound x → IngressBoundOk (ingress_does f a x)
  ingress_bound (Takes from m) x c = (ingress_takes_bound from m x c, tt)
  ingress_bound Works x c = works_by f x IngressBoundOk tt (λ q d l h. source_sends_bound x q d h c)
  ingress_bound Makes x c = if_elim IngressBoundOk (nat_lt x.makes f.makes) _ _ (λ e. let l = ltb-true x.makes f.makes e in ((omega arith, c.1), tt)) (λ e. tt)
  ingress_bound act x c = tt

  abbrev EgressBoundOk : Result (Consumer × List Envelope) Refusal → Type 0
  EgressBoundOk (Ok d) = ConsumerBound f (egress_partition f) d.0 × EnvelopesMeet (MessageBound f) node.Egress d.1
  EgressBoundOk (Err e) = Unit {0}

  abbrev EgressMessage : Message → Type 0
  EgressMessage m = TakenBound (egress_partition f) m

  egress_takes_bound : (m : Message) (x : Consumer) → EgressMessage m → ConsumerBound f (egress_partition f) x → ConsumerBound f (egress_partition f) (egress_takes m x)
  egress_takes_bound (Tuple e n) x h c = offered_bound (egress_partition f) (omega arith) (omega arith) x e.from n h.1 c
  egress_takes_bound message x h c = c

  egress_tells_bound : (x : Consumer) (o : Option ℕ) → ConsumerBound f (egress_partition f) x → EgressBoundOk (egress_tells f x o)
  egress_tells_bound x None c = tt
  egress_tells_bound x (Some q) c = (
    telling_bound (egress_partition f) (omega arith) (omega arith) x q c,
    if_elim (EnvelopesMeet (MessageBound f) node.Egress) ((egress_partition f).stage == 1) _ _ (λ e. (tt, tt)) (λ e. (tt, (tt, tt))),
  )

  abbrev EgressAct : Act → Consumer → Type 0
  EgressAct (Takes from m) x = EgressMessage m
  EgressAct (Pulls q) x = x.marks q + 1 ≤ f.length (in_edge (egress_partition f) q)
  EgressAct act x = Unit {0}

  egress_bound : (a : Act) (x : Consumer) → EgressAct a x → ConsumerBound f (egress_partition f) x → EgressBoundOk (egress_does f a x)
  egress_bound (Takes from m) x h c = (egress_takes_bound m x h c, tt)
  egress_bound Works x h c = if_elim EgressBoundOk (is_ready f (egress_partition f) x) _ _ (λ e. (merged_bound (egress_partition f) (omega arith) (omega arith) x e c, tt)) (λ e. egress_tells_bound x (untold f (egress_partition f) x) c)
  egress_bound Makes x h c = tt
  egress_bound Dies x h c = tt
  egress_bound AsksStop x h c = tt
  egress_bound AsksBack x h c = tt
  egress_bound (Pulls q) x h c = (mark_bound (egress_partition f) (omega arith) (omega arith) x q (x.marks q + 1) refl h c, tt)

  -- what comes
  abbrev edge_as : (e : EdgeId) (s p t : ℕ) → e.stage ≡ s → e.from ≡ p → e.to ≡ t → e ≡ record { stage = s; from = p; to = t }
  edge_as e s p t a b c = λ i. record { stage = a i; from = b i; to = c i }

  abbrev buffer : ℕ → ℕ → Buffer
  buffer low produced = record { low = low; produced = produced }

  replica_buffer : (p : Partition) (t : ℕ) (r : Replica) (o : Buffer) → 1 ≤ p.stage → p.stage ≤ f.stages → p.part < f.sources (p.stage + 1) → ReplicaBound f p r → buffer_in f p t r ≡ Some o → o.produced ≤ f.length (out_edge p t)
  replica_buffer p t (Gone i) o s within few c e = cc
  replica_buffer p t (Gathering g) o s within few c e = cc
  replica_buffer p t (Running x) o s within few c e = let z : buffer (x.producer.lows t) (made_by f p x.consumer.count t) ≡ o = cc in let y = ap (λ (v : Buffer). v.produced) z in let m = ok.made_most p t x.consumer.count s within few in omega arith

  buffer_most : (e : EdgeId) (n : NodeId) (x : Node) (o : Buffer) → NodeBound f n x → HasNode f n → IsProducer f e n → buffer_of f e.from e.to n x ≡ Some o → o.produced ≤ f.length e
  buffer_most e node.Ingress x o b h g inner =
      let same = ap f.length (edge_as e 0 e.from e.to g.0 refl refl) in
      let z : buffer (((ingress_in x).producers e.from).lows e.to) (source_made f (ingress_in x) e.from e.to) ≡ o = cc in let y = ap (λ (v : Buffer). v.produced) z in
      let m = ok.makes_most e.from e.to (ingress_in x).makes in omega arith
  buffer_most e (node.Replica s p w) x o b h g inner =
      let same = ap f.length (edge_as e s p e.to g.1 g.2 refl) in
      let m = replica_buffer (record { stage = s; part = p }) e.to (replica_in x) o h.0.0 h.0.1 h.1 b inner in omega arith
  buffer_most e (node.Control s p) x o b h g inner = absurd g
  buffer_most e node.Egress x o b h g inner = absurd g

  module _ (s : State) (all : AreOnTheirLinks f s) (old : IsWithinLengths f s) where
    pulled_most : (n : NodeId) (q : ℕ) (g : IsPulled f s n q) → g.mark + 1 ≤ f.length g.edge
    pulled_most n q g = let m = buffer_most g.edge g.from (s.nodes g.from) g.buffer (old.nodes g.from) g.has_node g.producer g.buffer_is in let b = g.below_made in omega arith

    replica_pulled : (t p : ℕ) (w : Which) (q : ℕ) (r : Replica) (g : IsPulled f s (node.Replica t p w) q) → mark_in q r ≡ Some g.mark → (x : RunningNumbers) → r ≡ Running x → x.consumer.marks q + 1 ≤ f.length (in_edge (record { stage = t; part = p }) q)
    replica_pulled t p w q r g e x inner =
        let l = pulled_most (node.Replica t p w) q g in
        let is : mark_in q (Running x) ≡ Some g.mark = subst (λ v. mark_in q v ≡ Some g.mark) inner e in
        let m : x.consumer.marks q ≡ g.mark = cc is in
        let c = g.consumer in
        let stage : g.edge.stage ≡ t - 1 = omega (arith, c.0) in
        let same = ap f.length (edge_as g.edge (t - 1) q p stage g.part c.1) in
        omega arith

    egress_pulled : (q : ℕ) (x : Consumer) (g : IsPulled f s node.Egress q) → Some (x.marks q) ≡ Some g.mark → x.marks q + 1 ≤ f.length (in_edge (egress_partition f) q)
    egress_pulled q x g e =
        let l = pulled_most node.Egress q g in
        let m : x.marks q ≡ g.mark = cc in
        let c = g.consumer in
        let stage : g.edge.stage ≡ f.stages + 1 - 1 = omega (arith, c.0) in
        let same = ap f.length (edge_as g.edge (f.stages + 1 - 1) q 0 stage g.part c.1) in
        omega arith

    replica_chunk : (t q : ℕ) (w : Which) (from : NodeId) (n : ℕ) (m : MoveNumbers) → IsAcross from (node.Replica t q w) → ChunkBound f from n m → MoveBound f (record { stage = t; part = q }) m × (1 ≤ n) × (n ≤ size f (record { stage = t; part = q }) m)
    replica_chunk t q w node.Ingress n m h c = absurd h
    replica_chunk t q w node.Egress n m h c = absurd h
    replica_chunk t q w (node.Control a b) n m h c = absurd h
    replica_chunk t q w (node.Replica a b v) n m h c = subst₂ (λ x y. MoveBound f (record { stage = x; part = y }) m × (1 ≤ n) × (n ≤ size f (record { stage = x; part = y }) m)) h.0 h.1 c

    replica_end : (t q : ℕ) (w : Which) (from : NodeId) (m : MoveNumbers) → IsAcross from (node.Replica t q w) → EndBound f from m → MoveBound f (record { stage = t; part = q }) m
    replica_end t q w node.Ingress m h c = absurd h
    replica_end t q w node.Egress m h c = absurd h
    replica_end t q w (node.Control a b) m h c = absurd h
    replica_end t q w (node.Replica a b v) m h c = subst₂ (λ x y. MoveBound f (record { stage = x; part = y }) m) h.0 h.1 c

    replica_message : (t q : ℕ) (w : Which) (from : NodeId) (m : Message) → Carries f (link from (node.Replica t q w)) m → MessageBound f (link from (node.Replica t q w)) m → TakenBound (record { stage = t; part = q }) m
    replica_message t q w from (Tuple e n) h l =
        let stage : e.stage ≡ t - 1 = omega (arith, h.1.0) in
        let same = ap f.length (edge_as e (t - 1) e.from q stage refl h.1.1) in (l.0, omega (arith, l.1))
    replica_message t q w from (Chunk i n m) h l = replica_chunk t q w from n m h l
    replica_message t q w from (ChunkEnd i n m) h l = replica_end t q w from m h l
    replica_message t q w from message h l = tt

    across_egress : (from : NodeId) → IsAcross from node.Egress → ⊥
    across_egress node.Ingress h = h
    across_egress node.Egress h = h
    across_egress (node.Control a b) h = h
    across_egress (node.Replica a b v) h = h

    egress_message : (from : NodeId) (m : Message) → Carries f (link from node.Egress) m → MessageBound f (link from node.Egress) m → EgressMessage m
    egress_message from (Tuple e n) h l =
        let stage : e.stage ≡ f.stages + 1 - 1 = omega (arith, h.1.0) in
        let same = ap f.length (edge_as e (f.stages + 1 - 1) e.from 0 stage refl h.1.1) in (l.0, omega (arith, l.1))
    egress_message from (Chunk i n m) h l = absurd (across_egress from h)
    egress_message from (ChunkEnd i n m) h l = absurd (across_egress from h)
    egress_message from message h l = tt

    replica_was_given : (t q : ℕ) (w : Which) (h : 1 ≤ t) (h_after : t ≤ f.stages) (few : q < f.sources (t + 1)) (a : Act) → WasSent f s (node.Replica t q w) a → ActBound (record { stage = t; part = q }) w h h_after few a (replica_in (s.nodes (node.Replica t q w)))
    replica_was_given t q w h h_after few (Takes from m) c = let l = link from (node.Replica t q w) in replica_message t q w from m (each_at (Carries f l) m (s.sent l) c (all l)) (each_at (MessageBound f l) m (s.sent l) c (old.sent l))
    replica_was_given t q w h h_after few (Pulls i) c = replica_pulled t q w i (replica_in (s.nodes (node.Replica t q w))) c c.marks
    replica_was_given t q w h h_after few act c = tt

    egress_act : (a : Act) → WasSent f s node.Egress a → EgressAct a (egress_in (s.nodes node.Egress))
    egress_act (Takes from m) c = let l = link from node.Egress in egress_message from m (each_at (Carries f l) m (s.sent l) c (all l)) (each_at (MessageBound f l) m (s.sent l) c (old.sent l))
    egress_act (Pulls i) c = egress_pulled i (egress_in (s.nodes node.Egress)) c c.marks
    egress_act act c = tt

    bound_by : (n : NodeId) (x : Node) (out : List Envelope) → NodeBound f n x → EnvelopesMeet (MessageBound f) n out → IsWithinLengths f (record { nodes = changed n x s.nodes; sent = posted n out s.sent })
    bound_by n x out at h = framed (NodeBound f) (NodeBound f) (MessageBound f) (MessageBound f) s n x out (λ m y z. z) (λ l m z. z) old at h

    abbrev CopyOk : ℕ → ℕ → Which → Result (Replica × List Envelope) Refusal → Type 0
    CopyOk t q w (Ok d) = ReplicaBound f (record { stage = t; part = q }) d.0 × EnvelopesMeet (MessageBound f) (node.Replica t q w) d.1
    CopyOk t q w (Err e) = Unit {0}

    replica_bound : (t q : ℕ) (w : Which) (r : Result (Replica × List Envelope) Refusal) → CopyOk t q w r → HoldsOnOk (IsWithinLengths f) (after (node.Replica t q w) s (as_replica r))
    replica_bound t q w (Ok d) h = bound_by (node.Replica t q w) (ReplicaNode d.0) d.1 h.0 h.1
    replica_bound t q w (Err e) h = tt

    replica_ok : (t q : ℕ) (w : Which) (h : 1 ≤ t) (h_after : t ≤ f.stages) (few : q < f.sources (t + 1)) (r : Result (Replica × List Envelope) Refusal) → BoundIfOk (record { stage = t; part = q }) w h h_after few r → CopyOk t q w r
    replica_ok t q w h h_after few (Ok d) b = b
    replica_ok t q w h h_after few (Err e) b = tt

    ingress_bounded : (r : Result (Ingress × List Envelope) Refusal) → IngressBoundOk r → HoldsOnOk (IsWithinLengths f) (after node.Ingress s (as_ingress r))
    ingress_bounded (Ok d) h = bound_by node.Ingress (IngressNode d.0) d.1 h.0 h.1
    ingress_bounded (Err e) h = tt

    egress_bounded : (r : Result (Consumer × List Envelope) Refusal) → EgressBoundOk r → HoldsOnOk (IsWithinLengths f) (after node.Egress s (as_egress r))
    egress_bounded (Ok d) h = bound_by node.Egress (EgressNode d.0) d.1 h.0 h.1
    egress_bounded (Err e) h = tt

    ruled : (t q : ℕ) (to : NodeId) (m : Message) → Carries f (link (node.Control t q) to) m → MessageBound f (link (node.Control t q) to) m
    ruled t q to (Tuple e n) h = absurd h.0
    ruled t q to message h = tt

    controller_bounded : (t q : ℕ) (a : Act) (c : Controller) → 1 ≤ t → t ≤ f.stages → HoldsOnOk (IsWithinLengths f) (after (node.Control t q) s (controller_does f (record { stage = t; part = q }) a c))
    controller_bounded t q (Takes from m) c h h_after =
        let d = controller_takes (f.sources t) (record { stage = t; part = q }) (which_of from) m c in
        bound_by (node.Control t q) (ControllerNode d.0) d.1 tt
        (each_map (λ (l : Envelope). Carries f (link (node.Control t q) l.to) l.message) (λ (l : Envelope). MessageBound f (link (node.Control t q) l.to) l.message) (λ l. ruled t q l.to l.message) d.1
        (controller_fit f ok (record { stage = t; part = q }) h h_after (which_of from) m c))
    controller_bounded t q act c h h_after = tt

    node_bound : (n : NodeId) (a : Act) → HasNode f n → WasSent f s n a → HoldsOnOk (IsWithinLengths f) (after n s (does f n a (s.nodes n)))
    node_bound node.Ingress a h c = ingress_bounded (ingress_does f a (ingress_in (s.nodes node.Ingress))) (ingress_bound a (ingress_in (s.nodes node.Ingress)) (old.nodes node.Ingress))
    node_bound node.Egress a h c = egress_bounded (egress_does f a (egress_in (s.nodes node.Egress))) (egress_bound a (egress_in (s.nodes node.Egress)) (egress_act a c) (old.nodes node.Egress))
    node_bound (node.Control t q) a h c = controller_bounded t q a (controller_in (s.nodes (node.Control t q))) h.0.0 h.0.1
    node_bound (node.Replica t q w) a h c =
        let r = replica_does f (record { stage = t; part = q }) w a (replica_in (s.nodes (node.Replica t q w))) in
        replica_bound t q w r (replica_ok t q w h.0.0 h.0.1 h.1 r (does_bound (record { stage = t; part = q }) w h.0.0 h.0.1 h.1 a (replica_in (s.nodes (node.Replica t q w))) (replica_was_given t q w h.0.0 h.0.1 h.1 a c) (old.nodes (node.Replica t q w))))

  pub bound_kept : (s : State) (e : Event) → IsThere f e → AreOnTheirLinks f s → IsWithinLengths f s → HoldsOnOk (IsWithinLengths f) (step f s e)
  bound_kept s e there all old = step_by f s e (IsWithinLengths f) there (λ a h c. node_bound s all old (at_node e) a h c)
