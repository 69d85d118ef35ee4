-- No event makes a number that is more than one above the greatest one before it.
use Rattle.std.proofs.lemmas.Bool.{eqb-true, ltb-false}
use Rattle.pair_machine.proofs.Found.{IsDue, is_due}
use Rattle.std.proofs.Common.{◌≡◌, ◌≤◌, ◌⊎◌, inl, inr, ℕ, zero, suc, Bool, true, false, List, [], ◌∷◌, Option, None, Some, Result, Ok, Err, ◌+◌, ◌-◌, ◌&&◌, refl, ap, ◌∙◌, subst, arith, length, ◌<◌, sym}
use Rattle.std.specs.Prelude.{max, min, ◌==◌, nat_lt, nat_le, if◌then◌else◌, ◌^◌}
use Rattle.std.specs.Option.{is_none}
use Rattle.tuple_edge.specs.declared.event.Event.{Event}
use Rattle.tuple_edge.specs.declared.node.EdgeId.{EdgeId}
use Rattle.tuple_edge.specs.declared.node.NodeId.{NodeId}
use Rattle.tuple_edge.specs.declared.node.NodeId.TheVariants as node
use Rattle.tuple_edge.specs.declared.node.Which.{Which}
use Rattle.tuple_edge.specs.declared.node.Which.TheVariants.{A, B}
use Rattle.tuple_edge.specs.declared.status.Status.{Status}
use Rattle.tuple_edge.specs.declared.status.Status.TheVariants as status
use Rattle.pair_machine.specs.Boundary.{egress_does, egress_partition, egress_takes, egress_tells, ingress_does, ingress_takes, source_made, with_producer}
use Rattle.pair_machine.specs.Consumers.{is_ready, merged_one, offered, pulled, telling, untold, with_at}
use Rattle.pair_machine.specs.Controllers.{acks, acks_from, backs, controller_hears, controller_takes, counts, downed, goes_down, is_catching, is_down, is_up, leads_now, least, least_of, named, stops, then_do, with_watched, with_which}
use Rattle.pair_machine.specs.Flow.{Flow}
use Rattle.pair_machine.specs.Lengths.{Meets}
use Rattle.pair_machine.specs.Links.{IsThere, link}
use Rattle.pair_machine.specs.Lists.{Each}
use Rattle.pair_machine.specs.Machine.{State, after, as_egress, as_ingress, as_replica, at_node, changed, controller_does, controller_in, does, egress_in, first_term, follow, ingress_in, leads_first, new_consumer, new_producer, opening, posted, replica_in, step}
use Rattle.pair_machine.specs.Messages.{Ack, Act, AskBack, AskStop, AsksBack, AsksStop, Begin, Caught, Chunk, ChunkEnd, Dies, Down, Envelope, Lead, Makes, Message, Pulls, Refusal, Report, Serve, Stop, Takes, Tuple, Want, Works}
use Rattle.pair_machine.specs.Numbers.{Consumer, Controller, ControllerNode, EgressNode, Gathering, GatheringNumbers, Gone, Ingress, IngressNode, Move, MoveNumbers, Node, Partition, Producer, Replica, ReplicaNode, Running, RunningNumbers, Watched, control_at, in_edge, other, replica_at, copy_of}
use Rattle.pair_machine.specs.Producers.{Due, acked_to, due, leading, rewound, sent_on, to_producers, wanted}
use Rattle.pair_machine.specs.Replicas.{contains, folded, inc_of, insert_in, made_by, moves_or_sends, replica_asks, replica_dies, replica_does, replica_pulls, replica_takes, replica_works, reports, run_up, sends_or_reports, size, which_of}
use Rattle.pair_machine.specs.Small.{EachOfConsumer, EachOfController, EachOfGathering, EachOfIngress, EachOfMessage, EachOfMove, EachOfMoved, EachOfNode, EachOfNumbers, EachOfProducer, EachOfReplica, EachOfRunning, NumbersFit, NumbersStaySmall}
use Rattle.pair_machine.proofs.Frame.{EnvelopesMeet, framed}
use Rattle.pair_machine.proofs.Lists.{each_append, each_at, each_map}
use Rattle.pair_machine.proofs.Sources.{each_producer, works_by}
use Rattle.pair_machine.proofs.StepTurns.{HoldsOnOk, WasSent, step_by}
use Rattle.pair_machine.proofs.Tests.{both, if_elim}

-- ---- wider bounds

module _ (P Q : ℕ → Type 0) (g : (n : ℕ) → P n → Q n) where
  producer_wider : (x : Producer) → EachOfProducer P x → EachOfProducer Q x
  producer_wider x h = record { lows = λ t. g (x.lows t) (h.lows t); cursors = λ t c. g (x.cursors t c) (h.cursors t c); term = g x.term h.term }

  consumer_wider : (x : Consumer) → EachOfConsumer P x → EachOfConsumer Q x
  consumer_wider x h = record { marks = λ q. g (x.marks q) (h.marks q); told = λ q. g (x.told q) (h.told q); count = g x.count h.count }

  numbers_wider : (m : MoveNumbers) → EachOfNumbers P m → EachOfNumbers Q m
  numbers_wider m h = record { marks = λ q. g (m.marks q) (h.marks q); count = g m.count h.count; lows = λ t. g (m.lows t) (h.lows t) }

  move_wider : (o : Option Move) → EachOfMove P o → EachOfMove Q o
  move_wider None h = tt
  move_wider (Some mv) h = (g mv.target h.0, numbers_wider mv.numbers h.1, g mv.sent h.2)

  moved_wider : (o : Option MoveNumbers) → EachOfMoved P o → EachOfMoved Q o
  moved_wider None h = tt
  moved_wider (Some m) h = numbers_wider m h

  running_wider : (x : RunningNumbers) → EachOfRunning P x → EachOfRunning Q x
  running_wider x h = record { inc = g x.inc h.inc; consumer = consumer_wider x.consumer h.consumer; producer = producer_wider x.producer h.producer; served = g x.served h.served; move = move_wider x.move h.move }

  gathering_wider : (x : GatheringNumbers) → EachOfGathering P x → EachOfGathering Q x
  gathering_wider x h = record { inc = g x.inc h.inc; taken = g x.taken h.taken; moved = moved_wider x.moved h.moved; held = λ q. each_map P Q g (x.held q) (h.held q) }

  replica_wider : (r : Replica) → EachOfReplica P r → EachOfReplica Q r
  replica_wider (Gone i) h = g i h
  replica_wider (Running x) h = running_wider x h
  replica_wider (Gathering x) h = gathering_wider x h

  controller_wider : (c : Controller) → EachOfController P c → EachOfController Q c
  controller_wider c h = record { inc = λ w. g (c.watched w).inc (h.inc w); reports = λ w q. g ((c.watched w).reports q) (h.reports w q); acked = λ q. g (c.acked q) (h.acked q); term = g c.term h.term }

  ingress_wider : (x : Ingress) → EachOfIngress P x → EachOfIngress Q x
  ingress_wider x h = record { makes = g x.makes h.makes; producers = λ q. producer_wider (x.producers q) (h.producers q) }

  node_wider : (n : NodeId) (x : Node) → EachOfNode P n x → EachOfNode Q n x
  node_wider node.Ingress x h = ingress_wider (ingress_in x) h
  node_wider (node.Replica s p w) x h = replica_wider (replica_in x) h
  node_wider (node.Control s p) x h = controller_wider (controller_in x) h
  node_wider node.Egress x h = consumer_wider (egress_in x) h

  message_wider : (m : Message) → EachOfMessage P m → EachOfMessage Q m
  message_wider (Tuple e k) h = g k h
  message_wider (Ack e k) h = g k h
  message_wider (Report i e k) h = (g i h.0, g k h.1)
  message_wider (Lead i t) h = (g i h.0, g t h.1)
  message_wider (Serve i t) h = (g i h.0, g t h.1)
  message_wider (Begin i) h = g i h
  message_wider (Chunk i k m) h = (g i h.0, g k h.1, numbers_wider m h.2)
  message_wider (ChunkEnd i k m) h = (g i h.0, g k h.1, numbers_wider m h.2)
  message_wider (Caught i) h = g i h
  message_wider (Want e k) h = g k h
  message_wider (Down i) h = g i h
  message_wider (Stop i) h = g i h
  message_wider (AskStop i) h = g i h
  message_wider AskBack h = tt

each_with : (P : ℕ → Type 0) (g : ℕ → ℕ) (q k : ℕ) → P k → ((i : ℕ) → P (g i)) → (i : ℕ) → P (with_at g q k i)
each_with P g q k new old i = if_elim P (i == q) k (g i) (λ e. new) (λ e. old i)

-- ---- what was at most b is at most b + 1

module _ (b : ℕ) where
  abbrev Old : ℕ → Type 0
  Old n = n ≤ b

  abbrev New : ℕ → Type 0
  New n = n ≤ b + 1

  up : (n : ℕ) → Old n → New n
  up n h = omega arith

  -- ---- producers and consumers

  offered_small : (c : Consumer) (q n : ℕ) → Old n → EachOfConsumer Old c → EachOfConsumer New (offered c q n)
  offered_small c q n new h = if_elim (EachOfConsumer New) (n == c.marks q + 1) (record c { marks = with_at c.marks q n }) c
      (λ e. let w = consumer_wider Old New up c h in record { marks = each_with New c.marks q n (up n new) w.marks; told = w.told; count = w.count })
      (λ e. consumer_wider Old New up c h)

  pulled_small : (c : Consumer) (q : ℕ) → EachOfConsumer Old c → EachOfConsumer New (pulled c q)
  pulled_small c q h = let w = consumer_wider Old New up c h in record { marks = each_with New c.marks q (c.marks q + 1) (let m = h.marks q in omega arith) w.marks; told = w.told; count = w.count }

  merged_small : (c : Consumer) → EachOfConsumer Old c → EachOfConsumer New (merged_one c)
  merged_small c h = let w = consumer_wider Old New up c h in record { marks = w.marks; told = w.told; count = (let k = h.count in omega arith) }

  telling_small : (c : Consumer) (q : ℕ) → EachOfConsumer Old c → EachOfConsumer New (telling c q)
  telling_small c q h = let w = consumer_wider Old New up c h in record { marks = w.marks; told = each_with New c.told q (c.marks q) (w.marks q) w.told; count = w.count }

  acked_small : (x : Producer) (t k : ℕ) → Old k → EachOfProducer Old x → EachOfProducer New (acked_to x t k)
  acked_small x t k new h =
      let w = producer_wider Old New up x h in
      let low = h.lows t in
      record {
        lows = each_with New x.lows t (max (x.lows t) k) (omega arith) w.lows;
        cursors = λ j c. if_elim New (j == t) (max (x.cursors t c) (max (x.lows t) k + 1)) (x.cursors j c) (λ e. let y = h.cursors t c in omega arith) (λ e. w.cursors j c);
        term = w.term;
      }

  wanted_small : (x : Producer) (t c n : ℕ) → EachOfProducer Old x → EachOfProducer New (wanted x t c n)
  wanted_small x t c n h =
      let w = producer_wider Old New up x h in
      if_elim (EachOfProducer New) x.leads (rewound x t c n) x
      (λ e. record {
        lows = w.lows;
        cursors = λ j d. if_elim New ((j == t) && (d == c)) (min (x.cursors t c) (max n (x.lows t + 1))) (x.cursors j d) (λ z. let y = h.cursors t c in omega arith) (λ z. w.cursors j d);
        term = w.term;
      })
      (λ e. w)

  leading_small : (x : Producer) (term : ℕ) → Old term → EachOfProducer Old x → EachOfProducer New (leading x term)
  leading_small x term new h =
      let w = producer_wider Old New up x h in
      if_elim (EachOfProducer New) (nat_lt x.term term) (record { lows = x.lows; cursors = λ j c. x.lows j + 1; term = term; leads = true }) x
      (λ e. record { lows = w.lows; cursors = λ j c. (let y = h.lows j in omega arith); term = up term new })
      (λ e. w)

  sent_small : (x : Producer) (d : Due) → Old d.number → EachOfProducer Old x → EachOfProducer New (sent_on x d)
  sent_small x d new h =
      let w = producer_wider Old New up x h in
      record {
        lows = w.lows;
        cursors = λ j c. if_elim New ((j == d.to) && (c == d.copy)) (d.number + 1) (x.cursors j c) (λ z. omega arith) (λ z. w.cursors j c);
        term = w.term;
      }

  -- the number of what is due is a cursor
  due_small : (made : ℕ → ℕ) (x : Producer) (n : ℕ) (d : Due) → IsDue made x n (Some d) → EachOfProducer Old x → Old d.number
  due_small made x n d due h = subst Old (sym due.1) (h.cursors d.to d.copy)

  -- ---- replicas

  inserted_small : (n : ℕ) (xs : List ℕ) → New n → Each New xs → Each New (insert_in n xs)
  inserted_small n [] new old = (new, tt)
  inserted_small n (x ∷ xs) new old = if_elim (Each New) (n == x) (x ∷ xs) (if nat_lt n x then n ∷ x ∷ xs else x ∷ insert_in n xs)
      (λ e. old) (λ e. if_elim (Each New) (nat_lt n x) (n ∷ x ∷ xs) (x ∷ insert_in n xs) (λ z. (new, old)) (λ z. (old.0, inserted_small n xs new old.1)))

  contained_small : (n : ℕ) (xs : List ℕ) → Each Old xs → contains n xs ≡ true → Old n
  contained_small n [] h e = let z : ⊥ = cc e in absurd z
  contained_small n (x ∷ xs) h e = go (n == x) (eqb-true n x) (contained_small n xs h.1) e
    where
      go : (c : Bool) → (c ≡ true → n ≡ x) → (contains n xs ≡ true → Old n) → (if c then true else contains n xs) ≡ true → Old n
      go true same rest e = subst Old (sym (same refl)) h.0
      go false same rest e = rest e

  -- a mark is run up to held numbers alone
  run_small : (n mark : ℕ) (held : List ℕ) → Old mark → Each Old held → Old (run_up n mark held)
  run_small zero mark held m h = m
  run_small (suc n) mark held m h = if_elim Old (contains (mark + 1) held) (run_up n (mark + 1) held) mark
      (λ e. run_small n (mark + 1) held (contained_small (mark + 1) held h e) h) (λ e. m)

  module _ (f : Flow) (p : Partition) (w : Which) where
    abbrev AllSmall : List Envelope → Type 0
    AllSmall out = EnvelopesMeet (λ link m. EachOfMessage New m) (replica_at p w) out

    abbrev Done : (Replica × List Envelope) → Type 0
    Done d = EachOfReplica New d.0 × AllSmall d.1

    abbrev DoneIfOk : Result (Replica × List Envelope) Refusal → Type 0
    DoneIfOk (Ok d) = Done d
    DoneIfOk (Err e) = Unit {0}

    same : (r : Replica) → EachOfReplica Old r → Done (r, [])
    same r h = (replica_wider Old New up r h, tt)

    inc_small : (r : Replica) → EachOfReplica Old r → Old (inc_of r)
    inc_small (Gone i) h = h
    inc_small (Running x) h = h.inc
    inc_small (Gathering g) h = h.inc

    wants_small : (q : ℕ) (e : EdgeId) (n : ℕ) → New n → AllSmall (to_producers p q (Want e n))
    wants_small q e n h = if_elim AllSmall (p.stage == 1) _ _ (λ z. (h, tt)) (λ z. (h, (h, tt)))

    with_consumer : (x : RunningNumbers) (c : Consumer) → EachOfRunning Old x → EachOfConsumer New c → EachOfReplica New (Running (record x { consumer = c }))
    with_consumer x c h new = let z = running_wider Old New up x h in record { inc = z.inc; consumer = new; producer = z.producer; served = z.served; move = z.move }

    with_producer_small : (x : RunningNumbers) (y : Producer) → EachOfRunning Old x → EachOfProducer New y → EachOfReplica New (Running (record x { producer = y }))
    with_producer_small x y h new = let z = running_wider Old New up x h in record { inc = z.inc; consumer = z.consumer; producer = new; served = z.served; move = z.move }

    takes_small : (from : NodeId) (m : Message) (r : Replica) → EachOfMessage Old m → EachOfReplica Old r → Done (replica_takes f p from m r)
    takes_small from (Tuple e n) (Gone i) h c = same (Gone i) c
    takes_small from (Tuple e n) (Running x) h c = (with_consumer x (offered x.consumer e.from n) c (offered_small x.consumer e.from n h c.consumer), tt)
    takes_small from (Tuple e n) (Gathering g) h c =
        let z = gathering_wider Old New up g c in
        (record { inc = z.inc; taken = z.taken; moved = z.moved; held = λ j. if_elim (Each New) (j == e.from) (insert_in n (g.held e.from)) (g.held j) (λ i. inserted_small n (g.held e.from) (up n h) (z.held e.from)) (λ i. z.held j) }, tt)
    takes_small from (Ack e k) (Gone i) h c = same (Gone i) c
    takes_small from (Ack e k) (Running x) h c = (with_producer_small x (acked_to x.producer e.to k) c (acked_small x.producer e.to k h c.producer), tt)
    takes_small from (Ack e k) (Gathering g) h c = same (Gathering g) c
    takes_small from (Lead i t) (Gone j) h c = same (Gone j) c
    takes_small from (Lead i t) (Running x) h c = if_elim (λ r. Done (r, [])) (i == x.inc) _ _
        (λ e. (with_producer_small x (leading x.producer t) c (leading_small x.producer t h.1 c.producer), tt)) (λ e. same (Running x) c)
    takes_small from (Lead i t) (Gathering g) h c = same (Gathering g) c
    takes_small from (Serve i t) (Gone j) h c = same (Gone j) c
    takes_small from (Serve i t) (Running x) h c = if_elim (λ r. Done (r, [])) ((i == x.inc) && nat_lt x.served t) _ _
        (λ e. let z = running_wider Old New up x c in
        (record { inc = z.inc; consumer = z.consumer; producer = z.producer; served = up t h.1; move = (up t h.1, record { marks = z.consumer.marks; count = z.consumer.count; lows = z.producer.lows }, omega arith) }, tt))
        (λ e. same (Running x) c)
    takes_small from (Serve i t) (Gathering g) h c = same (Gathering g) c
    takes_small from (Begin i) r h c = if_elim (λ r. Done (r, [])) (nat_lt (inc_of r) i) _ _
        (λ e. (record { inc = up i h; taken = omega arith; moved = tt; held = λ q. tt }, tt)) (λ e. same r c)
    takes_small from (Stop i) r h c = if_elim (λ r. Done (r, [])) (i == inc_of r) _ _ (λ e. (up (inc_of r) (inc_small r c), tt)) (λ e. same r c)
    takes_small from (Chunk i n m) (Gone j) h c = same (Gone j) c
    takes_small from (Chunk i n m) (Running x) h c = same (Running x) c
    takes_small from (Chunk i n m) (Gathering g) h c = if_elim Done ((i == g.inc) && (n == g.taken + 1)) _ _
        (λ e. let z = gathering_wider Old New up g c in (
          record { inc = z.inc; taken = up n h.1; moved = numbers_wider Old New up m h.2; held = z.held },
          if_elim AllSmall (nat_le n (f.sources p.stage)) _ _ (λ y. wants_small (n - 1) (in_edge p (n - 1)) (m.marks (n - 1) + 1) (let k = h.2.marks (n - 1) in omega arith)) (λ y. tt),
        ))
        (λ e. same (Gathering g) c)
    takes_small from (ChunkEnd i n m) (Gone j) h c = same (Gone j) c
    takes_small from (ChunkEnd i n m) (Running x) h c = same (Running x) c
    takes_small from (ChunkEnd i n m) (Gathering g) h c = if_elim Done ((i == g.inc) && (n == g.taken)) _ _
        (λ e. let z = numbers_wider Old New up m h.2 in (
          record {
            inc = up i h.0;
            consumer = record { marks = λ q. up (folded m g.held q) (run_small (length (g.held q)) (m.marks q) (g.held q) (h.2.marks q) (c.held q)); told = λ q. omega arith; count = z.count };
            producer = record { lows = z.lows; cursors = λ t d. (let y = h.2.lows t in omega arith); term = omega arith };
            served = omega arith;
            move = tt;
          },
          (up i h.0, tt),
        ))
        (λ e. same (Gathering g) c)
    takes_small from (Want e n) (Gone i) h c = same (Gone i) c
    takes_small from (Want e n) (Running x) h c = (with_producer_small x (wanted x.producer e.to (copy_of (which_of from)) n) c (wanted_small x.producer e.to (copy_of (which_of from)) n c.producer), tt)
    takes_small from (Want e n) (Gathering g) h c = same (Gathering g) c
    takes_small from message r h c = same r c

    reports_small : (x : RunningNumbers) (q : Option ℕ) → EachOfRunning Old x → DoneIfOk (reports f p x q)
    reports_small x None c = tt
    reports_small x (Some q) c = (with_consumer x (telling x.consumer q) c (telling_small x.consumer q c.consumer), ((up x.inc c.inc, up (x.consumer.marks q) (c.consumer.marks q)), tt))

    sends_small : (x : RunningNumbers) (d : Option Due) → IsDue (made_by f p x.consumer.count) x.producer (f.targets p.stage) d → EachOfRunning Old x → DoneIfOk (sends_or_reports f p x d)
    sends_small x (Some d) due c =
        let n = due_small (made_by f p x.consumer.count) x.producer (f.targets p.stage) d due c.producer in
        (with_producer_small x (sent_on x.producer d) c (sent_small x.producer d n c.producer), (up d.number n, tt))
    sends_small x None due c = reports_small x (untold f p x.consumer) c

    -- the end of a move counts no more chunks than were sent
    moves_small : (x : RunningNumbers) (mv : Option Move) → x.move ≡ mv → EachOfRunning Old x → DoneIfOk (moves_or_sends f p (replica_at p (other w)) x mv)
    moves_small x None e c = sends_small x (due f p (made_by f p x.consumer.count) x.producer) (is_due f p (made_by f p x.consumer.count) x.producer) c
    moves_small x (Some mv) e c =
        let z = running_wider Old New up x c in
        let old : EachOfMove Old (Some mv) = subst (EachOfMove Old) e c.move in
        let numbers = numbers_wider Old New up mv.numbers old.1 in
        let next : New (mv.sent + 1) = (let s = old.2 in omega arith) in
        if_elim Done (nat_lt mv.sent (size f p mv.numbers)) _ _
        (λ i. (record { inc = z.inc; consumer = z.consumer; producer = z.producer; served = z.served; move = (up mv.target old.0, numbers, next) }, ((up mv.target old.0, next, numbers), tt)))
        (λ i. let whole : New (size f p mv.numbers) = (let l = ltb-false mv.sent (size f p mv.numbers) i in let s = old.2 in omega arith) in
        (record { inc = z.inc; consumer = z.consumer; producer = z.producer; served = z.served; move = tt }, ((up mv.target old.0, whole, numbers), tt)))

    works_small : (r : Replica) → EachOfReplica Old r → DoneIfOk (replica_works f p w r)
    works_small (Gone i) c = tt
    works_small (Gathering g) c = tt
    works_small (Running x) c = if_elim DoneIfOk (is_ready f p x.consumer) _ _ (λ e. (with_consumer x (merged_one x.consumer) c (merged_small x.consumer c.consumer), tt)) (λ e. moves_small x x.move refl c)

    dies_small : (r : Replica) → EachOfReplica Old r → DoneIfOk (replica_dies p r)
    dies_small (Gone i) c = tt
    dies_small (Running x) c = (up x.inc c.inc, (up x.inc c.inc, tt))
    dies_small (Gathering g) c = (up g.inc c.inc, (up g.inc c.inc, tt))

    asks_stop_small : (r : Replica) → EachOfReplica Old r → DoneIfOk (replica_asks p (λ i. AskStop i) r)
    asks_stop_small (Gone i) c = tt
    asks_stop_small (Running x) c = (replica_wider Old New up (Running x) c, (up x.inc c.inc, tt))
    asks_stop_small (Gathering g) c = tt

    asks_back_small : (r : Replica) → EachOfReplica Old r → DoneIfOk (replica_asks p (λ i. AskBack) r)
    asks_back_small (Gone i) c = tt
    asks_back_small (Running x) c = (replica_wider Old New up (Running x) c, (tt, tt))
    asks_back_small (Gathering g) c = tt

    pulls_small : (q : ℕ) (r : Replica) → EachOfReplica Old r → DoneIfOk (replica_pulls q r)
    pulls_small q (Gone i) c = tt
    pulls_small q (Running x) c = (with_consumer x (pulled x.consumer q) c (pulled_small x.consumer q c.consumer), tt)
    pulls_small q (Gathering g) c = tt

    abbrev ActSmall : Act → Type 0
    ActSmall (Takes from m) = EachOfMessage Old m
    ActSmall act = Unit {0}

    does_small : (a : Act) (r : Replica) → ActSmall a → EachOfReplica Old r → DoneIfOk (replica_does f p w a r)
    does_small (Takes from m) r h c = takes_small from m r h c
    does_small Works r h c = works_small r c
    does_small Makes r h c = tt
    does_small Dies r h c = dies_small r c
    does_small AsksStop r h c = asks_stop_small r c
    does_small AsksBack r h c = asks_back_small r c
    does_small (Pulls q) r h c = pulls_small q r c

  -- ---- ingress and egress

  module _ (f : Flow) where
    abbrev IngressDone : Result (Ingress × List Envelope) Refusal → Type 0
    IngressDone (Ok d) = EachOfIngress New d.0 × EnvelopesMeet (λ link m. EachOfMessage New m) node.Ingress d.1
    IngressDone (Err e) = Unit {0}

    another_producer : (x : Ingress) (q : ℕ) (y : Producer) → EachOfIngress Old x → EachOfProducer New y → EachOfIngress New (with_producer x q y)
    another_producer x q y h new = let z = ingress_wider Old New up x h in record { makes = z.makes; producers = each_producer (λ j k. EachOfProducer New k) x q y new z.producers }

    ingress_takes_small : (from : NodeId) (m : Message) (x : Ingress) → EachOfMessage Old m → EachOfIngress Old x → EachOfIngress New (ingress_takes from m x)
    ingress_takes_small from (Ack e k) x h c = another_producer x e.from (acked_to (x.producers e.from) e.to k) c (acked_small (x.producers e.from) e.to k h (c.producers e.from))
    ingress_takes_small from (Want e n) x h c = another_producer x e.from (wanted (x.producers e.from) e.to (copy_of (which_of from)) n) c (wanted_small (x.producers e.from) e.to (copy_of (which_of from)) n (c.producers e.from))
    ingress_takes_small from m x h c = ingress_wider Old New up x c

    abbrev HeardSmall : Act → Type 0
    HeardSmall (Takes from m) = EachOfMessage Old m
    HeardSmall act = Unit {0}

    ingress_small : (a : Act) (x : Ingress) → HeardSmall a → EachOfIngress Old x → IngressDone (ingress_does f a x)
    ingress_small (Takes from m) x h c = (ingress_takes_small from m x h c, tt)
    ingress_small Works x h c = works_by f x IngressDone tt
        (λ q d l due. let n = due_small (source_made f x q) (x.producers q) (f.targets 0) d due (c.producers q) in
        (another_producer x q (sent_on (x.producers q) d) c (sent_small (x.producers q) d n (c.producers q)), (up d.number n, tt)))
    ingress_small Makes x h c = if_elim IngressDone (nat_lt x.makes f.makes) _ _ (λ e. let z = ingress_wider Old New up x c in (record { makes = (let k = c.makes in omega arith); producers = z.producers }, tt)) (λ e. tt)
    ingress_small Dies x h c = tt
    ingress_small AsksStop x h c = tt
    ingress_small AsksBack x h c = tt
    ingress_small (Pulls q) x h c = tt

    abbrev EgressDone : Result (Consumer × List Envelope) Refusal → Type 0
    EgressDone (Ok d) = EachOfConsumer New d.0 × EnvelopesMeet (λ link m. EachOfMessage New m) node.Egress d.1
    EgressDone (Err e) = Unit {0}

    tells_small : (x : Consumer) (o : Option ℕ) → EachOfConsumer Old x → EgressDone (egress_tells f x o)
    tells_small x None c = tt
    tells_small x (Some q) c =
        let k = up (x.marks q) (c.marks q) in
        (telling_small x q c, if_elim (EnvelopesMeet (λ link m. EachOfMessage New m) node.Egress) (f.stages + 1 == 1) _ _ (λ z. (k, tt)) (λ z. (k, (k, tt))))

    egress_takes_small : (m : Message) (x : Consumer) → EachOfMessage Old m → EachOfConsumer Old x → EachOfConsumer New (egress_takes m x)
    egress_takes_small (Tuple e n) x h c = offered_small x e.from n h c
    egress_takes_small m x h c = consumer_wider Old New up x c

    egress_small : (a : Act) (x : Consumer) → HeardSmall a → EachOfConsumer Old x → EgressDone (egress_does f a x)
    egress_small (Takes from m) x h c = (egress_takes_small m x h c, tt)
    egress_small Works x h c = if_elim EgressDone (is_ready f (egress_partition f) x) _ _ (λ e. (merged_small x c, tt)) (λ e. tells_small x (untold f (egress_partition f) x) c)
    egress_small Makes x h c = tt
    egress_small Dies x h c = tt
    egress_small AsksStop x h c = tt
    egress_small AsksBack x h c = tt
    egress_small (Pulls q) x h c = (pulled_small x q c, tt)

-- ---- controllers

with_each : {X : Type 0} (P : Which → X → Type 0) (g : Which → X) (w : Which) (h : X) → P w h → ((u : Which) → P u (g u)) → (u : Which) → P u (with_which g w h u)
with_each P g A h new old A = new
with_each P g A h new old B = old B
with_each P g B h new old A = old A
with_each P g B h new old B = new

with_pair : {X : Type 0} (P : Which → X → Type 0) (g : Which → X) (w : Which) (h : X) → P w h → P (other w) (g (other w)) → (u : Which) → P u (with_which g w h u)
with_pair P g A h new old A = new
with_pair P g A h new old B = old
with_pair P g B h new old A = old
with_pair P g B h new old B = new

with_self : {X : Type 0} (g : Which → X) (w : Which) (h : X) → with_which g w h w ≡ h
with_self g A h = refl
with_self g B h = refl

-- where no replica leads, none is up
abbrev Led : Controller → Type 0
Led c = c.leader ≡ None → (w : Which) → is_up (c.watched w).status ≡ false

abbrev both_up : Controller → Bool
both_up c = is_up (c.watched A).status && is_up (c.watched B).status

and_false : (x y : Bool) → y ≡ false → (x && y) ≡ false
and_false true y e = e
and_false false y e = refl

not_both : (c : Controller) (w : Which) → is_up (c.watched w).status ≡ false → both_up c ≡ false
not_both c A e = λ i. e i && is_up (c.watched B).status
not_both c B e = and_false (is_up (c.watched A).status) (is_up (c.watched B).status) e

both_swapped : (c : Controller) (w : Which) → is_up (c.watched w).status ≡ true → is_up (c.watched (other w)).status ≡ true → both_up c ≡ true
both_swapped c A x y = λ i. x i && y i
both_swapped c B x y = λ i. y i && x i

module _ (b : ℕ) (p : Partition) where
  abbrev Out : List Envelope → Type 0
  Out out = EnvelopesMeet (λ link m. EachOfMessage (λ n. n ≤ b + 1) m) (control_at p) out

  -- on the way through a step: incarnations by their own bounds
  record Within (at : Which → ℕ) (c : Controller) : Type 0 where
    inc : (w : Which) → (c.watched w).inc ≤ at w
    reports : (w : Which) (q : ℕ) → (c.watched w).reports q ≤ b
    acked : (q : ℕ) → c.acked q ≤ b

  -- the term rises once in a step: where it has risen, not both are up
  abbrev Room : Controller → Type 0
  Room c = (c.term ≤ b) ⊎ ((c.term ≤ b + 1) × (both_up c ≡ false))

  abbrev KeptBy : (Which → ℕ) → (Controller × List Envelope) → Type 0
  KeptBy at d = Within at d.0 × Led d.0 × Room d.0 × Out d.1

  named_kept : (at : Which → ℕ) (w : Which) (c : Controller) → ((u : Which) → at u ≤ b + 1) → Within at c → c.term ≤ b → both_up c ≡ false → KeptBy at (named p w c)
  named_kept at w c small base term low =
      let i = base.inc w in let s = small w in
      (record { inc = base.inc; reports = base.reports; acked = base.acked }, (λ e. absurd (let z : ⊥ = cc e in z)), inr (omega arith, low), ((omega arith, omega arith), tt))

  -- a change of what is known of one replica that keeps its incarnation, and its reports small
  with_within : (at : Which → ℕ) (c : Controller) (w : Which) (h : Watched) → h.inc ≤ at w → ((q : ℕ) → h.reports q ≤ b) → Within at c → Within at (with_watched c w h)
  with_within at c w h inc reports base = record {
    inc = with_each (λ u k. k.inc ≤ at u) c.watched w h inc base.inc;
    reports = with_each (λ u k. (q : ℕ) → k.reports q ≤ b) c.watched w h reports base.reports;
    acked = base.acked;
  }

  with_led : (c : Controller) (w : Which) (h : Watched) → (is_up (c.watched w).status ≡ false → is_up h.status ≡ false) → Led c → Led (with_watched c w h)
  with_led c w h low led e = with_each (λ u k. is_up k.status ≡ false) c.watched w h (low (led e w)) (led e)

  downed_within : (at : Which → ℕ) (c : Controller) (w : Which) → Within at c → Within at (downed w c)
  downed_within at c w base = with_within at c w (record (c.watched w) { status = status.Down; stop = false }) (base.inc w) (base.reports w) base

  downed_low : (c : Controller) (w : Which) → both_up (downed w c) ≡ false
  downed_low c w = not_both (downed w c) w (ap (λ (h : Watched). is_up h.status) (with_self c.watched w (record (c.watched w) { status = status.Down; stop = false })))

  down_kept : (at : Which → ℕ) (w : Which) (c : Controller) → ((u : Which) → at u ≤ b + 1) → Within at c → Led c → c.term ≤ b → KeptBy at (goes_down p w c)
  down_kept at w c small base led term =
      let base_after = downed_within at c w base in
      if_elim (KeptBy at) (leads_now c.leader w) _ _
      (λ e. if_elim (KeptBy at) (is_up (c.watched (other w)).status) _ _ (λ up. named_kept at (other w) (downed w c) small base_after term (downed_low c w))
      (λ low. (
        record { inc = base_after.inc; reports = base_after.reports; acked = base_after.acked },
        (λ z. with_pair (λ u k. is_up k.status ≡ false) c.watched w (record (c.watched w) { status = status.Down; stop = false }) refl low),
        inl term,
        tt,
      )))
      (λ e. (base_after, with_led c w (record (c.watched w) { status = status.Down; stop = false }) (λ z. refl) led, inl term, tt))

  same_kept : (at : Which → ℕ) (c : Controller) → Within at c → Led c → Room c → KeptBy at (c, [])
  same_kept at c base led room = (base, led, room, tt)

  reported : (g : ℕ → ℕ) (q k : ℕ) → ((i : ℕ) → g i ≤ b) → k ≤ b → (i : ℕ) → with_at g q (max (g q) k) i ≤ b
  reported g q k old new i = if_elim (λ v. v ≤ b) (i == q) (max (g q) k) (g i) (λ e. let x = old q in omega arith) (λ e. old i)

  none_led : (c : Controller) → is_none c.leader ≡ true → c.leader ≡ None
  none_led c e = go c.leader e
    where
      go : (o : Option Which) → is_none o ≡ true → o ≡ None
      go None e = refl
      go (Some w) e = let z : ⊥ = cc e in absurd z

  some_led : (c : Controller) → is_none c.leader ≡ false → c.leader ≡ None → ⊥
  some_led c e n = let x : is_none c.leader ≡ true = ap is_none n in let z : ⊥ = cc (x, e) in z

  hears_kept : (at : Which → ℕ) (w : Which) (m : Message) (c : Controller) → ((u : Which) → at u ≤ b + 1) → EachOfMessage (λ n. n ≤ b) m → Within at c → Led c → c.term ≤ b → KeptBy at (controller_hears p w m c)
  hears_kept at w (Report i e k) c small h base led term = if_elim (KeptBy at) (counts (c.watched w) i) _ _
      (λ t. (
        with_within at c w (record (c.watched w) { reports = with_at (c.watched w).reports e.from (max ((c.watched w).reports e.from) k) }) (base.inc w) (reported (c.watched w).reports e.from k (base.reports w) h.1) base,
        with_led c w (record (c.watched w) { reports = with_at (c.watched w).reports e.from (max ((c.watched w).reports e.from) k) }) (λ z. z) led,
        inl term,
        tt,
      )) (λ t. same_kept at c base led (inl term))
  hears_kept at w (Down i) c small h base led term = if_elim (KeptBy at) (counts (c.watched w) i) _ _ (λ t. down_kept at w c small base led term) (λ t. same_kept at c base led (inl term))
  hears_kept at w (AskStop i) c small h base led term = if_elim (KeptBy at) (counts (c.watched w) i) _ _
      (λ t. (with_within at c w (record (c.watched w) { stop = true }) (base.inc w) (base.reports w) base, with_led c w (record (c.watched w) { stop = true }) (λ z. z) led, inl term, tt)) (λ t. same_kept at c base led (inl term))
  hears_kept at w AskBack c small h base led term =
      (with_within at c (other w) (record (c.watched (other w)) { back = true }) (base.inc (other w)) (base.reports (other w)) base, with_led c (other w) (record (c.watched (other w)) { back = true }) (λ z. z) led, inl term, tt)
  hears_kept at w (Caught i) c small h base led term = if_elim (KeptBy at) ((i == (c.watched w).inc) && is_catching (c.watched w).status) _ _
      (λ t. let h : Watched = record (c.watched w) { status = status.Up } in
      let up = with_within at c w h (base.inc w) (base.reports w) base in
      if_elim (KeptBy at) (is_none c.leader) _ _
      (λ e. named_kept at w (with_watched c w h) small up term (alone (other w) h (led (none_led c e))))
      (λ e. (up, (λ n. absurd (some_led c e n)), inl term, tt)))
      (λ t. same_kept at c base led (inl term))
    where
      alone : (v : Which) (h : Watched) → ((u : Which) → is_up (c.watched u).status ≡ false) → both_up (with_watched c w h) ≡ false
      alone v h low = go w
        where
          go : (w : Which) → both_up (with_watched c w h) ≡ false
          go A = not_both (with_watched c A h) B (low B)
          go B = not_both (with_watched c B h) A (low A)
  hears_kept at w message c small h base led term = same_kept at c base led (inl term)

  backs_kept : (at : Which → ℕ) (w : Which) (c : Controller) → at w ≤ b → at (other w) ≤ b + 1 → Within at c → Led c → Room c → KeptBy (with_which at w (b + 1)) (backs p w c)
  backs_kept at w c few small base led room = if_elim (KeptBy (with_which at w (b + 1))) ((c.watched w).back && (is_down (c.watched w).status && is_up (c.watched (other w)).status)) _ _
      (λ t. let h : Watched = record { status = status.Catching; inc = (c.watched w).inc + 1; reports = (c.watched (other w)).reports; stop = (c.watched w).stop; back = false } in
      let own = base.inc w in let partner = base.inc (other w) in (
        record {
          inc = two w h (omega arith);
          reports = with_each (λ u k. (q : ℕ) → k.reports q ≤ b) c.watched w h (base.reports (other w)) base.reports;
          acked = base.acked;
        },
        with_led c w h (λ z. refl) led,
        room_after h refl room,
        (omega arith, ((omega arith, omega arith), tt)),
      ))
      (λ t. (record { inc = wider w few; reports = base.reports; acked = base.acked }, led, room, tt))
    where
      two : (v : Which) (h : Watched) → h.inc ≤ b + 1 → (u : Which) → (with_which c.watched v h u).inc ≤ with_which at v (b + 1) u
      two A h k A = k
      two A h k B = base.inc B
      two B h k A = base.inc A
      two B h k B = k

      wider : (v : Which) → at v ≤ b → (u : Which) → (c.watched u).inc ≤ with_which at v (b + 1) u
      wider A k A = let i = base.inc A in omega arith
      wider A k B = base.inc B
      wider B k A = base.inc A
      wider B k B = let i = base.inc B in omega arith

      room_after : (h : Watched) → is_up h.status ≡ false → Room c → Room (with_watched c w h)
      room_after h low (inl t) = inl t
      room_after h low (inr t) = inr (t.0, not_both (with_watched c w h) w (ap (λ (k : Watched). is_up k.status) (with_self c.watched w h) ∙ low))

  stops_kept : (at : Which → ℕ) (w : Which) (c : Controller) → ((u : Which) → at u ≤ b + 1) → Within at c → Led c → Room c → KeptBy at (stops p w c)
  stops_kept at w c small base led room = if_elim (KeptBy at) ((c.watched w).stop && (is_up (c.watched w).status && is_up (c.watched (other w)).status)) _ _
      (λ t. let z = both (c.watched w).stop (is_up (c.watched w).status && is_up (c.watched (other w)).status) t in
      let y = both (is_up (c.watched w).status) (is_up (c.watched (other w)).status) z.1 in
      let d = down_kept at w c small base led (fresh (both_swapped c w y.0 y.1) room) in
      let i = base.inc w in let s = small w in
      (d.0, d.1, d.2, (omega arith, d.3)))
      (λ t. (base, led, room, tt))
    where
      fresh : both_up c ≡ true → Room c → c.term ≤ b
      fresh e (inl t) = t
      fresh e (inr t) = let z : ⊥ = cc (e, t.1) in absurd z

  then_kept : (at : Which → ℕ) (d : Controller × List Envelope) (g : Controller → (Controller × List Envelope)) → Out d.1 → KeptBy at (g d.0) → KeptBy at (then_do d g)
  then_kept at d g out h = (h.0, h.1, h.2, each_append (λ (x : Envelope). EachOfMessage (λ n. n ≤ b + 1) x.message) d.1 (g d.0).1 out h.3)

  least_small : (k a c : ℕ) (s t : Status) → k ≤ b → a ≤ b → c ≤ b → least_of k s a t c ≤ b
  least_small k a c s t x y z = if_elim (λ v. v ≤ b) (is_down s) _ _ (λ e. if_elim (λ v. v ≤ b) (is_down t) k c (λ i. x) (λ i. z)) (λ e. if_elim (λ v. v ≤ b) (is_down t) a (min a c) (λ i. y) (λ i. omega arith))

  all_least : (at : Which → ℕ) (c : Controller) → Within at c → (q : ℕ) → least c q ≤ b
  all_least at c base q = least_small (c.acked q) ((c.watched A).reports q) ((c.watched B).reports q) (c.watched A).status (c.watched B).status (base.acked q) (base.reports A q) (base.reports B q)

  acks_out : (n q : ℕ) (c : Controller) → ((i : ℕ) → least c i ≤ b) → Out (acks_from n q p c)
  acks_out zero q c h = tt
  acks_out (suc n) q c h = let below : least c q ≤ b + 1 = (let k = h q in omega arith) in each_append (λ (x : Envelope). EachOfMessage (λ n. n ≤ b + 1) x.message) _ (acks_from n (q + 1) p c)
      (if_elim Out (nat_lt (c.acked q) (least c q)) (to_producers p q (Ack (in_edge p q) (least c q))) [] (λ e. if_elim Out (p.stage == 1) _ _ (λ z. (below, tt)) (λ z. (below, (below, tt)))) (λ e. tt))
      (acks_out n (q + 1) c h)

  -- a controller's whole step
  pub takes_kept : (edges : ℕ) (w : Which) (m : Message) (c : Controller) → EachOfMessage (λ n. n ≤ b) m → EachOfController (λ n. n ≤ b) c → Led c →
      EachOfController (λ n. n ≤ b + 1) (controller_takes edges p w m c).0 × Led (controller_takes edges p w m c).0 × Out (controller_takes edges p w m c).1
  takes_kept edges w m c h old led =
      let r0 = controller_hears p w m c in
      let r1 = then_do r0 (backs p A) in
      let r2 = then_do r1 (backs p B) in
      let r3 = then_do r2 (stops p A) in
      let r4 = then_do r3 (stops p B) in
      let at0 : Which → ℕ = λ u. b in
      let at1 : Which → ℕ = with_which at0 A (b + 1) in
      let at2 : Which → ℕ = with_which at1 B (b + 1) in
      let start : Within at0 c = record { inc = old.inc; reports = old.reports; acked = old.acked } in
      let q0 = hears_kept at0 w m c (λ u. omega arith) h start led old.term in
      let q1 = then_kept at1 r0 (backs p A) q0.3 (backs_kept at0 A r0.0 (omega arith) (omega arith) q0.0 q0.1 q0.2) in
      let q2 = then_kept at2 r1 (backs p B) q1.3 (backs_kept at1 B r1.0 (omega arith) (omega arith) q1.0 q1.1 q1.2) in
      let small : (u : Which) → at2 u ≤ b + 1 = all_at in
      let q3 = then_kept at2 r2 (stops p A) q2.3 (stops_kept at2 A r2.0 small q2.0 q2.1 q2.2) in
      let q4 = then_kept at2 r3 (stops p B) q3.3 (stops_kept at2 B r3.0 small q3.0 q3.1 q3.2) in
      let base = q4.0 in
      let least = all_least at2 r4.0 base in (
        record {
          inc = λ u. (let i = base.inc u in let s = small u in omega arith);
          term = top r4.0 q4.2;
          reports = λ u q. (let r = base.reports u q in omega arith);
          acked = λ q. (let x = base.acked q in let y = least q in omega arith);
        },
        q4.1,
        each_append (λ (x : Envelope). EachOfMessage (λ n. n ≤ b + 1) x.message) r4.1 (acks edges p r4.0).1 q4.3 (acks_out edges 0 r4.0 least),
      )
    where
      all_at : (u : Which) → with_which (with_which (λ (v : Which). b) A (b + 1)) B (b + 1) u ≤ b + 1
      all_at A = omega arith
      all_at B = omega arith

      top : (d : Controller) → Room d → d.term ≤ b + 1
      top d (inl t) = omega arith
      top d (inr t) = t.0

-- ---- a step

abbrev LedAt : NodeId → Node → Type 0
LedAt node.Ingress x = Unit {0}
LedAt (node.Replica s p w) x = Unit {0}
LedAt (node.Control s p) x = Led (controller_in x)
LedAt node.Egress x = Unit {0}

abbrev NodeKept : ℕ → NodeId → Node → Type 0
NodeKept b n x = EachOfNode (λ k. k ≤ b) n x × LedAt n x

abbrev AreKept : ℕ → State → Type 0
AreKept b s = Meets (NodeKept b) (λ link m. EachOfMessage (λ k. k ≤ b) m) s

module _ (f : Flow) where
  module _ (b : ℕ) (s : State) (old : AreKept b s) where
    small_by : (n : NodeId) (x : Node) (out : List Envelope) → NodeKept (b + 1) n x → EnvelopesMeet (λ link m. EachOfMessage (λ k. k ≤ b + 1) m) n out → AreKept (b + 1) (record { nodes = changed n x s.nodes; sent = posted n out s.sent })
    small_by n x out at h = framed (NodeKept b) (NodeKept (b + 1)) (λ link m. EachOfMessage (λ k. k ≤ b) m) (λ link m. EachOfMessage (λ k. k ≤ b + 1) m) s n x out
        (λ n x h. (node_wider (λ k. k ≤ b) (λ k. k ≤ b + 1) (up b) n x h.0, h.1)) (λ link. message_wider (λ k. k ≤ b) (λ k. k ≤ b + 1) (up b)) old at h

    heard_small : (n from : NodeId) (m : Message) → WasSent f s n (Takes from m) → EachOfMessage (λ k. k ≤ b) m
    heard_small n from m c = each_at (EachOfMessage (λ k. k ≤ b)) m (s.sent (link from n)) c (old.sent (link from n))

    replica_by : (t q : ℕ) (w : Which) (r : Result (Replica × List Envelope) Refusal) → DoneIfOk b f (record { stage = t; part = q }) w r → HoldsOnOk (AreKept (b + 1)) (after (node.Replica t q w) s (as_replica r))
    replica_by t q w (Err e) h = tt
    replica_by t q w (Ok d) h = small_by (node.Replica t q w) (ReplicaNode d.0) d.1 (h.0, tt) h.1

    ingress_by : (r : Result (Ingress × List Envelope) Refusal) → IngressDone b f r → HoldsOnOk (AreKept (b + 1)) (after node.Ingress s (as_ingress r))
    ingress_by (Err e) h = tt
    ingress_by (Ok d) h = small_by node.Ingress (IngressNode d.0) d.1 (h.0, tt) h.1

    egress_by : (r : Result (Consumer × List Envelope) Refusal) → EgressDone b f r → HoldsOnOk (AreKept (b + 1)) (after node.Egress s (as_egress r))
    egress_by (Err e) h = tt
    egress_by (Ok d) h = small_by node.Egress (EgressNode d.0) d.1 (h.0, tt) h.1

    controller_by : (t q : ℕ) (a : Act) → WasSent f s (node.Control t q) a → HoldsOnOk (AreKept (b + 1)) (after (node.Control t q) s (controller_does f (record { stage = t; part = q }) a (controller_in (s.nodes (node.Control t q)))))
    controller_by t q (Takes from m) c =
        let x = controller_in (s.nodes (node.Control t q)) in
        let p : Partition = record { stage = t; part = q } in
        let d = controller_takes (f.sources t) p (which_of from) m x in
        let h = old.nodes (node.Control t q) in
        let z = takes_kept b p (f.sources t) (which_of from) m x (heard_small (node.Control t q) from m c) h.0 h.1 in
        small_by (node.Control t q) (ControllerNode d.0) d.1 (z.0, z.1) z.2
    controller_by t q act c = tt

    act_small : (n : NodeId) (a : Act) → WasSent f s n a → HeardSmall b f a
    act_small n (Takes from m) c = heard_small n from m c
    act_small n act c = tt

    replica_act : (t q : ℕ) (w : Which) (a : Act) → WasSent f s (node.Replica t q w) a → ActSmall b f (record { stage = t; part = q }) w a
    replica_act t q w (Takes from m) c = heard_small (node.Replica t q w) from m c
    replica_act t q w act c = tt

    node_small : (n : NodeId) (a : Act) → WasSent f s n a → HoldsOnOk (AreKept (b + 1)) (after n s (does f n a (s.nodes n)))
    node_small node.Ingress a c = ingress_by (ingress_does f a (ingress_in (s.nodes node.Ingress))) (ingress_small b f a (ingress_in (s.nodes node.Ingress)) (act_small node.Ingress a c) (old.nodes node.Ingress).0)
    node_small node.Egress a c = egress_by (egress_does f a (egress_in (s.nodes node.Egress))) (egress_small b f a (egress_in (s.nodes node.Egress)) (act_small node.Egress a c) (old.nodes node.Egress).0)
    node_small (node.Control t q) a c = controller_by t q a c
    node_small (node.Replica t q w) a c =
        let p : Partition = record { stage = t; part = q } in
        let r = replica_in (s.nodes (node.Replica t q w)) in
        replica_by t q w (replica_does f p w a r) (does_small b f p w a r (replica_act t q w a c) (old.nodes (node.Replica t q w)).0)

    small_kept : (e : Event) → IsThere f e → HoldsOnOk (AreKept (b + 1)) (step f s e)
    small_kept e there = step_by f s e (AreKept (b + 1)) there (λ a h c. node_small (at_node e) a c)

  small_run : (es : List Event) (b : ℕ) (r : Result State Refusal) → Each (IsThere f) es → HoldsOnOk (AreKept b) r → HoldsOnOk (AreKept (length es + b)) (follow f es r)
  small_run [] b r there old = let none : b ≡ 0 + b = omega arith in subst (λ k. HoldsOnOk (AreKept k) r) none old
  small_run (e ∷ es) b (Ok s) there old =
      let one : length es + (b + 1) ≡ suc (length es) + b = omega arith in
      subst (λ k. HoldsOnOk (AreKept k) (follow f es (step f s e))) one (small_run es (b + 1) (step f s e) there.1 (small_kept b s old e there.0))
  small_run (e ∷ es) b (Err x) there old = tt

-- ---- from the opening

new_producer_small : (term : ℕ) (leads : Bool) → term ≤ 1 → EachOfProducer (λ n. n ≤ 1) (new_producer term leads)
new_producer_small term leads h = record { lows = λ t. omega arith; cursors = λ t c. omega arith; term = h }

new_consumer_small : EachOfConsumer (λ n. n ≤ 1) new_consumer
new_consumer_small = record { marks = λ q. omega arith; told = λ q. omega arith; count = omega arith }

opening_term : (w : Which) → first_term w ≤ 1
opening_term A = omega arith
opening_term B = omega arith

opening_node : (n : NodeId) → NodeKept 1 n (opening.nodes n)
opening_node node.Ingress = (record { makes = omega arith; producers = λ q. new_producer_small 1 true (omega arith) }, tt)
opening_node (node.Replica s p w) = (record { inc = omega arith; consumer = new_consumer_small; producer = new_producer_small (first_term w) (leads_first w) (opening_term w); served = omega arith; move = tt }, tt)
opening_node (node.Control s p) = (record { inc = λ w. omega arith; reports = λ w q. omega arith; acked = λ q. omega arith; term = omega arith }, (λ e. absurd (let z : ⊥ = cc e in z)))
opening_node node.Egress = (new_consumer_small, tt)

pub numbers_small : NumbersStaySmall
numbers_small f es t legal =
    let kept : AreKept (length es + 1) t = subst (HoldsOnOk (AreKept (length es + 1))) legal.leads
    (small_run f es 1 (Ok opening) legal.there (record { nodes = opening_node; sent = λ link. tt })) in
    record { nodes = λ n. (kept.nodes n).0; sent = kept.sent }

pub numbers_fit : NumbersFit
numbers_fit f es t legal few =
    let small = numbers_small f es t legal in
    let P : ℕ → Type 0 = λ n. n ≤ length es + 1 in
    let Q : ℕ → Type 0 = λ n. n < 2 ^ 62 - 1 in
    let below : (n : ℕ) → P n → Q n = λ n h. omega arith in
    record { nodes = λ n. node_wider P Q below n (t.nodes n) (small.nodes n); sent = λ l. each_map (EachOfMessage P) (EachOfMessage Q) (message_wider P Q below) (t.sent l) (small.sent l) }
