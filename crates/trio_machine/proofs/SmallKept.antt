-- No event makes a number that is more than one above the greatest one before it.
use Rattle.std.proofs.Common.{◌≡◌, ◌<◌, ◌≤◌, ℕ, zero, suc, Bool, true, List, [], ◌∷◌, Option, None, Some, Result, Ok, Err, ◌+◌, ◌-◌, ◌&&◌, refl, subst, arith, length}
use Rattle.std.specs.Prelude.{max, ◌==◌, ◌^◌, nat_lt, unwrap_or}
use Rattle.pair_machine.specs.Boundary.{egress_partition, ingress_source}
use Rattle.pair_machine.specs.Consumers.{first_below, is_ready, merged_one, offered, pulled, telling, untold, with_at}
use Rattle.pair_machine.specs.Drain.{partition}
use Rattle.pair_machine.specs.Flow.{Flow}
use Rattle.pair_machine.specs.Lists.{Each}
use Rattle.pair_machine.specs.Machine.{new_consumer, new_producer}
use Rattle.pair_machine.specs.Numbers.{Consumer, Partition, Producer, in_edge}
use Rattle.pair_machine.specs.Producers.{Due, acked_to, due, leading, sent_on}
use Rattle.pair_machine.specs.Replicas.{made_by}
use Rattle.pair_machine.specs.Small.{EachOfConsumer, EachOfProducer}
use Rattle.pair_machine.proofs.Lists.{each_append, each_at, each_map}
use Rattle.pair_machine.proofs.Tests.{if_elim}
use Rattle.trio_machine.specs.Boundary.{egress_does, egress_takes, egress_tells, ingress_does, ingress_sends, ingress_takes, source_made}
use Rattle.trio_machine.specs.Controllers.{acks_from, controller_hears, controller_takes, downed, goes_down, leads_now, least, least_below, least_with, named, reported}
use Rattle.trio_machine.specs.Links.{IsThere}
use Rattle.trio_machine.specs.Machine.{State, after, as_egress, as_ingress, as_replica, at_node, controller_does, controller_in, does, egress_in, first_term, follow, ingress_in, opening, put, replica_in, step}
use Rattle.trio_machine.specs.Messages.{Ack, Act, Dies, Down, Envelope, Lead, Makes, Message, Pulls, Refusal, Report, Takes, Tuple, Works}
use Rattle.trio_machine.specs.Numbers.{Controller, ControllerNode, EgressNode, Gone, Ingress, IngressNode, Node, Replica, ReplicaNode, Running, RunningNumbers, copy_of, group_size}
use Rattle.trio_machine.specs.Replicas.{replica_does, replica_takes, replica_works, reports, run_takes, sends_or_reports, to_producers}
use Rattle.trio_machine.specs.Small.{EachNumber, EachOfController, EachOfIngress, EachOfMessage, EachOfNode, EachOfReplica, EachOfRunning, NumbersFit, NumbersStaySmall}
use Rattle.trio_machine.specs.declared.event.TrioEvent.{TrioEvent}
use Rattle.trio_machine.specs.declared.node.TrioNode.{TrioNode}
use Rattle.trio_machine.specs.declared.node.TrioNode.TheVariants as node
use Rattle.trio_machine.proofs.Frame.{met}
use Rattle.trio_machine.proofs.Sends.{due_is}
use Rattle.trio_machine.proofs.Steps.{HoldsOnOk, WasSent, step_by}

-- ---- wider bounds

module _ (P Q : ℕ → Type 0) (g : (n : ℕ) → P n → Q n) where
  producer_wider : (x : Producer) → EachOfProducer P x → EachOfProducer Q x
  producer_wider x h = record { lows = λ t. g (x.lows t) (h.lows t); cursors = λ t c. g (x.cursors t c) (h.cursors t c); term = g x.term h.term }

  consumer_wider : (x : Consumer) → EachOfConsumer P x → EachOfConsumer Q x
  consumer_wider x h = record { marks = λ q. g (x.marks q) (h.marks q); told = λ q. g (x.told q) (h.told q); count = g x.count h.count }

  replica_wider : (r : Replica) → EachOfReplica P r → EachOfReplica Q r
  replica_wider Gone h = tt
  replica_wider (Running x) h = record { consumer = consumer_wider x.consumer h.consumer; producer = producer_wider x.producer h.producer }

  controller_wider : (x : Controller) → EachOfController P x → EachOfController Q x
  controller_wider x h = record { reports = λ c q. g (x.reports c q) (h.reports c q); acked = λ q. g (x.acked q) (h.acked q); term = g x.term h.term }

  node_wider : (n : TrioNode) (x : Node) → EachOfNode P n x → EachOfNode Q n x
  node_wider node.Ingress x h = record { makes = g (ingress_in x).makes h.makes; producer = producer_wider (ingress_in x).producer h.producer }
  node_wider (node.Replica s p c) x h = replica_wider (replica_in x) h
  node_wider (node.Control s p) x h = controller_wider (controller_in x) h
  node_wider node.Egress x h = consumer_wider (egress_in x) h

  message_wider : (m : Message) → EachOfMessage P m → EachOfMessage Q m
  message_wider (Tuple e k) h = g k h
  message_wider (Ack e k) h = g k h
  message_wider (Report e k) h = g k h
  message_wider (Lead t) h = g t h
  message_wider Down h = tt

each_with : (P : ℕ → Type 0) (g : ℕ → ℕ) (q k : ℕ) → P k → ((i : ℕ) → P (g i)) → (i : ℕ) → P (with_at g q k i)
each_with P g q k new old i = if_elim P (i == q) k (g i) (λ e. new) (λ e. old i)

-- ---- what was at most b is at most b + 1

module _ (b : ℕ) where
  abbrev Old : ℕ → Type 0
  Old n = n ≤ b

  abbrev New : ℕ → Type 0
  New n = n ≤ b + 1

  up : (n : ℕ) → Old n → New n
  up n h = omega arith

  -- each of what a node sends
  abbrev Out : List Envelope → Type 0
  Out out = Each (λ (x : Envelope). EachOfMessage New x.message) out

  -- ---- producers and consumers

  offered_small : (c : Consumer) (q n : ℕ) → Old n → EachOfConsumer Old c → EachOfConsumer New (offered c q n)
  offered_small c q n new h = if_elim (EachOfConsumer New) (n == c.marks q + 1) (record c { marks = with_at c.marks q n }) c
      (λ e. let w = consumer_wider Old New up c h in record { marks = each_with New c.marks q n (up n new) w.marks; told = w.told; count = w.count })
      (λ e. consumer_wider Old New up c h)

  pulled_small : (c : Consumer) (q : ℕ) → EachOfConsumer Old c → EachOfConsumer New (pulled c q)
  pulled_small c q h = let w = consumer_wider Old New up c h in record { marks = each_with New c.marks q (c.marks q + 1) (let m = h.marks q in omega arith) w.marks; told = w.told; count = w.count }

  merged_small : (c : Consumer) → EachOfConsumer Old c → EachOfConsumer New (merged_one c)
  merged_small c h = let w = consumer_wider Old New up c h in record { marks = w.marks; told = w.told; count = (let k = h.count in omega arith) }

  telling_small : (c : Consumer) (q : ℕ) → EachOfConsumer Old c → EachOfConsumer New (telling c q)
  telling_small c q h = let w = consumer_wider Old New up c h in record { marks = w.marks; told = each_with New c.told q (c.marks q) (w.marks q) w.told; count = w.count }

  acked_small : (x : Producer) (t k : ℕ) → Old k → EachOfProducer Old x → EachOfProducer New (acked_to x t k)
  acked_small x t k new h =
      let w = producer_wider Old New up x h in
      let low = h.lows t in
      record {
        lows = each_with New x.lows t (max (x.lows t) k) (omega arith) w.lows;
        cursors = λ j c. if_elim New (j == t) (max (x.cursors t c) (max (x.lows t) k + 1)) (x.cursors j c) (λ e. let y = h.cursors t c in omega arith) (λ e. w.cursors j c);
        term = w.term;
      }

  leading_small : (x : Producer) (term : ℕ) → Old term → EachOfProducer Old x → EachOfProducer New (leading x term)
  leading_small x term new h =
      let w = producer_wider Old New up x h in
      if_elim (EachOfProducer New) (nat_lt x.term term) _ x (λ e. record { lows = w.lows; cursors = λ t c. let l = h.lows t in omega arith; term = up term new }) (λ e. w)

  sent_small : (x : Producer) (d : Due) → Old d.number → EachOfProducer Old x → EachOfProducer New (sent_on x d)
  sent_small x d new h =
      let w = producer_wider Old New up x h in
      record {
        lows = w.lows;
        cursors = λ j c. if_elim New ((j == d.to) && (c == d.copy)) (d.number + 1) (x.cursors j c) (λ e. omega arith) (λ e. w.cursors j c);
        term = w.term;
      }

  due_small : (f : Flow) (p : Partition) (made : ℕ → ℕ) (x : Producer) (d : Due) → due f p made x ≡ Some d → EachOfProducer Old x → Old d.number
  due_small f p made x d e h = let is = (due_is f p made x d e).1 in let c = h.cursors d.to d.copy in omega arith

  -- what is told to producers
  told_small : (p : Partition) (q k : ℕ) → New k → Out (to_producers p q (Ack (in_edge p q) k))
  told_small p q k h = if_elim Out (p.stage == 1) _ _ (λ e. (h, tt)) (λ e. (h, (h, (h, tt))))

  -- ---- nodes

  abbrev TakesSmall : Act → Type 0
  TakesSmall (Takes from m) = EachOfMessage Old m
  TakesSmall a = Unit {0}

  module _ (f : Flow) where
    abbrev IngressOk : Result (Ingress × List Envelope) Refusal → Type 0
    IngressOk (Ok d) = EachOfIngress New d.0 × Out d.1
    IngressOk (Err e) = Unit {0}

    ingress_same : (x : Ingress) → EachOfIngress Old x → EachOfIngress New x
    ingress_same x h = record { makes = up x.makes h.makes; producer = producer_wider Old New up x.producer h.producer }

    ingress_took : (m : Message) (x : Ingress) → EachOfMessage Old m → EachOfIngress Old x → EachOfIngress New (ingress_takes m x)
    ingress_took (Ack e k) x new h = record { makes = up x.makes h.makes; producer = acked_small x.producer e.to k new h.producer }
    ingress_took message x new h = ingress_same x h

    ingress_sent : (x : Ingress) (o : Option Due) → due f (ingress_source 0) (source_made f x) x.producer ≡ o → EachOfIngress Old x → IngressOk (ingress_sends f x o)
    ingress_sent x None e h = tt
    ingress_sent x (Some d) e h =
        let new = due_small f (ingress_source 0) (source_made f x) x.producer d e h.producer in
        (record { makes = up x.makes h.makes; producer = sent_small x.producer d new h.producer }, (up d.number new, tt))

    ingress_small : (a : Act) (x : Ingress) → TakesSmall a → EachOfIngress Old x → IngressOk (ingress_does f a x)
    ingress_small (Takes from m) x new h = (ingress_took m x new h, tt)
    ingress_small Works x new h = ingress_sent x (due f (ingress_source 0) (source_made f x) x.producer) refl h
    ingress_small Makes x new h = if_elim IngressOk (nat_lt x.makes f.makes) _ _ (λ e. (record { makes = (let k = h.makes in omega arith); producer = producer_wider Old New up x.producer h.producer }, tt)) (λ e. tt)
    ingress_small Dies x new h = tt
    ingress_small (Pulls q) x new h = tt

    abbrev EgressOk : Result (Consumer × List Envelope) Refusal → Type 0
    EgressOk (Ok d) = EachOfConsumer New d.0 × Out d.1
    EgressOk (Err e) = Unit {0}

    egress_took : (m : Message) (x : Consumer) → EachOfMessage Old m → EachOfConsumer Old x → EachOfConsumer New (egress_takes m x)
    egress_took (Tuple e n) x new h = offered_small x e.from n new h
    egress_took message x new h = consumer_wider Old New up x h

    egress_told : (x : Consumer) (o : Option ℕ) → EachOfConsumer Old x → EgressOk (egress_tells f x o)
    egress_told x None h = tt
    egress_told x (Some q) h = (telling_small x q h, told_small (egress_partition f) q (x.marks q) (up (x.marks q) (h.marks q)))

    egress_small : (a : Act) (x : Consumer) → TakesSmall a → EachOfConsumer Old x → EgressOk (egress_does f a x)
    egress_small (Takes from m) x new h = (egress_took m x new h, tt)
    egress_small Works x new h = if_elim EgressOk (is_ready f (egress_partition f) x) _ _ (λ e. (merged_small x h, tt)) (λ e. egress_told x (untold f (egress_partition f) x) h)
    egress_small Makes x new h = tt
    egress_small Dies x new h = tt
    egress_small (Pulls q) x new h = (pulled_small x q h, tt)

    abbrev ReplicaOk : Result (Replica × List Envelope) Refusal → Type 0
    ReplicaOk (Ok d) = EachOfReplica New d.0 × Out d.1
    ReplicaOk (Err e) = Unit {0}

    run_took : (m : Message) (x : RunningNumbers) → EachOfMessage Old m → EachOfRunning Old x → EachOfRunning New (run_takes m x)
    run_took (Tuple e n) x new h = record { consumer = offered_small x.consumer e.from n new h.consumer; producer = producer_wider Old New up x.producer h.producer }
    run_took (Ack e k) x new h = record { consumer = consumer_wider Old New up x.consumer h.consumer; producer = acked_small x.producer e.to k new h.producer }
    run_took (Lead t) x new h = record { consumer = consumer_wider Old New up x.consumer h.consumer; producer = leading_small x.producer t new h.producer }
    run_took message x new h = record { consumer = consumer_wider Old New up x.consumer h.consumer; producer = producer_wider Old New up x.producer h.producer }

    took : (m : Message) (x : Replica) → EachOfMessage Old m → EachOfReplica Old x → EachOfReplica New (replica_takes m x)
    took m Gone new h = tt
    took m (Running x) new h = run_took m x new h

    module _ (p : Partition) where
      reports_small : (x : RunningNumbers) (o : Option ℕ) → EachOfRunning Old x → ReplicaOk (reports f p x o)
      reports_small x None h = tt
      reports_small x (Some q) h = (record { consumer = telling_small x.consumer q h.consumer; producer = producer_wider Old New up x.producer h.producer }, (up (x.consumer.marks q) (h.consumer.marks q), tt))

      sends_small : (x : RunningNumbers) (o : Option Due) → due f p (made_by f p x.consumer.count) x.producer ≡ o → EachOfRunning Old x → ReplicaOk (sends_or_reports f p x o)
      sends_small x (Some d) e h =
          let new = due_small f p (made_by f p x.consumer.count) x.producer d e h.producer in
          (record { consumer = consumer_wider Old New up x.consumer h.consumer; producer = sent_small x.producer d new h.producer }, (up d.number new, tt))
      sends_small x None e h = reports_small x (untold f p x.consumer) h

      works_small : (x : Replica) → EachOfReplica Old x → ReplicaOk (replica_works f p x)
      works_small Gone h = tt
      works_small (Running x) h = if_elim ReplicaOk (is_ready f p x.consumer) _ _
          (λ e. (record { consumer = merged_small x.consumer h.consumer; producer = producer_wider Old New up x.producer h.producer }, tt))
          (λ e. sends_small x (due f p (made_by f p x.consumer.count) x.producer) refl h)

      replica_small : (a : Act) (x : Replica) → TakesSmall a → EachOfReplica Old x → ReplicaOk (replica_does f p a x)
      replica_small (Takes from m) x new h = (took m x new h, tt)
      replica_small Works x new h = works_small x h
      replica_small Makes x new h = tt
      replica_small Dies Gone new h = tt
      replica_small Dies (Running x) new h = (tt, (tt, tt))
      replica_small (Pulls q) Gone new h = tt
      replica_small (Pulls q) (Running x) new h = (record { consumer = pulled_small x.consumer q h.consumer; producer = producer_wider Old New up x.producer h.producer }, tt)

  -- ---- controllers

  -- a report, or what is acknowledged, is as small as before; the term may rise by one
  record Heard (d : Controller × List Envelope) : Type 0 where
    reports : (c q : ℕ) → Old (d.0.reports c q)
    acked : (q : ℕ) → Old (d.0.acked q)
    term : New d.0.term
    sends : Out d.1

  nothing : (x : Controller) → EachOfController Old x → Heard (x, [])
  nothing x h = record { reports = h.reports; acked = h.acked; term = up x.term h.term; sends = tt }

  names : (p : Partition) (x : Controller) (o : Option ℕ) → EachOfController Old x → Heard (named p x o)
  names p x None h = record { reports = h.reports; acked = h.acked; term = up x.term h.term; sends = tt }
  names p x (Some c) h = let t = h.term in record { reports = h.reports; acked = h.acked; term = omega arith; sends = (omega arith, tt) }

  downs : (p : Partition) (c : ℕ) (x : Controller) → EachOfController Old x → Heard (goes_down p c x)
  downs p c x h = if_elim Heard (leads_now x.leader c) _ _
      (λ e. names p (downed c x) (first_below (downed c x).up group_size) (record { reports = h.reports; acked = h.acked; term = h.term }))
      (λ e. record { reports = h.reports; acked = h.acked; term = up x.term h.term; sends = tt })

  reported_small : (c q k : ℕ) (x : Controller) → Old k → ((d i : ℕ) → Old (x.reports d i)) → (d i : ℕ) → Old ((reported c q k x).reports d i)
  reported_small c q k x new h d i = if_elim (λ (g : ℕ → ℕ). Old (g i)) (d == c) (with_at (x.reports c) q (max (x.reports c q) k)) (x.reports d)
      (λ e. each_with Old (x.reports c) q (max (x.reports c q) k) (let r = h c q in omega arith) (h c) i) (λ e. h d i)

  hears : (p : Partition) (c : ℕ) (m : Message) (x : Controller) → EachOfMessage Old m → EachOfController Old x → Heard (controller_hears p c m x)
  hears p c (Report e k) x new h = if_elim Heard (x.up c) _ _
      (λ z. record { reports = reported_small c e.from k x new h.reports; acked = h.acked; term = up x.term h.term; sends = tt }) (λ z. nothing x h)
  hears p c Down x new h = if_elim Heard (x.up c) _ _ (λ z. downs p c x h) (λ z. nothing x h)
  hears p c message x new h = nothing x h

  abbrev SmallOption : Option ℕ → Type 0
  SmallOption None = Unit {0}
  SmallOption (Some v) = Old v

  with_small : (o : Option ℕ) (k : ℕ) → Old k → Old (least_with o k)
  with_small None k h = h
  with_small (Some v) k h = omega arith

  below_small : (x : Controller) (q n : ℕ) → ((c i : ℕ) → Old (x.reports c i)) → SmallOption (least_below x q n)
  below_small x q zero h = tt
  below_small x q (suc n) h = if_elim SmallOption (x.up n) _ _ (λ e. with_small (least_below x q n) (x.reports n q) (h n q)) (λ e. below_small x q n h)

  or_small : (o : Option ℕ) (v : ℕ) → SmallOption o → Old v → Old (unwrap_or o v)
  or_small None v h k = k
  or_small (Some w) v h k = h

  least_small : (d : Controller × List Envelope) → Heard d → (q : ℕ) → Old (least d.0 q)
  least_small d h q = or_small (least_below d.0 q group_size) (d.0.acked q) (below_small d.0 q group_size h.reports) (h.acked q)

  acks_small : (p : Partition) (n i : ℕ) (x : Controller) → ((q : ℕ) → Old (least x q)) → Out (acks_from n i p x)
  acks_small p zero i x h = tt
  acks_small p (suc n) i x h = each_append (λ (z : Envelope). EachOfMessage New z.message) _ (acks_from n (i + 1) p x)
      (if_elim Out (nat_lt (x.acked i) (least x i)) (to_producers p i (Ack (in_edge p i) (least x i))) [] (λ e. told_small p i (least x i) (up (least x i) (h i))) (λ e. tt))
      (acks_small p n (i + 1) x h)

  controller_small : (edges : ℕ) (p : Partition) (c : ℕ) (m : Message) (x : Controller) → EachOfMessage Old m → EachOfController Old x
      → EachOfController New (controller_takes edges p c m x).0 × Out (controller_takes edges p c m x).1
  controller_small edges p c m x new h =
      let heard = controller_hears p c m x in
      let g = hears p c m x new h in
      let small = least_small heard g in (
        record { reports = λ d q. up (heard.0.reports d q) (g.reports d q); acked = λ q. (let a = g.acked q in let l = small q in omega arith); term = g.term },
        each_append (λ (z : Envelope). EachOfMessage New z.message) heard.1 (acks_from edges 0 p heard.0) g.sends (acks_small p edges 0 heard.0 small),
      )

-- ---- a step

module _ (f : Flow) where
  module _ (b : ℕ) (s : State) (old : EachNumber (λ n. n ≤ b) s) where
    abbrev Grown : State → Type 0
    Grown t = EachNumber (λ n. n ≤ b + 1) t

    small_by : (n : TrioNode) (x : Node) (out : List Envelope) → EachOfNode (λ k. k ≤ b + 1) n x → Out b out → Grown (put n s x out)
    small_by n x out at h =
        let z = met (EachOfNode (λ k. k ≤ b + 1)) (λ from to m. EachOfMessage (λ k. k ≤ b + 1) m) s n x out
        (λ m. node_wider (λ k. k ≤ b) (λ k. k ≤ b + 1) (up b) m (s.nodes m) (old.nodes m))
        (λ from to. each_map (EachOfMessage (λ k. k ≤ b)) (EachOfMessage (λ k. k ≤ b + 1)) (message_wider (λ k. k ≤ b) (λ k. k ≤ b + 1) (up b)) (s.sent from to) (old.sent from to)) at h in
        record { nodes = z.0; sent = z.1 }

    taken : (n : TrioNode) (a : Act) → WasSent f s n a → TakesSmall b a
    taken n (Takes from m) c = each_at (EachOfMessage (λ k. k ≤ b)) m (s.sent from n) c (old.sent from n)
    taken n a c = tt

    ingress_by : (d : Result (Ingress × List Envelope) Refusal) → IngressOk b f d → HoldsOnOk Grown (after node.Ingress s (as_ingress d))
    ingress_by (Err e) h = tt
    ingress_by (Ok d) h = small_by node.Ingress (IngressNode d.0) d.1 h.0 h.1

    egress_by : (d : Result (Consumer × List Envelope) Refusal) → EgressOk b f d → HoldsOnOk Grown (after node.Egress s (as_egress d))
    egress_by (Err e) h = tt
    egress_by (Ok d) h = small_by node.Egress (EgressNode d.0) d.1 h.0 h.1

    replica_by : (t q c : ℕ) (d : Result (Replica × List Envelope) Refusal) → ReplicaOk b f d → HoldsOnOk Grown (after (node.Replica t q c) s (as_replica d))
    replica_by t q c (Err e) h = tt
    replica_by t q c (Ok d) h = small_by (node.Replica t q c) (ReplicaNode d.0) d.1 h.0 h.1

    controller_by : (t q : ℕ) (a : Act) → WasSent f s (node.Control t q) a → HoldsOnOk Grown (after (node.Control t q) s (controller_does f (partition t q) a (controller_in (s.nodes (node.Control t q)))))
    controller_by t q (Takes from m) c =
        let x = controller_in (s.nodes (node.Control t q)) in
        let d = controller_takes (f.sources t) (partition t q) (copy_of from) m x in
        let z = controller_small b (f.sources t) (partition t q) (copy_of from) m x (taken (node.Control t q) (Takes from m) c) (old.nodes (node.Control t q)) in
        small_by (node.Control t q) (ControllerNode d.0) d.1 z.0 z.1
    controller_by t q a c = tt

    node_small : (n : TrioNode) (a : Act) → WasSent f s n a → HoldsOnOk Grown (after n s (does f n a (s.nodes n)))
    node_small node.Ingress a c = let x = ingress_in (s.nodes node.Ingress) in ingress_by (ingress_does f a x) (ingress_small b f a x (taken node.Ingress a c) (old.nodes node.Ingress))
    node_small (node.Replica t q i) a c =
        let x = replica_in (s.nodes (node.Replica t q i)) in
        replica_by t q i (replica_does f (partition t q) a x) (replica_small b f (partition t q) a x (taken (node.Replica t q i) a c) (old.nodes (node.Replica t q i)))
    node_small (node.Control t q) a c = controller_by t q a c
    node_small node.Egress a c = let x = egress_in (s.nodes node.Egress) in egress_by (egress_does f a x) (egress_small b f a x (taken node.Egress a c) (old.nodes node.Egress))

    small_kept : (e : TrioEvent) → IsThere f e → HoldsOnOk Grown (step f s e)
    small_kept e there = step_by f s e Grown there (λ a h c. node_small (at_node e) a c)

  small_run : (es : List TrioEvent) (b : ℕ) (r : Result State Refusal) → Each (IsThere f) es → HoldsOnOk (EachNumber (λ n. n ≤ b)) r → HoldsOnOk (EachNumber (λ n. n ≤ length es + b)) (follow f es r)
  small_run [] b r there old = let none : b ≡ 0 + b = omega arith in subst (λ k. HoldsOnOk (EachNumber (λ n. n ≤ k)) r) none old
  small_run (e ∷ es) b (Ok s) there old =
      let one : length es + (b + 1) ≡ suc (length es) + b = omega arith in
      subst (λ k. HoldsOnOk (EachNumber (λ n. n ≤ k)) (follow f es (step f s e))) one (small_run es (b + 1) (step f s e) there.1 (small_kept b s old e there.0))
  small_run (e ∷ es) b (Err x) there old = tt

-- ---- from the opening

new_producer_small : (term : ℕ) (leads : Bool) → term ≤ 1 → EachOfProducer (λ n. n ≤ 1) (new_producer term leads)
new_producer_small term leads h = record { lows = λ t. omega arith; cursors = λ t c. omega arith; term = h }

new_consumer_small : EachOfConsumer (λ n. n ≤ 1) new_consumer
new_consumer_small = record { marks = λ q. omega arith; told = λ q. omega arith; count = omega arith }

opening_term : (c : ℕ) → first_term c ≤ 1
opening_term zero = omega arith
opening_term (suc c) = omega arith

opening_node : (n : TrioNode) → EachOfNode (λ k. k ≤ 1) n (opening.nodes n)
opening_node node.Ingress = record { makes = omega arith; producer = new_producer_small 1 true (omega arith) }
opening_node (node.Replica s p c) = record { consumer = new_consumer_small; producer = new_producer_small (first_term c) (c == 0) (opening_term c) }
opening_node (node.Control s p) = record { reports = λ c q. omega arith; acked = λ q. omega arith; term = omega arith }
opening_node node.Egress = new_consumer_small

pub numbers_small : NumbersStaySmall
numbers_small f es t legal = subst (HoldsOnOk (EachNumber (λ n. n ≤ length es + 1))) legal.leads (small_run f es 1 (Ok opening) legal.there (record { nodes = opening_node; sent = λ from to. tt }))

pub numbers_fit : NumbersFit
numbers_fit f es t legal few =
    let small = numbers_small f es t legal in
    let P : ℕ → Type 0 = λ n. n ≤ length es + 1 in
    let Q : ℕ → Type 0 = λ n. n < 2 ^ 62 - 1 in
    let below : (n : ℕ) → P n → Q n = λ n h. omega arith in
    record {
      nodes = λ n. node_wider P Q below n (t.nodes n) (small.nodes n);
      sent = λ from to. each_map (EachOfMessage P) (EachOfMessage Q) (message_wider P Q below) (t.sent from to) (small.sent from to);
    }
