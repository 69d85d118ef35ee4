-- Events that take no message keep what the drain needs: what takeover owes, and numbers within their lengths.
use Rattle.std.proofs.Common.{◌≡◌, ◌≢◌, ◌∙◌, ◌≤◌, ◌+◌, ◌==◌, ◌&&◌, ℕ, Bool, true, false, List, [], ◌∷◌, Ok, Err, Result, Option, None, Some, refl, sym, ap, subst, arith, eqb-true, true≢false, if◌then◌else◌, nat_le, nat_lt, is_some}
use Rattle.tuple_edge.specs.Input.{Input}
use Rattle.tuple_edge.specs.Node.{part_of}
use Rattle.tuple_edge.specs.declared.event.Event.{Event}
use Rattle.tuple_edge.specs.declared.event.Event.TheVariants as event
use Rattle.tuple_edge.specs.declared.node.EdgeId.{EdgeId}
use Rattle.tuple_edge.specs.declared.node.NodeId.{NodeId}
use Rattle.tuple_edge.specs.declared.node.NodeId.TheVariants as node
use Rattle.tuple_edge.specs.declared.node.Which.{Which}
use Rattle.plan_reader.specs.PlanView.{IsPlan, PlanView}
use Rattle.pair_machine.specs.Acknowledged.{acked_of}
use Rattle.pair_machine.specs.Boundary.{egress_edge, egress_partition, egress_does, egress_tells, ingress_does, ingress_sends, source_due, source_sends}
use Rattle.pair_machine.specs.Consumers.{first_below, is_ready, merged_one, untold}
use Rattle.pair_machine.specs.Controllers.{counts}
use Rattle.pair_machine.specs.Counts.{flow_of}
use Rattle.pair_machine.specs.Drain.{IsDrainable}
use Rattle.pair_machine.specs.Flow.{Flow}
use Rattle.pair_machine.specs.Journal.{TakesNoMessage}
use Rattle.pair_machine.specs.Links.{IsThere}
use Rattle.pair_machine.specs.Machine.{State, act_of, acted, after, as_egress, as_ingress, as_replica, at_node, buffer_of, changed, controller_does, controller_in, does, egress_in, ingress_in, mark_of, pull_of, replica_in, source_pulled, step}
use Rattle.pair_machine.specs.Machine as machine
use Rattle.pair_machine.specs.Messages.{Act, AsksBack, AsksStop, Chunk, ChunkEnd, Dies, Envelope, Makes, NoMoreRows, NotHeld, Pulls, Refusal, Takes, Works, envelope}
use Rattle.pair_machine.specs.Numbers.{Consumer, Controller, Gathering, Gone, Ingress, Move, Node, Partition, Replica, Running, RunningNumbers, Watched, control_at, in_edge, ingress_edge, is_node, other, out_edge, replica_at}
use Rattle.pair_machine.specs.Producers.{Due, due, sent_on}
use Rattle.pair_machine.specs.Replicas.{made_by, moves_or_sends, replica_does, reports, run_works, sends_or_reports, size}
use Rattle.pair_machine.specs.Sound.{IsOwed, LowAtMost, MarkAtLeast}
use Rattle.pair_machine.proofs.DrainSteps.{within_kept}
use Rattle.pair_machine.proofs.Names.{is_node-true}
use Rattle.pair_machine.proofs.PlanFlow.{plan_is_flow}
use Rattle.pair_machine.proofs.StepTurns.{HoldsOnOk}
use Rattle.pair_machine.proofs.Tests.{if_elim, nat_self}

eqb_self : (n : ℕ) → (n == n) ≡ true
eqb_self n = simp nat_self

-- ---- what no such event loses

pub record RunningKept (x y : RunningNumbers) : Type 0 where
  pub inc : y.inc ≡ x.inc
  pub lows : (t : ℕ) → y.producer.lows t ≡ x.producer.lows t
  pub marks : (q : ℕ) → x.consumer.marks q ≤ y.consumer.marks q

abbrev pub ReplicaKept : Replica → Replica → Type 0
ReplicaKept r (Gone i) = Unit {0}
ReplicaKept (Running x) (Running y) = RunningKept x y
ReplicaKept (Gone i) (Running y) = ⊥
ReplicaKept (Gathering g) (Running y) = ⊥
ReplicaKept (Gathering g) (Gathering h) = Unit {0}
ReplicaKept (Running x) (Gathering h) = ⊥
ReplicaKept (Gone i) (Gathering h) = ⊥

pub record EgressKept (x y : Consumer) : Type 0 where
  pub told : (q : ℕ) → x.told q ≤ y.told q
  pub taken : (q : ℕ) → y.told q ≤ y.marks q
  pub marks : (q : ℕ) → x.marks q ≤ y.marks q

abbrev pub Kept : NodeId → Node → Node → Type 0
Kept node.Ingress x y = (q t : ℕ) → ((ingress_in y).producers q).lows t ≡ ((ingress_in x).producers q).lows t
Kept (node.Replica s p w) x y = ReplicaKept (replica_in x) (replica_in y)
Kept (node.Control s p) x y = controller_in y ≡ controller_in x
Kept node.Egress x y = EgressKept (egress_in x) (egress_in y)

-- egress has told no more than it took
abbrev pub HasTold : Consumer → Type 0
HasTold c = (q : ℕ) → c.told q ≤ c.marks q

-- ---- so what is owed stays

low_kept : (t k l : ℕ) (r s : Replica) → ReplicaKept r s → k ≤ l → LowAtMost t k r → LowAtMost t l s
low_kept t k l r (Gone i) g le h = tt
low_kept t k l (Running x) (Running y) g le h = let e = g.lows t in omega (arith, e, h)
low_kept t k l (Gone i) (Running y) g le h = absurd g
low_kept t k l (Gathering m) (Running y) g le h = absurd g
low_kept t k l (Gathering m) (Gathering n) g le h = tt
low_kept t k l (Running x) (Gathering n) g le h = absurd g
low_kept t k l (Gone i) (Gathering n) g le h = absurd g

mark_kept : (q k : ℕ) (w : Watched) (r s : Replica) → ReplicaKept r s → MarkAtLeast q k w r → MarkAtLeast q k w s
mark_kept q k w r (Gone i) g h = tt
mark_kept q k w (Running x) (Running y) g h = λ e. let a = h (subst (λ i. counts w i ≡ true) g.inc e) in let b = g.marks q in omega arith
mark_kept q k w (Gone i) (Running y) g h = absurd g
mark_kept q k w (Gathering m) (Running y) g h = absurd g
mark_kept q k w (Gathering m) (Gathering n) g h = tt
mark_kept q k w (Running x) (Gathering n) g h = absurd g
mark_kept q k w (Gone i) (Gathering n) g h = absurd g

module _ (f : Flow) (s t : State) (kept : (n : NodeId) → Kept n (s.nodes n) (t.nodes n)) where
  acked_rises : (e : EdgeId) → acked_of f s e ≤ acked_of f t e
  acked_rises e = go (e.stage == f.stages)
    where
      go : (b : Bool) → (if b then (egress_in (s.nodes node.Egress)).told e.from else (controller_in (s.nodes (node.Control (e.stage + 1) e.to))).acked e.from)
          ≤ (if b then (egress_in (t.nodes node.Egress)).told e.from else (controller_in (t.nodes (node.Control (e.stage + 1) e.to))).acked e.from)
      go true = (kept node.Egress).told e.from
      go false = let same = ap (λ (c : Controller). c.acked e.from) (kept (node.Control (e.stage + 1) e.to)) in omega (arith, same)

  acked_stays : (e : EdgeId) → e.stage ≢ f.stages → acked_of f t e ≡ acked_of f s e
  acked_stays e ne = go (e.stage == f.stages) refl
    where
      go : (b : Bool) → (e.stage == f.stages) ≡ b → (if b then (egress_in (t.nodes node.Egress)).told e.from else (controller_in (t.nodes (node.Control (e.stage + 1) e.to))).acked e.from)
          ≡ (if b then (egress_in (s.nodes node.Egress)).told e.from else (controller_in (s.nodes (node.Control (e.stage + 1) e.to))).acked e.from)
      go true is = absurd (ne (eqb-true e.stage f.stages is))
      go false is = ap (λ (c : Controller). c.acked e.from) (kept (node.Control (e.stage + 1) e.to))

  acked_told : (q : ℕ) → acked_of f t (egress_edge f q) ≤ (egress_in (t.nodes node.Egress)).marks q
  acked_told q = go (f.stages == f.stages) refl
    where
      go : (b : Bool) → (f.stages == f.stages) ≡ b → (if b then (egress_in (t.nodes node.Egress)).told q else (controller_in (t.nodes (node.Control (f.stages + 1) 0))).acked q) ≤ (egress_in (t.nodes node.Egress)).marks q
      go true is = (kept node.Egress).taken q
      go false is = absurd (true≢false (sym (eqb_self f.stages) ∙ is))

  pub owed_kept : IsOwed f s → IsOwed f t
  owed_kept h = record {
    ingress = λ q j.
        let e = kept node.Ingress q j in
        let a = acked_rises (ingress_edge q j) in
        let l = h.ingress q j in omega (arith, e, a, l);
    producers = λ p w j a b. low_kept j (acked_of f s (out_edge p j)) (acked_of f t (out_edge p j)) (replica_in (s.nodes (replica_at p w))) (replica_in (t.nodes (replica_at p w))) (kept (replica_at p w)) (acked_rises (out_edge p j)) (h.producers p w j a b);
    consumers = λ p w q a b.
        let same = acked_stays (in_edge p q) (λ e. absurd (omega (arith, e, a, b))) in
        let Goal : ℕ → Controller → Type 0 = λ k c. MarkAtLeast q k (c.watched w) (replica_in (t.nodes (replica_at p w))) in
        subst (λ k. Goal k (controller_in (t.nodes (control_at p)))) (sym same)
        (subst (Goal (acked_of f s (in_edge p q))) (sym (kept (control_at p)))
        (mark_kept q (acked_of f s (in_edge p q)) ((controller_in (s.nodes (control_at p))).watched w) (replica_in (s.nodes (replica_at p w))) (replica_in (t.nodes (replica_at p w))) (kept (replica_at p w)) (h.consumers p w q a b)));
    egress = λ q. acked_told q;
  }

told_at_most : (f : Flow) (s : State) → IsOwed f s → HasTold (egress_in (s.nodes node.Egress))
told_at_most f s h q = go (f.stages == f.stages) refl (h.egress q)
  where
    go : (b : Bool) → (f.stages == f.stages) ≡ b → (if b then (egress_in (s.nodes node.Egress)).told q else (controller_in (s.nodes (node.Control (f.stages + 1) 0))).acked q) ≤ (egress_in (s.nodes node.Egress)).marks q
        → (egress_in (s.nodes node.Egress)).told q ≤ (egress_in (s.nodes node.Egress)).marks q
    go true is l = l
    go false is l = absurd (true≢false (sym (eqb_self f.stages) ∙ is))

-- ---- what each act keeps

running_self : (x : RunningNumbers) → RunningKept x x
running_self x = record { inc = refl; lows = λ t. refl; marks = λ q. omega arith }

replica_self : (r : Replica) → ReplicaKept r r
replica_self (Gone i) = tt
replica_self (Running x) = running_self x
replica_self (Gathering g) = tt

-- an act that takes no message
abbrev ActIsFree : Act → Type 0
ActIsFree (Takes from m) = ⊥
ActIsFree a = Unit {0}

abbrev OnDone : {X : Type 0} → (X → Type 0) → Result (X × List Envelope) Refusal → Type 0
OnDone P (Ok d) = P d.0
OnDone P (Err e) = Unit {0}

-- a replica that runs works
running_reports : (f : Flow) (p : Partition) (x : RunningNumbers) (o : Option ℕ) → OnDone (ReplicaKept (Running x)) (reports f p x o)
running_reports f p x None = tt
running_reports f p x (Some q) = record { inc = refl; lows = λ t. refl; marks = λ j. omega arith }

running_sends : (f : Flow) (p : Partition) (x : RunningNumbers) (o : Option Due) → OnDone (ReplicaKept (Running x)) (sends_or_reports f p x o)
running_sends f p x None = running_reports f p x (untold f p x.consumer)
running_sends f p x (Some d) = record { inc = refl; lows = λ t. refl; marks = λ j. omega arith }

running_moves : (f : Flow) (p : Partition) (partner : NodeId) (x : RunningNumbers) (o : Option Move) → OnDone (ReplicaKept (Running x)) (moves_or_sends f p partner x o)
running_moves f p partner x None = running_sends f p x (due f p (made_by f p x.consumer.count) x.producer)
running_moves f p partner x (Some mv) =
    if_elim (λ (d : Replica × List Envelope). ReplicaKept (Running x) d.0) (nat_lt mv.sent (size f p mv.numbers))
    (Running (record x { move = Some (record mv { sent = mv.sent + 1 }) }), envelope partner (Chunk mv.target (mv.sent + 1) mv.numbers) ∷ [])
    (Running (record x { move = None }), envelope partner (ChunkEnd mv.target (size f p mv.numbers) mv.numbers) ∷ [])
    (λ e. record { inc = refl; lows = λ t. refl; marks = λ j. omega arith }) (λ e. record { inc = refl; lows = λ t. refl; marks = λ j. omega arith })

running_works : (f : Flow) (p : Partition) (partner : NodeId) (x : RunningNumbers) → OnDone (ReplicaKept (Running x)) (run_works f p partner x)
running_works f p partner x = if_elim (OnDone (ReplicaKept (Running x))) (is_ready f p x.consumer) (Ok (Running (record x { consumer = merged_one x.consumer }), [])) (moves_or_sends f p partner x x.move)
    (λ e. record { inc = refl; lows = λ t. refl; marks = λ j. omega arith }) (λ e. running_moves f p partner x x.move)

with_more : (marks : ℕ → ℕ) (q j : ℕ) → marks j ≤ (if j == q then marks q + 1 else marks j)
with_more marks q j = go (j == q) refl
  where
    go : (b : Bool) → (j == q) ≡ b → marks j ≤ (if b then marks q + 1 else marks j)
    go true e = let z = ap marks (eqb-true j q e) in omega (arith, z)
    go false e = omega arith

replica_kept : (f : Flow) (p : Partition) (w : Which) (a : Act) (r : Replica) → ActIsFree a → OnDone (ReplicaKept r) (replica_does f p w a r)
replica_kept f p w (Takes from m) r h = absurd h
replica_kept f p w Works (Gone i) h = tt
replica_kept f p w Works (Running x) h = running_works f p (replica_at p (other w)) x
replica_kept f p w Works (Gathering g) h = tt
replica_kept f p w Makes r h = tt
replica_kept f p w Dies (Gone i) h = tt
replica_kept f p w Dies (Running x) h = tt
replica_kept f p w Dies (Gathering g) h = tt
replica_kept f p w AsksStop (Gone i) h = tt
replica_kept f p w AsksStop (Running x) h = running_self x
replica_kept f p w AsksStop (Gathering g) h = tt
replica_kept f p w AsksBack (Gone i) h = tt
replica_kept f p w AsksBack (Running x) h = running_self x
replica_kept f p w AsksBack (Gathering g) h = tt
replica_kept f p w (Pulls q) (Gone i) h = tt
replica_kept f p w (Pulls q) (Running x) h = record { inc = refl; lows = λ t. refl; marks = λ j. with_more x.consumer.marks q j }
replica_kept f p w (Pulls q) (Gathering g) h = tt

-- ingress sends
ingress_kept : (f : Flow) (x : Ingress) (o : Option ℕ) → OnDone (λ (y : Ingress). (q t : ℕ) → (y.producers q).lows t ≡ (x.producers q).lows t) (ingress_sends f x o)
ingress_kept f x None = tt
ingress_kept f x (Some q) = sends (source_due f x q)
  where
    sends : (d : Option Due) → OnDone (λ (y : Ingress). (j t : ℕ) → (y.producers j).lows t ≡ (x.producers j).lows t) (source_sends f x q d)
    sends None = tt
    sends (Some d) = λ j t. go j t (j == q) refl
      where
        go : (j t : ℕ) (b : Bool) → (j == q) ≡ b → (if b then sent_on (x.producers q) d else x.producers j).lows t ≡ (x.producers j).lows t
        go j t true e = ap (λ k. (x.producers k).lows t) (sym (eqb-true j q e))
        go j t false e = refl

ingress_does_kept : (f : Flow) (a : Act) (x : Ingress) → ActIsFree a → OnDone (λ (y : Ingress). (q t : ℕ) → (y.producers q).lows t ≡ (x.producers q).lows t) (ingress_does f a x)
ingress_does_kept f (Takes from m) x h = absurd h
ingress_does_kept f Works x h = ingress_kept f x (first_below (λ q. is_some (source_due f x q)) (f.sources 1))
ingress_does_kept f Makes x h = if_elim (OnDone (λ (y : Ingress). (q t : ℕ) → (y.producers q).lows t ≡ (x.producers q).lows t)) (nat_lt x.makes f.makes) (Ok (record x { makes = x.makes + 1 }, [])) (Err NoMoreRows)
    (λ e q t. refl) (λ e. tt)
ingress_does_kept f Dies x h = tt
ingress_does_kept f AsksStop x h = tt
ingress_does_kept f AsksBack x h = tt
ingress_does_kept f (Pulls q) x h = tt

-- egress acknowledges
told_more : (c : Consumer) (q : ℕ) → HasTold c → (j : ℕ) → (c.told j ≤ (if j == q then c.marks q else c.told j)) × ((if j == q then c.marks q else c.told j) ≤ c.marks j)
told_more c q h j = go (j == q) refl
  where
    go : (b : Bool) → (j == q) ≡ b → (c.told j ≤ (if b then c.marks q else c.told j)) × ((if b then c.marks q else c.told j) ≤ c.marks j)
    go true e = let z = ap c.marks (eqb-true j q e) in let l = h j in (omega (arith, z, l), omega (arith, z))
    go false e = (omega arith, h j)

egress_told : (f : Flow) (c : Consumer) (o : Option ℕ) → HasTold c → OnDone (EgressKept c) (egress_tells f c o)
egress_told f c None h = tt
egress_told f c (Some q) h = record { told = λ j. (told_more c q h j).0; taken = λ j. (told_more c q h j).1; marks = λ j. omega arith }

egress_does_kept : (f : Flow) (a : Act) (c : Consumer) → HasTold c → ActIsFree a → OnDone (EgressKept c) (egress_does f a c)
egress_does_kept f (Takes from m) c h k = absurd k
egress_does_kept f Works c h k = if_elim (OnDone (EgressKept c)) (is_ready f (egress_partition f) c) (Ok (merged_one c, [])) (egress_tells f c (untold f (egress_partition f) c))
    (λ e. record { told = λ q. omega arith; taken = h; marks = λ q. omega arith }) (λ e. egress_told f c (untold f (egress_partition f) c) h)
egress_does_kept f Makes c h k = tt
egress_does_kept f Dies c h k = tt
egress_does_kept f AsksStop c h k = tt
egress_does_kept f AsksBack c h k = tt
egress_does_kept f (Pulls q) c h k = record {
  told = λ j. omega arith;
  taken = λ j. let a = with_more c.marks q j in let b = h j in omega arith;
  marks = λ j. with_more c.marks q j;
}

controller_kept : (f : Flow) (p : Partition) (a : Act) (c : Controller) → ActIsFree a → OnDone (λ (y : Node). controller_in y ≡ c) (controller_does f p a c)
controller_kept f p (Takes from m) c h = absurd h
controller_kept f p Works c h = tt
controller_kept f p Makes c h = tt
controller_kept f p Dies c h = tt
controller_kept f p AsksStop c h = tt
controller_kept f p AsksBack c h = tt
controller_kept f p (Pulls q) c h = tt

-- ---- a step

pull_free : (q : ℕ) (o : Option machine.Buffer) (m : Option ℕ) (a : Act) → pull_of q o m ≡ Ok a → ActIsFree a
pull_free q None m a e = let z : ⊥ = cc e in absurd z
pull_free q (Some o) None a e = let z : ⊥ = cc e in absurd z
pull_free q (Some o) (Some mark) a e =
    if_elim (λ (r : Result Act Refusal). r ≡ Ok a → ActIsFree a) (nat_le o.low mark && nat_lt mark o.produced) (Ok (Pulls q)) (Err (NotHeld o.low mark o.produced))
    (λ t h. let same : Pulls q ≡ a = cc h in subst ActIsFree same tt) (λ t h. let z : ⊥ = cc h in absurd z) e

act_free : (f : Flow) (s : State) (e : Event) (a : Act) → TakesNoMessage e → act_of f s e ≡ Ok a → ActIsFree a
act_free f s (event.Take l k) a free e = absurd free
act_free f s (event.Work m) a free e = let same : Works ≡ a = cc e in subst ActIsFree same tt
act_free f s event.Make a free e = let same : Makes ≡ a = cc e in subst ActIsFree same tt
act_free f s (event.Kill m) a free e = let same : Dies ≡ a = cc e in subst ActIsFree same tt
act_free f s (event.AskStop m) a free e = let same : AsksStop ≡ a = cc e in subst ActIsFree same tt
act_free f s (event.AskBack m) a free e = let same : AsksBack ≡ a = cc e in subst ActIsFree same tt
act_free f s (event.Pull from to) a free e =
    let q = source_pulled f from (s.nodes from) to (s.nodes to) in
    pull_free q (buffer_of f q (part_of to) from (s.nodes from)) (mark_of q to (s.nodes to)) a e

abbrev AllKept : State → State → Type 0
AllKept s t = (n : NodeId) → Kept n (s.nodes n) (t.nodes n)

-- the node of an act keeps it whatever its name; only egress need have told no more than it took
any_kept : (f : Flow) (s : State) → HasTold (egress_in (s.nodes node.Egress)) → (n : NodeId) (a : Act) → ActIsFree a → OnDone (Kept n (s.nodes n)) (does f n a (s.nodes n))
any_kept f s h node.Ingress a k = go (ingress_does f a (ingress_in (s.nodes node.Ingress))) (ingress_does_kept f a (ingress_in (s.nodes node.Ingress)) k)
  where
    go : (r : Result (Ingress × List Envelope) Refusal) → OnDone (λ (y : Ingress). (q t : ℕ) → (y.producers q).lows t ≡ ((ingress_in (s.nodes node.Ingress)).producers q).lows t) r
        → OnDone (Kept node.Ingress (s.nodes node.Ingress)) (as_ingress r)
    go (Ok d) e = e
    go (Err r) e = tt
any_kept f s h (node.Replica st p w) a k = go (replica_does f (record { stage = st; part = p }) w a (replica_in (s.nodes (node.Replica st p w)))) (replica_kept f (record { stage = st; part = p }) w a (replica_in (s.nodes (node.Replica st p w))) k)
  where
    go : (r : Result (Replica × List Envelope) Refusal) → OnDone (ReplicaKept (replica_in (s.nodes (node.Replica st p w)))) r → OnDone (Kept (node.Replica st p w) (s.nodes (node.Replica st p w))) (as_replica r)
    go (Ok d) e = e
    go (Err r) e = tt
any_kept f s h (node.Control st p) a k = controller_kept f (record { stage = st; part = p }) a (controller_in (s.nodes (node.Control st p))) k
any_kept f s h node.Egress a k = go (egress_does f a (egress_in (s.nodes node.Egress))) (egress_does_kept f a (egress_in (s.nodes node.Egress)) h k)
  where
    go : (r : Result (Consumer × List Envelope) Refusal) → OnDone (EgressKept (egress_in (s.nodes node.Egress))) r → OnDone (Kept node.Egress (s.nodes node.Egress)) (as_egress r)
    go (Ok d) e = e
    go (Err r) e = tt

self_kept : (s : State) → HasTold (egress_in (s.nodes node.Egress)) → (n : NodeId) → Kept n (s.nodes n) (s.nodes n)
self_kept s h node.Ingress = λ q t. refl
self_kept s h (node.Replica st p w) = replica_self (replica_in (s.nodes (node.Replica st p w)))
self_kept s h (node.Control st p) = refl
self_kept s h node.Egress = record { told = λ q. omega arith; taken = h; marks = λ q. omega arith }

after_kept : (s : State) → HasTold (egress_in (s.nodes node.Egress)) → (n : NodeId) (r : Result (Node × List Envelope) Refusal) → OnDone (Kept n (s.nodes n)) r → HoldsOnOk (AllKept s) (after n s r)
after_kept s h n (Err e) k = tt
after_kept s h n (Ok d) k = λ m. go m (is_node m n) (is_node-true m n)
  where
    go : (m : NodeId) (b : Bool) → (b ≡ true → m ≡ n) → Kept m (s.nodes m) (if b then d.0 else s.nodes m)
    go m true same = subst (λ j. Kept j (s.nodes j) d.0) (sym (same refl)) k
    go m false same = self_kept s h m

step_kept : (f : Flow) (s : State) (e : Event) → HasTold (egress_in (s.nodes node.Egress)) → TakesNoMessage e → HoldsOnOk (AllKept s) (step f s e)
unfolding step
step_kept f s e h free = go (act_of f s e) (λ a. act_free f s e a free)
  where
    go : (r : Result Act Refusal) → ((a : Act) → r ≡ Ok a → ActIsFree a) → HoldsOnOk (AllKept s) (acted f (at_node e) s r)
    go (Ok a) k = after_kept s h (at_node e) (does f (at_node e) a (s.nodes (at_node e))) (any_kept f s h (at_node e) a (k a refl))
    go (Err r) k = tt

pub keeps_drainable : (plan : PlanView) (inputs : List Input) → IsPlan plan → (s t : State) (e : Event) → IsThere (flow_of plan inputs) e → TakesNoMessage e → IsDrainable (flow_of plan inputs) s
    → step (flow_of plan inputs) s e ≡ Ok t → IsDrainable (flow_of plan inputs) t
keeps_drainable plan inputs p s t e is_there free h done =
    let f = flow_of plan inputs in
    let kept : AllKept s t = subst (HoldsOnOk (AllKept s)) done (step_kept f s e (told_at_most f s h.owed) free) in
    record { owed = owed_kept f s t kept h.owed; within = within_kept f (plan_is_flow plan inputs p) s t e is_there free h.within done }
