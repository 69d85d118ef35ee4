-- Each event of the drain has a number that it lowers and that no other event raises: how much is left to make, to take or to merge. Where that is none,
-- the event is no step.
use Rattle.std.proofs.Common.{◌≡◌, ◌<◌, ◌≤◌, ℕ, zero, suc, Bool, true, false, [], Option, None, Some, Result, Ok, Err, refl, sym, ap, ◌∙◌, subst, arith}
use Rattle.std.specs.Prelude.{◌&&◌, ◌-◌, ◌+◌, ◌==◌, nat_le, nat_lt, replicate}
use Rattle.std.proofs.lemmas.Bool.{eq-eqb, eqb-true, ltb-true}
use Rattle.tuple_edge.specs.declared.event.Event.{Event}
use Rattle.tuple_edge.specs.declared.event.Event.TheVariants as event
use Rattle.tuple_edge.specs.declared.node.NodeId.{NodeId}
use Rattle.tuple_edge.specs.declared.node.NodeId.TheVariants as node
use Rattle.tuple_edge.specs.declared.node.Which.{Which}
use Rattle.tuple_edge.specs.Node.{part_of}
use Rattle.pair_machine.specs.Boundary.{source_made}
use Rattle.pair_machine.specs.Consumers.{all_below, is_ready, merged_one, pulled}
use Rattle.pair_machine.specs.Drain.{AreDrainEvents, IsDrainEvent, IsDrainable, MergeIsReady, ReplicaIsReady, consumer_in, left_on, partition}
use Rattle.pair_machine.specs.Flow.{Flow, IsFlow}
use Rattle.pair_machine.specs.Legal.{IsLegalFrom}
use Rattle.pair_machine.specs.Lengths.{ConsumerBound}
use Rattle.pair_machine.specs.Machine.{Buffer, State, act_of, acted, after, buffer_in, buffer_of, does, follow, ingress_in, is_behind, mark_in, mark_of, pull_of, pulled_source, replica_in, source_pulled, step}
use Rattle.pair_machine.specs.Messages.{Makes, NoMoreRows, NotHeld, NotRunning, Pulls, Refusal, Works}
use Rattle.pair_machine.specs.Numbers.{Consumer, Gathering, Gone, IngressNode, Node, Partition, Replica, Running, in_edge, out_edge}
use Rattle.pair_machine.specs.Replicas.{made_by, sum_below}
use Rattle.pair_machine.specs.Sound.{IsRunning}
use Rattle.pair_machine.proofs.DrainMoves.{Eats, act_done, bound_of, consumer_at, mark_there, partition_at, pulls_done, put_there, works_done}
use Rattle.pair_machine.proofs.DrainSteps.{ConsumerGrew, Grew, ReplicaGrew, consumer_self, drain_step, put}
use Rattle.pair_machine.proofs.DrainSums.{marks_self, sum_pulled}
use Rattle.pair_machine.proofs.Legal.{follow_err}
use Rattle.pair_machine.proofs.StepTurns.{some_found}
use Rattle.pair_machine.proofs.Tests.{both}

-- ---- what no event lowers

consumer_ahead : (r k : Replica) → ReplicaGrew r k → ConsumerGrew (consumer_in r) (consumer_in k)
consumer_ahead (Gone i) k g = subst (λ j. ConsumerGrew (consumer_in (Gone i)) (consumer_in j)) (sym g) (consumer_self (consumer_in (Gone i)))
consumer_ahead (Gathering x) k g = subst (λ j. ConsumerGrew (consumer_in (Gathering x)) (consumer_in j)) (sym g) (consumer_self (consumer_in (Gathering x)))
consumer_ahead (Running x) (Running y) g = g.consumer
consumer_ahead (Running x) (Gone i) g = absurd g
consumer_ahead (Running x) (Gathering y) g = absurd g

pub grew_at : (to : NodeId) (x y : Node) → Grew to x y → ConsumerGrew (consumer_at to x) (consumer_at to y)
grew_at node.Ingress x y g = consumer_self (consumer_at node.Ingress x)
grew_at (node.Replica s p w) x y g = consumer_ahead (replica_in x) (replica_in y) g
grew_at (node.Control s p) x y g = consumer_self (consumer_at (node.Control s p) x)
grew_at node.Egress x y g = g

pub sum_less : (n : ℕ) (g h : ℕ → ℕ) → ((q : ℕ) → g q ≤ h q) → sum_below n g ≤ sum_below n h
sum_less zero g h l = omega arith
sum_less (suc n) g h l = omega (arith, sum_less n g h l, l n)

-- ---- what the same event lowers again and again

module _ (f : Flow) (flow : IsFlow f) (e : Event) (left : State → ℕ) (lowers : (s t : State) → IsDrainable f s → IsDrainEvent f s e → step f s e ≡ Ok t → left t < left s) where
  pub lowered : (n : ℕ) (s u : State) → IsDrainable f s → IsLegalFrom f s (replicate n e) u → AreDrainEvents f (replicate n e) (Ok s) → left u + n ≤ left s
  lowered zero s u g legal ready = let same : s ≡ u = cc legal.leads in let z = ap left same in omega arith
  lowered (suc n) s u g legal ready = go (step f s e) refl legal.leads ready.1 (λ m. lowered n m u)
    where
      go : (r : Result State Refusal) → step f s e ≡ r → follow f (replicate n e) r ≡ Ok u → AreDrainEvents f (replicate n e) r
          → ((m : State) → IsDrainable f m → IsLegalFrom f m (replicate n e) u → AreDrainEvents f (replicate n e) (Ok m) → left u + n ≤ left m) → left u + suc n ≤ left s
      go (Ok m) q l r later =
          let x = drain_step f flow s m e legal.there.0 ready.0 g q in
          omega (arith, later m x.drainable (record { there = legal.there.1; leads = l }) r, lowers s m g ready.0 q)
      go (Err x) q l r later = let z : Err x ≡ Ok u = sym (follow_err f (replicate n e) x) ∙ l in let w : ⊥ = cc z in absurd w

-- ---- a make

no_make : (f : Flow) (s : State) → nat_lt (ingress_in (s.nodes node.Ingress)).makes f.makes ≡ false → step f s event.Make ≡ Err NoMoreRows
unfolding step
no_make f s e = let r : does f node.Ingress Makes (s.nodes node.Ingress) ≡ Err NoMoreRows = simp e in ap (after node.Ingress s) r

pub make_lowers : (f : Flow) (s t : State) → step f s event.Make ≡ Ok t → f.makes - (ingress_in (t.nodes node.Ingress)).makes < f.makes - (ingress_in (s.nodes node.Ingress)).makes
make_lowers f s t done = go (nat_lt (ingress_in (s.nodes node.Ingress)).makes f.makes) refl
  where
    go : (c : Bool) → nat_lt (ingress_in (s.nodes node.Ingress)).makes f.makes ≡ c → f.makes - (ingress_in (t.nodes node.Ingress)).makes < f.makes - (ingress_in (s.nodes node.Ingress)).makes
    go false e = let z : Err NoMoreRows ≡ Ok t = sym (no_make f s e) ∙ done in let w : ⊥ = cc z in absurd w
    go true e =
        let x = ingress_in (s.nodes node.Ingress) in
        let y = IngressNode (record x { makes = x.makes + 1 }) in
        let made : does f node.Ingress Makes (s.nodes node.Ingress) ≡ Ok (y, []) = simp e in
        let stepped = act_done f s event.Make Makes y refl made in
        let same : put node.Ingress s y ≡ t = (let z : Ok (put node.Ingress s y) ≡ Ok t = sym stepped ∙ done in cc z) in
        let count : (ingress_in (t.nodes node.Ingress)).makes ≡ x.makes + 1 = subst (λ u. (ingress_in (u.nodes node.Ingress)).makes ≡ x.makes + 1) same (ap (λ n. (ingress_in n).makes) (put_there node.Ingress s y)) in
        let less = ltb-true x.makes f.makes e in omega arith

-- ---- a pull

eats_there : (q mark : ℕ) (to : NodeId) (x : Node) → mark_of q to x ≡ Some mark → Eats to x
eats_there q mark node.Ingress x e = let z : ⊥ = cc e in absurd z
eats_there q mark (node.Control s p) x e = let z : ⊥ = cc e in absurd z
eats_there q mark node.Egress x e = tt
eats_there q mark (node.Replica s p w) x e = go (replica_in x) e
  where
    go : (r : Replica) → mark_in q r ≡ Some mark → IsRunning r
    go (Gone i) e = let z : ⊥ = cc e in absurd z
    go (Running y) e = tt
    go (Gathering g) e = let z : ⊥ = cc e in absurd z

no_pull : (f : Flow) (s : State) (from to : NodeId) (r : Refusal) → act_of f s (event.Pull from to) ≡ Err r → step f s (event.Pull from to) ≡ Err r
unfolding step
no_pull f s from to r e = ap (acted f to s) e

-- a pull that is a step: the consumer runs, and takes an item that the buffer has
pub record IsTaken (f : Flow) (s t : State) (from to : NodeId) : Type 0 where
  pub buffer : Buffer
  pub is : buffer_of f (source_pulled f from (s.nodes from) to (s.nodes to)) (part_of to) from (s.nodes from) ≡ Some buffer
  pub below : (consumer_at to (s.nodes to)).marks (source_pulled f from (s.nodes from) to (s.nodes to)) < buffer.produced
  pub consumer : consumer_at to (t.nodes to) ≡ pulled (consumer_at to (s.nodes to)) (source_pulled f from (s.nodes from) to (s.nodes to))

module _ (f : Flow) (s t : State) (from to : NodeId) (done : step f s (event.Pull from to) ≡ Ok t) where
  abbrev source : ℕ
  source = source_pulled f from (s.nodes from) to (s.nodes to)

  refused : (r : Refusal) → act_of f s (event.Pull from to) ≡ Err r → ⊥
  refused r e = let z : Err r ≡ Ok t = sym (no_pull f s from to r e) ∙ done in cc z

  taken_of : (o : Buffer) (mark : ℕ) → buffer_of f source (part_of to) from (s.nodes from) ≡ Some o → mark_of source to (s.nodes to) ≡ Some mark → (c : Bool) → (nat_le o.low mark && nat_lt mark o.produced) ≡ c → IsTaken f s t from to
  taken_of o mark e g false c =
      let act : act_of f s (event.Pull from to) ≡ pull_of source (Some o) (Some mark) = λ i. pull_of source (e i) (g i) in
      let stops : pull_of source (Some o) (Some mark) ≡ Err (NotHeld o.low mark o.produced) = simp c in
      absurd (refused (NotHeld o.low mark o.produced) (act ∙ stops))
  taken_of o mark e g true c =
      let eats = eats_there source mark to (s.nodes to) g in
      let at : act_of f s (event.Pull from to) ≡ pull_of source (Some o) (Some mark) = λ i. pull_of source (e i) (g i) in
      let goes : pull_of source (Some o) (Some mark) ≡ Ok (Pulls source) = simp c in
      let x = pulls_done f to source (s.nodes to) eats in
      let stepped = act_done f s (event.Pull from to) (Pulls source) x.node (at ∙ goes) x.done in
      let same : put to s x.node ≡ t = (let z : Ok (put to s x.node) ≡ Ok t = sym stepped ∙ done in cc z) in
      let mark_is : (consumer_at to (s.nodes to)).marks source ≡ mark = (let z : Some ((consumer_at to (s.nodes to)).marks source) ≡ Some mark = sym (mark_there to (s.nodes to) source eats) ∙ g in cc z) in
      let below = ltb-true mark o.produced (both (nat_le o.low mark) (nat_lt mark o.produced) c).1 in
      record {
        buffer = o;
        is = e;
        below = omega arith;
        consumer = subst (λ u. consumer_at to (u.nodes to) ≡ pulled (consumer_at to (s.nodes to)) source) same (ap (consumer_at to) (put_there to s x.node) ∙ x.consumer);
      }

  taken_from : (o : Option Buffer) (m : Option ℕ) → buffer_of f source (part_of to) from (s.nodes from) ≡ o → mark_of source to (s.nodes to) ≡ m → IsTaken f s t from to
  taken_from None m e g =
      let act : act_of f s (event.Pull from to) ≡ Err NotRunning = λ i. pull_of source (e i) (g i) in absurd (refused NotRunning act)
  taken_from (Some o) None e g =
      let act : act_of f s (event.Pull from to) ≡ Err NotRunning = λ i. pull_of source (e i) (g i) in absurd (refused NotRunning act)
  taken_from (Some o) (Some mark) e g = taken_of o mark e g (nat_le o.low mark && nat_lt mark o.produced) refl

  pub taken : IsTaken f s t from to
  taken = taken_from (buffer_of f source (part_of to) from (s.nodes from)) (mark_of source to (s.nodes to)) refl refl

-- a replica has made at most the whole edge
made_within : (f : Flow) → IsFlow f → (p : Partition) (t : ℕ) (r : Replica) (o : Buffer) → 1 ≤ p.stage → p.stage ≤ f.stages → p.part < f.sources (p.stage + 1) → buffer_in f p t r ≡ Some o → o.produced ≤ f.length (out_edge p t)
made_within f flow p t (Gone i) o first last part e = let z : ⊥ = cc e in absurd z
made_within f flow p t (Gathering g) o first last part e = let z : ⊥ = cc e in absurd z
made_within f flow p t (Running y) o first last part e =
    let same : made_by f p y.consumer.count t ≡ o.produced = (let z : record { low = y.producer.lows t; produced = made_by f p y.consumer.count t } ≡ o = cc e in ap (λ (k : Buffer). k.produced) z) in
    let most = flow.made_most p t y.consumer.count first last part in omega arith

module _ (f : Flow) (flow : IsFlow f) (to : NodeId) (here : Partition) (part : part_of to ≡ here.part) (s t : State) where
  -- from a replica of source q
  pub pull_lowers : (q : ℕ) (w : Which) → 2 ≤ here.stage → here.stage ≤ f.stages + 1 → q < f.sources here.stage → step f s (event.Pull (node.Replica (here.stage - 1) q w) to) ≡ Ok t
      → left_on f here (consumer_at to (t.nodes to)) q < left_on f here (consumer_at to (s.nodes to)) q
  pull_lowers q w low high few done =
      let from = node.Replica (here.stage - 1) q w in
      let x = taken f s t from to done in
      let p = partition (here.stage - 1) q in
      let e : here.stage - 1 + 1 ≡ here.stage = omega arith in
      let most = made_within f flow p (part_of to) (replica_in (s.nodes from)) x.buffer (omega arith) (omega arith) (subst (λ n. q < f.sources n) (sym e) few) x.is in
      let same = ap (λ k. f.length (record { stage = here.stage - 1; from = q; to = k })) part in
      let own = ap (λ (c : Consumer). c.marks q) x.consumer ∙ marks_self (consumer_at to (s.nodes to)) q in
      omega (arith, x.below, most, same, own)

  -- from any source of ingress
  pub feed_lowers : here.stage ≡ 1 → step f s (event.Pull node.Ingress to) ≡ Ok t
      → sum_below (f.sources here.stage) (left_on f here (consumer_at to (t.nodes to))) < sum_below (f.sources here.stage) (left_on f here (consumer_at to (s.nodes to)))
  feed_lowers first done =
      let x = taken f s t node.Ingress to done in
      let i = ingress_in (s.nodes node.Ingress) in
      let q = pulled_source f i to (s.nodes to) in
      let l : q < f.sources 1 = some_found (f.sources 1) (λ j. is_behind (mark_of j to (s.nodes to)) (source_made f i j (part_of to))) flow.first_sources.0 in
      let few : q < f.sources here.stage = subst (λ n. q < f.sources n) (sym first) l in
      let produced : source_made f i q (part_of to) ≡ x.buffer.produced = (let z : record { low = (i.producers q).lows (part_of to); produced = source_made f i q (part_of to) } ≡ x.buffer = cc x.is in ap (λ (k : Buffer). k.produced) z) in
      let most = flow.makes_most q (part_of to) i.makes in
      let zero_stage : 0 ≡ here.stage - 1 = omega arith in
      let same : f.length (record { stage = 0; from = q; to = part_of to }) ≡ f.length (in_edge here q) = λ j. f.length (record { stage = zero_stage j; from = q; to = part j }) in
      let less = sum_pulled (f.sources here.stage) (λ j. f.length (in_edge here j)) (consumer_at to (s.nodes to)) q few (omega (arith, x.below, produced, most, same)) in
      let after = ap (λ c. sum_below (f.sources here.stage) (left_on f here c)) x.consumer in
      omega (arith, less, after)

-- ---- a merge

all_hold : (n : ℕ) (test : ℕ → Bool) → all_below n test ≡ true → (q : ℕ) → q < n → test q ≡ true
all_hold zero test e q l = absurd (omega arith)
all_hold (suc n) test e q l = go (q == n) (eqb-true q n) (eq-eqb q n) (λ h. all_hold n test (both (all_below n test) (test n) e).0 q h)
  where
    go : (c : Bool) → (c ≡ true → q ≡ n) → (q ≡ n → c ≡ true) → (q < n → test q ≡ true) → test q ≡ true
    go true is isn old = ap test (is refl) ∙ (both (all_below n test) (test n) e).1
    go false is isn old = old (less (λ h. (let z : false ≡ true = isn h in let w : ⊥ = cc z in w)))
      where
        less : (q ≡ n → ⊥) → q < n
        less ne = omega arith

-- a merge that is ready goes on
ready_less : (f : Flow) → IsFlow f → (p : Partition) (c : Consumer) → 1 ≤ p.stage → p.stage ≤ f.stages + 1 → ConsumerBound f p c → is_ready f p c ≡ true → c.count < f.total p
ready_less f flow p c low high bound e = flow.more_left p c.count low high
    (λ q l. let below = ltb-true (f.used p q c.count) (c.marks q) (all_hold (f.sources p.stage) (λ j. nat_lt (f.used p j c.count) (c.marks j)) e q l) in let most = bound.most q in omega arith)

record Merges (f : Flow) (to : NodeId) (x : Node) : Type 0 where
  eats : Eats to x
  ready : is_ready f (partition_at f to) (consumer_at to x) ≡ true

replica_merges : (f : Flow) (p : Partition) (r : Replica) → ReplicaIsReady f p r → IsRunning r × (is_ready f p (consumer_in r) ≡ true)
replica_merges f p (Gone i) h = absurd h
replica_merges f p (Running x) h = (tt, h)
replica_merges f p (Gathering g) h = absurd h

merges : (f : Flow) (to : NodeId) (x : Node) → MergeIsReady f to x → Merges f to x
merges f node.Ingress x h = absurd h
merges f (node.Replica s p w) x h = let z = replica_merges f (partition s p) (replica_in x) h in record { eats = z.0; ready = z.1 }
merges f (node.Control s p) x h = absurd h
merges f node.Egress x h = record { eats = tt; ready = h }

pub work_lowers : (f : Flow) → IsFlow f → (to : NodeId) (s t : State) → 1 ≤ (partition_at f to).stage → (partition_at f to).stage ≤ f.stages + 1 → IsDrainable f s → MergeIsReady f to (s.nodes to) → step f s (event.Work to) ≡ Ok t
    → f.total (partition_at f to) - (consumer_at to (t.nodes to)).count < f.total (partition_at f to) - (consumer_at to (s.nodes to)).count
work_lowers f flow to s t low high g h done =
    let m = merges f to (s.nodes to) h in
    let x = works_done f to (s.nodes to) m.eats m.ready in
    let stepped = act_done f s (event.Work to) Works x.node refl x.done in
    let same : put to s x.node ≡ t = (let z : Ok (put to s x.node) ≡ Ok t = sym stepped ∙ done in cc z) in
    let c = consumer_at to (s.nodes to) in
    let after : consumer_at to (t.nodes to) ≡ merged_one c = subst (λ u. consumer_at to (u.nodes to) ≡ merged_one c) same (ap (consumer_at to) (put_there to s x.node) ∙ x.consumer) in
    let count = ap (λ (k : Consumer). k.count) after in
    let less = ready_less f flow (partition_at f to) c low high (bound_of f to (s.nodes to) m.eats (g.within to)) m.ready in
    omega (arith, count, less)
