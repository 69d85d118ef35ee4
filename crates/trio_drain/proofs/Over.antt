-- Each event of the drain has a number that it lowers and that no other event raises: how much is left to make, to take or to merge. Where that is none,
-- the event is no step.
use Rattle.std.proofs.Common.{◌≡◌, ◌<◌, ◌≤◌, ℕ, zero, suc, Bool, true, false, [], Option, None, Some, Result, Ok, Err, refl, sym, ap, ◌∙◌, subst, arith}
use Rattle.std.specs.Prelude.{◌&&◌, ◌-◌, ◌+◌, ◌==◌, nat_le, nat_lt, replicate}
use Rattle.std.proofs.lemmas.Bool.{eq-eqb, eqb-true, ltb-true}
use Rattle.pair_machine.specs.Consumers.{all_below, is_ready, merged_one, pulled}
use Rattle.pair_machine.specs.Drain.{left_on, partition}
use Rattle.pair_machine.specs.Flow.{Flow, IsFlow}
use Rattle.pair_machine.specs.Lengths.{ConsumerBound}
use Rattle.pair_machine.specs.Machine.{Buffer}
use Rattle.pair_machine.specs.Numbers.{Consumer, Partition, in_edge, ingress_edge, out_edge}
use Rattle.pair_machine.specs.Replicas.{made_by}
use Rattle.pair_machine.proofs.DrainSums.{marks_self}
use Rattle.pair_machine.proofs.Tests.{both}
use Rattle.trio_machine.specs.Boundary.{source_made}
use Rattle.trio_machine.specs.Drain.{AreDrainEvents, IsDrainEvent, MergeIsReady, ReplicaIsReady, consumer_in}
use Rattle.trio_machine.specs.Flow.{IsTrioFlow}
use Rattle.trio_machine.specs.Legal.{IsLegalFrom}
use Rattle.trio_machine.specs.Machine.{State, act_of, acted, after, buffer_in, buffer_of, does, follow, ingress_in, mark_in, mark_of, pull_of, put, replica_in, step}
use Rattle.trio_machine.specs.Messages.{Makes, NoMoreRows, NotHeld, NotRunning, Pulls, Refusal, Works}
use Rattle.trio_machine.specs.Numbers.{Gone, IngressNode, Node, Replica, Running, part_of}
use Rattle.trio_machine.specs.Reports.{IsRunning}
use Rattle.trio_machine.specs.Sound.{IsSound}
use Rattle.trio_machine.specs.declared.event.TrioEvent.{TrioEvent}
use Rattle.trio_machine.specs.declared.event.TrioEvent.TheVariants as event
use Rattle.trio_machine.specs.declared.node.TrioNode.{TrioNode}
use Rattle.trio_machine.specs.declared.node.TrioNode.TheVariants as node
use Rattle.trio_machine.proofs.DrainMoves.{Eats, act_done, bound_of, consumer_at, mark_there, partition_at, pulls_done, works_done}
use Rattle.trio_machine.proofs.Legal.{follow_err}
use Rattle.trio_machine.proofs.SoundKept.{put_there}
use Rattle.trio_drain.proofs.Steps.{ConsumerGrew, Grew, ReplicaGrew, consumer_self, drain_step}

-- ---- what no event lowers

consumer_ahead : (r k : Replica) → ReplicaGrew r k → ConsumerGrew (consumer_in r) (consumer_in k)
consumer_ahead Gone k g = subst (λ j. ConsumerGrew (consumer_in Gone) (consumer_in j)) (sym g) (consumer_self (consumer_in Gone))
consumer_ahead (Running x) (Running y) g = g
consumer_ahead (Running x) Gone g = absurd g

pub grew_at : (to : TrioNode) (x y : Node) → Grew to x y → ConsumerGrew (consumer_at to x) (consumer_at to y)
grew_at node.Ingress x y g = consumer_self (consumer_at node.Ingress x)
grew_at (node.Replica s p c) x y g = consumer_ahead (replica_in x) (replica_in y) g
grew_at (node.Control s p) x y g = consumer_self (consumer_at (node.Control s p) x)
grew_at node.Egress x y g = g

-- ---- what the same event lowers again and again

module _ (f : Flow) (trio : IsTrioFlow f) (e : TrioEvent) (left : State → ℕ) (lowers : (s t : State) → IsSound f s → IsDrainEvent f s e → step f s e ≡ Ok t → left t < left s) where
  pub lowered : (n : ℕ) (s u : State) → IsSound f s → IsLegalFrom f s (replicate n e) u → AreDrainEvents f (replicate n e) (Ok s) → left u + n ≤ left s
  lowered zero s u g legal ready = let same : s ≡ u = cc legal.leads in let z = ap left same in omega arith
  lowered (suc n) s u g legal ready = go (step f s e) refl legal.leads ready.1 (λ m. lowered n m u)
    where
      go : (r : Result State Refusal) → step f s e ≡ r → follow f (replicate n e) r ≡ Ok u → AreDrainEvents f (replicate n e) r
          → ((m : State) → IsSound f m → IsLegalFrom f m (replicate n e) u → AreDrainEvents f (replicate n e) (Ok m) → left u + n ≤ left m) → left u + suc n ≤ left s
      go (Ok m) q l r later =
          let x = drain_step f trio s m e legal.there.0 ready.0 g q in
          omega (arith, later m x.sound (record { there = legal.there.1; leads = l }) r, lowers s m g ready.0 q)
      go (Err x) q l r later = let z : Err x ≡ Ok u = sym (follow_err f (replicate n e) x) ∙ l in let w : ⊥ = cc z in absurd w

-- ---- a make

no_make : (f : Flow) (s : State) → nat_lt (ingress_in (s.nodes node.Ingress)).makes f.makes ≡ false → step f s event.Make ≡ Err NoMoreRows
unfolding step
no_make f s e = let r : does f node.Ingress Makes (s.nodes node.Ingress) ≡ Err NoMoreRows = simp e in ap (after node.Ingress s) r

pub make_lowers : (f : Flow) (s t : State) → step f s event.Make ≡ Ok t → f.makes - (ingress_in (t.nodes node.Ingress)).makes < f.makes - (ingress_in (s.nodes node.Ingress)).makes
make_lowers f s t done = go (nat_lt (ingress_in (s.nodes node.Ingress)).makes f.makes) refl
  where
    go : (c : Bool) → nat_lt (ingress_in (s.nodes node.Ingress)).makes f.makes ≡ c → f.makes - (ingress_in (t.nodes node.Ingress)).makes < f.makes - (ingress_in (s.nodes node.Ingress)).makes
    go false e = let z : Err NoMoreRows ≡ Ok t = sym (no_make f s e) ∙ done in let w : ⊥ = cc z in absurd w
    go true e =
        let x = ingress_in (s.nodes node.Ingress) in
        let y = IngressNode (record x { makes = x.makes + 1 }) in
        let made : does f node.Ingress Makes (s.nodes node.Ingress) ≡ Ok (y, []) = simp e in
        let stepped = act_done f s event.Make Makes y refl made in
        let same : put node.Ingress s y [] ≡ t = (let z : Ok (put node.Ingress s y []) ≡ Ok t = sym stepped ∙ done in cc z) in
        let count : (ingress_in (t.nodes node.Ingress)).makes ≡ x.makes + 1 = subst (λ (u : State). (ingress_in (u.nodes node.Ingress)).makes ≡ x.makes + 1) same (ap (λ n. (ingress_in n).makes) (put_there node.Ingress s y [])) in
        let less = ltb-true x.makes f.makes e in omega arith

-- ---- a pull

eats_there : (q mark : ℕ) (to : TrioNode) (x : Node) → mark_of q to x ≡ Some mark → Eats to x
eats_there q mark node.Ingress x e = let z : ⊥ = cc e in absurd z
eats_there q mark (node.Control s p) x e = let z : ⊥ = cc e in absurd z
eats_there q mark node.Egress x e = tt
eats_there q mark (node.Replica s p c) x e = go (replica_in x) e
  where
    go : (r : Replica) → mark_in q r ≡ Some mark → IsRunning r
    go Gone e = let z : ⊥ = cc e in absurd z
    go (Running y) e = tt

no_pull : (f : Flow) (s : State) (from to : TrioNode) (r : Refusal) → act_of f s (event.Pull from to) ≡ Err r → step f s (event.Pull from to) ≡ Err r
unfolding step
no_pull f s from to r e = ap (acted f to s) e

-- a pull that is a step: the consumer runs, and takes an item that the buffer has
pub record IsTaken (f : Flow) (s t : State) (from to : TrioNode) : Type 0 where
  pub buffer : Buffer
  pub is : buffer_of f (part_of to) from (s.nodes from) ≡ Some buffer
  pub below : (consumer_at to (s.nodes to)).marks (part_of from) < buffer.produced
  pub consumer : consumer_at to (t.nodes to) ≡ pulled (consumer_at to (s.nodes to)) (part_of from)

module _ (f : Flow) (s t : State) (from to : TrioNode) (done : step f s (event.Pull from to) ≡ Ok t) where
  abbrev source : ℕ
  source = part_of from

  refused : (r : Refusal) → act_of f s (event.Pull from to) ≡ Err r → ⊥
  refused r e = let z : Err r ≡ Ok t = sym (no_pull f s from to r e) ∙ done in cc z

  taken_of : (o : Buffer) (mark : ℕ) → buffer_of f (part_of to) from (s.nodes from) ≡ Some o → mark_of source to (s.nodes to) ≡ Some mark → (c : Bool) → (nat_le o.low mark && nat_lt mark o.produced) ≡ c → IsTaken f s t from to
  taken_of o mark e g false c =
      let act : act_of f s (event.Pull from to) ≡ pull_of source (Some o) (Some mark) = λ i. pull_of source (e i) (g i) in
      let stops : pull_of source (Some o) (Some mark) ≡ Err (NotHeld o.low mark o.produced) = simp c in
      absurd (refused (NotHeld o.low mark o.produced) (act ∙ stops))
  taken_of o mark e g true c =
      let eats = eats_there source mark to (s.nodes to) g in
      let at : act_of f s (event.Pull from to) ≡ pull_of source (Some o) (Some mark) = λ i. pull_of source (e i) (g i) in
      let goes : pull_of source (Some o) (Some mark) ≡ Ok (Pulls source) = simp c in
      let x = pulls_done f to source (s.nodes to) eats in
      let stepped = act_done f s (event.Pull from to) (Pulls source) x.node (at ∙ goes) x.done in
      let same : put to s x.node [] ≡ t = (let z : Ok (put to s x.node []) ≡ Ok t = sym stepped ∙ done in cc z) in
      let mark_is : (consumer_at to (s.nodes to)).marks source ≡ mark = (let z : Some ((consumer_at to (s.nodes to)).marks source) ≡ Some mark = sym (mark_there to (s.nodes to) source eats) ∙ g in cc z) in
      let below = ltb-true mark o.produced (both (nat_le o.low mark) (nat_lt mark o.produced) c).1 in
      record {
        buffer = o;
        is = e;
        below = omega arith;
        consumer = subst (λ (u : State). consumer_at to (u.nodes to) ≡ pulled (consumer_at to (s.nodes to)) source) same (ap (consumer_at to) (put_there to s x.node []) ∙ x.consumer);
      }

  taken_from : (o : Option Buffer) (m : Option ℕ) → buffer_of f (part_of to) from (s.nodes from) ≡ o → mark_of source to (s.nodes to) ≡ m → IsTaken f s t from to
  taken_from None m e g =
      let act : act_of f s (event.Pull from to) ≡ Err NotRunning = λ i. pull_of source (e i) (g i) in absurd (refused NotRunning act)
  taken_from (Some o) None e g =
      let act : act_of f s (event.Pull from to) ≡ Err NotRunning = λ i. pull_of source (e i) (g i) in absurd (refused NotRunning act)
  taken_from (Some o) (Some mark) e g = taken_of o mark e g (nat_le o.low mark && nat_lt mark o.produced) refl

  pub taken : IsTaken f s t from to
  taken = taken_from (buffer_of f (part_of to) from (s.nodes from)) (mark_of source to (s.nodes to)) refl refl

-- a replica has made at most the whole edge
made_within : (f : Flow) → IsFlow f → (p : Partition) (t : ℕ) (r : Replica) (o : Buffer) → 1 ≤ p.stage → p.stage ≤ f.stages → p.part < f.sources (p.stage + 1) → buffer_in f p t r ≡ Some o → o.produced ≤ f.length (out_edge p t)
made_within f flow p t Gone o first last part e = let z : ⊥ = cc e in absurd z
made_within f flow p t (Running y) o first last part e =
    let same : made_by f p y.consumer.count t ≡ o.produced = (let z : record { low = y.producer.lows t; produced = made_by f p y.consumer.count t } ≡ o = cc e in ap (λ (k : Buffer). k.produced) z) in
    let most = flow.made_most p t y.consumer.count first last part in omega arith

module _ (f : Flow) (trio : IsTrioFlow f) (to : TrioNode) (here : Partition) (part : part_of to ≡ here.part) (s t : State) where
  -- from a replica of source q
  pub pull_lowers : (q c : ℕ) → 2 ≤ here.stage → here.stage ≤ f.stages + 1 → q < f.sources here.stage → step f s (event.Pull (node.Replica (here.stage - 1) q c) to) ≡ Ok t
      → left_on f here (consumer_at to (t.nodes to)) q < left_on f here (consumer_at to (s.nodes to)) q
  pull_lowers q c low high few done =
      let from = node.Replica (here.stage - 1) q c in
      let x = taken f s t from to done in
      let p = partition (here.stage - 1) q in
      let e : here.stage - 1 + 1 ≡ here.stage = omega arith in
      let most = made_within f trio.flow p (part_of to) (replica_in (s.nodes from)) x.buffer (omega arith) (omega arith) (subst (λ n. q < f.sources n) (sym e) few) x.is in
      let same = ap (λ k. f.length (record { stage = here.stage - 1; from = q; to = k })) part in
      let own = ap (λ (k : Consumer). k.marks q) x.consumer ∙ marks_self (consumer_at to (s.nodes to)) q in
      omega (arith, x.below, most, same, own)

  -- from ingress, which is the one source of stage 1
  pub feed_lowers : (q : ℕ) → here.stage ≡ 1 → q < f.sources here.stage → step f s (event.Pull node.Ingress to) ≡ Ok t
      → left_on f here (consumer_at to (t.nodes to)) q < left_on f here (consumer_at to (s.nodes to)) q
  feed_lowers q first few done =
      let x = taken f s t node.Ingress to done in
      let i = ingress_in (s.nodes node.Ingress) in
      let sources = ap f.sources first in
      let one = trio.one_source in
      let q_is : 0 ≡ q = omega arith in
      let produced : source_made f i (part_of to) ≡ x.buffer.produced = (let z : record { low = i.producer.lows (part_of to); produced = source_made f i (part_of to) } ≡ x.buffer = cc x.is in ap (λ (k : Buffer). k.produced) z) in
      let most = trio.flow.makes_most 0 (part_of to) i.makes in
      let zero_stage : 0 ≡ here.stage - 1 = omega arith in
      let same : f.length (ingress_edge 0 (part_of to)) ≡ f.length (in_edge here q) = λ j. f.length (record { stage = zero_stage j; from = q_is j; to = part j }) in
      let own = ap (λ (k : Consumer). k.marks q) (x.consumer ∙ ap (pulled (consumer_at to (s.nodes to))) q_is) ∙ marks_self (consumer_at to (s.nodes to)) q in
      let mark = ap (consumer_at to (s.nodes to)).marks q_is in
      omega (arith, x.below, produced, most, same, own, mark)

-- ---- a merge

all_hold : (n : ℕ) (test : ℕ → Bool) → all_below n test ≡ true → (q : ℕ) → q < n → test q ≡ true
all_hold zero test e q l = absurd (omega arith)
all_hold (suc n) test e q l = go (q == n) (eqb-true q n) (eq-eqb q n) (λ h. all_hold n test (both (all_below n test) (test n) e).0 q h)
  where
    go : (c : Bool) → (c ≡ true → q ≡ n) → (q ≡ n → c ≡ true) → (q < n → test q ≡ true) → test q ≡ true
    go true is isn old = ap test (is refl) ∙ (both (all_below n test) (test n) e).1
    go false is isn old = old (less (λ h. (let z : false ≡ true = isn h in let w : ⊥ = cc z in w)))
      where
        less : (q ≡ n → ⊥) → q < n
        less ne = omega arith

-- a merge that is ready goes on
ready_less : (f : Flow) → IsFlow f → (p : Partition) (c : Consumer) → 1 ≤ p.stage → p.stage ≤ f.stages + 1 → ConsumerBound f p c → is_ready f p c ≡ true → c.count < f.total p
ready_less f flow p c low high bound e = flow.more_left p c.count low high
    (λ q l. let below = ltb-true (f.used p q c.count) (c.marks q) (all_hold (f.sources p.stage) (λ j. nat_lt (f.used p j c.count) (c.marks j)) e q l) in let most = bound.most q in omega arith)

record Merges (f : Flow) (to : TrioNode) (x : Node) : Type 0 where
  eats : Eats to x
  ready : is_ready f (partition_at f to) (consumer_at to x) ≡ true

replica_merges : (f : Flow) (p : Partition) (r : Replica) → ReplicaIsReady f p r → IsRunning r × (is_ready f p (consumer_in r) ≡ true)
replica_merges f p Gone h = absurd h
replica_merges f p (Running x) h = (tt, h)

merges : (f : Flow) (to : TrioNode) (x : Node) → MergeIsReady f to x → Merges f to x
merges f node.Ingress x h = absurd h
merges f (node.Replica s p c) x h = let z = replica_merges f (partition s p) (replica_in x) h in record { eats = z.0; ready = z.1 }
merges f (node.Control s p) x h = absurd h
merges f node.Egress x h = record { eats = tt; ready = h }

pub work_lowers : (f : Flow) → IsTrioFlow f → (to : TrioNode) (s t : State) → 1 ≤ (partition_at f to).stage → (partition_at f to).stage ≤ f.stages + 1 → IsSound f s → MergeIsReady f to (s.nodes to) → step f s (event.Work to) ≡ Ok t
    → f.total (partition_at f to) - (consumer_at to (t.nodes to)).count < f.total (partition_at f to) - (consumer_at to (s.nodes to)).count
work_lowers f trio to s t low high g h done =
    let m = merges f to (s.nodes to) h in
    let x = works_done f to (s.nodes to) m.eats m.ready in
    let stepped = act_done f s (event.Work to) Works x.node refl x.done in
    let same : put to s x.node [] ≡ t = (let z : Ok (put to s x.node []) ≡ Ok t = sym stepped ∙ done in cc z) in
    let c = consumer_at to (s.nodes to) in
    let after : consumer_at to (t.nodes to) ≡ merged_one c = subst (λ (u : State). consumer_at to (u.nodes to) ≡ merged_one c) same (ap (consumer_at to) (put_there to s x.node []) ∙ x.consumer) in
    let count = ap (λ (k : Consumer). k.count) after in
    let less = ready_less f trio.flow (partition_at f to) c low high (bound_of f to (s.nodes to) m.eats (g.nodes to).bound) m.ready in
    omega (arith, count, less)
