-- What a replica does keeps it sound, what it sends is sound, and its marks don't fall.
use Rattle.std.proofs.Common.{◌≡◌, ◌<◌, ◌≤◌, ℕ, List, Option, None, Some, Result, Ok, Err, ◌+◌, ◌-◌, refl, ap, sym, subst, arith}
use Rattle.std.specs.Prelude.{nat_lt}
use Rattle.tuple_edge.specs.declared.node.EdgeId.{EdgeId}
use Rattle.pair_machine.specs.Consumers.{is_ready, untold, telling, merged_one, pulled}
use Rattle.pair_machine.specs.CountLaws.{IsOfStage}
use Rattle.pair_machine.specs.Drain.{partition}
use Rattle.pair_machine.specs.Flow.{Flow}
use Rattle.pair_machine.specs.Numbers.{Partition, in_edge, out_edge}
use Rattle.pair_machine.specs.Producers.{Due, due, sent_on}
use Rattle.pair_machine.specs.Replicas.{made_by}
use Rattle.pair_machine.proofs.Found.{FoundIn, first_found}
use Rattle.pair_machine.proofs.Tests.{if_elim}
use Rattle.trio_machine.specs.Reports.{IsRunning, MarkAtLeast}
use Rattle.trio_machine.specs.Flow.{IsTrioFlow}
use Rattle.trio_machine.specs.Messages.{Ack, Act, Dies, Envelope, Lead, Makes, Message, Pulls, Refusal, Takes, Tuple, Works}
use Rattle.trio_machine.specs.Numbers.{Gone, Replica, ReplicaNode, Running, RunningNumbers, group_size}
use Rattle.trio_machine.specs.Replicas.{replica_does, replica_takes, replica_works, reports, run_takes, sends_or_reports}
use Rattle.trio_machine.specs.Sound.{IsSoundMessage, IsSoundNode}
use Rattle.trio_machine.specs.declared.node.TrioNode.{TrioNode}
use Rattle.trio_machine.specs.declared.node.TrioNode.TheVariants as node
use Rattle.trio_machine.proofs.BoundaryKept.{TakesSound, edge_as}
use Rattle.trio_machine.proofs.Bounds.{acked_bound, acked_lows, leading_bound, leading_lows, merged_bound, offered_bound, offered_marks, pulled_bound, pulled_marks, sent_bound, telling_bound}
use Rattle.trio_machine.proofs.Frame.{AreSound, ReplicaRises}
use Rattle.trio_machine.proofs.Sends.{due_is, due_sound}

module _ (f : Flow) (ok : IsTrioFlow f) (k : EdgeId → ℕ) (r : Partition → ℕ → Replica) (s q c : ℕ) (at : IsOfStage f (partition s q)) (there : c < group_size) where
  abbrev p : Partition
  p = partition s q

  abbrev me : TrioNode
  me = node.Replica s q c

  abbrev SoundReplica : Replica → Type 0
  SoundReplica x = IsSoundNode f k r me (ReplicaNode x)

  -- what it sends is sound where the group has it as it is then
  abbrev pub ReplicaOk : Result (Replica × List Envelope) Refusal → Type 0
  ReplicaOk (Ok d) = SoundReplica d.0 × (r p c ≡ d.0 → AreSound f k r me d.1)
  ReplicaOk (Err e) = Unit {0}

  gone_sound : SoundReplica Gone
  gone_sound = record { bound = tt; lows = tt; reports = tt }

  run_took : (from : TrioNode) (m : Message) (x : RunningNumbers) → IsSoundMessage f k r from me m → SoundReplica (Running x) → SoundReplica (Running (run_takes m x))
  run_took from (Tuple e n) x h b =
      let stage : e.stage ≡ s - 1 = omega (arith, h.carried.carries.1.0) in
      let same = ap f.length (edge_as e (s - 1) e.from q stage refl h.carried.carries.1.1) in
      let l = h.bound.1 in
      let last = at.last in
      record { bound = (offered_bound f ok.flow p at.first (omega arith) x.consumer e.from n (omega arith) b.bound.0, b.bound.1); lows = b.lows; reports = tt }
  run_took from (Ack e u) x h b =
      let same = ap k (edge_as e s q e.to h.carried.carries.1.1 h.carried.carries.1.2 refl) in
      let low = h.lows in
      record { bound = (b.bound.0, acked_bound x.producer e.to u b.bound.1); lows = acked_lows (λ t. k (out_edge p t)) x.producer e.to u (omega arith) b.lows; reports = tt }
  run_took from (Lead term) x h b = record { bound = (b.bound.0, leading_bound x.producer term b.bound.1); lows = leading_lows (λ t. k (out_edge p t)) x.producer term b.lows; reports = tt }
  run_took from message x h b = b

  took : (from : TrioNode) (m : Message) (x : Replica) → IsSoundMessage f k r from me m → SoundReplica x → SoundReplica (replica_takes m x)
  took from m Gone h b = gone_sound
  took from m (Running x) h b = run_took from m x h b

  reports_sound : (x : RunningNumbers) (o : Option ℕ) → FoundIn (λ j. nat_lt (x.consumer.told j) (x.consumer.marks j)) (f.sources s) o → SoundReplica (Running x) → ReplicaOk (reports f p x o)
  reports_sound x None h b = tt
  reports_sound x (Some j) h b =
      let last = at.last in let first = at.first in (
        record { bound = (telling_bound f ok.flow p at.first (omega arith) x.consumer j b.bound.0, b.bound.1); lows = b.lows; reports = tt },
        λ is. (
          record {
            carried = record { sender = (at, there); receiver = at; carries = ((refl, refl), (omega arith, refl, h.1)) };
            bound = tt;
            lows = tt;
            reports = subst (MarkAtLeast j (x.consumer.marks j)) (sym is) (let l : x.consumer.marks j ≤ x.consumer.marks j = omega arith in l);
          },
          tt,
        ),
      )

  sends_sound : (x : RunningNumbers) (o : Option Due) → due f p (made_by f p x.consumer.count) x.producer ≡ o → SoundReplica (Running x) → ReplicaOk (sends_or_reports f p x o)
  sends_sound x (Some d) e b =
      let is = due_is f p (made_by f p x.consumer.count) x.producer d e in
      let l = b.bound.1.above d.to d.copy in let most = ok.flow.made_most p d.to x.consumer.count at.first at.last at.part in (
        record { bound = (b.bound.0, sent_bound x.producer d is.1 b.bound.1); lows = b.lows; reports = tt },
        λ same. due_sound f ok k r p me (made_by f p x.consumer.count) x.producer d at.last (at, there) (at.first, refl, refl) e (omega (arith, is.1), omega (arith, is.2)),
      )
  sends_sound x None e b = reports_sound x (untold f p x.consumer) (first_found (f.sources s) (λ j. nat_lt (x.consumer.told j) (x.consumer.marks j))) b

  works_sound : (x : Replica) → SoundReplica x → ReplicaOk (replica_works f p x)
  works_sound Gone b = tt
  works_sound (Running x) b = let last = at.last in if_elim ReplicaOk (is_ready f p x.consumer) _ _
      (λ e. (record { bound = (merged_bound f ok.flow p at.first (omega arith) x.consumer e b.bound.0, b.bound.1); lows = b.lows; reports = tt }, λ is. tt))
      (λ e. sends_sound x (due f p (made_by f p x.consumer.count) x.producer) refl b)

  -- the next item of an in-edge is one of the edge
  abbrev pub PullFits : Act → Replica → Type 0
  PullFits (Pulls j) x = (y : RunningNumbers) → x ≡ Running y → y.consumer.marks j + 1 ≤ f.length (in_edge p j)
  PullFits a x = Unit {0}

  pub replica_sound : (a : Act) (x : Replica) → TakesSound f k r me a → PullFits a x → SoundReplica x → ReplicaOk (replica_does f p a x)
  replica_sound (Takes from m) x h g b = (took from m x h b, λ is. tt)
  replica_sound Works x h g b = works_sound x b
  replica_sound Makes x h g b = tt
  replica_sound Dies Gone h g b = tt
  replica_sound Dies (Running x) h g b = (gone_sound, λ is. (record { carried = record { sender = (at, there); receiver = at; carries = (refl, refl) }; bound = tt; lows = tt; reports = λ run. subst IsRunning is run }, tt))
  replica_sound (Pulls j) Gone h g b = tt
  replica_sound (Pulls j) (Running x) h g b = let last = at.last in
      (record { bound = (pulled_bound f ok.flow p at.first (omega arith) x.consumer j (g x refl) b.bound.0, b.bound.1); lows = b.lows; reports = tt }, λ is. tt)

-- ---- marks don't fall, and none that is gone comes back

abbrev pub RisesOk : Replica → Result (Replica × List Envelope) Refusal → Type 0
RisesOk x (Ok d) = ReplicaRises x d.0
RisesOk x (Err e) = Unit {0}

same_rises : (x : Replica) → ReplicaRises x x
same_rises x = record { marks = λ q j h. h; gone = λ run. run }

run_rises : (x y : RunningNumbers) → ((q : ℕ) → x.consumer.marks q ≤ y.consumer.marks q) → ReplicaRises (Running x) (Running y)
run_rises x y h = record { marks = λ q j m. let l = h q in omega arith; gone = λ run. tt }

run_took_rises : (m : Message) (x : RunningNumbers) (q : ℕ) → x.consumer.marks q ≤ (run_takes m x).consumer.marks q
run_took_rises (Tuple e n) x q = offered_marks x.consumer e.from n q
run_took_rises message x q = omega arith

took_rises : (m : Message) (x : Replica) → ReplicaRises x (replica_takes m x)
took_rises m Gone = same_rises Gone
took_rises m (Running x) = run_rises x (run_takes m x) (run_took_rises m x)

module _ (f : Flow) (p : Partition) where
  reports_rises : (x : RunningNumbers) (o : Option ℕ) → RisesOk (Running x) (reports f p x o)
  reports_rises x None = tt
  reports_rises x (Some i) = run_rises x (record x { consumer = telling x.consumer i }) (λ q. omega arith)

  sends_rises : (x : RunningNumbers) (o : Option Due) → RisesOk (Running x) (sends_or_reports f p x o)
  sends_rises x (Some d) = run_rises x (record x { producer = sent_on x.producer d }) (λ q. omega arith)
  sends_rises x None = reports_rises x (untold f p x.consumer)

  works_rises : (x : Replica) → RisesOk x (replica_works f p x)
  works_rises Gone = tt
  works_rises (Running x) = if_elim (RisesOk (Running x)) (is_ready f p x.consumer) _ _ (λ e. run_rises x (record x { consumer = merged_one x.consumer }) (λ q. omega arith))
      (λ e. sends_rises x (due f p (made_by f p x.consumer.count) x.producer))

  pub replica_rises : (a : Act) (x : Replica) → RisesOk x (replica_does f p a x)
  replica_rises (Takes from m) x = took_rises m x
  replica_rises Works x = works_rises x
  replica_rises Makes x = tt
  replica_rises Dies Gone = tt
  replica_rises Dies (Running x) = record { marks = λ q j h. tt; gone = λ run. absurd run }
  replica_rises (Pulls i) Gone = tt
  replica_rises (Pulls i) (Running x) = run_rises x (record x { consumer = pulled x.consumer i }) (pulled_marks x.consumer i)
