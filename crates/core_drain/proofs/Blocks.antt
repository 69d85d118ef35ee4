-- The drain of the machine as blocks, each of one event again and again, and that each is over where it ends: it lowered what was left to none.
use Rattle.std.proofs.Common.{◌≡◌, ◌≢◌, ◌<◌, ◌≤◌, ℕ, zero, suc, true, false, List, [], ◌∷◌, ◌++◌, Ok, refl, sym, ap, ◌∙◌, subst, arith, append_assoc}
use Rattle.std.specs.Prelude.{◌-◌, ◌+◌, ◌==◌, replicate}
use Rattle.std.proofs.lemmas.Bool.{eq-eqb}
use Rattle.std.proofs.lemmas.List.{append-nil}
use Rattle.tuple_edge.specs.declared.event.Event.{Event}
use Rattle.tuple_edge.specs.declared.event.Event.TheVariants as event
use Rattle.tuple_edge.specs.declared.node.NodeId.{NodeId}
use Rattle.tuple_edge.specs.declared.node.NodeId.TheVariants as node
use Rattle.tuple_edge.specs.Node.{part_of}
use Rattle.pair_machine.specs.Boundary.{egress_partition}
use Rattle.pair_machine.specs.Drain.{AreDrainEvents, IsDrainEvent, IsDrainable, IsDrained, IsEgressDone, drain, drain_events, drain_into, drain_pair, drain_pairs, drainer, left_on, pairs_up_to, partition, parts_below, pulls_below, pulls_into, source_of}
use Rattle.pair_machine.specs.Flow.{Flow, IsFlow}
use Rattle.pair_machine.specs.Legal.{IsLegalFrom}
use Rattle.pair_machine.specs.Machine.{State, egress_in, ingress_in, step}
use Rattle.pair_machine.specs.Numbers.{Consumer, Partition, replica_at}
use Rattle.pair_machine.specs.Replicas.{sum_below}
use Rattle.pair_machine.proofs.DrainMoves.{consumer_at, partition_at}
use Rattle.pair_machine.proofs.DrainSteps.{Ahead}
use Rattle.pair_machine.proofs.DrainWhole.{drain_whole}
use Rattle.pair_machine.proofs.Legal.{legal_split}
use Rattle.pair_machine.proofs.PlanFlow.{plan_is_flow}
use Rattle.pair_machine.proofs.Tests.{nat_not}
use Rattle.core_drain.specs.Progress.{IsBlock, IsTurnOf, MayBegin, Start, before_turn, consumer_of, done_before, flow_at, makes_left, partition_in, pulls_of, turn_of}
use Rattle.core_drain.proofs.Events.{along, drains_front, drains_split}
use Rattle.core_drain.proofs.Fronts.{IsFront, events_front, front_after, front_more, front_on, front_self, pairs_next, parts_front, pulls_front, stages_front}
use Rattle.core_drain.proofs.Over.{feed_lowers, grew_at, lowered, make_lowers, pull_lowers, sum_less, work_lowers}

-- what a consumer pulls from the first n of its sources
abbrev pub pulls_up_to : Start → NodeId → ℕ → List Event
pulls_up_to b to n = pulls_below (flow_at b) b.state (partition_in (flow_at b) to) to (consumer_of b to) n

pub undone_events : (f : Flow) (s : State) → (IsEgressDone f s → ⊥) → drain f s ≡ drain_events f s
undone_events f s undone = let e : ((egress_in (s.nodes node.Egress)).count == f.total (egress_partition f)) ≡ false = nat_not (egress_in (s.nodes node.Egress)).count (f.total (egress_partition f)) undone in simp e

pub done_events : (f : Flow) (s : State) → IsEgressDone f s → drain f s ≡ []
done_events f s done = let e : ((egress_in (s.nodes node.Egress)).count == f.total (egress_partition f)) ≡ true = eq-eqb (egress_in (s.nodes node.Egress)).count (f.total (egress_partition f)) done in simp e

module _ (b : Start) (m : MayBegin b) where
  abbrev f : Flow
  f = flow_at b

  abbrev s0 : State
  s0 = b.state

  abbrev makes : List Event
  makes = replicate (makes_left b) event.Make

  flow : IsFlow f
  flow = plan_is_flow b.plan b.inputs m.plan

  law : IsDrained b.plan b.inputs s0
  law = drain_whole b.plan b.inputs m.plan s0 m.drainable m.served

  listed : drain f s0 ≡ drain_events f s0
  listed = undone_events f s0 m.undone

  -- an event that lowers a number which no event raises is a block where it is done as often as the number says
  block : (done : List Event) (e : Event) (n : ℕ) (left : State → ℕ) → ((s t : State) → IsDrainable f s → IsDrainEvent f s e → step f s e ≡ Ok t → left t < left s) → ((s t : State) → Ahead s t → left t ≤ left s)
      → left s0 ≤ n → IsFront (done ++ replicate n e) (drain_events f s0) → IsBlock b done e n
  block done e n left lowers falls few front =
      let xs = done ++ replicate n e in
      let whole = listed ∙ sym front.whole in
      let legal : IsLegalFrom f s0 (xs ++ front.rest) law.reached = subst (λ es. IsLegalFrom f s0 es law.reached) whole law.legal in
      let ready : AreDrainEvents f (xs ++ front.rest) (Ok s0) = subst (λ es. AreDrainEvents f es (Ok s0)) whole law.ready in
      let halves = legal_split f s0 law.reached xs front.rest legal in
      let ready_xs = drains_front f xs front.rest (Ok s0) ready in
      let u = halves.0 in
      let parts = legal_split f s0 u done (replicate n e) halves.1 in
      let before = along f flow done s0 parts.0 m.drainable parts.1 (drains_front f done (replicate n e) (Ok s0) ready_xs) in
      let low = lowered f flow e left lowers n parts.0 u before.drainable parts.2 (drains_split f done (replicate n e) (Ok s0) parts.0 parts.1.leads ready_xs) in
      let first = falls s0 parts.0 before.went.ahead in
      let here = along f flow xs s0 u m.drainable halves.1 ready_xs in
      record {
        reached = u;
        legal = halves.1;
        ready = ready_xs;
        over = λ d t stepped. (let less = lowers u t here.drainable d stepped in let z : ⊥ = omega arith in z);
        rest = front.rest;
        whole = front.whole;
      }

  pub makes_block : IsBlock b [] event.Make (makes_left b)
  makes_block = block [] event.Make (makes_left b) (λ s. f.makes - (ingress_in (s.nodes node.Ingress)).makes) (λ s t g d done. make_lowers f s t done)
      (λ s t a. let z = (a node.Ingress).1 in omega arith) (omega arith) (front_more makes _)

  -- ---- a turn

  module _ (to : NodeId) (part : part_of to ≡ (partition_at f to).part) (low : 1 ≤ (partition_at f to).stage) (high : (partition_at f to).stage ≤ f.stages + 1) (done : List Event)
      (front : IsFront (done ++ drain_into f s0 (partition_at f to) to (consumer_at to (s0.nodes to))) (drain_events f s0)) where
    abbrev here : Partition
    here = partition_at f to

    abbrev c : Consumer
    c = consumer_at to (s0.nodes to)

    abbrev source : ℕ → NodeId
    source q = replica_at (source_of here q) (drainer s0 (source_of here q))

    -- a front of the turn is one of the drain
    within : (ys : List Event) (e : Event) (n : ℕ) → IsFront (ys ++ replicate n e) (drain_into f s0 here to c) → IsFront ((done ++ ys) ++ replicate n e) (drain_events f s0)
    within ys e n fr =
        let zs = ys ++ replicate n e in
        let all = front_on (done ++ zs) (done ++ drain_into f s0 here to c) (drain_events f s0) (front_after done zs (drain_into f s0 here to c) fr) front in
        subst (λ es. IsFront es (drain_events f s0)) (sym (append_assoc done ys (replicate n e))) all

    later_pulls : here.stage ≢ 1 → pulls_into f s0 here to c ≡ pulls_below f s0 here to c (f.sources here.stage)
    later_pulls ne = let e : (here.stage == 1) ≡ false = nat_not here.stage 1 ne in simp e

    first_pulls : here.stage ≡ 1 → pulls_into f s0 here to c ≡ replicate (sum_below (f.sources here.stage) (left_on f here c)) (event.Pull node.Ingress to)
    first_pulls is = let e : (here.stage == 1) ≡ true = eq-eqb here.stage 1 is in simp e

    pulls_first : IsFront (pulls_into f s0 here to c) (drain_into f s0 here to c)
    pulls_first = front_more (pulls_into f s0 here to c) (replicate (f.total here - c.count) (event.Work to))

    left_falls : (q : ℕ) (s t : State) → Ahead s t → left_on f here (consumer_at to (t.nodes to)) q ≤ left_on f here (consumer_at to (s.nodes to)) q
    left_falls q s t a = let z = (grew_at to (s.nodes to) (t.nodes to) (a to)).marks q in omega arith

    pull_block : here.stage ≢ 1 → (q : ℕ) → q < f.sources here.stage → IsBlock b (done ++ pulls_below f s0 here to c q) (event.Pull (source q) to) (left_on f here c q)
    pull_block ne q l =
        let some = pulls_below f s0 here to c (suc q) in
        let all = pulls_front f s0 here to c (suc q) (f.sources here.stage) l in
        let inside = front_on some (pulls_into f s0 here to c) (drain_into f s0 here to c) (subst (IsFront some) (sym (later_pulls ne)) all) pulls_first in
        block (done ++ pulls_below f s0 here to c q) (event.Pull (source q) to) (left_on f here c q) (λ s. left_on f here (consumer_at to (s.nodes to)) q)
        (λ s t g d stepped. pull_lowers f flow to here part s t q (drainer s0 (source_of here q)) (omega arith) high l stepped) (left_falls q) (omega arith)
        (within (pulls_below f s0 here to c q) (event.Pull (source q) to) (left_on f here c q) inside)

    feed_block : here.stage ≡ 1 → IsBlock b (done ++ []) (event.Pull node.Ingress to) (sum_below (f.sources here.stage) (left_on f here c))
    feed_block first =
        let n = sum_below (f.sources here.stage) (left_on f here c) in
        block (done ++ []) (event.Pull node.Ingress to) n (λ s. sum_below (f.sources here.stage) (left_on f here (consumer_at to (s.nodes to))))
        (λ s t g d stepped. feed_lowers f flow to here part s t first stepped)
        (λ s t a. sum_less (f.sources here.stage) (left_on f here (consumer_at to (t.nodes to))) (left_on f here (consumer_at to (s.nodes to))) (λ q. left_falls q s t a)) (omega arith)
        (within [] (event.Pull node.Ingress to) n (subst (λ es. IsFront es (drain_into f s0 here to c)) (first_pulls first) pulls_first))

    work_block : IsBlock b (done ++ pulls_into f s0 here to c) (event.Work to) (f.total here - c.count)
    work_block = block (done ++ pulls_into f s0 here to c) (event.Work to) (f.total here - c.count) (λ s. f.total here - (consumer_at to (s.nodes to)).count)
        (λ s t g d stepped. work_lowers f flow to s t low high g d stepped) (λ s t a. let z = (grew_at to (s.nodes to) (t.nodes to) (a to)).count in omega arith) (omega arith)
        (within (pulls_into f s0 here to c) (event.Work to) (f.total here - c.count) (front_self (drain_into f s0 here to c)))

  -- ---- the turn of a drainer, and of egress

  abbrev at_turn : NodeId → Partition
  at_turn to = partition_in f to

  pub record Turn (to : NodeId) : Type 0 where
    pub pulls : (at_turn to).stage ≢ 1 → (q : ℕ) → q < f.sources (at_turn to).stage
        → IsBlock b (before_turn b to ++ pulls_up_to b to q) (event.Pull (replica_at (source_of (at_turn to) q) (drainer b.state (source_of (at_turn to) q))) to) (left_on f (at_turn to) (consumer_of b to) q)
    pub feeds : (at_turn to).stage ≡ 1 → IsBlock b (before_turn b to ++ []) (event.Pull node.Ingress to) (sum_below (f.sources (at_turn to).stage) (left_on f (at_turn to) (consumer_of b to)))
    pub works : IsBlock b (before_turn b to ++ pulls_of b to) (event.Work to) (f.total (at_turn to) - (consumer_of b to).count)

  -- the pairs before one, and it, are the first pairs
  pair_front : (k n : ℕ) → suc k ≤ f.stages → n < f.sources (suc k + 1) → IsFront ((pairs_up_to f k ++ parts_below (suc k) n) ++ partition (suc k) n ∷ []) (pairs_up_to f f.stages)
  pair_front k n l few =
      let ps = (pairs_up_to f k ++ parts_below (suc k) n) ++ partition (suc k) n ∷ [] in
      let assoc = append_assoc (pairs_up_to f k) (parts_below (suc k) n) (partition (suc k) n ∷ []) in
      let inside : IsFront (pairs_up_to f k ++ parts_below (suc k) (suc n)) (pairs_up_to f (suc k)) = front_after (pairs_up_to f k) (parts_below (suc k) (suc n)) (parts_below (suc k) (f.sources (suc k + 1))) (parts_front (suc k) (suc n) (f.sources (suc k + 1)) few) in
      front_on ps (pairs_up_to f (suc k)) (pairs_up_to f f.stages) (subst (λ qs. IsFront qs (pairs_up_to f (suc k))) (sym assoc) inside) (stages_front f (suc k) f.stages l)

  pair_turn : (k n : ℕ) → suc k ≤ f.stages → n < f.sources (suc k + 1) → IsFront (done_before b (suc k) n ++ drain_pair f s0 (partition (suc k) n)) (drain_events f s0)
  pair_turn k n l few =
      let ps = pairs_up_to f k ++ parts_below (suc k) n in
      let p = partition (suc k) n in
      let all = pairs_up_to f f.stages in
      let last = drain_into f s0 (egress_partition f) node.Egress (egress_in (s0.nodes node.Egress)) in
      let inside = front_on (drain_pairs f s0 (ps ++ p ∷ [])) (drain_pairs f s0 all) (drain_pairs f s0 all ++ last) (events_front f s0 (ps ++ p ∷ []) all (pair_front k n l few)) (front_more (drain_pairs f s0 all) last) in
      let e : k ≡ suc k - 1 = omega arith in
      let joined : makes ++ drain_pairs f s0 (ps ++ p ∷ []) ≡ done_before b (suc k) n ++ drain_pair f s0 p =
      ap (λ es. makes ++ es) (pairs_next f s0 ps p) ∙ (sym (append_assoc makes (drain_pairs f s0 ps) (drain_pair f s0 p))
      ∙ ap (λ j. (makes ++ drain_pairs f s0 (pairs_up_to f j ++ parts_below (suc k) n)) ++ drain_pair f s0 p) e) in
      subst (λ es. IsFront es (drain_events f s0)) joined (front_after makes (drain_pairs f s0 (ps ++ p ∷ [])) (drain_pairs f s0 all ++ last) inside)

  -- egress comes last
  pub last_turn : done_before b (f.stages + 1) 0 ++ turn_of b node.Egress ≡ drain_events f s0
  last_turn =
      let last = turn_of b node.Egress in
      let e : f.stages + 1 - 1 ≡ f.stages = omega arith in
      ap (λ j. (makes ++ drain_pairs f s0 (pairs_up_to f j ++ [])) ++ last) e ∙ (ap (λ ps. (makes ++ drain_pairs f s0 ps) ++ last) (append-nil (pairs_up_to f f.stages)) ∙ append_assoc makes (drain_pairs f s0 (pairs_up_to f f.stages)) last)

  pub turn : (to : NodeId) → IsTurnOf b to → Turn to
  turn node.Ingress h = absurd h
  turn (node.Control s p) h = absurd h
  turn node.Egress h =
      let done = done_before b (f.stages + 1) 0 in
      let front : IsFront (done ++ turn_of b node.Egress) (drain_events f s0) = record { rest = []; whole = append-nil (done ++ turn_of b node.Egress) ∙ last_turn } in
      record {
        pulls = pull_block node.Egress refl (omega arith) (omega arith) done front;
        feeds = feed_block node.Egress refl (omega arith) (omega arith) done front;
        works = work_block node.Egress refl (omega arith) (omega arith) done front;
      }
  turn (node.Replica zero p w) h = let l = h.0.first in absurd (omega arith)
  turn (node.Replica (suc k) p w) h =
      let last = h.0.last in
      let to = node.Replica (suc k) p w in
      let done = done_before b (suc k) p in
      let front : IsFront (done ++ drain_into f s0 (partition (suc k) p) to (consumer_at to (s0.nodes to))) (drain_events f s0) =
      subst (λ v. IsFront (done ++ drain_into f s0 (partition (suc k) p) (node.Replica (suc k) p v) (consumer_at (node.Replica (suc k) p v) (s0.nodes (node.Replica (suc k) p v)))) (drain_events f s0)) (sym h.1) (pair_turn k p last h.0.part) in
      record {
        pulls = pull_block to refl (omega arith) (omega arith) done front;
        feeds = feed_block to refl (omega arith) (omega arith) done front;
        works = work_block to refl (omega arith) (omega arith) done front;
      }
