-- The drain is whole: its events are legal from a state in which no pair is lost, they send nothing, and egress merges all.
use Rattle.std.proofs.Common.{◌≡◌, ◌<◌, ◌≤◌, ◌⊎◌, inl, inr, ℕ, zero, suc, true, false, List, [], ◌∷◌, ◌++◌, Some, Result, Ok, Err, refl, sym, ap, ◌∙◌, subst, arith}
use Rattle.std.specs.Prelude.{◌==◌, ◌-◌, ◌+◌, replicate}
use Rattle.std.proofs.lemmas.Bool.{cases_lt, eq-eqb, eqb-true, lt-ltb, ltb-true}
use Rattle.tuple_edge.specs.declared.event.Event.{Event}
use Rattle.tuple_edge.specs.declared.event.Event.TheVariants as event
use Rattle.tuple_edge.specs.declared.node.NodeId.{NodeId}
use Rattle.tuple_edge.specs.declared.node.NodeId.TheVariants as node
use Rattle.tuple_edge.specs.declared.node.Which.{Which}
use Rattle.tuple_edge.specs.Node.{part_of}
use Rattle.pair_machine.specs.Acknowledged.{acked_of}
use Rattle.pair_machine.specs.Boundary.{source_made}
use Rattle.pair_machine.specs.Consumers.{is_ready, merged_one, pulled}
use Rattle.pair_machine.specs.Controllers.{counts}
use Rattle.pair_machine.specs.CountLaws.{HasTakenAll, IsMerging, IsOfStage, MergesToTheEnd}
use Rattle.pair_machine.specs.Drain.{AreDrainEvents, IsDrainEvent, IsDrainable, IsQuiet, consumer_in, drain_into, drainer, left_on, partition, pulls_below, pulls_into, source_of}
use Rattle.pair_machine.specs.Flow.{Flow, IsFlow}
use Rattle.pair_machine.specs.Legal.{IsLegalFrom}
use Rattle.pair_machine.specs.Links.{HasEdge, HasNode, IsConsumer, IsThere}
use Rattle.pair_machine.specs.Machine.{Buffer, State, buffer_in, buffer_of, controller_in, follow, ingress_in, is_behind, mark_of, pulled_source, replica_in, source_pulled, step}
use Rattle.pair_machine.specs.Messages.{Pulls, Refusal, Works}
use Rattle.pair_machine.specs.Numbers.{Consumer, Gathering, Gone, Partition, Replica, Running, control_at, in_edge, ingress_edge, out_edge, replica_at}
use Rattle.pair_machine.specs.Pairs.{side_of}
use Rattle.pair_machine.specs.Replicas.{made_by, sum_below}
use Rattle.pair_machine.specs.Sound.{IsRunning, LowAtMost, Serves}
use Rattle.pair_machine.proofs.DrainMoves.{Eats, act_done, bound_of, consumer_at, consumer_grew, eats_grew, mark_counted, mark_there, partition_at, pull_act, pulls_done, put_there, ready_there, running_grew, works_done}
use Rattle.pair_machine.proofs.DrainSteps.{Ahead, drain_step, grew_on, grew_self, put}
use Rattle.pair_machine.proofs.DrainSums.{marks_other, marks_self, sum_none, sum_pulled, sum_some}
use Rattle.pair_machine.proofs.Legal.{legal_join}
use Rattle.pair_machine.proofs.Sources.{pull_takes}
use Rattle.pair_machine.proofs.StepTurns.{some_found}
use Rattle.pair_machine.proofs.Tests.{if_elim}

-- what the drain rests on, of a plan's numbers
pub record DrainFlow (f : Flow) : Type 0 where
  pub flow : IsFlow f
  pub ends : MergesToTheEnd f
  pub made_whole : (p : Partition) (t : ℕ) → IsOfStage f p → f.made (out_edge p t) (f.total p) ≡ f.length (out_edge p t)
  pub makes_whole : (q t : ℕ) → q < f.sources 1 → f.made (ingress_edge q t) f.makes ≡ f.length (ingress_edge q t)

-- more of the drain's events after the first ones
drains_join : (f : Flow) (xs ys : List Event) (r : Result State Refusal) (t : State) → follow f xs r ≡ Ok t → AreDrainEvents f xs r → AreDrainEvents f ys (Ok t) → AreDrainEvents f (xs ++ ys) r
drains_join f [] ys r t leads a b = subst (AreDrainEvents f ys) (sym leads) b
drains_join f (x ∷ xs) ys (Ok s) t leads a b = (a.0, drains_join f xs ys (step f s x) t leads a.1 b)
drains_join f (x ∷ xs) ys (Err e) t leads a b = tt

-- events that lead on quietly
pub record Went (f : Flow) (s : State) (es : List Event) (t : State) : Type 0 where
  pub legal : IsLegalFrom f s es t
  pub ready : AreDrainEvents f es (Ok s)
  pub ahead : Ahead s t
  pub quiet : IsQuiet s t

pub went_none : (f : Flow) (s : State) → Went f s [] s
went_none f s = record { legal = record { there = tt; leads = refl }; ready = tt; ahead = λ n. grew_self n (s.nodes n); quiet = λ l. refl }

pub went_on : (f : Flow) (s t u : State) (xs ys : List Event) → Went f s xs t → Went f t ys u → Went f s (xs ++ ys) u
went_on f s t u xs ys a b = record {
  legal = legal_join f s t u xs ys a.legal b.legal;
  ready = drains_join f xs ys (Ok s) t a.legal.leads a.ready b.ready;
  ahead = λ n. grew_on n (s.nodes n) (t.nodes n) (u.nodes n) (a.ahead n) (b.ahead n);
  quiet = λ l. b.quiet l ∙ a.quiet l;
}

-- the same event, until a measure is none
pub looped : (f : Flow) (e : Event) (I : State → Type 0) (left : State → ℕ) →
    ((s : State) (m : ℕ) → I s → left s ≡ suc m → (t : State) × Went f s (e ∷ []) t × I t × (left t ≡ m)) →
    (n : ℕ) (s : State) → I s → left s ≡ n → (t : State) × Went f s (replicate n e) t × I t × (left t ≡ 0)
looped f e I left one zero s i z = (s, went_none f s, i, z)
looped f e I left one (suc m) s i z =
    let a = one s m i z in
    let b = looped f e I left one m a.0 a.2 a.3 in
    (b.0, went_on f s a.0 b.0 (e ∷ []) (replicate m e) a.1 b.1, b.2, b.3)

module _ (f : Flow) (df : DrainFlow f) (d : Partition → Which) where
  -- ---- what holds on the way

  -- the drainers serve
  pub record Base (t : State) : Type 0 where
    pub drainable : IsDrainable f t
    pub serves : (p : Partition) → IsOfStage f p → Serves (side_of t p (d p))

  serves_ahead : (s t : State) (p : Partition) (w : Which) → Ahead s t → Serves (side_of s p w) → Serves (side_of t p w)
  serves_ahead s t p w a h =
      let r = running_grew (replica_in (s.nodes (replica_at p w))) (replica_in (t.nodes (replica_at p w))) (a (replica_at p w)) h.0 in
      (r.0, (λ i. counts ((controller_in (a (control_at p) i)).watched w) (r.1 i)) ∙ h.1)

  pub base_ahead : (s t : State) → Base s → Ahead s t → IsDrainable f t → Base t
  base_ahead s t b a g = record { drainable = g; serves = λ p h. serves_ahead s t p (d p) a (b.serves p h) }

  abbrev count_at : State → Partition → ℕ
  count_at t p = (consumer_in (replica_in (t.nodes (replica_at p (d p))))).count

  -- ingress has made all, and the drainers of the first k stages have merged all
  pub record Inv (k : ℕ) (t : State) : Type 0 where
    pub base : Base t
    pub makes : (ingress_in (t.nodes node.Ingress)).makes ≡ f.makes
    pub full : (p : Partition) → IsOfStage f p → p.stage ≤ k → count_at t p ≡ f.total p

  pub full_ahead : (s t : State) → Base s → Ahead s t → IsDrainable f t → (p : Partition) → IsOfStage f p → count_at s p ≡ f.total p → count_at t p ≡ f.total p
  full_ahead s t b a g p h e =
      let n = replica_at p (d p) in
      let run = (b.serves p h).0 in
      let grew = (consumer_grew n (s.nodes n) (t.nodes n) (a n) run).count in
      let most = (bound_of f n (t.nodes n) (eats_grew n (s.nodes n) (t.nodes n) (a n) run) (g.within n)).count in
      omega arith

  inv_ahead : (k : ℕ) (s t : State) → Inv k s → Ahead s t → IsDrainable f t → Inv k t
  inv_ahead k s t i a g = record {
    base = base_ahead s t i.base a g;
    makes = let x = (a node.Ingress).1 in let y = (g.within node.Ingress).0 in let z = i.makes in omega arith;
    full = λ p h l. full_ahead s t i.base a g p h (i.full p h l);
  }

  -- ---- consumers of the drain

  -- a drainer, or egress
  abbrev pub Drains : NodeId → Type 0
  Drains node.Ingress = ⊥
  Drains (node.Replica s p w) = IsOfStage f (partition s p) × (w ≡ d (partition s p))
  Drains (node.Control s p) = ⊥
  Drains node.Egress = Unit {0}

  pub drains_eat : (to : NodeId) (t : State) → Drains to → Base t → Eats to (t.nodes to)
  drains_eat node.Ingress t h b = absurd h
  drains_eat (node.Replica s p w) t h b = subst (λ v. IsRunning (replica_in (t.nodes (node.Replica s p v)))) (sym h.1) (b.serves (partition s p) h.0).0
  drains_eat (node.Control s p) t h b = absurd h
  drains_eat node.Egress t h b = tt

  drains_merge : (to : NodeId) → Drains to → IsMerging f (partition_at f to)
  drains_merge node.Ingress h = absurd h
  drains_merge (node.Replica s p w) h = record { first = h.0.first; last = let l = h.0.last in omega arith }
  drains_merge (node.Control s p) h = absurd h
  drains_merge node.Egress h = record { first = omega arith; last = omega arith }

  drains_there : (to : NodeId) → Drains to → HasNode f to
  drains_there node.Ingress h = absurd h
  drains_there (node.Replica s p w) h = ((h.0.first, h.0.last), h.0.part)
  drains_there (node.Control s p) h = absurd h
  drains_there node.Egress h = (tt, tt)

  drains_part : (to : NodeId) → Drains to → part_of to ≡ (partition_at f to).part
  drains_part node.Ingress h = absurd h
  drains_part (node.Replica s p w) h = refl
  drains_part (node.Control s p) h = absurd h
  drains_part node.Egress h = refl

  drains_edge : (n : NodeId) (q : ℕ) → Drains n → IsConsumer f (in_edge (partition_at f n) q) n
  drains_edge node.Ingress q h = absurd h
  drains_edge (node.Replica s p w) q h = let z = h.0.first in ((let y : s - 1 + 1 ≡ s = omega arith in y), refl)
  drains_edge (node.Control s p) q h = absurd h
  drains_edge node.Egress q h = ((let y : f.stages + 1 - 1 ≡ f.stages = omega arith in y), refl)

  -- what is acknowledged of an edge, its consumer has taken
  drains_cover : (to : NodeId) (t : State) (q : ℕ) → Drains to → Base t → acked_of f t (in_edge (partition_at f to) q) ≤ (consumer_at to (t.nodes to)).marks q
  drains_cover node.Ingress t q h b = absurd h
  drains_cover (node.Replica s p w) t q h b =
      let x = partition s p in
      let served : Serves (side_of t x w) = subst (λ v. Serves (side_of t x v)) (sym h.1) (b.serves x h.0) in
      mark_counted q (acked_of f t (in_edge x q)) ((controller_in (t.nodes (control_at x))).watched w) (replica_in (t.nodes (replica_at x w)))
      (b.drainable.owed.consumers x w q h.0.first h.0.last) served.0 served.1
  drains_cover (node.Control s p) t q h b = absurd h
  drains_cover node.Egress t q h b =
      let e : f.stages + 1 - 1 ≡ f.stages = omega arith in
      let same = ap (λ n. acked_of f t (record { stage = n; from = q; to = 0 })) e in
      let l = b.drainable.owed.egress q in omega arith

  -- one event at a consumer of the drain
  pub record Ate (k : ℕ) (s : State) (e : Event) (to : NodeId) (c : Consumer) : Type 0 where
    pub state : State
    pub went : Went f s (e ∷ []) state
    pub inv : Inv k state
    pub consumer : consumer_at to (state.nodes to) ≡ c

  ate : (k : ℕ) (s t : State) (e : Event) (to : NodeId) (c : Consumer) → Inv k s → IsThere f e → IsDrainEvent f s e → step f s e ≡ Ok t → consumer_at to (t.nodes to) ≡ c → Ate k s e to c
  ate k s t e to c i there h done eq =
      let z = drain_step f df.flow s t e there h i.base.drainable done in
      record { state = t; went = record { legal = record { there = (there, tt); leads = done }; ready = (h, tt); ahead = z.ahead; quiet = z.quiet }; inv = inv_ahead k s t i z.ahead z.drainable; consumer = eq }

  -- it merges where it is ready
  merges : (k : ℕ) (s : State) (to : NodeId) → Drains to → Inv k s → is_ready f (partition_at f to) (consumer_at to (s.nodes to)) ≡ true → Ate k s (event.Work to) to (merged_one (consumer_at to (s.nodes to)))
  merges k s to h i e =
      let eats = drains_eat to s h i.base in
      let x = works_done f to (s.nodes to) eats e in
      ate k s (put to s x.node) (event.Work to) to (merged_one (consumer_at to (s.nodes to))) i (drains_there to h) (ready_there f to (s.nodes to) eats e) (act_done f s (event.Work to) Works x.node refl x.done)
      (ap (consumer_at to) (put_there to s x.node) ∙ x.consumer)

  -- it takes an item where that is in the buffer
  takes : (k : ℕ) (s : State) (from to : NodeId) (q : ℕ) (o : Buffer) → Drains to → Inv k s → HasNode f from → HasEdge f from to → source_pulled f from (s.nodes from) to (s.nodes to) ≡ q →
      buffer_of f q (part_of to) from (s.nodes from) ≡ Some o → o.low ≤ (consumer_at to (s.nodes to)).marks q → (consumer_at to (s.nodes to)).marks q < o.produced →
      Ate k s (event.Pull from to) to (pulled (consumer_at to (s.nodes to)) q)
  takes k s from to q o h i has edge source buffer low made =
      let eats = drains_eat to s h i.base in
      let x = pulls_done f to q (s.nodes to) eats in
      ate k s (put to s x.node) (event.Pull from to) to (pulled (consumer_at to (s.nodes to)) q) i (has, drains_there to h, edge) tt
      (act_done f s (event.Pull from to) (Pulls q) x.node (pull_act f s from to q o ((consumer_at to (s.nodes to)).marks q) source buffer (mark_there to (s.nodes to) q eats) low made) x.done)
      (ap (consumer_at to) (put_there to s x.node) ∙ x.consumer)

  -- ---- a consumer after stage 1 takes all, source by source

  module _ (k : ℕ) (to : NodeId) (h : Drains to) (at : (partition_at f to).stage ≡ suc k) (later : 1 ≤ k) where
    abbrev here : Partition
    here = partition_at f to

    source_there : (q : ℕ) → q < f.sources here.stage → IsOfStage f (source_of here q)
    source_there q l =
        let m = drains_merge to h in
        let last = m.last in
        let e : here.stage - 1 + 1 ≡ here.stage = omega arith in
        record { first = omega arith; last = omega arith; part = subst (λ n. q < f.sources n) (sym e) l }

    -- the edge from a source
    source_edge : (q : ℕ) → q < f.sources here.stage → HasEdge f (replica_at (source_of here q) (d (source_of here q))) to
    source_edge q l = (in_edge here q, ((source_there q l).first, refl, refl), drains_edge to q h)

    -- the buffer of a source that has merged all
    pub record HasAll (s : State) (q : ℕ) : Type 0 where
      pub buffer : Buffer
      pub is : buffer_in f (source_of here q) (part_of to) (replica_in (s.nodes (replica_at (source_of here q) (d (source_of here q))))) ≡ Some buffer
      pub low : buffer.low ≤ acked_of f s (in_edge here q)
      pub produced : buffer.produced ≡ f.length (in_edge here q)

    source_has : (s : State) (q : ℕ) → q < f.sources here.stage → Inv k s → HasAll s q
    source_has s q l i =
        let src = source_of here q in
        let x = source_there q l in
        go (replica_in (s.nodes (replica_at src (d src)))) refl (i.base.serves src x).0 (i.base.drainable.owed.producers src (d src) (part_of to) x.first x.last) (i.full src x (omega arith))
      where
        edge_is : out_edge (source_of here q) (part_of to) ≡ in_edge here q
        edge_is = ap (out_edge (source_of here q)) (drains_part to h)

        go : (r : Replica) → replica_in (s.nodes (replica_at (source_of here q) (d (source_of here q)))) ≡ r → IsRunning r → LowAtMost (part_of to) (acked_of f s (out_edge (source_of here q) (part_of to))) r →
            (consumer_in r).count ≡ f.total (source_of here q) → HasAll s q
        go (Gone j) e run low count = absurd run
        go (Gathering g) e run low count = absurd run
        go (Running y) e run low count = record {
          buffer = record { low = y.producer.lows (part_of to); produced = made_by f (source_of here q) y.consumer.count (part_of to) };
          is = ap (buffer_in f (source_of here q) (part_of to)) e;
          low = subst (λ g. y.producer.lows (part_of to) ≤ acked_of f s g) edge_is low;
          produced = ap (f.made (out_edge (source_of here q) (part_of to))) count ∙ (df.made_whole (source_of here q) (part_of to) (source_there q l) ∙ ap f.length edge_is);
        }

    -- of the first n sources all was taken, of the others what was
    pub record Pulled (c0 : Consumer) (n : ℕ) (c : Consumer) : Type 0 where
      pub rest : (j : ℕ) → n ≤ j → c.marks j ≡ c0.marks j
      pub done : (j : ℕ) → j < n → f.length (in_edge here j) ≤ c.marks j
      pub count : c.count ≡ c0.count

    -- on the way with source q
    pub record Pulling (c0 : Consumer) (q : ℕ) (c : Consumer) : Type 0 where
      pub rest : (j : ℕ) → q < j → c.marks j ≡ c0.marks j
      pub done : (j : ℕ) → j < q → f.length (in_edge here j) ≤ c.marks j
      pub count : c.count ≡ c0.count

    pulling_next : (c0 : Consumer) (q : ℕ) (c : Consumer) → Pulling c0 q c → Pulling c0 q (pulled c q)
    pulling_next c0 q c p = record {
      rest = λ j l. marks_other c q j (λ e. omega arith) ∙ p.rest j l;
      done = λ j l. let a = marks_other c q j (λ e. omega arith) in let b = p.done j l in omega arith;
      count = p.count;
    }

    abbrev PullInv : Consumer → ℕ → State → Type 0
    PullInv c0 q t = Inv k t × Pulling c0 q (consumer_at to (t.nodes to))

    pull_one : (c0 : Consumer) (q : ℕ) → q < f.sources here.stage → (s : State) (m : ℕ) → PullInv c0 q s → left_on f here (consumer_at to (s.nodes to)) q ≡ suc m →
        (t : State) × Went f s (event.Pull (replica_at (source_of here q) (d (source_of here q))) to ∷ []) t × PullInv c0 q t × (left_on f here (consumer_at to (t.nodes to)) q ≡ m)
    pull_one c0 q l s m i e =
        let src = source_of here q in
        let c = consumer_at to (s.nodes to) in
        let x = source_there q l in
        let b = source_has s q l i.0 in
        let cover = drains_cover to s q h i.0.base in
        let low = b.low in
        let produced = b.produced in
        let r = takes k s (replica_at src (d src)) to q b.buffer h i.0 ((x.first, x.last), x.part) (source_edge q l) refl b.is (omega arith) (omega arith) in
        let own = marks_self c q in
        (r.state, r.went, (r.inv, subst (Pulling c0 q) (sym r.consumer) (pulling_next c0 q c i.1)), subst (λ y. left_on f here y q ≡ m) (sym r.consumer) (omega arith))

    pub pull_below : (n : ℕ) → n ≤ f.sources here.stage → (s0 s : State) (c0 : Consumer) → ((p : Partition) → IsOfStage f p → drainer s0 p ≡ d p) → c0 ≡ consumer_at to (s.nodes to) → Inv k s →
        (t : State) × Went f s (pulls_below f s0 here to c0 n) t × Inv k t × Pulled c0 n (consumer_at to (t.nodes to))
    pull_below zero l s0 s c0 same e i = (s, went_none f s, i, subst (Pulled c0 zero) e (record { rest = λ j m. refl; done = λ j m. absurd (omega arith); count = refl }))
    pull_below (suc q) l s0 s c0 same e i =
        let a = pull_below q (omega arith) s0 s c0 same e i in
        let c = consumer_at to (a.0.nodes to) in
        let rest = a.3.rest q (omega arith) in
        let start : Pulling c0 q c = record { rest = λ j m. a.3.rest j (omega arith); done = a.3.done; count = a.3.count } in
        let count : left_on f here c q ≡ left_on f here c0 q = ap (λ m. f.length (in_edge here q) - m) rest in
        let src = source_of here q in
        let b = looped f (event.Pull (replica_at src (d src)) to) (PullInv c0 q) (λ t. left_on f here (consumer_at to (t.nodes to)) q) (pull_one c0 q (omega arith)) (left_on f here c0 q) a.0 (a.2, start) count in
        let events = subst (λ w. Went f a.0 (replicate (left_on f here c0 q) (event.Pull (replica_at src w) to)) b.0) (sym (same src (source_there q (omega arith)))) b.1 in
        (b.0, went_on f s a.0 b.0 (pulls_below f s0 here to c0 q) _ a.1 events, b.2.0, ended (consumer_at to (b.0.nodes to)) b.2.1 b.3)
      where
        ended : (c : Consumer) → Pulling c0 q c → left_on f here c q ≡ 0 → Pulled c0 (suc q) c
        ended c p z = record { rest = λ j m. p.rest j (omega arith); done = λ j m. done j m (cases_lt j q); count = p.count }
          where
            done : (j : ℕ) → j < suc q → (j < q) ⊎ (q ≤ j) → f.length (in_edge here j) ≤ c.marks j
            done j m (inl less) = p.done j less
            done j m (inr more) = let same_q : q ≡ j = omega arith in subst (λ n. f.length (in_edge here n) ≤ c.marks n) same_q (omega arith)

  -- ---- a consumer of stage 1 takes all from ingress

  module _ (k : ℕ) (to : NodeId) (h : Drains to) (first : (partition_at f to).stage ≡ 1) where
    abbrev there : Partition
    there = partition_at f to

    first_edge : (q : ℕ) → in_edge there q ≡ ingress_edge q (part_of to)
    first_edge q = let e : there.stage - 1 ≡ 0 = omega arith in let p = drains_part to h in λ i. record { stage = e i; from = q; to = sym p i }

    made_all : (s : State) (q : ℕ) → Inv k s → q < f.sources 1 → source_made f (ingress_in (s.nodes node.Ingress)) q (part_of to) ≡ f.length (in_edge there q)
    made_all s q i l = ap (f.made (ingress_edge q (part_of to))) i.makes ∙ (df.makes_whole q (part_of to) l ∙ ap f.length (sym (first_edge q)))

    abbrev FeedInv : Consumer → State → Type 0
    FeedInv c0 t = Inv k t × ((consumer_at to (t.nodes to)).count ≡ c0.count)

    abbrev all_left : State → ℕ
    all_left t = sum_below (f.sources there.stage) (left_on f there (consumer_at to (t.nodes to)))

    feed_one : (c0 : Consumer) (s : State) (m : ℕ) → FeedInv c0 s → all_left s ≡ suc m → (t : State) × Went f s (event.Pull node.Ingress to ∷ []) t × FeedInv c0 t × (all_left t ≡ m)
    feed_one c0 s m i e =
        let x = ingress_in (s.nodes node.Ingress) in
        let c = consumer_at to (s.nodes to) in
        let sources = ap f.sources first in
        let some = sum_some (f.sources there.stage) (left_on f there c) m e in
        let j = some.0 in
        let few : j < f.sources 1 = omega (arith, some.1) in
        let made_j = made_all s j i.0 few in
        let some_left = some.2 in
        let eats = drains_eat to s h i.0.base in
        let behind_j : is_behind (mark_of j to (s.nodes to)) (source_made f x j (part_of to)) ≡ true = behind j eats (omega arith) in
        let q = pulled_source f x to (s.nodes to) in
        let l : q < f.sources 1 = some_found (f.sources 1) (λ i. is_behind (mark_of i to (s.nodes to)) (source_made f x i (part_of to))) df.flow.first_sources.0 in
        let ahead = not_behind q eats (pull_takes f x to (s.nodes to) j few behind_j) in
        let made_q = made_all s q i.0 l in
        let low = i.0.base.drainable.owed.ingress q (part_of to) in
        let same = ap (acked_of f s) (first_edge q) in
        let cover = drains_cover to s q h i.0.base in
        let edge : HasEdge f node.Ingress to = (in_edge there q, ((let z : there.stage - 1 ≡ 0 = omega arith in z), l), drains_edge to q h) in
        let r = takes k s node.Ingress to q (record { low = (x.producers q).lows (part_of to); produced = source_made f x q (part_of to) }) h i.0 (tt, tt) edge refl refl (omega arith) ahead in
        let less = sum_pulled (f.sources there.stage) (λ i. f.length (in_edge there i)) c q (omega arith) (omega arith) in
        finish q r (omega arith)
      where
        finish : (q : ℕ) → Ate k s (event.Pull node.Ingress to) to (pulled (consumer_at to (s.nodes to)) q) → sum_below (f.sources there.stage) (left_on f there (pulled (consumer_at to (s.nodes to)) q)) ≡ m →
            (t : State) × Went f s (event.Pull node.Ingress to ∷ []) t × FeedInv c0 t × (all_left t ≡ m)
        finish q r less = (r.state, r.went, (r.inv, ap (λ (y : Consumer). y.count) r.consumer ∙ i.1), subst (λ y. sum_below (f.sources there.stage) (left_on f there y) ≡ m) (sym r.consumer) less)

        behind : (j : ℕ) → Eats to (s.nodes to) → (consumer_at to (s.nodes to)).marks j < source_made f (ingress_in (s.nodes node.Ingress)) j (part_of to) →
            is_behind (mark_of j to (s.nodes to)) (source_made f (ingress_in (s.nodes node.Ingress)) j (part_of to)) ≡ true
        behind j eats l = ap (λ m. is_behind m (source_made f (ingress_in (s.nodes node.Ingress)) j (part_of to))) (mark_there to (s.nodes to) j eats) ∙ lt-ltb ((consumer_at to (s.nodes to)).marks j) _ l

        not_behind : (q : ℕ) → Eats to (s.nodes to) → is_behind (mark_of q to (s.nodes to)) (source_made f (ingress_in (s.nodes node.Ingress)) q (part_of to)) ≡ true →
            (consumer_at to (s.nodes to)).marks q < source_made f (ingress_in (s.nodes node.Ingress)) q (part_of to)
        not_behind q eats e = ltb-true ((consumer_at to (s.nodes to)).marks q) _ (ap (λ m. is_behind m (source_made f (ingress_in (s.nodes node.Ingress)) q (part_of to))) (sym (mark_there to (s.nodes to) q eats)) ∙ e)

  -- ---- a consumer takes all, then merges all

  module _ (k : ℕ) (to : NodeId) (h : Drains to) (at : (partition_at f to).stage ≡ suc k) where
    abbrev part : Partition
    part = partition_at f to

    -- all items of all edges into it are taken
    abbrev AllIn : Consumer → Type 0
    AllIn c = (q : ℕ) → q < f.sources part.stage → f.length (in_edge part q) ≤ c.marks q

    pub record Fed (c0 : Consumer) (s : State) (es : List Event) : Type 0 where
      pub state : State
      pub went : Went f s es state
      pub inv : Inv k state
      pub count : (consumer_at to (state.nodes to)).count ≡ c0.count
      pub taken : AllIn (consumer_at to (state.nodes to))

    fed : (s0 s : State) (c0 : Consumer) → ((p : Partition) → IsOfStage f p → drainer s0 p ≡ d p) → c0 ≡ consumer_at to (s.nodes to) → Inv k s → Fed c0 s (pulls_into f s0 part to c0)
    fed s0 s c0 same e i = if_elim (Fed c0 s) (part.stage == 1) _ _ (λ z. from_ingress (eqb-true part.stage 1 z)) (λ z. from_sources (not_first z))
      where
        not_first : (part.stage == 1) ≡ false → 1 ≤ k
        not_first z = go k at
          where
            go : (j : ℕ) → part.stage ≡ suc j → 1 ≤ j
            go zero a = let y : (part.stage == 1) ≡ true = eq-eqb part.stage 1 a in let x : ⊥ = cc (y, z) in absurd x
            go (suc j) a = omega arith

        from_ingress : part.stage ≡ 1 → Fed c0 s (replicate (sum_below (f.sources part.stage) (left_on f part c0)) (event.Pull node.Ingress to))
        from_ingress one =
            let a = looped f (event.Pull node.Ingress to) (FeedInv k to h one c0) (all_left k to h one) (feed_one k to h one c0) (sum_below (f.sources part.stage) (left_on f part c0)) s (i, ap (λ (c : Consumer). c.count) (sym e))
            (ap (λ c. sum_below (f.sources part.stage) (left_on f part c)) (sym e)) in
            record { state = a.0; went = a.1; inv = a.2.0; count = a.2.1; taken = λ q l. let z = sum_none (f.sources part.stage) (left_on f part (consumer_at to (a.0.nodes to))) a.3 q l in omega arith }

        from_sources : 1 ≤ k → Fed c0 s (pulls_below f s0 part to c0 (f.sources part.stage))
        from_sources later =
            let a = pull_below k to h at later (f.sources part.stage) (omega arith) s0 s c0 same e i in
            record { state = a.0; went = a.1; inv = a.2; count = a.3.count; taken = a.3.done }

    abbrev MergeInv : State → Type 0
    MergeInv t = Inv k t × AllIn (consumer_at to (t.nodes to))

    abbrev to_merge : State → ℕ
    to_merge t = f.total part - (consumer_at to (t.nodes to)).count

    merge_one : (s : State) (m : ℕ) → MergeInv s → to_merge s ≡ suc m → (t : State) × Went f s (event.Work to ∷ []) t × MergeInv t × (to_merge t ≡ m)
    merge_one s m i e =
        let c = consumer_at to (s.nodes to) in
        let bound = bound_of f to (s.nodes to) (drains_eat to s h i.0.base) (i.0.base.drainable.within to) in
        let taken : HasTakenAll f part c = λ q l. (let a = i.1 q l in let b = bound.most q in omega arith) in
        let r = merges k s to h i.0 (df.ends.ready part c (drains_merge to h) taken (omega arith)) in
        (r.state, r.went, (r.inv, subst AllIn (sym r.consumer) i.1), subst (λ (y : Consumer). f.total part - y.count ≡ m) (sym r.consumer) (omega arith))

    pub record Drained (s : State) (es : List Event) : Type 0 where
      pub state : State
      pub went : Went f s es state
      pub inv : Inv k state
      pub whole : (consumer_at to (state.nodes to)).count ≡ f.total part

    pub drained_into : (s0 s : State) (c0 : Consumer) → ((p : Partition) → IsOfStage f p → drainer s0 p ≡ d p) → c0 ≡ consumer_at to (s.nodes to) → Inv k s → Drained s (drain_into f s0 part to c0)
    drained_into s0 s c0 same e i =
        let a = fed s0 s c0 same e i in
        let b = looped f (event.Work to) MergeInv to_merge merge_one (f.total part - c0.count) a.state (a.inv, a.taken) (ap (λ n. f.total part - n) a.count) in
        let most = (bound_of f to (b.0.nodes to) (drains_eat to b.0 h b.2.0.base) (b.2.0.base.drainable.within to)).count in
        let none = b.3 in
        record { state = b.0; went = went_on f s a.state b.0 (pulls_into f s0 part to c0) _ a.went b.1; inv = b.2.0; whole = omega arith }
