-- A consumer of the drain takes all that is left of each in-edge, and then merges all.
use Rattle.std.proofs.Common.{◌≡◌, ◌<◌, ◌≤◌, ◌⊎◌, inl, inr, ℕ, zero, suc, true, false, List, [], ◌∷◌, Some, Ok, refl, sym, ap, ◌∙◌, subst, arith}
use Rattle.std.specs.Prelude.{◌==◌, ◌-◌, ◌+◌}
use Rattle.std.proofs.lemmas.Bool.{cases_lt, eq-eqb, eqb-true}
use Rattle.pair_machine.specs.Consumers.{is_ready, merged_one, pulled}
use Rattle.pair_machine.specs.CountLaws.{HasTakenAll, IsMerging, IsOfStage, MergesToTheEnd}
use Rattle.pair_machine.specs.Drain.{left_on, partition, source_of}
use Rattle.pair_machine.specs.Flow.{Flow}
use Rattle.pair_machine.specs.Machine.{Buffer}
use Rattle.pair_machine.specs.Numbers.{Consumer, Partition, in_edge, ingress_edge, out_edge}
use Rattle.pair_machine.specs.Replicas.{made_by}
use Rattle.pair_machine.proofs.DrainSums.{marks_other, marks_self}
use Rattle.pair_machine.proofs.Tests.{if_elim}
use Rattle.trio_machine.specs.Acknowledged.{acked_of}
use Rattle.trio_machine.specs.Reports.{IsRunning, MarkAtLeast, replicas_of}
use Rattle.trio_machine.specs.Boundary.{source_made}
use Rattle.trio_machine.specs.Drain.{IsDrainEvent, consumer_in, drain_into, feeder, pulls_below, server}
use Rattle.trio_machine.specs.Flow.{IsTrioFlow}
use Rattle.trio_machine.specs.Links.{HasEdge, HasNode, IsConsumer, IsThere}
use Rattle.trio_machine.specs.Machine.{State, buffer_in, buffer_of, controller_in, ingress_in, put, replica_in, step}
use Rattle.trio_machine.specs.Messages.{Pulls, Works}
use Rattle.trio_machine.specs.Numbers.{Gone, Node, Replica, Running, control_at, group_size, part_of, replica_at}
use Rattle.trio_machine.specs.Sound.{IsSound, LowAtMost, Serves}
use Rattle.trio_machine.specs.declared.event.TrioEvent.{TrioEvent}
use Rattle.trio_machine.specs.declared.event.TrioEvent.TheVariants as event
use Rattle.trio_machine.specs.declared.node.TrioNode.{TrioNode}
use Rattle.trio_machine.specs.declared.node.TrioNode.TheVariants as node
use Rattle.trio_machine.proofs.DrainMoves.{Eats, Stays, Went, act_done, bound_of, consumer_at, looped, mark_there, partition_at, pull_act, pulls_done, put_quiet, put_stays, ready_there, went_none, went_on, works_done}
use Rattle.trio_machine.proofs.SoundKept.{put_there, sound_kept, sound_owed}
use Rattle.trio_machine.proofs.Steps.{HoldsOnOk}

-- what the drain rests on, of a plan's numbers
pub record DrainFlow (f : Flow) : Type 0 where
  pub trio : IsTrioFlow f
  pub ends : MergesToTheEnd f
  pub made_whole : (p : Partition) (t : ℕ) → IsOfStage f p → f.made (out_edge p t) (f.total p) ≡ f.length (out_edge p t)
  pub makes_whole : (t : ℕ) → f.made (ingress_edge 0 t) f.makes ≡ f.length (ingress_edge 0 t)

module _ (f : Flow) (df : DrainFlow f) (s0 : State) where
  abbrev d : Partition → ℕ
  d = server s0

  -- ---- what holds on the way

  -- the state is sound, and the servers of the state before the drain serve
  pub record Base (t : State) : Type 0 where
    pub sound : IsSound f t
    pub serves : (p : Partition) → IsOfStage f p → Serves t p (d p)

  serves_on : (s t : State) (p : Partition) (c : ℕ) → ((n : TrioNode) → Stays n (s.nodes n) (t.nodes n)) → Serves s p c → Serves t p c
  serves_on s t p c a h = record {
    there = h.there;
    running = (a (replica_at p c)).0 h.running;
    counted = subst (λ (x : Node). (controller_in x).up c ≡ true) (sym (a (control_at p))) h.counted;
  }

  pub base_on : (s t : State) → Base s → ((n : TrioNode) → Stays n (s.nodes n) (t.nodes n)) → IsSound f t → Base t
  base_on s t b a g = record { sound = g; serves = λ p h. serves_on s t p (d p) a (b.serves p h) }

  abbrev pub count_at : State → Partition → ℕ
  count_at t p = (consumer_in (replicas_of t p (d p))).count

  -- ingress has made all, and the servers of the first k stages have merged all
  pub record Inv (k : ℕ) (t : State) : Type 0 where
    pub base : Base t
    pub makes : (ingress_in (t.nodes node.Ingress)).makes ≡ f.makes
    pub full : (p : Partition) → IsOfStage f p → p.stage ≤ k → count_at t p ≡ f.total p

  pub full_on : (s t : State) → Base s → ((n : TrioNode) → Stays n (s.nodes n) (t.nodes n)) → IsSound f t → (p : Partition) → IsOfStage f p → count_at s p ≡ f.total p → count_at t p ≡ f.total p
  full_on s t b a g p h e =
      let n = replica_at p (d p) in
      let run = (a n).0 (b.serves p h).running in
      let more = (a n).1 in
      let most = (bound_of f n (t.nodes n) run (g.nodes n).bound).count in
      omega arith

  inv_on : (k : ℕ) (s t : State) → Inv k s → ((n : TrioNode) → Stays n (s.nodes n) (t.nodes n)) → IsSound f t → Inv k t
  inv_on k s t i a g = record {
    base = base_on s t i.base a g;
    makes = let x = a node.Ingress in let y = (g.nodes node.Ingress).bound.0 in let z = i.makes in omega arith;
    full = λ p h l. full_on s t i.base a g p h (i.full p h l);
  }

  -- a step from a sound state
  pub sound_next : (s t : State) (e : TrioEvent) → IsSound f s → IsThere f e → step f s e ≡ Ok t → IsSound f t
  sound_next s t e old there done = subst (HoldsOnOk (IsSound f)) done (sound_kept f df.trio s old e there)

  -- ---- consumers of the drain

  -- a server, or egress
  abbrev pub Drains : TrioNode → Type 0
  Drains node.Ingress = ⊥
  Drains (node.Replica s p c) = IsOfStage f (partition s p) × (c ≡ d (partition s p))
  Drains (node.Control s p) = ⊥
  Drains node.Egress = Unit {0}

  drains_eat : (to : TrioNode) (t : State) → Drains to → Base t → Eats to (t.nodes to)
  drains_eat node.Ingress t h b = absurd h
  drains_eat (node.Replica s p c) t h b = subst (λ v. IsRunning (replica_in (t.nodes (node.Replica s p v)))) (sym h.1) (b.serves (partition s p) h.0).running
  drains_eat (node.Control s p) t h b = absurd h
  drains_eat node.Egress t h b = tt

  drains_merge : (to : TrioNode) → Drains to → IsMerging f (partition_at f to)
  drains_merge node.Ingress h = absurd h
  drains_merge (node.Replica s p c) h = record { first = h.0.first; last = let l = h.0.last in omega arith }
  drains_merge (node.Control s p) h = absurd h
  drains_merge node.Egress h = record { first = omega arith; last = omega arith }

  drains_there : (to : TrioNode) (t : State) → Drains to → Base t → HasNode f to
  drains_there node.Ingress t h b = absurd h
  drains_there (node.Replica s p c) t h b = (h.0, subst (λ v. v < group_size) (sym h.1) (b.serves (partition s p) h.0).there)
  drains_there (node.Control s p) t h b = absurd h
  drains_there node.Egress t h b = tt

  drains_part : (to : TrioNode) → Drains to → part_of to ≡ (partition_at f to).part
  drains_part node.Ingress h = absurd h
  drains_part (node.Replica s p c) h = refl
  drains_part (node.Control s p) h = absurd h
  drains_part node.Egress h = refl

  drains_edge : (n : TrioNode) (q : ℕ) → Drains n → IsConsumer f (in_edge (partition_at f n) q) n
  drains_edge node.Ingress q h = absurd h
  drains_edge (node.Replica s p c) q h = let z = h.0.first in ((let y : s - 1 + 1 ≡ s = omega arith in y), refl)
  drains_edge (node.Control s p) q h = absurd h
  drains_edge node.Egress q h = ((let y : f.stages + 1 - 1 ≡ f.stages = omega arith in y), refl)

  mark_running : (q j : ℕ) (r : Replica) → IsRunning r → MarkAtLeast q j r → j ≤ (consumer_in r).marks q
  mark_running q j Gone run m = absurd run
  mark_running q j (Running x) run m = m

  -- what is acknowledged of an edge, its consumer has taken
  drains_cover : (to : TrioNode) (t : State) (q : ℕ) → Drains to → Base t → acked_of f t (in_edge (partition_at f to) q) ≤ (consumer_at to (t.nodes to)).marks q
  drains_cover node.Ingress t q h b = absurd h
  drains_cover (node.Replica s p c) t q h b =
      let x = partition s p in
      let served : Serves t x c = subst (λ v. Serves t x v) (sym h.1) (b.serves x h.0) in
      mark_running q (acked_of f t (in_edge x q)) (replicas_of t x c) served.running ((sound_owed f t b.sound).consumers x c q h.0 served.there served.counted)
  drains_cover (node.Control s p) t q h b = absurd h
  drains_cover node.Egress t q h b =
      let e : f.stages + 1 - 1 ≡ f.stages = omega arith in
      let same = ap (λ n. acked_of f t (record { stage = n; from = q; to = 0 })) e in
      let l = (sound_owed f t b.sound).egress q in omega arith

  -- one event at a consumer of the drain
  pub record Ate (k : ℕ) (s : State) (e : TrioEvent) (to : TrioNode) (c : Consumer) : Type 0 where
    pub state : State
    pub went : Went f s (e ∷ []) state
    pub inv : Inv k state
    pub consumer : consumer_at to (state.nodes to) ≡ c

  ate : (k : ℕ) (s : State) (e : TrioEvent) (to : TrioNode) (x : Node) (c : Consumer) → Inv k s → IsThere f e → IsDrainEvent f s e → step f s e ≡ Ok (put to s x []) → Stays to (s.nodes to) x → consumer_at to x ≡ c → Ate k s e to c
  ate k s e to x c i there h done stays eq =
      let t = put to s x [] in
      let a = put_stays to s x stays in
      record {
        state = t;
        went = record { legal = record { there = (there, tt); leads = done }; ready = (h, tt); stays = a; quiet = put_quiet to s x };
        inv = inv_on k s t i a (sound_next s t e i.base.sound there done);
        consumer = ap (consumer_at to) (put_there to s x []) ∙ eq;
      }

  -- it merges where it is ready
  merges : (k : ℕ) (s : State) (to : TrioNode) → Drains to → Inv k s → is_ready f (partition_at f to) (consumer_at to (s.nodes to)) ≡ true → Ate k s (event.Work to) to (merged_one (consumer_at to (s.nodes to)))
  merges k s to h i e =
      let eats = drains_eat to s h i.base in
      let x = works_done f to (s.nodes to) eats e in
      ate k s (event.Work to) to x.node (merged_one (consumer_at to (s.nodes to))) i (drains_there to s h i.base) (ready_there f to (s.nodes to) eats e) (act_done f s (event.Work to) Works x.node refl x.done) x.stays x.consumer

  -- it takes an item where that is in the buffer
  takes : (k : ℕ) (s : State) (from to : TrioNode) (q : ℕ) (o : Buffer) → Drains to → Inv k s → HasNode f from → HasEdge f from to → part_of from ≡ q →
      buffer_of f (part_of to) from (s.nodes from) ≡ Some o → o.low ≤ (consumer_at to (s.nodes to)).marks q → (consumer_at to (s.nodes to)).marks q < o.produced →
      Ate k s (event.Pull from to) to (pulled (consumer_at to (s.nodes to)) q)
  takes k s from to q o h i has edge source buffer low made =
      let eats = drains_eat to s h i.base in
      let x = pulls_done f to q (s.nodes to) eats in
      ate k s (event.Pull from to) to x.node (pulled (consumer_at to (s.nodes to)) q) i (has, drains_there to s h i.base, edge) tt
      (act_done f s (event.Pull from to) (Pulls q) x.node (pull_act f s from to q o ((consumer_at to (s.nodes to)).marks q) source buffer (mark_there to (s.nodes to) q eats) low made) x.done) x.stays x.consumer

  -- ---- a consumer takes all, source by source, and then merges all

  module _ (k : ℕ) (to : TrioNode) (h : Drains to) (at : (partition_at f to).stage ≡ suc k) where
    abbrev here : Partition
    here = partition_at f to

    -- a node that has made all of in-edge q, and keeps what is not acknowledged
    pub record HasAll (s : State) (q : ℕ) (from : TrioNode) : Type 0 where
      pub has_node : HasNode f from
      pub edge : HasEdge f from to
      pub part : part_of from ≡ q
      pub buffer : Buffer
      pub is : buffer_of f (part_of to) from (s.nodes from) ≡ Some buffer
      pub low : buffer.low ≤ acked_of f s (in_edge here q)
      pub produced : buffer.produced ≡ f.length (in_edge here q)

    ingress_has : (s : State) (q : ℕ) → q < f.sources here.stage → Inv k s → here.stage ≡ 1 → HasAll s q node.Ingress
    ingress_has s q l i first =
        let x = ingress_in (s.nodes node.Ingress) in
        let only = df.trio.one_source in
        let same_sources = ap f.sources first in
        let q_is : q ≡ 0 = omega arith in
        let stage : here.stage - 1 ≡ 0 = omega arith in
        let part = drains_part to h in
        let same : in_edge here q ≡ ingress_edge 0 (part_of to) = λ j. record { stage = stage j; from = q_is j; to = sym part j } in
        record {
          has_node = tt;
          edge = (in_edge here q, (stage, q_is), drains_edge to q h);
          part = sym q_is;
          buffer = record { low = x.producer.lows (part_of to); produced = source_made f x (part_of to) };
          is = refl;
          low = subst (λ e. x.producer.lows (part_of to) ≤ acked_of f s e) (sym same) ((i.base.sound.nodes node.Ingress).lows (part_of to));
          produced = ap (f.made (ingress_edge 0 (part_of to))) i.makes ∙ (df.makes_whole (part_of to) ∙ ap f.length (sym same));
        }

    source_has : (s : State) (q : ℕ) → q < f.sources here.stage → Inv k s → 1 ≤ k → HasAll s q (replica_at (source_of here q) (d (source_of here q)))
    source_has s q l i later = go (replicas_of s src (d src)) refl serves.running ((sound_owed f s i.base.sound).producers src (d src) (part_of to) there) (i.full src there (omega arith))
      where
        src : Partition
        src = source_of here q

        there : IsOfStage f src
        there =
            let last = (drains_merge to h).last in
            let e : here.stage - 1 + 1 ≡ here.stage = omega arith in
            record { first = omega arith; last = omega arith; part = subst (λ n. q < f.sources n) (sym e) l }

        serves : Serves s src (d src)
        serves = i.base.serves src there

        edge_is : out_edge src (part_of to) ≡ in_edge here q
        edge_is = ap (out_edge src) (drains_part to h)

        go : (r : Replica) → replicas_of s src (d src) ≡ r → IsRunning r → LowAtMost (part_of to) (acked_of f s (out_edge src (part_of to))) r →
            (consumer_in r).count ≡ f.total src → HasAll s q (replica_at src (d src))
        go Gone e run low count = absurd run
        go (Running y) e run low count = record {
          has_node = (there, serves.there);
          edge = (in_edge here q, (there.first, refl, refl), drains_edge to q h);
          part = refl;
          buffer = record { low = y.producer.lows (part_of to); produced = made_by f src y.consumer.count (part_of to) };
          is = ap (buffer_in f src (part_of to)) e;
          low = subst (λ g. y.producer.lows (part_of to) ≤ acked_of f s g) edge_is low;
          produced = ap (f.made (out_edge src (part_of to))) count ∙ (df.made_whole src (part_of to) there ∙ ap f.length edge_is);
        }

    feeder_has : (s : State) (q : ℕ) → q < f.sources here.stage → Inv k s → HasAll s q (feeder s0 here q)
    feeder_has s q l i = if_elim (HasAll s q) (here.stage == 1) node.Ingress (replica_at (source_of here q) (d (source_of here q)))
        (λ z. ingress_has s q l i (eqb-true here.stage 1 z)) (λ z. source_has s q l i (later k at z))
      where
        later : (j : ℕ) → here.stage ≡ suc j → (here.stage == 1) ≡ false → 1 ≤ j
        later zero a z = let y : (here.stage == 1) ≡ true = eq-eqb here.stage 1 a in let x : ⊥ = cc (y, z) in absurd x
        later (suc j) a z = omega arith

    -- of the first n sources all was taken, of the others what was
    pub record Pulled (c0 : Consumer) (n : ℕ) (c : Consumer) : Type 0 where
      pub rest : (j : ℕ) → n ≤ j → c.marks j ≡ c0.marks j
      pub done : (j : ℕ) → j < n → f.length (in_edge here j) ≤ c.marks j
      pub count : c.count ≡ c0.count

    -- on the way with source q
    pub record Pulling (c0 : Consumer) (q : ℕ) (c : Consumer) : Type 0 where
      pub rest : (j : ℕ) → q < j → c.marks j ≡ c0.marks j
      pub done : (j : ℕ) → j < q → f.length (in_edge here j) ≤ c.marks j
      pub count : c.count ≡ c0.count

    pulling_next : (c0 : Consumer) (q : ℕ) (c : Consumer) → Pulling c0 q c → Pulling c0 q (pulled c q)
    pulling_next c0 q c p = record {
      rest = λ j l. marks_other c q j (λ e. omega arith) ∙ p.rest j l;
      done = λ j l. let a = marks_other c q j (λ e. omega arith) in let b = p.done j l in omega arith;
      count = p.count;
    }

    abbrev PullInv : Consumer → ℕ → State → Type 0
    PullInv c0 q t = Inv k t × Pulling c0 q (consumer_at to (t.nodes to))

    pull_one : (c0 : Consumer) (q : ℕ) → q < f.sources here.stage → (s : State) (m : ℕ) → PullInv c0 q s → left_on f here (consumer_at to (s.nodes to)) q ≡ suc m →
        (t : State) × Went f s (event.Pull (feeder s0 here q) to ∷ []) t × PullInv c0 q t × (left_on f here (consumer_at to (t.nodes to)) q ≡ m)
    pull_one c0 q l s m i e =
        let c = consumer_at to (s.nodes to) in
        let b = feeder_has s q l i.0 in
        let cover = drains_cover to s q h i.0.base in
        let low = b.low in
        let produced = b.produced in
        let r = takes k s (feeder s0 here q) to q b.buffer h i.0 b.has_node b.edge b.part b.is (omega arith) (omega arith) in
        let own = marks_self c q in
        (r.state, r.went, (r.inv, subst (Pulling c0 q) (sym r.consumer) (pulling_next c0 q c i.1)), subst (λ y. left_on f here y q ≡ m) (sym r.consumer) (omega arith))

    pull_below : (n : ℕ) → n ≤ f.sources here.stage → (s : State) (c0 : Consumer) → c0 ≡ consumer_at to (s.nodes to) → Inv k s →
        (t : State) × Went f s (pulls_below f s0 here to c0 n) t × Inv k t × Pulled c0 n (consumer_at to (t.nodes to))
    pull_below zero l s c0 e i = (s, went_none f s, i, subst (Pulled c0 zero) e (record { rest = λ j m. refl; done = λ j m. absurd (omega arith); count = refl }))
    pull_below (suc q) l s c0 e i =
        let a = pull_below q (omega arith) s c0 e i in
        let c = consumer_at to (a.0.nodes to) in
        let rest = a.3.rest q (omega arith) in
        let start : Pulling c0 q c = record { rest = λ j m. a.3.rest j (omega arith); done = a.3.done; count = a.3.count } in
        let count : left_on f here c q ≡ left_on f here c0 q = ap (λ m. f.length (in_edge here q) - m) rest in
        let b = looped f (event.Pull (feeder s0 here q) to) (PullInv c0 q) (λ t. left_on f here (consumer_at to (t.nodes to)) q) (pull_one c0 q (omega arith)) (left_on f here c0 q) a.0 (a.2, start) count in
        (b.0, went_on f s a.0 b.0 (pulls_below f s0 here to c0 q) _ a.1 b.1, b.2.0, ended (consumer_at to (b.0.nodes to)) b.2.1 b.3)
      where
        ended : (c : Consumer) → Pulling c0 q c → left_on f here c q ≡ 0 → Pulled c0 (suc q) c
        ended c p z = record { rest = λ j m. p.rest j (omega arith); done = λ j m. done j m (cases_lt j q); count = p.count }
          where
            done : (j : ℕ) → j < suc q → (j < q) ⊎ (q ≤ j) → f.length (in_edge here j) ≤ c.marks j
            done j m (inl less) = p.done j less
            done j m (inr more) = let same_q : q ≡ j = omega arith in subst (λ n. f.length (in_edge here n) ≤ c.marks n) same_q (omega arith)

    -- ---- then it merges all

    -- all items of all edges into it are taken
    abbrev AllIn : Consumer → Type 0
    AllIn c = (q : ℕ) → q < f.sources here.stage → f.length (in_edge here q) ≤ c.marks q

    abbrev MergeInv : State → Type 0
    MergeInv t = Inv k t × AllIn (consumer_at to (t.nodes to))

    abbrev to_merge : State → ℕ
    to_merge t = f.total here - (consumer_at to (t.nodes to)).count

    merge_one : (s : State) (m : ℕ) → MergeInv s → to_merge s ≡ suc m → (t : State) × Went f s (event.Work to ∷ []) t × MergeInv t × (to_merge t ≡ m)
    merge_one s m i e =
        let c = consumer_at to (s.nodes to) in
        let bound = bound_of f to (s.nodes to) (drains_eat to s h i.0.base) (i.0.base.sound.nodes to).bound in
        let taken : HasTakenAll f here c = λ q l. (let a = i.1 q l in let b = bound.most q in omega arith) in
        let r = merges k s to h i.0 (df.ends.ready here c (drains_merge to h) taken (omega arith)) in
        (r.state, r.went, (r.inv, subst AllIn (sym r.consumer) i.1), subst (λ (y : Consumer). f.total here - y.count ≡ m) (sym r.consumer) (omega arith))

    pub record DrainedInto (s : State) (es : List TrioEvent) : Type 0 where
      pub state : State
      pub went : Went f s es state
      pub inv : Inv k state
      pub whole : (consumer_at to (state.nodes to)).count ≡ f.total here

    pub drained_into : (s : State) (c0 : Consumer) → c0 ≡ consumer_at to (s.nodes to) → Inv k s → DrainedInto s (drain_into f s0 here to c0)
    drained_into s c0 e i =
        let a = pull_below (f.sources here.stage) (omega arith) s c0 e i in
        let b = looped f (event.Work to) MergeInv to_merge merge_one (f.total here - c0.count) a.0 (a.2, a.3.done) (ap (λ n. f.total here - n) a.3.count) in
        let most = (bound_of f to (b.0.nodes to) (drains_eat to b.0 h b.2.0.base) (b.2.0.base.sound.nodes to).bound).count in
        let none = b.3 in
        record { state = b.0; went = went_on f s a.0 b.0 (pulls_below f s0 here to c0 (f.sources here.stage)) _ a.1 b.1; inv = b.2.0; whole = omega arith }
