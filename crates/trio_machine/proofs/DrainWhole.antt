-- The whole drain, group by group: a server keeps the numbers that it began with until its turn, since each event is at another node.
use Rattle.std.proofs.Common.{◌≡◌, ◌≢◌, ◌<◌, ◌≤◌, ◌⊎◌, inl, inr, ℕ, zero, suc, Bool, true, false, List, [], ◌∷◌, ◌++◌, None, Some, Ok, refl, sym, ap, ◌∙◌, subst, arith, append_assoc}
use Rattle.std.specs.Prelude.{◌==◌, ◌-◌, ◌+◌, if◌then◌else◌, nat_lt, replicate}
use Rattle.std.proofs.lemmas.Bool.{cases_lt, eqb-true, lt-ltb}
use Rattle.std.proofs.lemmas.List.{append-nil}
use Rattle.tuple_edge.specs.Input.{Input}
use Rattle.plan_reader.specs.PlanView.{PlanView}
use Rattle.pair_machine.specs.Boundary.{egress_partition}
use Rattle.pair_machine.specs.CountLaws.{IsOfStage, output_first}
use Rattle.pair_machine.specs.Counts.{flow_of}
use Rattle.pair_machine.specs.Drain.{left_on, pairs_up_to, parts_below, partition}
use Rattle.pair_machine.specs.Flow.{Flow}
use Rattle.pair_machine.specs.Lists.{Each}
use Rattle.pair_machine.specs.Numbers.{Consumer, Partition}
use Rattle.pair_machine.proofs.CountLaws.{in_order}
use Rattle.pair_machine.proofs.Drain.{DrainFlow as PairDrainFlow}
use Rattle.pair_machine.proofs.DrainWhole.{plan_drains as pair_drains}
use Rattle.pair_machine.proofs.Lists.{each_append, each_left, each_right}
use Rattle.pair_machine.proofs.Tests.{if_elim}
use Rattle.trio_machine.specs.Reports.{replicas_of}
use Rattle.trio_machine.specs.Drain.{DrainIsWhole, IsEgressDone, IsEmptied, IsFirstLost, LostGroupsAreFound, consumer_in, drain, drain_events, drain_group, drain_groups, drain_into, feeder, first_lost, is_lost, pulls_below, server}
use Rattle.trio_machine.specs.Flow.{IsTrioFlow, IsTrioPlan, trio_flow, with_replicas}
use Rattle.trio_machine.specs.Machine.{State, at_node, does, egress_in, ingress_in, put, replica_in}
use Rattle.trio_machine.specs.Messages.{Makes}
use Rattle.trio_machine.specs.Numbers.{IngressNode, group_size, replica_at}
use Rattle.trio_machine.specs.Sound.{IsLost, IsServed, IsSound}
use Rattle.trio_machine.specs.declared.event.TrioEvent.{TrioEvent}
use Rattle.trio_machine.specs.declared.event.TrioEvent.TheVariants as event
use Rattle.trio_machine.specs.declared.node.TrioNode.{TrioNode}
use Rattle.trio_machine.specs.declared.node.TrioNode.TheVariants as node
use Rattle.trio_machine.proofs.DrainInto.{Base, DrainFlow, Inv, base_on, drained_into, full_on, sound_next}
use Rattle.trio_machine.proofs.DrainMoves.{Stays, Went, act_done, consumer_at, looped, put_quiet, put_stays, went_none, went_on}
use Rattle.trio_machine.proofs.Laws.{trio_is_flow}
use Rattle.trio_machine.proofs.Legal.{leads_elsewhere}
use Rattle.trio_machine.proofs.Served.{lost_is, served_is, server_serves}
use Rattle.trio_machine.proofs.SoundKept.{put_there}

-- ---- what the drain's events are at

each_replicate : (P : TrioEvent → Type 0) (n : ℕ) (e : TrioEvent) → P e → Each P (replicate n e)
each_replicate P zero e h = tt
each_replicate P (suc n) e h = (h, each_replicate P n e h)

-- what holds of the pulls to a consumer and of its work holds of all that it does
into_each : (P : TrioEvent → Type 0) (f : Flow) (s : State) (p : Partition) (to : TrioNode) (c : Consumer) → ((from : TrioNode) → P (event.Pull from to)) → P (event.Work to) → Each P (drain_into f s p to c)
into_each P f s p to c pull work = each_append P (pulls_below f s p to c (f.sources p.stage)) _ (below (f.sources p.stage)) (each_replicate P (f.total p - c.count) (event.Work to) work)
  where
    below : (n : ℕ) → Each P (pulls_below f s p to c n)
    below zero = tt
    below (suc q) = each_append P (pulls_below f s p to c q) _ (below q) (each_replicate P (left_on f p c q) _ (pull (feeder s p q)))

groups_append : (f : Flow) (s : State) (ps qs : List Partition) → drain_groups f s (ps ++ qs) ≡ drain_groups f s ps ++ drain_groups f s qs
groups_append f s [] qs = refl
groups_append f s (p ∷ ps) qs = ap (λ es. drain_group f s p ++ es) (groups_append f s ps qs) ∙ sym (append_assoc (drain_group f s p) (drain_groups f s ps) (drain_groups f s qs))

-- ---- the whole

module _ (f : Flow) (df : DrainFlow f) (s0 : State) where
  abbrev d : Partition → ℕ
  d = server s0

  -- a group that comes later than the first n of stage k + 1
  abbrev Later : ℕ → ℕ → Partition → Type 0
  Later k n p = (suc k < p.stage) ⊎ ((p.stage ≡ suc k) × (n ≤ p.part))

  abbrev DoneAt : State → Partition → Type 0
  DoneAt t p = (consumer_in (replicas_of t p (d p))).count ≡ f.total p

  -- the first k stages have merged all, and the first n of stage k + 1; what comes later is as it was
  pub record At (k n : ℕ) (t : State) : Type 0 where
    pub inv : Inv f df s0 k t
    pub parts : (p : Partition) → IsOfStage f p → p.stage ≡ suc k → p.part < n → DoneAt t p
    pub later : (p : Partition) → IsOfStage f p → Later k n p → t.nodes (replica_at p (d p)) ≡ s0.nodes (replica_at p (d p))
    pub egress : t.nodes node.Egress ≡ s0.nodes node.Egress

  pub record GoneTo (k n : ℕ) (s : State) (es : List TrioEvent) : Type 0 where
    pub state : State
    pub went : Went f s es state
    pub at : At k n state

  not_egress : (p : Partition) (c : ℕ) → node.Egress ≢ replica_at p c
  not_egress p c e = let y : ⊥ = cc e in y

  stage_of : TrioNode → Partition
  stage_of node.Ingress = partition 0 0
  stage_of (node.Replica s p c) = partition s p
  stage_of (node.Control s p) = partition 0 0
  stage_of node.Egress = partition 0 0

  apart : (p q : Partition) (c e : ℕ) → (p ≡ q → ⊥) → replica_at p c ≢ replica_at q e
  unfolding stage_of
  apart p q c e h z = h (ap stage_of z)

  parts : (k : ℕ) → suc k ≤ f.stages → (n : ℕ) → n ≤ f.sources (suc k + 1) → (s : State) → At k 0 s → GoneTo k n s (drain_groups f s0 (parts_below (suc k) n))
  parts k l zero m s i = record { state = s; went = went_none f s; at = i }
  parts k l (suc n) m s i =
      let a = parts k l n (omega arith) s i in
      let p = partition (suc k) n in
      let here : IsOfStage f p = record { first = omega arith; last = l; part = omega arith } in
      let to = replica_at p (d p) in
      let same : consumer_in (replica_in (s0.nodes to)) ≡ consumer_at to (a.state.nodes to) = ap (consumer_at to) (sym (a.at.later p here (inr (refl, omega arith)))) in
      let b = drained_into f df s0 k to (here, refl) refl a.state (consumer_in (replica_in (s0.nodes to))) same a.at.inv in
      let es : drain_groups f s0 (parts_below (suc k) n) ++ drain_group f s0 p ≡ drain_groups f s0 (parts_below (suc k) (suc n)) =
      ap (λ xs. drain_groups f s0 (parts_below (suc k) n) ++ xs) (sym (append-nil (drain_group f s0 p))) ∙ sym (groups_append f s0 (parts_below (suc k) n) (p ∷ [])) in
      let stays : (x : TrioNode) → x ≢ to → b.state.nodes x ≡ a.state.nodes x = λ x h. leads_elsewhere f (drain_group f s0 p) a.state b.state b.went.legal.leads x
      (into_each (λ e. x ≢ at_node e) f s0 p to (consumer_in (replica_in (s0.nodes to))) (λ from. h) h) in
      record {
        state = b.state;
        went = subst (λ xs. Went f s xs b.state) es (went_on f s a.state b.state (drain_groups f s0 (parts_below (suc k) n)) (drain_group f s0 p) a.went b.went);
        at = record {
          inv = b.inv;
          parts = λ q h e less. part_done q h e less a.state b.state a.at.inv.base b.went.stays b.inv.base.sound b.whole a.at.parts (cases_lt q.part n);
          later = λ q h late. stays (replica_at q (d q)) (apart q p (d q) (d p) (later_apart q late)) ∙ a.at.later q h (later_before q late);
          egress = stays node.Egress (not_egress p (d p)) ∙ a.at.egress;
        };
      }
    where
      later_apart : (q : Partition) → Later k (suc n) q → q ≡ partition (suc k) n → ⊥
      later_apart q (inl z) e = let y : q.stage ≡ suc k = ap (λ (x : Partition). x.stage) e in omega arith
      later_apart q (inr z) e = let y : q.part ≡ n = ap (λ (x : Partition). x.part) e in omega (arith, z.1)

      later_before : (q : Partition) → Later k (suc n) q → Later k n q
      later_before q (inl z) = inl z
      later_before q (inr z) = inr (z.0, omega (arith, z.1))

      part_done : (q : Partition) → IsOfStage f q → q.stage ≡ suc k → q.part < suc n → (t u : State) → Base f df s0 t → ((x : TrioNode) → Stays x (t.nodes x) (u.nodes x)) → IsSound f u → DoneAt u (partition (suc k) n) →
          ((p : Partition) → IsOfStage f p → p.stage ≡ suc k → p.part < n → DoneAt t p) → (q.part < n) ⊎ (n ≤ q.part) → DoneAt u q
      part_done q h e less t u base stays g whole before (inl z) = full_on f df s0 t u base stays g q h (before q h e z)
      part_done q h e less t u base stays g whole before (inr z) = let y : n ≡ q.part = omega arith in let same : partition (suc k) n ≡ q = λ i. record { stage = sym e i; part = y i } in subst (DoneAt u) same whole

  stages : (k : ℕ) → k ≤ f.stages → (s : State) → At 0 0 s → GoneTo k 0 s (drain_groups f s0 (pairs_up_to f k))
  stages zero l s i = record { state = s; went = went_none f s; at = i }
  stages (suc k) l s i =
      let a = stages k (omega arith) s i in
      let n = f.sources (suc k + 1) in
      let b = parts k l n (omega arith) a.state a.at in
      record {
        state = b.state;
        went = subst (λ xs. Went f s xs b.state) (sym (groups_append f s0 (pairs_up_to f k) (parts_below (suc k) n)))
            (went_on f s a.state b.state (drain_groups f s0 (pairs_up_to f k)) (drain_groups f s0 (parts_below (suc k) n)) a.went b.went);
        at = record {
          inv = record { base = b.at.inv.base; makes = b.at.inv.makes; full = λ p h m. full p h m b.state b.at (cases_lt p.stage (suc k)) };
          parts = λ p h e m. absurd (omega arith);
          later = λ p h z. b.at.later p h (before p z);
          egress = b.at.egress;
        };
      }
    where
      full : (p : Partition) → IsOfStage f p → p.stage ≤ suc k → (t : State) → At k (f.sources (suc k + 1)) t → (p.stage < suc k) ⊎ (suc k ≤ p.stage) → DoneAt t p
      full p h m t x (inl z) = x.inv.full p h (omega arith)
      full p h m t x (inr z) = let e : p.stage ≡ suc k = omega arith in x.parts p h e (subst (λ n. p.part < f.sources (n + 1)) e h.part)

      before : (p : Partition) → Later (suc k) 0 p → Later k (f.sources (suc k + 1)) p
      before p (inl z) = inl (omega arith)
      before p (inr z) = inl (omega (arith, z.0))

  -- ingress makes all
  make_one : (s : State) (m : ℕ) → Base f df s0 s → f.makes - (ingress_in (s.nodes node.Ingress)).makes ≡ suc m →
      (t : State) × Went f s (event.Make ∷ []) t × Base f df s0 t × (f.makes - (ingress_in (t.nodes node.Ingress)).makes ≡ m)
  make_one s m b e =
      let x = ingress_in (s.nodes node.Ingress) in
      let y = IngressNode (record x { makes = x.makes + 1 }) in
      let less : nat_lt x.makes f.makes ≡ true = lt-ltb x.makes f.makes (omega arith) in
      let done : does f node.Ingress Makes (s.nodes node.Ingress) ≡ Ok (y, []) = simp less in
      let t = put node.Ingress s y [] in
      let stepped = act_done f s event.Make Makes y refl done in
      let stays = put_stays node.Ingress s y (omega arith) in
      let sound = sound_next f df s0 s t event.Make b.sound tt stepped in
      let count : (ingress_in (t.nodes node.Ingress)).makes ≡ x.makes + 1 = ap (λ n. (ingress_in n).makes) (put_there node.Ingress s y []) in
      (t, record { legal = record { there = (tt, tt); leads = stepped }; ready = (tt, tt); stays = stays; quiet = put_quiet node.Ingress s y }, base_on f df s0 s t b stays sound, omega arith)

  -- egress takes and merges all, at last
  at_last : (t : State) → At f.stages 0 t → (u : State) × Went f t (drain_into f s0 (egress_partition f) node.Egress (egress_in (s0.nodes node.Egress))) u × IsEgressDone f u × Inv f df s0 f.stages u
  at_last t at =
      let z = drained_into f df s0 f.stages node.Egress tt (omega arith) t (egress_in (s0.nodes node.Egress)) (ap egress_in (sym at.egress)) at.inv in
      (z.state, z.went, z.whole, z.inv)

  pub record IsWhole : Type 0 where
    pub state : State
    pub went : Went f s0 (drain_events f s0) state
    pub done : IsEgressDone f state
    pub inv : Inv f df s0 f.stages state

  whole : Base f df s0 s0 → IsWhole
  whole b =
      let n = f.makes - (ingress_in (s0.nodes node.Ingress)).makes in
      let a = looped f event.Make (Base f df s0) (λ t. f.makes - (ingress_in (t.nodes node.Ingress)).makes) make_one n s0 b refl in
      let stays : (x : TrioNode) → x ≢ node.Ingress → a.0.nodes x ≡ s0.nodes x = λ x h. leads_elsewhere f (replicate n event.Make) s0 a.0 a.1.legal.leads x (each_replicate (λ e. x ≢ at_node e) n event.Make h) in
      let most = (a.2.sound.nodes node.Ingress).bound.0 in
      let none = a.3 in
      let start : At 0 0 a.0 = record {
        inv = record { base = a.2; makes = omega arith; full = λ p h l. (let z = h.first in absurd (omega arith)) };
        parts = λ p h e m. absurd (omega arith);
        later = λ p h z. stays (replica_at p (d p)) (λ e. (let y : ⊥ = cc e in y));
        egress = stays node.Egress (λ e. (let y : ⊥ = cc e in y));
      } in
      let c = stages f.stages (omega arith) a.0 start in
      let last = at_last c.state c.at in
      record {
        state = last.0;
        went = went_on f s0 a.0 last.0 (replicate n event.Make) _ a.1 (went_on f a.0 c.state last.0 (drain_groups f s0 (pairs_up_to f f.stages)) _ c.went last.1);
        done = last.2;
        inv = last.3;
      }

-- ---- the first lost group

each_part : (P : Partition → Type 0) (stage n : ℕ) → ((j : ℕ) → j < n → P (partition stage j)) → Each P (parts_below stage n)
each_part P stage zero h = tt
each_part P stage (suc n) h = each_append P (parts_below stage n) (partition stage n ∷ []) (each_part P stage n (λ j l. h j (omega arith))) (h n (omega arith), tt)

each_group : (f : Flow) (k : ℕ) → k ≤ f.stages → Each (IsOfStage f) (pairs_up_to f k)
each_group f zero l = tt
each_group f (suc k) l = each_append (IsOfStage f) (pairs_up_to f k) (parts_below (suc k) (f.sources (suc k + 1))) (each_group f k (omega arith))
    (each_part (IsOfStage f) (suc k) (f.sources (suc k + 1)) (λ j m. record { first = omega arith; last = l; part = m }))

part_of_each : (P : Partition → Type 0) (stage n j : ℕ) → j < n → Each P (parts_below stage n) → P (partition stage j)
part_of_each P stage zero j l h = absurd (omega arith)
part_of_each P stage (suc n) j l h = go (cases_lt j n) (λ z. part_of_each P stage n j z (each_left P (parts_below stage n) (partition stage n ∷ []) h))
  where
    go : (j < n) ⊎ (n ≤ j) → (j < n → P (partition stage j)) → P (partition stage j)
    go (inl z) before = before z
    go (inr z) before = let e : n ≡ j = omega arith in subst (λ i. P (partition stage i)) e (each_right P (parts_below stage n) (partition stage n ∷ []) h).0

group_of_each : (f : Flow) (P : Partition → Type 0) (k : ℕ) (p : Partition) → IsOfStage f p → p.stage ≤ k → Each P (pairs_up_to f k) → P p
group_of_each f P zero p h l e = let z = h.first in absurd (omega arith)
group_of_each f P (suc k) p h l e = go (cases_lt p.stage (suc k)) (λ z. group_of_each f P k p h z (each_left P (pairs_up_to f k) (parts_below (suc k) (f.sources (suc k + 1))) e))
  where
    go : (p.stage < suc k) ⊎ (suc k ≤ p.stage) → (p.stage ≤ k → P p) → P p
    go (inl z) before = before (omega arith)
    go (inr z) before =
        let same : suc k ≡ p.stage = omega arith in
        let few : p.part < f.sources (suc k + 1) = subst (λ n. p.part < f.sources (n + 1)) (sym same) h.part in
        let here : partition (suc k) p.part ≡ p = λ i. record { stage = same i; part = p.part } in
        subst P here (part_of_each P (suc k) (f.sources (suc k + 1)) p.part few (each_right P (pairs_up_to f k) (parts_below (suc k) (f.sources (suc k + 1))) e))

find_lost : (s : State) (ps : List Partition) (p : Partition) → first_lost s ps ≡ Some p → IsFirstLost s ps p
find_lost s [] p e = let z : ⊥ = cc e in absurd z
find_lost s (q ∷ ps) p e = go (is_lost s q) refl e (λ z. find_lost s ps p z)
  where
    go : (c : Bool) → is_lost s q ≡ c → (if c then Some q else first_lost s ps) ≡ Some p → (first_lost s ps ≡ Some p → IsFirstLost s ps p) → IsFirstLost s (q ∷ ps) p
    go true c e later =
        let same : q ≡ p = cc e in
        record { before = []; after = ps; whole = λ i. sym same i ∷ ps; served = tt; lost = subst (IsLost s) same (lost_is s q c) }
    go false c e later =
        let z = later e in
        record { before = q ∷ z.before; after = z.after; whole = ap (λ xs. q ∷ xs) z.whole; served = (served_is s q c, z.served); lost = z.lost }

find_none : (s : State) (ps : List Partition) → first_lost s ps ≡ None → Each (IsServed s) ps
find_none s [] e = tt
find_none s (q ∷ ps) e = go (is_lost s q) refl e (find_none s ps)
  where
    go : (c : Bool) → is_lost s q ≡ c → (if c then Some q else first_lost s ps) ≡ None → (first_lost s ps ≡ None → Each (IsServed s) ps) → Each (IsServed s) (q ∷ ps)
    go true c e later = let z : ⊥ = cc e in absurd z
    go false c e later = (served_is s q c, later e)

pub finds_lost : LostGroupsAreFound
finds_lost f s = record {
  there = λ p e. let z = find_lost s (pairs_up_to f f.stages) p e in (each_right (IsOfStage f) z.before (p ∷ z.after) (subst (Each (IsOfStage f)) (sym z.whole) (each_group f f.stages (omega arith)))).0;
  first = λ p e. find_lost s (pairs_up_to f f.stages) p e;
  none = λ e p h. group_of_each f (IsServed s) f.stages p h h.last (find_none s (pairs_up_to f f.stages) e);
}

-- ---- the law

-- how many replicas there are is nothing to what merges and is made
as_trio : (f : Flow) → PairDrainFlow f → IsTrioFlow (with_replicas group_size f) → DrainFlow (with_replicas group_size f)
as_trio f h trio = record {
  trio = trio;
  ends = record {
    ready = λ p c m taken less. h.ends.ready p c (record { first = m.first; last = m.last }) taken less;
    ended = λ p c m taken most done. h.ends.ended p c (record { first = m.first; last = m.last }) taken most done;
  };
  made_whole = λ p t at. h.made_whole p t (record { first = at.first; last = at.last; part = at.part });
  makes_whole = λ t. h.makes_whole 0 t (let only = trio.one_source in omega arith);
}

pub trio_drains : (plan : PlanView) (inputs : List Input) → IsTrioPlan plan → DrainFlow (trio_flow plan inputs)
trio_drains plan inputs p = as_trio (flow_of plan inputs) (pair_drains plan inputs p.within) (trio_is_flow plan inputs p)

pub drain_whole : DrainIsWhole
drain_whole plan inputs p s g served =
    let f = trio_flow plan inputs in
    let df = trio_drains plan inputs p in
    let base : Base f df s s = record { sound = g; serves = λ q l. server_serves s q (served q l) } in
    let Out : List TrioEvent → Type 0 = λ es. (t : State) × Went f s es t × IsEgressDone f t × ((IsEgressDone f s → ⊥) → IsEmptied f s t) in
    let z : Out (drain f s) = if_elim Out ((egress_in (s.nodes node.Egress)).count == f.total (egress_partition f)) [] (drain_events f s)
    (λ e. let done = eqb-true (egress_in (s.nodes node.Egress)).count (f.total (egress_partition f)) e in (s, went_none f s, done, λ left. absurd (left done)))
    (λ e. let w = whole f df s base in (w.state, w.went, w.done, λ left. record { makes = w.inv.makes; merged = λ q h. w.inv.full q h h.last })) in
    record { reached = z.0; legal = z.1.legal; ready = z.1.ready; quiet = z.1.quiet; emptied = z.3; done = z.2; output = ap (output_first plan inputs) z.2 ∙ (in_order plan inputs).whole }
