-- The whole drain, pair by pair: a drainer keeps the numbers that it began with until its turn, since each event is at another node.
use Rattle.std.proofs.Common.{◌≡◌, ◌≢◌, ◌<◌, ◌≤◌, ◌⊎◌, inl, inr, ℕ, zero, suc, Bool, true, false, List, [], ◌∷◌, ◌++◌, ◌&&◌, None, Some, Result, Ok, Err, refl, sym, ap, ◌∙◌, subst, arith, append_assoc}
use Rattle.std.specs.Prelude.{◌==◌, ◌-◌, ◌+◌, if◌then◌else◌, nat_lt, replicate}
use Rattle.std.proofs.lemmas.Bool.{cases_lt, eqb-true, lt-ltb}
use Rattle.std.proofs.lemmas.List.{append-nil}
use Rattle.tuple_edge.specs.Input.{Input}
use Rattle.tuple_edge.specs.declared.event.Event.{Event}
use Rattle.tuple_edge.specs.declared.event.Event.TheVariants as event
use Rattle.tuple_edge.specs.declared.node.NodeId.{NodeId}
use Rattle.tuple_edge.specs.declared.node.NodeId.TheVariants as node
use Rattle.tuple_edge.specs.declared.node.Which.{Which}
use Rattle.tuple_edge.specs.declared.node.Which.TheVariants.{A, B}
use Rattle.plan_reader.specs.PlanView.{IsPlan, PlanView}
use Rattle.pair_machine.specs.Boundary.{egress_partition}
use Rattle.pair_machine.specs.Controllers.{counts}
use Rattle.pair_machine.specs.CountLaws.{IsOfStage, output_first}
use Rattle.pair_machine.specs.Counts.{flow_of}
use Rattle.pair_machine.specs.Drain.{DrainEventsKeepOwed, DrainIsWhole, DrainsAreFree, IsDrainable, IsEgressDone, IsEmptied, IsFirstLost, LostPairsAreFound, consumer_in, drain, drain_events, drain_into, drain_pair, drain_pairs, drainer, first_lost, is_lost, is_serving, left_on, pairs_up_to, parts_below, partition, pulls_below, is_running, source_of}
use Rattle.pair_machine.specs.Flow.{Flow}
use Rattle.pair_machine.specs.Journal.{NeedsNoOrder, TakesNoMessage}
use Rattle.pair_machine.specs.Lists.{Each}
use Rattle.pair_machine.specs.Machine.{Leads, State, at_node, does, egress_in, follow, ingress_in, replica_in, step}
use Rattle.pair_machine.specs.Messages.{Makes, Refusal}
use Rattle.pair_machine.specs.Numbers.{Consumer, Gathering, Gone, IngressNode, Partition, Replica, Running, replica_at}
use Rattle.pair_machine.specs.Pairs.{Side, side_of}
use Rattle.pair_machine.specs.Replicas.{inc_of, sum_below}
use Rattle.pair_machine.specs.Sound.{IsLost, IsRunning, IsServed, Serves}
use Rattle.pair_machine.proofs.CountLaws.{all_made, in_order, to_the_end}
use Rattle.pair_machine.proofs.Drain.{Base, DrainFlow, Inv, Went, base_ahead, drained_into, full_ahead, looped, went_none, went_on}
use Rattle.pair_machine.proofs.DrainMoves.{act_done, consumer_at, put_there}
use Rattle.pair_machine.proofs.DrainSteps.{Ahead, drain_step, put}
use Rattle.pair_machine.proofs.Journal.{at_one_node}
use Rattle.pair_machine.proofs.Legal.{follow_err}
use Rattle.pair_machine.proofs.Lists.{each_append, each_left, each_right}
use Rattle.pair_machine.proofs.PlanFlow.{plan_is_flow}
use Rattle.pair_machine.proofs.Tests.{both, if_elim}

-- ---- nodes at which no event is

pub leads_elsewhere : (f : Flow) (es : List Event) (s t : State) → Leads f s es t → (n : NodeId) → Each (λ e. n ≢ at_node e) es → t.nodes n ≡ s.nodes n
leads_elsewhere f [] s t l n h = let same : s ≡ t = cc l in ap (λ (u : State). u.nodes n) (sym same)
leads_elsewhere f (e ∷ es) s t l n h = go (step f s e) refl l (λ m k. leads_elsewhere f es m t k n h.1)
  where
    go : (r : Result State Refusal) → step f s e ≡ r → follow f es r ≡ Ok t → ((m : State) → Leads f m es t → t.nodes n ≡ m.nodes n) → t.nodes n ≡ s.nodes n
    go (Ok m) q l later = later m l ∙ at_one_node f s m e q n h.0
    go (Err x) q l later = let z : Err x ≡ Ok t = sym (follow_err f es x) ∙ l in let w : ⊥ = cc z in absurd w

each_replicate : (P : Event → Type 0) (n : ℕ) (e : Event) → P e → Each P (replicate n e)
each_replicate P zero e h = tt
each_replicate P (suc n) e h = (h, each_replicate P n e h)

-- what holds of the pulls to a consumer and of its work holds of all that it does
into_each : (P : Event → Type 0) (f : Flow) (s : State) (p : Partition) (to : NodeId) (c : Consumer) → ((from : NodeId) → P (event.Pull from to)) → P (event.Work to) → Each P (drain_into f s p to c)
into_each P f s p to c pull work = each_append P _ _
    (if_elim (Each P) (p.stage == 1) _ _ (λ e. each_replicate P (sum_below (f.sources p.stage) (left_on f p c)) (event.Pull node.Ingress to) (pull node.Ingress)) (λ e. below (f.sources p.stage)))
    (each_replicate P (f.total p - c.count) (event.Work to) work)
  where
    below : (n : ℕ) → Each P (pulls_below f s p to c n)
    below zero = tt
    below (suc q) = each_append P (pulls_below f s p to c q) _ (below q) (each_replicate P (left_on f p c q) _ (pull (replica_at (source_of p q) (drainer s (source_of p q)))))

pairs_append : (f : Flow) (s : State) (ps qs : List Partition) → drain_pairs f s (ps ++ qs) ≡ drain_pairs f s ps ++ drain_pairs f s qs
pairs_append f s [] qs = refl
pairs_append f s (p ∷ ps) qs = ap (λ es. drain_pair f s p ++ es) (pairs_append f s ps qs) ∙ sym (append_assoc (drain_pair f s p) (drain_pairs f s ps) (drain_pairs f s qs))

-- ---- the whole

module _ (f : Flow) (df : DrainFlow f) (s0 : State) where
  abbrev d : Partition → Which
  d = drainer s0

  -- a pair that comes later than the first n of stage k + 1
  abbrev Later : ℕ → ℕ → Partition → Type 0
  Later k n p = (suc k < p.stage) ⊎ ((p.stage ≡ suc k) × (n ≤ p.part))

  abbrev DoneAt : State → Partition → Type 0
  DoneAt t p = (consumer_in (replica_in (t.nodes (replica_at p (d p))))).count ≡ f.total p

  -- the first k stages have merged all, and the first n of stage k + 1; what comes later is as it was
  pub record At (k n : ℕ) (t : State) : Type 0 where
    pub inv : Inv f df d k t
    pub parts : (p : Partition) → IsOfStage f p → p.stage ≡ suc k → p.part < n → DoneAt t p
    pub later : (p : Partition) → IsOfStage f p → Later k n p → t.nodes (replica_at p (d p)) ≡ s0.nodes (replica_at p (d p))
    pub egress : t.nodes node.Egress ≡ s0.nodes node.Egress

  pub record GoneTo (k n : ℕ) (s : State) (es : List Event) : Type 0 where
    pub state : State
    pub went : Went f s es state
    pub at : At k n state

  not_egress : (p : Partition) (w : Which) → node.Egress ≢ replica_at p w
  not_egress p w e = let y : ⊥ = cc e in y

  stage_of : NodeId → Partition
  stage_of node.Ingress = partition 0 0
  stage_of (node.Replica s p w) = partition s p
  stage_of (node.Control s p) = partition 0 0
  stage_of node.Egress = partition 0 0

  apart : (p q : Partition) (w v : Which) → (p ≡ q → ⊥) → replica_at p w ≢ replica_at q v
  unfolding stage_of
  apart p q w v h e = h (ap stage_of e)

  parts : (k : ℕ) → suc k ≤ f.stages → (n : ℕ) → n ≤ f.sources (suc k + 1) → (s : State) → At k 0 s → GoneTo k n s (drain_pairs f s0 (parts_below (suc k) n))
  parts k l zero m s i = record { state = s; went = went_none f s; at = i }
  parts k l (suc n) m s i =
      let a = parts k l n (omega arith) s i in
      let p = partition (suc k) n in
      let here : IsOfStage f p = record { first = omega arith; last = l; part = omega arith } in
      let to = replica_at p (d p) in
      let same : consumer_in (replica_in (s0.nodes to)) ≡ consumer_at to (a.state.nodes to) = ap (consumer_at to) (sym (a.at.later p here (inr (refl, omega arith)))) in
      let b = drained_into f df d k to (here, refl) refl s0 a.state (consumer_in (replica_in (s0.nodes to))) (λ q h. refl) same a.at.inv in
      let es : drain_pairs f s0 (parts_below (suc k) n) ++ drain_pair f s0 p ≡ drain_pairs f s0 (parts_below (suc k) (suc n)) =
      ap (λ xs. drain_pairs f s0 (parts_below (suc k) n) ++ xs) (sym (append-nil (drain_pair f s0 p))) ∙ sym (pairs_append f s0 (parts_below (suc k) n) (p ∷ [])) in
      let stays : (x : NodeId) → x ≢ to → b.state.nodes x ≡ a.state.nodes x = λ x h. leads_elsewhere f (drain_pair f s0 p) a.state b.state b.went.legal.leads x
      (into_each (λ e. x ≢ at_node e) f s0 p to (consumer_in (replica_in (s0.nodes to))) (λ from. h) h) in
      record {
        state = b.state;
        went = subst (λ xs. Went f s xs b.state) es (went_on f s a.state b.state (drain_pairs f s0 (parts_below (suc k) n)) (drain_pair f s0 p) a.went b.went);
        at = record {
          inv = b.inv;
          parts = λ q h e less. part_done q h e less a.state b.state a.at.inv.base b.went.ahead b.inv.base.drainable b.whole a.at.parts (cases_lt q.part n);
          later = λ q h late. stays (replica_at q (d q)) (apart q p (d q) (d p) (later_apart q late)) ∙ a.at.later q h (later_before q late);
          egress = stays node.Egress (not_egress p (d p)) ∙ a.at.egress;
        };
      }
    where
      later_apart : (q : Partition) → Later k (suc n) q → q ≡ partition (suc k) n → ⊥
      later_apart q (inl z) e = let y : q.stage ≡ suc k = ap (λ (x : Partition). x.stage) e in omega arith
      later_apart q (inr z) e = let y : q.part ≡ n = ap (λ (x : Partition). x.part) e in omega (arith, z.1)

      later_before : (q : Partition) → Later k (suc n) q → Later k n q
      later_before q (inl z) = inl z
      later_before q (inr z) = inr (z.0, omega (arith, z.1))

      part_done : (q : Partition) → IsOfStage f q → q.stage ≡ suc k → q.part < suc n → (t u : State) → Base f df d t → Ahead t u → IsDrainable f u → DoneAt u (partition (suc k) n) →
          ((p : Partition) → IsOfStage f p → p.stage ≡ suc k → p.part < n → DoneAt t p) → (q.part < n) ⊎ (n ≤ q.part) → DoneAt u q
      part_done q h e less t u base ahead g whole before (inl z) = full_ahead f df d t u base ahead g q h (before q h e z)
      part_done q h e less t u base ahead g whole before (inr z) = let y : n ≡ q.part = omega arith in let same : partition (suc k) n ≡ q = λ i. record { stage = sym e i; part = y i } in subst (DoneAt u) same whole

  stages : (k : ℕ) → k ≤ f.stages → (s : State) → At 0 0 s → GoneTo k 0 s (drain_pairs f s0 (pairs_up_to f k))
  stages zero l s i = record { state = s; went = went_none f s; at = i }
  stages (suc k) l s i =
      let a = stages k (omega arith) s i in
      let n = f.sources (suc k + 1) in
      let b = parts k l n (omega arith) a.state a.at in
      record {
        state = b.state;
        went = subst (λ xs. Went f s xs b.state) (sym (pairs_append f s0 (pairs_up_to f k) (parts_below (suc k) n)))
            (went_on f s a.state b.state (drain_pairs f s0 (pairs_up_to f k)) (drain_pairs f s0 (parts_below (suc k) n)) a.went b.went);
        at = record {
          inv = record { base = b.at.inv.base; makes = b.at.inv.makes; full = λ p h m. full p h m b.state b.at (cases_lt p.stage (suc k)) };
          parts = λ p h e m. absurd (omega arith);
          later = λ p h z. b.at.later p h (before p z);
          egress = b.at.egress;
        };
      }
    where
      full : (p : Partition) → IsOfStage f p → p.stage ≤ suc k → (t : State) → At k (f.sources (suc k + 1)) t → (p.stage < suc k) ⊎ (suc k ≤ p.stage) → DoneAt t p
      full p h m t x (inl z) = x.inv.full p h (omega arith)
      full p h m t x (inr z) = let e : p.stage ≡ suc k = omega arith in x.parts p h e (subst (λ n. p.part < f.sources (n + 1)) e h.part)

      before : (p : Partition) → Later (suc k) 0 p → Later k (f.sources (suc k + 1)) p
      before p (inl z) = inl (omega arith)
      before p (inr z) = inl (omega (arith, z.0))

  -- ingress makes all
  make_one : (s : State) (m : ℕ) → Base f df d s → f.makes - (ingress_in (s.nodes node.Ingress)).makes ≡ suc m →
      (t : State) × Went f s (event.Make ∷ []) t × Base f df d t × (f.makes - (ingress_in (t.nodes node.Ingress)).makes ≡ m)
  make_one s m b e =
      let x = ingress_in (s.nodes node.Ingress) in
      let y = IngressNode (record x { makes = x.makes + 1 }) in
      let less : nat_lt x.makes f.makes ≡ true = lt-ltb x.makes f.makes (omega arith) in
      let done : does f node.Ingress Makes (s.nodes node.Ingress) ≡ Ok (y, []) = simp less in
      let t = put node.Ingress s y in
      let stepped = act_done f s event.Make Makes y refl done in
      let z = drain_step f df.flow s t event.Make tt tt b.drainable stepped in
      let count : (ingress_in (t.nodes node.Ingress)).makes ≡ x.makes + 1 = ap (λ n. (ingress_in n).makes) (put_there node.Ingress s y) in
      (t, record { legal = record { there = (tt, tt); leads = stepped }; ready = (tt, tt); ahead = z.ahead; quiet = z.quiet }, base_ahead f df d s t b z.ahead z.drainable, omega arith)

  -- egress takes and merges all, at last
  at_last : (t : State) → At f.stages 0 t → (u : State) × Went f t (drain_into f s0 (egress_partition f) node.Egress (egress_in (s0.nodes node.Egress))) u × IsEgressDone f u × Inv f df d f.stages u
  at_last t at =
      let z = drained_into f df d f.stages node.Egress tt (omega arith) s0 t (egress_in (s0.nodes node.Egress)) (λ q h. refl) (ap egress_in (sym at.egress)) at.inv in
      (z.state, z.went, z.whole, z.inv)

  pub record IsWhole : Type 0 where
    pub state : State
    pub went : Went f s0 (drain_events f s0) state
    pub done : IsEgressDone f state
    pub inv : Inv f df d f.stages state

  pub whole : Base f df d s0 → IsWhole
  whole b =
      let n = f.makes - (ingress_in (s0.nodes node.Ingress)).makes in
      let a = looped f event.Make (Base f df d) (λ t. f.makes - (ingress_in (t.nodes node.Ingress)).makes) make_one n s0 b refl in
      let stays : (x : NodeId) → x ≢ node.Ingress → a.0.nodes x ≡ s0.nodes x = λ x h. leads_elsewhere f (replicate n event.Make) s0 a.0 a.1.legal.leads x (each_replicate (λ e. x ≢ at_node e) n event.Make h) in
      let most = (a.2.drainable.within node.Ingress).0 in
      let none = a.3 in
      let start : At 0 0 a.0 = record {
        inv = record { base = a.2; makes = omega arith; full = λ p h l. (let z = h.first in absurd (omega arith)) };
        parts = λ p h e m. absurd (omega arith);
        later = λ p h z. stays (replica_at p (d p)) (λ e. (let y : ⊥ = cc e in y));
        egress = stays node.Egress (λ e. (let y : ⊥ = cc e in y));
      } in
      let c = stages f.stages (omega arith) a.0 start in
      let last = at_last c.state c.at in
      record {
        state = last.0;
        went = went_on f s0 a.0 last.0 (replicate n event.Make) _ a.1 (went_on f a.0 c.state last.0 (drain_pairs f s0 (pairs_up_to f f.stages)) _ c.went last.1);
        done = last.2;
        inv = last.3;
      }

-- ---- served and lost

serving_is : (a : Side) → is_serving a ≡ true → Serves a
serving_is a e = let z = both (is_running a.replica) (counts a.watched (inc_of a.replica)) e in (go a.replica z.0, z.1)
  where
    go : (r : Replica) → is_running r ≡ true → IsRunning r
    go (Gone i) e = let z : ⊥ = cc e in absurd z
    go (Running x) e = tt
    go (Gathering g) e = let z : ⊥ = cc e in absurd z

is_serving_of : (a : Side) → Serves a → is_serving a ≡ true
is_serving_of a h = go a.replica h.0 h.1
  where
    go : (r : Replica) → IsRunning r → counts a.watched (inc_of r) ≡ true → (is_running r && counts a.watched (inc_of r)) ≡ true
    go (Gone i) run c = absurd run
    go (Running x) run c = c
    go (Gathering g) run c = absurd run

drainer_serves : (s : State) (p : Partition) → IsServed s p → Serves (side_of s p (drainer s p))
drainer_serves s p h = if_elim (λ w. Serves (side_of s p w)) (is_serving (side_of s p A)) A B (serving_is (side_of s p A)) (λ e. second e h)
  where
    second : is_serving (side_of s p A) ≡ false → IsServed s p → Serves (side_of s p B)
    second e (inl a) = let z : true ≡ false = sym (is_serving_of (side_of s p A) a) ∙ e in let y : ⊥ = cc z in absurd y
    second e (inr b) = b

lost_is : (s : State) (p : Partition) → is_lost s p ≡ true → IsLost s p
lost_is s p e (inl a) = let x = is_serving_of (side_of s p A) a in let z : false ≡ true = subst (λ c. (if c then false else if is_serving (side_of s p B) then false else true) ≡ true) x e in let y : ⊥ = cc z in y
lost_is s p e (inr b) = go (is_serving (side_of s p A)) (is_serving (side_of s p B)) (is_serving_of (side_of s p B) b) e
  where
    go : (x y : Bool) → y ≡ true → (if x then false else if y then false else true) ≡ true → ⊥
    go true y z e = cc e
    go false true z e = cc e
    go false false z e = cc z

not_lost : (s : State) (p : Partition) → is_lost s p ≡ false → IsServed s p
not_lost s p e = go (is_serving (side_of s p A)) (is_serving (side_of s p B)) (serving_is (side_of s p A)) (serving_is (side_of s p B)) e
  where
    go : (x y : Bool) → (x ≡ true → Serves (side_of s p A)) → (y ≡ true → Serves (side_of s p B)) → (if x then false else if y then false else true) ≡ false → IsServed s p
    go true y a b e = inl (a refl)
    go false true a b e = inr (b refl)
    go false false a b e = let z : ⊥ = cc e in absurd z

each_part : (P : Partition → Type 0) (stage n : ℕ) → ((j : ℕ) → j < n → P (partition stage j)) → Each P (parts_below stage n)
each_part P stage zero h = tt
each_part P stage (suc n) h = each_append P (parts_below stage n) (partition stage n ∷ []) (each_part P stage n (λ j l. h j (omega arith))) (h n (omega arith), tt)

each_pair : (f : Flow) (k : ℕ) → k ≤ f.stages → Each (IsOfStage f) (pairs_up_to f k)
each_pair f zero l = tt
each_pair f (suc k) l = each_append (IsOfStage f) (pairs_up_to f k) (parts_below (suc k) (f.sources (suc k + 1))) (each_pair f k (omega arith))
    (each_part (IsOfStage f) (suc k) (f.sources (suc k + 1)) (λ j m. record { first = omega arith; last = l; part = m }))

part_of_each : (P : Partition → Type 0) (stage n j : ℕ) → j < n → Each P (parts_below stage n) → P (partition stage j)
part_of_each P stage zero j l h = absurd (omega arith)
part_of_each P stage (suc n) j l h = go (cases_lt j n) (λ z. part_of_each P stage n j z (each_left P (parts_below stage n) (partition stage n ∷ []) h))
  where
    go : (j < n) ⊎ (n ≤ j) → (j < n → P (partition stage j)) → P (partition stage j)
    go (inl z) before = before z
    go (inr z) before = let e : n ≡ j = omega arith in subst (λ i. P (partition stage i)) e (each_right P (parts_below stage n) (partition stage n ∷ []) h).0

pair_of_each : (f : Flow) (P : Partition → Type 0) (k : ℕ) (p : Partition) → IsOfStage f p → p.stage ≤ k → Each P (pairs_up_to f k) → P p
pair_of_each f P zero p h l e = let z = h.first in absurd (omega arith)
pair_of_each f P (suc k) p h l e = go (cases_lt p.stage (suc k)) (λ z. pair_of_each f P k p h z (each_left P (pairs_up_to f k) (parts_below (suc k) (f.sources (suc k + 1))) e))
  where
    go : (p.stage < suc k) ⊎ (suc k ≤ p.stage) → (p.stage ≤ k → P p) → P p
    go (inl z) before = before (omega arith)
    go (inr z) before =
        let same : suc k ≡ p.stage = omega arith in
        let few : p.part < f.sources (suc k + 1) = subst (λ n. p.part < f.sources (n + 1)) (sym same) h.part in
        let here : partition (suc k) p.part ≡ p = λ i. record { stage = same i; part = p.part } in
        subst P here (part_of_each P (suc k) (f.sources (suc k + 1)) p.part few (each_right P (pairs_up_to f k) (parts_below (suc k) (f.sources (suc k + 1))) e))

find_lost : (s : State) (ps : List Partition) (p : Partition) → first_lost s ps ≡ Some p → IsFirstLost s ps p
find_lost s [] p e = let z : ⊥ = cc e in absurd z
find_lost s (q ∷ ps) p e = go (is_lost s q) refl e (λ z. find_lost s ps p z)
  where
    go : (c : Bool) → is_lost s q ≡ c → (if c then Some q else first_lost s ps) ≡ Some p → (first_lost s ps ≡ Some p → IsFirstLost s ps p) → IsFirstLost s (q ∷ ps) p
    go true c e later =
        let same : q ≡ p = cc e in
        record { before = []; after = ps; whole = λ i. sym same i ∷ ps; served = tt; lost = subst (IsLost s) same (lost_is s q c) }
    go false c e later =
        let z = later e in
        record { before = q ∷ z.before; after = z.after; whole = ap (λ xs. q ∷ xs) z.whole; served = (not_lost s q c, z.served); lost = z.lost }

find_none : (s : State) (ps : List Partition) → first_lost s ps ≡ None → Each (IsServed s) ps
find_none s [] e = tt
find_none s (q ∷ ps) e = go (is_lost s q) refl e (find_none s ps)
  where
    go : (c : Bool) → is_lost s q ≡ c → (if c then Some q else first_lost s ps) ≡ None → (first_lost s ps ≡ None → Each (IsServed s) ps) → Each (IsServed s) (q ∷ ps)
    go true c e later = let z : ⊥ = cc e in absurd z
    go false c e later = (not_lost s q c, later e)

pub finds_lost : LostPairsAreFound
finds_lost f s = record {
  there = λ p e. let z = find_lost s (pairs_up_to f f.stages) p e in (each_right (IsOfStage f) z.before (p ∷ z.after) (subst (Each (IsOfStage f)) (sym z.whole) (each_pair f f.stages (omega arith)))).0;
  first = λ p e. find_lost s (pairs_up_to f f.stages) p e;
  none = λ e p h. pair_of_each f (IsServed s) f.stages p h h.last (find_none s (pairs_up_to f f.stages) e);
}

-- ---- the laws

drain_each : (P : Event → Type 0) (f : Flow) (s : State) → P event.Make → ((from to : NodeId) → P (event.Pull from to)) → ((n : NodeId) → P (event.Work n)) → Each P (drain f s)
drain_each P f s make pull work = if_elim (Each P) _ [] (drain_events f s) (λ e. tt) (λ e. each_append P _ _ (each_replicate P _ event.Make make)
    (each_append P _ _ (pairs (pairs_up_to f f.stages)) (into_each P f s (egress_partition f) node.Egress (egress_in (s.nodes node.Egress)) (λ from. pull from node.Egress) (work node.Egress))))
  where
    pairs : (ps : List Partition) → Each P (drain_pairs f s ps)
    pairs [] = tt
    pairs (p ∷ ps) = each_append P (drain_pair f s p) (drain_pairs f s ps)
        (into_each P f s p (replica_at p (drainer s p)) (consumer_in (replica_in (s.nodes (replica_at p (drainer s p))))) (λ from. pull from (replica_at p (drainer s p))) (work (replica_at p (drainer s p)))) (pairs ps)

pub drains_free : DrainsAreFree
drains_free f s = record { no_message = drain_each TakesNoMessage f s tt (λ from to. tt) (λ n. tt); no_order = drain_each NeedsNoOrder f s tt (λ from to. tt) (λ n. tt) }

pub keep_owed : DrainEventsKeepOwed
keep_owed plan inputs h s t e there is d done = let z = drain_step (flow_of plan inputs) (plan_is_flow plan inputs h) s t e there is d done in (z.drainable, z.quiet)

few_sources : (plan : PlanView) (inputs : List Input) (q : ℕ) → q < (flow_of plan inputs).sources 1 → q < plan.version
unfolding flow_of
few_sources plan inputs q l = l

pub plan_drains : (plan : PlanView) (inputs : List Input) → IsPlan plan → DrainFlow (flow_of plan inputs)
plan_drains plan inputs h =
    let made = all_made plan inputs h in
    record { flow = plan_is_flow plan inputs h; ends = to_the_end plan inputs h; made_whole = λ p t l. (made.by_parts p t l).whole; makes_whole = λ q t l. (made.by_ingress q t (few_sources plan inputs q l)).whole }

pub drain_whole : DrainIsWhole
drain_whole plan inputs h s g served =
    let f = flow_of plan inputs in
    let df = plan_drains plan inputs h in
    let base : Base f df (drainer s) s = record { drainable = g; serves = λ p l. drainer_serves s p (served p l) } in
    let Out : List Event → Type 0 = λ es. (t : State) × Went f s es t × IsEgressDone f t × ((IsEgressDone f s → ⊥) → IsEmptied f s t) in
    let z : Out (drain f s) = if_elim Out ((egress_in (s.nodes node.Egress)).count == f.total (egress_partition f)) [] (drain_events f s)
    (λ e. let done = eqb-true (egress_in (s.nodes node.Egress)).count (f.total (egress_partition f)) e in (s, went_none f s, done, λ left. absurd (left done)))
    (λ e. let w = whole f df s base in (w.state, w.went, w.done, λ left. record { makes = w.inv.makes; merged = λ p h. w.inv.full p h h.last })) in
    record { reached = z.0; legal = z.1.legal; ready = z.1.ready; quiet = z.1.quiet; emptied = z.3; done = z.2; output = ap (output_first plan inputs) z.2 ∙ (in_order plan inputs).whole }
