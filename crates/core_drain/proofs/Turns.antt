-- What each call of the code's loops does is the next block of the machine's drain.
use Rattle.std.proofs.Common.{◌≡◌, ◌≢◌, ◌<◌, ◌≤◌, ◌+◌, ◌-◌, ◌==◌, ◌&&◌, ◌∙◌, ℕ, zero, suc, Bool, true, false, List, [], ◌∷◌, ◌++◌, length, nat_le, nat_lt, replicate, refl, sym, ap, subst, arith, append_assoc}
use Rattle.std.proofs.lemmas.Bool.{eq-eqb, le-leb, leb-true, lt-ltb}
use Rattle.std.proofs.lemmas.List.{append-nil}
use Rattle.tuple_edge.specs.declared.event.Event.{Event}
use Rattle.tuple_edge.specs.declared.event.Event.TheVariants as event
use Rattle.tuple_edge.specs.declared.node.NodeId.{NodeId}
use Rattle.tuple_edge.specs.declared.node.NodeId.TheVariants as node
use Rattle.tuple_edge.specs.declared.node.Which.{Which}
use Rattle.plan_reader.specs.Nodes.{carries_items, has_edge, has_node, has_pair, is_consumer, parts_of, sources_of, stage_of_node}
use Rattle.plan_reader.specs.PlanView.{PlanView}
use Rattle.pair_machine.specs.CountLaws.{IsOfStage}
use Rattle.pair_machine.specs.Counts.{flow_of}
use Rattle.pair_machine.specs.Drain.{consumer_in, drain_events, drain_into, drain_pair, drain_pairs, drainer, left_on, pairs_up_to, partition, parts_below, source_of}
use Rattle.pair_machine.specs.Flow.{Flow}
use Rattle.pair_machine.specs.Links.{HasNode}
use Rattle.pair_machine.specs.Machine.{State, replica_in}
use Rattle.pair_machine.specs.Numbers.{Partition, replica_at}
use Rattle.pair_machine.specs.Replicas.{sum_below}
use Rattle.pair_machine.proofs.PlanNodes.{nodes_named}
use Rattle.pair_machine.proofs.Tests.{both, nat_not}
use Rattle.flux_core.specs.CoreView.{CoreView}
use Rattle.flux_core.specs.Stands.{StandsFor}
use Rattle.core_drain.specs.Progress.{IsAfter, IsBlock, IsTurnOf, MayBegin, Start, before_turn, consumer_of, done_before, flow_at, makes_left, pairs_before, partition_in, pulls_of, turn_of}
use Rattle.core_drain.proofs.Along.{along_at}
use Rattle.core_drain.proofs.Blocks.{last_turn, makes_block, pulls_up_to, turn}
use Rattle.core_drain.proofs.Fronts.{pairs_next}
use Rattle.core_drain.proofs.Pairs.{drainer_ahead}

-- the drainer that code finds is the one at the beginning
pub drainer_at : (b : Start) → MayBegin b → (core : CoreView) (events done : List Event) → IsAfter b core events done → (p : Partition) (w : Which) → ((s : State) → StandsFor core s → w ≡ drainer s p) → w ≡ drainer b.state p
drainer_at b m core events done a p w found = found a.state a.stands ∙ drainer_ahead b.state a.state p (along_at b m core events done a).went.ahead

-- a block that leads from one list of events to another
pub record NextBlock (b : Start) (done : List Event) (e : Event) (next : List Event) : Type 0 where
  pub count : ℕ
  pub block : IsBlock b done e count
  pub listed : done ++ replicate count e ≡ next

pub listed_on : (b : Start) (core : CoreView) (events xs ys : List Event) → xs ≡ ys → IsAfter b core events xs → IsAfter b core events ys
listed_on b core events xs ys e a = subst (IsAfter b core events) e a

-- ---- the plan's names

pub stage_at : (b : Start) (plan : PlanView) → plan ≡ b.plan → (to : NodeId) → IsTurnOf b to → stage_of_node plan to ≡ (partition_in (flow_at b) to).stage
unfolding flow_of
stage_at b plan e node.Ingress h = absurd h
stage_at b plan e (node.Control s p) h = absurd h
stage_at b plan e (node.Replica s p w) h = refl
stage_at b plan e node.Egress h = ap (λ (p : PlanView). length p.stages + 1) e

pub sources_at : (b : Start) (plan : PlanView) → plan ≡ b.plan → (stage : ℕ) → sources_of plan stage ≡ (flow_at b).sources stage
unfolding flow_of
sources_at b plan e stage = ap (λ (p : PlanView). sources_of p stage) e

pub parts_at : (b : Start) (plan : PlanView) → plan ≡ b.plan → (stage : ℕ) → parts_of plan stage ≡ (flow_at b).sources (stage + 1)
unfolding flow_of
parts_at b plan e stage = let s : stage ≡ stage + 1 - 1 = omega arith in ap (λ (p : PlanView). parts_of p stage) e ∙ ap (parts_of b.plan) s

pub stages_at : (b : Start) (plan : PlanView) → plan ≡ b.plan → length plan.stages ≡ (flow_at b).stages
unfolding flow_of
stages_at b plan e = ap (λ (p : PlanView). length p.stages) e

pub pair_at : (b : Start) (plan : PlanView) → plan ≡ b.plan → (stage part : ℕ) → has_pair plan stage part ≡ true → IsOfStage (flow_at b) (partition stage part)
pair_at b plan e stage part named =
    let z : HasNode (flow_at b) (node.Control stage part) = (nodes_named b.plan b.inputs (node.Control stage part)).there (subst (λ p. has_pair p stage part ≡ true) e named) in
    record { first = z.0.0; last = z.0.1; part = z.1 }

and_true : (x y : Bool) → x ≡ true → y ≡ true → (x && y) ≡ true
and_true true y a b = b
and_true false y a b = a

-- a pair of the stage before
pub pair_before : (plan : PlanView) (stage part : ℕ) → 2 ≤ stage → stage ≤ length plan.stages + 1 → part < sources_of plan stage → has_pair plan (stage - 1) part ≡ true
pair_before plan stage part low high few = and_true (nat_le 1 (stage - 1) && nat_le (stage - 1) (length plan.stages)) (nat_lt part (parts_of plan (stage - 1)))
    (and_true (nat_le 1 (stage - 1)) (nat_le (stage - 1) (length plan.stages)) (le-leb 1 (stage - 1) (omega arith)) (le-leb (stage - 1) (length plan.stages) (omega arith)))
    (lt-ltb part (parts_of plan (stage - 1)) few)

pub pair_of : (plan : PlanView) (stage part : ℕ) → 1 ≤ stage → stage ≤ length plan.stages → part < parts_of plan stage → has_pair plan stage part ≡ true
pair_of plan stage part low high few = and_true (nat_le 1 stage && nat_le stage (length plan.stages)) (nat_lt part (parts_of plan stage))
    (and_true (nat_le 1 stage) (nat_le stage (length plan.stages)) (le-leb 1 stage low) (le-leb stage (length plan.stages) high)) (lt-ltb part (parts_of plan stage) few)

-- the stage of a consumer is at most the one after the last
pub stage_most : (plan : PlanView) (to : NodeId) → has_node plan to ≡ true → is_consumer to ≡ true → stage_of_node plan to ≤ length plan.stages + 1
stage_most plan node.Ingress named c = let z : ⊥ = cc c in absurd z
stage_most plan (node.Control s p) named c = let z : ⊥ = cc c in absurd z
stage_most plan (node.Replica s p w) named c =
    let z = both (nat_le 1 s && nat_le s (length plan.stages)) (nat_lt p (parts_of plan s)) named in
    let y = leb-true s (length plan.stages) (both (nat_le 1 s) (nat_le s (length plan.stages)) z.0).1 in omega arith
stage_most plan node.Egress named c = omega arith

-- an edge leads to a consumer from each pair of the stage before, and from ingress to one of stage 1
pub edge_from : (plan : PlanView) (stage part : ℕ) (w : Which) (to : NodeId) → has_pair plan (stage - 1) part ≡ true → has_node plan to ≡ true → is_consumer to ≡ true → stage_of_node plan to ≡ stage → 2 ≤ stage → has_edge plan (node.Replica (stage - 1) part w) to ≡ true
edge_from plan stage part w to pair named consumes at low =
    let near : (stage_of_node plan to == stage - 1 + 1) ≡ true = eq-eqb (stage_of_node plan to) (stage - 1 + 1) (omega arith) in
    and_true (has_pair plan (stage - 1) part && has_node plan to) (carries_items plan (node.Replica (stage - 1) part w) to)
    (and_true (has_pair plan (stage - 1) part) (has_node plan to) pair named) (and_true (is_consumer to) (stage_of_node plan to == stage - 1 + 1) consumes near)

pub edge_first : (plan : PlanView) (to : NodeId) → has_node plan to ≡ true → is_consumer to ≡ true → stage_of_node plan to ≡ 1 → has_edge plan node.Ingress to ≡ true
edge_first plan to named consumes at =
    let near : (stage_of_node plan to == 0 + 1) ≡ true = eq-eqb (stage_of_node plan to) (0 + 1) (omega arith) in
    and_true (has_node plan to) (carries_items plan node.Ingress to) named (and_true (is_consumer to) (stage_of_node plan to == 0 + 1) consumes near)

-- ---- the blocks of a turn

module _ (b : Start) (m : MayBegin b) where
  abbrev f : Flow
  f = flow_at b

  pub makes_next : NextBlock b [] event.Make (done_before b 1 0)
  makes_next = record {
    count = makes_left b;
    block = makes_block b m;
    listed = sym (append-nil (replicate (makes_left b) event.Make)) ∙ (let e : 0 ≡ 1 - 1 = omega arith in ap (λ k. replicate (makes_left b) event.Make ++ drain_pairs f b.state (pairs_up_to f k ++ [])) e);
  }

  module _ (to : NodeId) (h : IsTurnOf b to) where
    abbrev here : Partition
    here = partition_in f to

    pub pull_next : (stage q : ℕ) (w : Which) → here.stage ≡ stage → 2 ≤ stage → q < f.sources stage → w ≡ drainer b.state (partition (stage - 1) q)
        → NextBlock b (before_turn b to ++ pulls_up_to b to q) (event.Pull (node.Replica (stage - 1) q w) to) (before_turn b to ++ pulls_up_to b to (q + 1))
    pull_next stage q w at low few drains =
        let t = turn b m to h in
        let n = left_on f here (consumer_of b to) q in
        let src = source_of here q in
        let same : node.Replica (stage - 1) q w ≡ replica_at src (drainer b.state src) =
        (λ j. node.Replica (stage - 1) q (drains j)) ∙ ap (λ k. replica_at (partition (k - 1) q) (drainer b.state (partition (k - 1) q))) (sym at) in
        let block = t.pulls (λ e. absurd (omega arith)) q (subst (λ k. q < f.sources k) (sym at) few) in
        let listed : (before_turn b to ++ pulls_up_to b to q) ++ replicate n (event.Pull (replica_at src (drainer b.state src)) to) ≡ before_turn b to ++ pulls_up_to b to (q + 1) =
        append_assoc (before_turn b to) (pulls_up_to b to q) (replicate n (event.Pull (replica_at src (drainer b.state src)) to)) ∙ (let e : suc q ≡ q + 1 = omega arith in ap (λ k. before_turn b to ++ pulls_up_to b to k) e) in
        subst (λ from. NextBlock b (before_turn b to ++ pulls_up_to b to q) (event.Pull from to) (before_turn b to ++ pulls_up_to b to (q + 1))) (sym same) (record { count = n; block = block; listed = listed })

    pub pulls_begin : before_turn b to ≡ before_turn b to ++ pulls_up_to b to 0
    pulls_begin = sym (append-nil (before_turn b to))

    pub pulls_end : (stage n : ℕ) → here.stage ≡ stage → 2 ≤ stage → n ≡ f.sources stage → before_turn b to ++ pulls_up_to b to n ≡ before_turn b to ++ pulls_of b to
    pulls_end stage n at low all =
        let ne : here.stage ≢ 1 = λ e. absurd (omega arith) in
        let e : (here.stage == 1) ≡ false = nat_not here.stage 1 ne in
        let whole : pulls_of b to ≡ pulls_up_to b to (f.sources here.stage) = simp e in
        ap (λ k. before_turn b to ++ pulls_up_to b to k) (all ∙ ap f.sources (sym at)) ∙ ap (λ es. before_turn b to ++ es) (sym whole)

    pub feed_next : here.stage ≡ 1 → NextBlock b (before_turn b to) (event.Pull node.Ingress to) (before_turn b to ++ pulls_of b to)
    feed_next at =
        let t = turn b m to h in
        let n = sum_below (f.sources here.stage) (left_on f here (consumer_of b to)) in
        let e : (here.stage == 1) ≡ true = eq-eqb here.stage 1 at in
        let whole : pulls_of b to ≡ replicate n (event.Pull node.Ingress to) = simp e in
        record {
          count = n;
          block = subst (λ xs. IsBlock b xs (event.Pull node.Ingress to) n) (append-nil (before_turn b to)) (t.feeds at);
          listed = ap (λ es. before_turn b to ++ es) (sym whole);
        }

    pub work_next : NextBlock b (before_turn b to ++ pulls_of b to) (event.Work to) (before_turn b to ++ turn_of b to)
    work_next =
        let t = turn b m to h in
        let n = f.total here - (consumer_of b to).count in
        record { count = n; block = t.works; listed = append_assoc (before_turn b to) (pulls_of b to) (replicate n (event.Work to)) }

-- ---- pair by pair

pub pair_listed : (b : Start) (stage part : ℕ) (w : Which) → w ≡ drainer b.state (partition stage part)
    → before_turn b (node.Replica stage part w) ++ turn_of b (node.Replica stage part w) ≡ done_before b stage (part + 1)
pair_listed b stage part w drains =
    let f = flow_at b in
    let s = b.state in
    let makes = replicate (makes_left b) event.Make in
    let ps = pairs_before f stage part in
    let p = partition stage part in
    let turn_is : turn_of b (node.Replica stage part w) ≡ drain_pair f s p =
    ap (λ v. drain_into f s p (node.Replica stage part v) (consumer_in (replica_in (s.nodes (node.Replica stage part v))))) drains in
    let one = append_assoc (pairs_up_to f (stage - 1)) (parts_below stage part) (p ∷ []) in
    let e : suc part ≡ part + 1 = omega arith in
    ap (λ es. done_before b stage part ++ es) turn_is
    ∙ (append_assoc makes (drain_pairs f s ps) (drain_pair f s p)
    ∙ (ap (λ es. makes ++ es) (sym (pairs_next f s ps p)) ∙ (ap (λ qs. makes ++ drain_pairs f s qs) one ∙ ap (λ n. done_before b stage n) e)))

-- the pairs of a stage are those before the next one
pub stage_listed : (b : Start) (stage parts : ℕ) → 1 ≤ stage → parts ≡ (flow_at b).sources (stage + 1) → done_before b stage parts ≡ done_before b (stage + 1) 0
stage_listed b zero parts low all = absurd (omega arith)
stage_listed b (suc k) parts low all =
    let f = flow_at b in
    let makes = replicate (makes_left b) event.Make in
    let e : suc k - 1 ≡ k = omega arith in
    let g : suc k ≡ suc k + 1 - 1 = omega arith in
    ap (λ j. makes ++ drain_pairs f b.state (pairs_up_to f j ++ parts_below (suc k) parts)) e
    ∙ (ap (λ n. makes ++ drain_pairs f b.state (pairs_up_to f k ++ parts_below (suc k) n)) all
    ∙ (ap (λ ps. makes ++ drain_pairs f b.state ps) (sym (append-nil (pairs_up_to f (suc k)))) ∙ ap (λ j. makes ++ drain_pairs f b.state (pairs_up_to f j ++ [])) g))

pub all_listed : (b : Start) (m : MayBegin b) (stages : ℕ) → stages ≡ (flow_at b).stages → done_before b (stages + 1) 0 ++ turn_of b node.Egress ≡ drain_events (flow_at b) b.state
all_listed b m stages e = ap (λ n. done_before b (n + 1) 0 ++ turn_of b node.Egress) e ∙ last_turn b m

-- ---- what a loop over the sources of a consumer asks and does

pub loop_pair : (old now shown : PlanView) (to : NodeId) (stage part n : ℕ) → now ≡ old → has_node old to ≡ true → is_consumer to ≡ true → stage_of_node old to ≡ stage → 2 ≤ stage → shown ≡ old → n ≡ sources_of shown stage → part < n → has_pair now (stage - 1) part ≡ true
loop_pair old now shown to stage part n same named consumes at low sees all few =
    let most = stage_most old to named consumes in
    let sources : n ≡ sources_of old stage = all ∙ ap (λ p. sources_of p stage) sees in
    subst (λ p. has_pair p (stage - 1) part ≡ true) (sym same) (pair_before old stage part low (omega arith) (omega arith))

pub loop_edge : (old now : PlanView) (to : NodeId) (stage part : ℕ) (w : Which) → now ≡ old → has_node old to ≡ true → is_consumer to ≡ true → stage_of_node old to ≡ stage → 2 ≤ stage → has_pair now (stage - 1) part ≡ true → has_edge now (node.Replica (stage - 1) part w) to ≡ true
loop_edge old now to stage part w same named consumes at low pair =
    edge_from now stage part w to pair (subst (λ p. has_node p to ≡ true) (sym same) named) consumes (subst (λ p. stage_of_node p to ≡ stage) (sym same) at) low

module _ (b : Start) (m : MayBegin b) (to : NodeId) (h : IsTurnOf b to) (old : PlanView) (is : old ≡ b.plan) (stage : ℕ) (at : stage_of_node old to ≡ stage) where
  pub turn_stage : (partition_in (flow_at b) to).stage ≡ stage
  turn_stage = sym (stage_at b old is to h) ∙ at

  pub turn_sources : (shown : PlanView) (n : ℕ) → shown ≡ old → n ≡ sources_of shown stage → n ≡ (flow_at b).sources stage
  turn_sources shown n sees all = all ∙ sources_at b shown (sees ∙ is) stage

  pub pull_at : (now : CoreView) (events : List Event) (shown : PlanView) (part n : ℕ) (w : Which) → 2 ≤ stage → shown ≡ old → n ≡ sources_of shown stage → part < n → IsAfter b now events (before_turn b to ++ pulls_up_to b to part)
      → ((s : State) → StandsFor now s → w ≡ drainer s (partition (stage - 1) part)) → NextBlock b (before_turn b to ++ pulls_up_to b to part) (event.Pull (node.Replica (stage - 1) part w) to) (before_turn b to ++ pulls_up_to b to (part + 1))
  pull_at now events shown part n w low sees all few a found =
      let sources = turn_sources shown n sees all in
      pull_next b m to h stage part w turn_stage low (omega arith) (drainer_at b m now events (before_turn b to ++ pulls_up_to b to part) a (partition (stage - 1) part) w found)
