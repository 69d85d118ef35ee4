-- What each call of the code's loops does is the next block of the machine's drain, and each event of it names what the plan has.
use Rattle.std.proofs.Common.{◌≡◌, ◌<◌, ◌≤◌, ◌+◌, ◌-◌, ◌&&◌, ◌∙◌, ℕ, zero, suc, Bool, true, false, List, [], ◌∷◌, ◌++◌, length, nat_le, nat_lt, replicate, refl, sym, ap, subst, arith, append_assoc}
use Rattle.std.proofs.lemmas.Bool.{le-leb, lt-ltb}
use Rattle.std.proofs.lemmas.List.{append-nil}
use Rattle.tuple_edge.specs.Input.{Input}
use Rattle.plan_reader.specs.Nodes.{has_pair, parts_of, sources_of}
use Rattle.plan_reader.specs.PlanView.{PlanView}
use Rattle.pair_machine.specs.CountLaws.{IsOfStage}
use Rattle.pair_machine.specs.Counts.{flow_of}
use Rattle.pair_machine.specs.Drain.{left_on, pairs_up_to, partition, parts_below}
use Rattle.pair_machine.specs.Flow.{Flow, IsFlow}
use Rattle.pair_machine.specs.Links as pairs
use Rattle.pair_machine.specs.Numbers.{Partition}
use Rattle.pair_machine.proofs.PlanNodes.{nodes_named}
use Rattle.tuple_edge.specs.declared.node.NodeId.TheVariants as pair_node
use Rattle.trio_machine.specs.Drain.{consumer_in, drain_group, drain_groups, drain_into, feeder, server}
use Rattle.trio_machine.specs.Flow.{trio_flow}
use Rattle.trio_machine.specs.Links.{HasNode, IsThere}
use Rattle.trio_machine.specs.Machine.{replica_in}
use Rattle.trio_machine.specs.Numbers.{group_size}
use Rattle.trio_machine.specs.declared.event.TrioEvent.{TrioEvent}
use Rattle.trio_machine.specs.declared.event.TrioEvent.TheVariants as event
use Rattle.trio_machine.specs.declared.node.TrioNode.{TrioNode}
use Rattle.trio_machine.specs.declared.node.TrioNode.TheVariants as node
use Rattle.trio_drain.specs.Order.{IsBlock, IsTurnOf, MayBegin, Start, before_turn, consumer_of, done_before, flow_at, groups_before, makes_left, partition_in, pulls_of, pulls_up_to, turn_of}
use Rattle.trio_drain.proofs.Blocks.{makes_block, turn}
use Rattle.trio_drain.proofs.Fronts.{groups_next}

-- a block that leads from one list of events to another
pub record NextBlock (b : Start) (done : List TrioEvent) (e : TrioEvent) (next : List TrioEvent) : Type 0 where
  pub count : ℕ
  pub block : IsBlock b done e count
  pub listed : done ++ replicate count e ≡ next

-- ---- the blocks of a turn

module _ (b : Start) (m : MayBegin b) where
  abbrev f : Flow
  f = flow_at b

  pub makes_next : NextBlock b [] event.Make (done_before b 1 0)
  makes_next = record {
    count = makes_left b;
    block = makes_block b m;
    listed = sym (append-nil (replicate (makes_left b) event.Make)) ∙ (let e : 0 ≡ 1 - 1 = omega arith in ap (λ k. replicate (makes_left b) event.Make ++ drain_groups f b.state (pairs_up_to f k ++ [])) e);
  }

  module _ (to : TrioNode) (h : IsTurnOf b to) where
    abbrev here : Partition
    here = partition_in f to

    pub pull_next : (q : ℕ) (from : TrioNode) → q < f.sources here.stage → from ≡ feeder b.state here q
        → NextBlock b (before_turn b to ++ pulls_up_to b to q) (event.Pull from to) (before_turn b to ++ pulls_up_to b to (q + 1))
    pull_next q from few is =
        let t = turn b m to h in
        let n = left_on f here (consumer_of b to) q in
        let listed : (before_turn b to ++ pulls_up_to b to q) ++ replicate n (event.Pull (feeder b.state here q) to) ≡ before_turn b to ++ pulls_up_to b to (q + 1) =
        append_assoc (before_turn b to) (pulls_up_to b to q) (replicate n (event.Pull (feeder b.state here q) to)) ∙ (let e : suc q ≡ q + 1 = omega arith in ap (λ k. before_turn b to ++ pulls_up_to b to k) e) in
        subst (λ n. NextBlock b (before_turn b to ++ pulls_up_to b to q) (event.Pull n to) (before_turn b to ++ pulls_up_to b to (q + 1))) (sym is) (record { count = n; block = t.pulls q few; listed = listed })

    pub pulls_begin : before_turn b to ≡ before_turn b to ++ pulls_up_to b to 0
    pulls_begin = sym (append-nil (before_turn b to))

    pub work_next : NextBlock b (before_turn b to ++ pulls_of b to) (event.Work to) (before_turn b to ++ turn_of b to)
    work_next =
        let t = turn b m to h in
        let n = f.total here - (consumer_of b to).count in
        record { count = n; block = t.works; listed = append_assoc (before_turn b to) (pulls_of b to) (replicate n (event.Work to)) }

-- ---- group by group

pub group_listed : (b : Start) (stage part c : ℕ) → c ≡ server b.state (partition stage part)
    → before_turn b (node.Replica stage part c) ++ turn_of b (node.Replica stage part c) ≡ done_before b stage (part + 1)
group_listed b stage part c serves =
    let f = flow_at b in
    let s = b.state in
    let makes = replicate (makes_left b) event.Make in
    let ps = groups_before f stage part in
    let p = partition stage part in
    let turn_is : turn_of b (node.Replica stage part c) ≡ drain_group f s p =
    ap (λ v. drain_into f s p (node.Replica stage part v) (consumer_in (replica_in (s.nodes (node.Replica stage part v))))) serves in
    let one = append_assoc (pairs_up_to f (stage - 1)) (parts_below stage part) (p ∷ []) in
    let e : suc part ≡ part + 1 = omega arith in
    ap (λ es. done_before b stage part ++ es) turn_is
    ∙ (append_assoc makes (drain_groups f s ps) (drain_group f s p)
    ∙ (ap (λ es. makes ++ es) (sym (groups_next f s ps p)) ∙ (ap (λ qs. makes ++ drain_groups f s qs) one ∙ ap (λ n. done_before b stage n) e)))

-- the groups of a stage are those before the next one
pub stage_listed : (b : Start) (stage parts : ℕ) → 1 ≤ stage → parts ≡ (flow_at b).sources (stage + 1) → done_before b stage parts ≡ done_before b (stage + 1) 0
stage_listed b zero parts low all = absurd (omega arith)
stage_listed b (suc k) parts low all =
    let f = flow_at b in
    let makes = replicate (makes_left b) event.Make in
    let e : suc k - 1 ≡ k = omega arith in
    let g : suc k ≡ suc k + 1 - 1 = omega arith in
    ap (λ j. makes ++ drain_groups f b.state (pairs_up_to f j ++ parts_below (suc k) parts)) e
    ∙ (ap (λ n. makes ++ drain_groups f b.state (pairs_up_to f k ++ parts_below (suc k) n)) all
    ∙ (ap (λ ps. makes ++ drain_groups f b.state ps) (sym (append-nil (pairs_up_to f (suc k)))) ∙ ap (λ j. makes ++ drain_groups f b.state (pairs_up_to f j ++ [])) g))

-- ---- the plan's names

and_true : (x y : Bool) → x ≡ true → y ≡ true → (x && y) ≡ true
and_true true y a b = b
and_true false y b a = b

pub pair_of : (plan : PlanView) (stage part : ℕ) → 1 ≤ stage → stage ≤ length plan.stages → part < parts_of plan stage → has_pair plan stage part ≡ true
pair_of plan stage part low high few = and_true (nat_le 1 stage && nat_le stage (length plan.stages)) (nat_lt part (parts_of plan stage))
    (and_true (nat_le 1 stage) (nat_le stage (length plan.stages)) (le-leb 1 stage low) (le-leb stage (length plan.stages) high)) (lt-ltb part (parts_of plan stage) few)

-- the group of a source of a later stage
pub pair_before : (plan : PlanView) (stage part : ℕ) → 2 ≤ stage → stage ≤ length plan.stages + 1 → part < sources_of plan stage → has_pair plan (stage - 1) part ≡ true
pair_before plan stage part low high few = pair_of plan (stage - 1) part (omega arith) (omega arith) few

pub group_there : (plan : PlanView) (inputs : List Input) (stage part : ℕ) → has_pair plan stage part ≡ true → IsOfStage (trio_flow plan inputs) (partition stage part)
group_there plan inputs stage part named =
    let z : pairs.HasNode (flow_of plan inputs) (pair_node.Control stage part) = (nodes_named plan inputs (pair_node.Control stage part)).there named in
    record { first = z.0.0; last = z.0.1; part = z.1 }

pub group_named : (plan : PlanView) (inputs : List Input) (stage part : ℕ) → IsOfStage (trio_flow plan inputs) (partition stage part) → has_pair plan stage part ≡ true
unfolding flow_of
group_named plan inputs stage part h = pair_of plan stage part h.first h.last (let e : stage + 1 - 1 ≡ stage = omega arith in subst (λ k. part < parts_of plan k) e h.part)

-- a consumer of stage 1 may pull from ingress, and one of a later stage from each replica of the stage before
pub pulls_ingress : (f : Flow) → IsFlow f → (to : TrioNode) → HasNode f to → (partition_in f to).stage ≡ 1 → IsThere f (event.Pull node.Ingress to)
pulls_ingress f flow node.Ingress has at = let z : ⊥ = cc at in absurd z
pulls_ingress f flow (node.Control s p) has at = let z : ⊥ = cc at in absurd z
pulls_ingress f flow (node.Replica s p c) has at = (tt, has, (record { stage = 0; from = 0; to = p }, (refl, refl), (omega arith, refl)))
pulls_ingress f flow node.Egress has at = let some = flow.some_stage in absurd (omega arith)

pub pulls_replica : (f : Flow) (stage part c : ℕ) (to : TrioNode) → IsOfStage f (partition (stage - 1) part) → c < group_size → HasNode f to → (partition_in f to).stage ≡ stage → 2 ≤ stage
    → IsThere f (event.Pull (node.Replica (stage - 1) part c) to)
pulls_replica f stage part c node.Ingress group few has at low = absurd (omega arith)
pulls_replica f stage part c (node.Control s p) group few has at low = absurd (omega arith)
pulls_replica f stage part c (node.Replica s p d) group few has at low = ((group, few), has, (record { stage = stage - 1; from = part; to = p }, (omega arith, refl, refl), (omega arith, refl)))
pulls_replica f stage part c node.Egress group few has at low = ((group, few), tt, (record { stage = stage - 1; from = part; to = 0 }, (omega arith, refl, refl), (omega arith, refl)))

-- the stage of a node is at most the one after the last
pub stage_most : (plan : PlanView) (inputs : List Input) (to : TrioNode) (stage : ℕ) → HasNode (trio_flow plan inputs) to → (partition_in (trio_flow plan inputs) to).stage ≡ stage → stage ≤ length plan.stages + 1
unfolding flow_of
stage_most plan inputs node.Ingress stage has at = omega arith
stage_most plan inputs (node.Control s p) stage has at = omega arith
stage_most plan inputs (node.Replica s p c) stage has at = let l : s ≤ length plan.stages = has.0.last in omega arith
stage_most plan inputs node.Egress stage has at = let e : length plan.stages + 1 ≡ stage = at in omega arith
