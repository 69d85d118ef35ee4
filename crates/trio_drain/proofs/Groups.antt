-- A group's server stays along the drain, and where the first lost group of a list stands.
use Rattle.std.proofs.Common.{◌≡◌, ◌<◌, ◌+◌, ◌-◌, ◌++◌, ◌&&◌, ℕ, suc, length, Bool, true, false, List, [], ◌∷◌, None, Some, if◌then◌else◌, refl, sym, ap, ◌∙◌, subst, arith, unwrap_or}
use Rattle.tuple_edge.specs.Input.{Input}
use Rattle.plan_reader.specs.Nodes.{parts_of, sources_of}
use Rattle.plan_reader.specs.PlanView.{PlanView}
use Rattle.pair_machine.specs.Consumers.{first_below}
use Rattle.pair_machine.specs.Counts.{flow_of}
use Rattle.pair_machine.specs.Drain.{pairs_up_to, partition, parts_below}
use Rattle.pair_machine.specs.Flow.{Flow}
use Rattle.pair_machine.specs.Numbers.{Partition}
use Rattle.trio_machine.specs.Drain.{first_lost, is_lost, is_running, is_serving, server}
use Rattle.trio_machine.specs.Flow.{trio_flow}
use Rattle.trio_machine.specs.Machine.{State, controller_in}
use Rattle.trio_machine.specs.Numbers.{Gone, Replica, Running, control_at, group_size, replica_at}
use Rattle.trio_machine.specs.Reports.{replicas_of}
use Rattle.trio_drain.proofs.Fronts.{parts_front, stages_front}
use Rattle.trio_drain.proofs.Steps.{Ahead, ReplicaGrew}

-- ---- who drains stays

running_grew : (r k : Replica) → ReplicaGrew r k → is_running k ≡ is_running r
running_grew Gone k grew = ap is_running grew
running_grew (Running x) (Running y) grew = refl
running_grew (Running x) Gone grew = absurd grew

serving_ahead : (s t : State) (p : Partition) → Ahead s t → (c : ℕ) → is_serving t p c ≡ is_serving s p c
serving_ahead s t p ahead c =
    let runs = running_grew (replicas_of s p c) (replicas_of t p c) (ahead (replica_at p c)) in
    let control = ahead (control_at p) in
    λ i. runs i && (controller_in (control i)).up c

pub server_ahead : (s t : State) (p : Partition) → Ahead s t → server t p ≡ server s p
server_ahead s t p ahead = λ i. unwrap_or (first_below (λ c. serving_ahead s t p ahead c i) group_size) 0

-- ---- the first lost group

pub lost_on : (s : State) (ps qs : List Partition) → first_lost s ps ≡ None → first_lost s (ps ++ qs) ≡ first_lost s qs
lost_on s [] qs e = refl
lost_on s (p ∷ ps) qs e = go (is_lost s p) refl e (lost_on s ps qs)
  where
    go : (c : Bool) → is_lost s p ≡ c → (if c then Some p else first_lost s ps) ≡ None → (first_lost s ps ≡ None → first_lost s (ps ++ qs) ≡ first_lost s qs) → (if is_lost s p then Some p else first_lost s (ps ++ qs)) ≡ first_lost s qs
    go true c e later = let z : ⊥ = cc e in absurd z
    go false c e later = simp c (later e)

pub lost_stays : (s : State) (ps qs : List Partition) (p : Partition) → first_lost s ps ≡ Some p → first_lost s (ps ++ qs) ≡ Some p
lost_stays s [] qs p e = let z : ⊥ = cc e in absurd z
lost_stays s (r ∷ ps) qs p e = go (is_lost s r) refl e (lost_stays s ps qs p)
  where
    go : (c : Bool) → is_lost s r ≡ c → (if c then Some r else first_lost s ps) ≡ Some p → (first_lost s ps ≡ Some p → first_lost s (ps ++ qs) ≡ Some p) → (if is_lost s r then Some r else first_lost s (ps ++ qs)) ≡ Some p
    go true c e later = simp c e
    go false c e later = simp c (later e)

-- ---- the search, partition by partition and stage by stage

pub part_next : (s : State) (stage part : ℕ) (lost : Bool) → lost ≡ is_lost s (partition stage part) → lost ≡ false → first_lost s (parts_below stage part) ≡ None → first_lost s (parts_below stage (part + 1)) ≡ None
part_next s stage part lost is served before =
    let p = partition stage part in
    let e : suc part ≡ part + 1 = omega arith in
    let z : is_lost s p ≡ false = sym is ∙ served in
    let one : first_lost s (p ∷ []) ≡ None = simp z in
    subst (λ n. first_lost s (parts_below stage n) ≡ None) e (lost_on s (parts_below stage part) (p ∷ []) before ∙ one)

pub part_found : (s : State) (stage part n : ℕ) (lost : Bool) → part < n → lost ≡ is_lost s (partition stage part) → lost ≡ true → first_lost s (parts_below stage part) ≡ None → Some (partition stage part) ≡ first_lost s (parts_below stage n)
part_found s stage part n lost few is found before =
    let p = partition stage part in
    let z : is_lost s p ≡ true = sym is ∙ found in
    let one : first_lost s (p ∷ []) ≡ Some p = simp z in
    let front = parts_front stage (suc part) n few in
    let here = lost_stays s (parts_below stage (suc part)) front.rest p (lost_on s (parts_below stage part) (p ∷ []) before ∙ one) in
    sym here ∙ ap (first_lost s) front.whole

pub stage_next : (f : Flow) (s : State) (k : ℕ) → first_lost s (pairs_up_to f k) ≡ None → None ≡ first_lost s (parts_below (k + 1) (f.sources (k + 1 + 1))) → first_lost s (pairs_up_to f (k + 1)) ≡ None
stage_next f s k before none =
    let e : k + 1 ≡ suc k = omega arith in
    let here = subst (λ j. None ≡ first_lost s (parts_below j (f.sources (j + 1)))) e none in
    subst (λ j. first_lost s (pairs_up_to f j) ≡ None) (sym e) (lost_on s (pairs_up_to f k) (parts_below (suc k) (f.sources (suc k + 1))) before ∙ sym here)

pub stage_found : (f : Flow) (s : State) (k n : ℕ) (p : Partition) → k < n → first_lost s (pairs_up_to f k) ≡ None → Some p ≡ first_lost s (parts_below (k + 1) (f.sources (k + 1 + 1))) → Some p ≡ first_lost s (pairs_up_to f n)
stage_found f s k n p few before found =
    let e : k + 1 ≡ suc k = omega arith in
    let here = subst (λ j. Some p ≡ first_lost s (parts_below j (f.sources (j + 1)))) e found in
    let front = stages_front f (suc k) n few in
    let up = lost_stays s (pairs_up_to f (suc k)) front.rest p (lost_on s (pairs_up_to f k) (parts_below (suc k) (f.sources (suc k + 1))) before ∙ sym here) in
    sym up ∙ ap (first_lost s) front.whole

-- ---- the plan's numbers

pub parts_in : (plan : PlanView) (inputs : List Input) (stage : ℕ) → parts_of plan stage ≡ (trio_flow plan inputs).sources (stage + 1)
unfolding flow_of
parts_in plan inputs stage = let e : stage ≡ stage + 1 - 1 = omega arith in ap (parts_of plan) e

pub sources_in : (plan : PlanView) (inputs : List Input) (stage : ℕ) → sources_of plan stage ≡ (trio_flow plan inputs).sources stage
unfolding flow_of
sources_in plan inputs stage = refl

pub stages_in : (plan : PlanView) (inputs : List Input) → length plan.stages ≡ (trio_flow plan inputs).stages
unfolding flow_of
stages_in plan inputs = refl
