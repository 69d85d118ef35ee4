-- What code finds of a core's nodes is what the machine's drain asks of their numbers.
use Rattle.std.proofs.Common.{◌≡◌, ◌↔◌, ◌<◌, ◌≤◌, ◌⊎◌, inl, inr, ℕ, zero, suc, Bool, true, false, List, Option, None, Some, is_some, refl, sym, ap, ◌∙◌, subst, arith}
use Rattle.std.specs.Prelude.{if◌then◌else◌}
use Rattle.std.specs.Option.{option_map, option_or}
use Rattle.std.proofs.lemmas.Bool.{cases_lt}
use Rattle.tuple_edge.specs.Input.{Input}
use Rattle.merge_order.specs.MergeView.{all_wait}
use Rattle.flux_consumer.specs.ConsumerView.{ConsumerView}
use Rattle.plan_reader.specs.PlanView.{PlanView}
use Rattle.pair_machine.specs.Boundary.{egress_partition}
use Rattle.pair_machine.specs.Consumers.{first_below}
use Rattle.pair_machine.specs.Drain.{partition}
use Rattle.pair_machine.specs.Numbers.{Partition}
use Rattle.node_edges.proofs.Consumers.{consumers_follow}
use Rattle.ingress_egress.specs.EgressView.{EgressView}
use Rattle.trio_machine.specs.Drain.{MergeIsReady, ReplicaIsReady, is_running}
use Rattle.trio_machine.specs.Flow.{trio_flow}
use Rattle.trio_machine.specs.Machine.{State, egress_in, replica_in}
use Rattle.trio_machine.specs.Numbers.{Gone, Replica, Running}
use Rattle.trio_machine.specs.declared.node.TrioNode.{TrioNode}
use Rattle.trio_machine.specs.declared.node.TrioNode.TheVariants as node
use Rattle.trio_nodes.specs.Egress as egress
use Rattle.trio_nodes.specs.Replica as replica
use Rattle.trio_nodes.specs.Replica.{RunningStands}
use Rattle.trio_nodes.specs.ReplicaView.{ReplicaView, node_of, partition_of}
use Rattle.trio_nodes.specs.declared.running.TrioRunning.{TrioRunning}
use Rattle.trio_drain.specs.Order.{partition_in}

-- ---- the first number below a bound that passes a test

found_stays : (test : ℕ → Bool) (k n : ℕ) → k < n → first_below test k ≡ None → test k ≡ true → first_below test n ≡ Some k
found_stays test k zero l none passes = absurd (omega arith)
found_stays test k (suc n) l none passes = go (cases_lt k n) (λ h. found_stays test k n h none passes)
  where
    go : (k < n) ⊎ (n ≤ k) → (k < n → first_below test n ≡ Some k) → first_below test (suc n) ≡ Some k
    go (inl h) before = λ i. option_or (before h i) (if test n then Some n else None)
    go (inr h) before =
        let e : k ≡ n = omega arith in
        subst (λ j. first_below test (suc j) ≡ Some k) e (λ i. option_or (none i) (if passes i then Some k else None))

pub found_here : (test : ℕ → Bool) (k n : ℕ) (passes : Bool) → k < n → first_below test k ≡ None → passes ≡ test k → passes ≡ true → Some k ≡ first_below test n
found_here test k n passes l none is holds = sym (found_stays test k n l none (sym is ∙ holds))

-- ---- a replica

abbrev pub ready_in : Option ConsumerView → Bool
ready_in None = false
ready_in (Some c) = all_wait c.merge.waiting

module _ (plan : PlanView) (inputs : List Input) (p : Partition) where
  running_so : (r : Option TrioRunning) (x : Replica) → RunningStands plan inputs p r x → is_running x ≡ is_some r
  running_so (Some r) (Running x) s = refl
  running_so None Gone s = refl
  running_so (Some r) Gone s = absurd s
  running_so None (Running x) s = absurd s

  ready_so : (r : Option TrioRunning) (x : Replica) → RunningStands plan inputs p r x → (ready_in (option_map (λ r. r.consumer) r) ≡ true) ↔ ReplicaIsReady (trio_flow plan inputs) p x
  ready_so (Some r) (Running x) s = let same = (consumers_follow plan inputs p).ready x.consumer r.consumer s.consumer in (λ e. sym same ∙ e, λ e. same ∙ e)
  ready_so None Gone s = (λ e. (let z : ⊥ = cc e in absurd z), λ e. absurd e)
  ready_so (Some r) Gone s = absurd s
  ready_so None (Running x) s = absurd s

-- ---- in the words of code

pub merges_found : (plan : PlanView) (inputs : List Input) (s : State) (n : TrioNode) (stage part copy : ℕ) → n ≡ node.Replica stage part copy → (r : ReplicaView) → node_of r.role ≡ node.Replica stage part copy
    → replica.StandsFor plan inputs r (s.nodes (node.Replica stage part copy)) → (o : Option ConsumerView) → o ≡ option_map (λ r. r.consumer) r.running → (result : Bool) → result ≡ ready_in o
    → (result ≡ true) ↔ MergeIsReady (trio_flow plan inputs) n (s.nodes n)
merges_found plan inputs s n stage part copy at r named stands o same result ready =
    let f = trio_flow plan inputs in
    let x = replica_in (s.nodes (node.Replica stage part copy)) in
    let place : partition_of r.role ≡ partition stage part = ap (partition_in f) named in
    let running = subst (λ p. RunningStands plan inputs p r.running x) place stands.running in
    let z = ready_so plan inputs (partition stage part) r.running x running in
    let is = ready ∙ ap ready_in same in
    subst (λ k. (result ≡ true) ↔ MergeIsReady f k (s.nodes k)) (sym at) (λ e. z.0 (sym is ∙ e), λ m. is ∙ z.1 m)

pub egress_merges_found : (plan : PlanView) (inputs : List Input) (s : State) (n : TrioNode) → n ≡ node.Egress → (e : EgressView) → egress.StandsFor plan inputs e (s.nodes node.Egress) → (c : ConsumerView) → c ≡ e.consumer
    → (result : Bool) → result ≡ all_wait c.merge.waiting → (result ≡ true) ↔ MergeIsReady (trio_flow plan inputs) n (s.nodes n)
egress_merges_found plan inputs s n at e stands c same result ready =
    let f = trio_flow plan inputs in
    let z = (consumers_follow plan inputs (egress_partition f)).ready (egress_in (s.nodes node.Egress)) e.consumer stands.consumer in
    let is = ready ∙ ap (λ (k : ConsumerView). all_wait k.merge.waiting) same ∙ z in
    subst (λ k. (result ≡ true) ↔ MergeIsReady f k (s.nodes k)) (sym at) (λ h. sym is ∙ h, λ m. is ∙ m)
