-- What the loops of the drain ask of a core on the way, and what they do to it.
use Rattle.std.proofs.Common.{◌≡◌, ◌≤◌, ◌<◌, ◌+◌, ◌-◌, ◌++◌, ◌∙◌, ℕ, true, List, length, sym, ap, subst, arith}
use Rattle.plan_reader.specs.Nodes.{has_pair, parts_of, sources_of}
use Rattle.plan_reader.specs.PlanView.{PlanView}
use Rattle.pair_machine.specs.CountLaws.{IsOfStage}
use Rattle.pair_machine.specs.Drain.{partition}
use Rattle.pair_machine.specs.Flow.{Flow}
use Rattle.trio_machine.specs.Drain.{feeder, server}
use Rattle.trio_machine.specs.Links.{HasNode}
use Rattle.trio_machine.specs.Machine.{State}
use Rattle.trio_machine.specs.Numbers.{group_size}
use Rattle.trio_machine.specs.declared.event.TrioEvent.{TrioEvent}
use Rattle.trio_machine.specs.declared.event.TrioEvent.TheVariants as event
use Rattle.trio_machine.specs.declared.node.TrioNode.{TrioNode}
use Rattle.trio_machine.specs.declared.node.TrioNode.TheVariants as node
use Rattle.trio_machine.proofs.Laws.{trio_is_flow}
use Rattle.trio_core.specs.CoreView.{CoreView, flow_in, inputs_of}
use Rattle.trio_core.specs.Stands.{IsCore, StandsFor}
use Rattle.trio_core.specs.Steps.{IsNamed}
use Rattle.trio_drain.specs.Order.{IsTurnOf, MayBegin, Start, before_turn, flow_at, partition_in, pulls_of, pulls_up_to}
use Rattle.trio_drain.specs.Progress.{IsAfter, Keeps}
use Rattle.trio_drain.proofs.Along.{feeder_at, flow_kept, flow_same, server_at}
use Rattle.trio_drain.proofs.Groups.{parts_in, sources_in, stages_in}
use Rattle.trio_drain.proofs.Turns.{NextBlock, group_named, group_there, pair_before, pull_next, pulls_ingress, pulls_replica, stage_most}

-- ---- what stays on the way

pub has_on : (old new : CoreView) → Keeps old new → (to : TrioNode) → HasNode (flow_in old) to → HasNode (flow_in new) to
has_on old new k to has = subst (λ f. HasNode f to) (sym (flow_kept old new k)) has

pub stage_on : (old new : CoreView) → Keeps old new → (to : TrioNode) (stage : ℕ) → (partition_in (flow_in old) to).stage ≡ stage → (partition_in (flow_in new) to).stage ≡ stage
stage_on old new k to stage at = subst (λ f. (partition_in f to).stage ≡ stage) (sym (flow_kept old new k)) at

pub last_on : (core : CoreView) (to : TrioNode) (stage : ℕ) → HasNode (flow_in core) to → (partition_in (flow_in core) to).stage ≡ stage → stage ≤ length core.plan.stages + 1
last_on core to stage has at = stage_most core.plan (inputs_of core) to stage has at

pub shown_last : (core : CoreView) (shown : PlanView) (to : TrioNode) (stage : ℕ) → shown ≡ core.plan → HasNode (flow_in core) to → (partition_in (flow_in core) to).stage ≡ stage → stage ≤ length shown.stages + 1
shown_last core shown to stage sees has at = subst (λ p. stage ≤ length p.stages + 1) (sym sees) (last_on core to stage has at)

pub source_on : (old new : CoreView) → Keeps old new → (shown : PlanView) (stage part n : ℕ) → shown ≡ old.plan → n ≡ sources_of shown stage → part < n → part < sources_of new.plan stage
source_on old new k shown stage part n sees all few =
    let e : sources_of shown stage ≡ sources_of new.plan stage = ap (λ p. sources_of p stage) (sees ∙ sym k.plan) in omega arith

-- ---- whom a consumer may pull from

pub names_ingress : (core : CoreView) → IsCore core → (to : TrioNode) (stage : ℕ) → stage ≡ 1 → HasNode (flow_in core) to → (partition_in (flow_in core) to).stage ≡ stage → IsNamed (flow_in core) (event.Pull node.Ingress to)
names_ingress core is to stage first has at = pulls_ingress (flow_in core) (trio_is_flow core.plan (inputs_of core) is.plan).flow to has (at ∙ first)

pub names_replica : (core : CoreView) (to : TrioNode) (stage part c : ℕ) → 2 ≤ stage → stage ≤ length core.plan.stages + 1 → part < sources_of core.plan stage → c < group_size → HasNode (flow_in core) to → (partition_in (flow_in core) to).stage ≡ stage
    → IsNamed (flow_in core) (event.Pull (node.Replica (stage - 1) part c) to)
names_replica core to stage part c low high few copy has at =
    pulls_replica (flow_in core) stage part c to (group_there core.plan (inputs_of core) (stage - 1) part (pair_before core.plan stage part low high few)) copy has at low

-- ---- the turn of a consumer

module _ (b : Start) (m : MayBegin b) (to : TrioNode) (h : IsTurnOf b to) (old : CoreView) (same : flow_in old ≡ flow_at b) (stage : ℕ) (at : (partition_in (flow_in old) to).stage ≡ stage) where
  pub turn_stage : (partition_in (flow_at b) to).stage ≡ stage
  turn_stage = subst (λ f. (partition_in f to).stage ≡ stage) same at

  pub turn_sources : (shown : PlanView) (n : ℕ) → shown ≡ old.plan → n ≡ sources_of shown stage → n ≡ (flow_at b).sources (partition_in (flow_at b) to).stage
  turn_sources shown n sees all = all ∙ (ap (λ p. sources_of p stage) sees ∙ (sources_in old.plan (inputs_of old) stage ∙ (ap (λ (f : Flow). f.sources stage) same ∙ ap (flow_at b).sources (sym turn_stage))))

  pub pull_at : (now : CoreView) (shown : PlanView) (part n : ℕ) (from : TrioNode) → shown ≡ old.plan → n ≡ sources_of shown stage → part < n → IsAfter b now (before_turn b to ++ pulls_up_to b to part)
      → ((s : State) (target : ℕ) → StandsFor now s → from ≡ feeder s (partition stage target) part)
      → NextBlock b (before_turn b to ++ pulls_up_to b to part) (event.Pull from to) (before_turn b to ++ pulls_up_to b to (part + 1))
  pull_at now shown part n from sees all few a found =
      let sources = turn_sources shown n sees all in
      pull_next b m to h part from (omega arith) (feeder_at b m now (before_turn b to ++ pulls_up_to b to part) a (partition_in (flow_at b) to) stage part from turn_stage found)

  pub pulls_end : (shown : PlanView) (part n : ℕ) → shown ≡ old.plan → n ≡ sources_of shown stage → part ≡ n → before_turn b to ++ pulls_up_to b to part ≡ before_turn b to ++ pulls_of b to
  pulls_end shown part n sees all ends = ap (λ k. before_turn b to ++ pulls_up_to b to k) (ends ∙ turn_sources shown n sees all)

-- ---- groups

-- the server that code finds drains for its group
pub turn_of_server : (b : Start) → MayBegin b → (core : CoreView) (done : List TrioEvent) → IsAfter b core done → (stage part c : ℕ) → has_pair core.plan stage part ≡ true → ((s : State) → StandsFor core s → c ≡ server s (partition stage part))
    → IsTurnOf b (node.Replica stage part c)
turn_of_server b m core done a stage part c named found =
    (subst (λ f. IsOfStage f (partition stage part)) (flow_same b core done a) (group_there core.plan (inputs_of core) stage part named), server_at b m core done a (partition stage part) c found)

-- the parts of a stage are the sources of the next
pub parts_at : (b : Start) (core : CoreView) (done : List TrioEvent) → IsAfter b core done → (stage : ℕ) → parts_of core.plan stage ≡ (flow_at b).sources (stage + 1)
parts_at b core done a stage = parts_in core.plan (inputs_of core) stage ∙ ap (λ (f : Flow). f.sources (stage + 1)) (flow_same b core done a)

pub stages_at : (b : Start) (core : CoreView) (done : List TrioEvent) → IsAfter b core done → length core.plan.stages ≡ (flow_at b).stages
stages_at b core done a = stages_in core.plan (inputs_of core) ∙ ap (λ (f : Flow). f.stages) (flow_same b core done a)

-- egress is of the stage after the last
pub egress_stage : (old shown : PlanView) (core : CoreView) (count : ℕ) → core.plan ≡ old → shown ≡ old → count ≡ length shown.stages → (partition_in (flow_in core) node.Egress).stage ≡ count + 1
egress_stage old shown core count same sees all =
    let e : length core.plan.stages ≡ count = ap (λ (p : PlanView). length p.stages) (same ∙ sym sees) ∙ sym all in
    ap (λ n. n + 1) (sym (stages_in core.plan (inputs_of core)) ∙ e)

-- ---- a replica that is a node of the plan

pub replica_named : (core : CoreView) (n : TrioNode) (stage part copy : ℕ) → n ≡ node.Replica stage part copy → HasNode (flow_in core) n → (has_pair core.plan stage part ≡ true) × (copy < group_size)
replica_named core n stage part copy at has =
    let z : HasNode (flow_in core) (node.Replica stage part copy) = subst (HasNode (flow_in core)) at has in
    (group_named core.plan (inputs_of core) stage part z.0, z.1)

-- a stage that is not the first is a later one
pub later : (stage : ℕ) → 1 ≤ stage → (stage ≡ 1 → ⊥) → 2 ≤ stage
later stage low apart = omega arith
