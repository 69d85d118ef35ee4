-- A node of a core did what an event asks, or refused it.
use Rattle.std.proofs.Common.{◌≡◌, ℕ, Bool, true, false, List, Ok, Err, Result, OnOk, OnErr, IfErr, Some, slice_get, sym, ap, subst}
use Rattle.tuple_edge.specs.declared.event.Event.{Event}
use Rattle.tuple_edge.specs.declared.node.NodeId.{NodeId}
use Rattle.plan_reader.specs.Nodes.{has_node, names_event}
use Rattle.plan_reader.specs.PlanView.{PlanView}
use Rattle.pair_machine.specs.Links.{HasNode}
use Rattle.pair_machine.specs.Machine.{State, at_node, step}
use Rattle.pair_machine.proofs.PlanNodes.{nodes_named}
use Rattle.pair_machine.proofs.StepTurns.{at_there}
use Rattle.plan_nodes.specs.NodeOrder.{nodes_of}
use Rattle.flux_core.specs.Acts.{IsRefusedSo}
use Rattle.flux_core.specs.CoreView.{CoreView, StationView, core_of, flow_in, gone_by, inputs_of, standing}
use Rattle.flux_core.specs.Refusals.{IsRefusal}
use Rattle.flux_core.specs.Stands.{IsCore, IsKnown, StandsFor}
use Rattle.flux_core.specs.Steps.{ActedAt, IsApplied, IsTaskOf, MayApply}
use Rattle.flux_core.specs.declared.asked.Asked.{Asked}
use Rattle.flux_core.specs.declared.error.ApplyError.{ApplyError}
use Rattle.flux_core.proofs.Known.{applied, refused_there}
use Rattle.flux_core.proofs.Placing.{changed, placed}
use Rattle.flux_core.proofs.There.{there}

-- ---- what is there

some_known : (core : CoreView) (whole : Bool) → IsKnown whole core → (s : State) × StandsFor core s
some_known core true h = (h.state, h.stands)
some_known core false h = (h.state, h.stands)

-- a core stands for a state
pub some_state : (core : CoreView) → IsCore core → (s : State) × StandsFor core s
some_state core h = some_known core core.whole h.known

-- the node of an event that is named
pub node_there : (core : CoreView) → IsCore core → (e : Event) → names_event core.plan e ≡ true → HasNode (flow_in core) (at_node e)
node_there core h e named = at_there (flow_in core) e (there core.plan (inputs_of core) h.plan e named)

pub pair_there : (core : CoreView) → IsCore core → (n : NodeId) → HasNode (flow_in core) n → has_node core.plan n ≡ true
pair_there core h n has = (nodes_named core.plan (inputs_of core) n).named has

-- the plan has the node of an event that it names
pub event_named : (core : CoreView) → IsCore core → (e : Event) → names_event core.plan e ≡ true → has_node core.plan (at_node e) ≡ true
event_named core is e named = pair_there core is (at_node e) (node_there core is e named)

-- the same of the value that fields make, and of whatever name the event's node has
pub pair_named : (old self : CoreView) (n : NodeId) (e : Event) → old ≡ self → IsCore old → at_node e ≡ n → names_event self.plan e ≡ true → has_node old.plan n ≡ true
pair_named old self n e same is here named = subst (λ k. has_node old.plan k ≡ true) here (event_named old is e (subst (λ k. names_event k.plan e ≡ true) (sym same) named))

-- ---- what then holds

-- either way
pub record Outcome (r : Result (Unit {0}) ApplyError) (old new : CoreView) (e : Event) : Type 0 where
  pub core : IsCore new
  pub applied : OnOk r (IsApplied old new e)
  pub refused : IfErr r (λ x. (s : State) → StandsFor old s → IsRefusal (step (flow_in old) s e) x)
  pub unchanged : OnErr r (new ≡ old)
  pub gone : gone_by new ≡ gone_by old

-- the node at the place of an event's node was asked what the event asks
outcome_at : (old : CoreView) (news : List StationView) (e : Event) (t : Asked) (place : ℕ) (r : Result (Unit {0}) ApplyError) → IsCore old → names_event old.plan e ≡ true → MayApply old e → IsTaskOf old e t
    → slice_get (nodes_of old.plan) place ≡ Some (at_node e) → OnOk r (ActedAt t place old.stations news)
    → IfErr r (λ x. (at : StationView) → slice_get old.stations place ≡ Some at → (plan : PlanView) → IsRefusedSo plan t at.node x) → OnErr r (news ≡ old.stations)
    → Outcome r old (core_of old.plan old.whole news) e
outcome_at old news e t place (Ok u) is named may task at did denied same =
    let z = applied old (core_of old.plan old.whole news) t e is named may task (changed old is (at_node e) t news place at did) in
    record { core = z.0; applied = z.1; refused = tt; unchanged = tt; gone = z.1.gone }
outcome_at old news e t place (Err x) is named may task at did denied same =
    let p = placed old is (at_node e) place at in
    let as_was : core_of old.plan old.whole news ≡ old = ap (core_of old.plan old.whole) same in
    record {
      core = subst IsCore (sym as_was) is;
      applied = tt;
      refused = λ s stands. refused_there old t e x p.at is named task (ap standing p.under) p.named (denied p.at p.there old.plan) s stands;
      unchanged = as_was;
      gone = ap gone_by as_was;
    }

-- the same of the value that the fields make
pub outcome : (old self : CoreView) (news : List StationView) (e : Event) (t : Asked) (place : ℕ) (r : Result (Unit {0}) ApplyError) → old ≡ self → IsCore old → names_event self.plan e ≡ true → MayApply self e → IsTaskOf self e t
    → slice_get (nodes_of self.plan) place ≡ Some (at_node e) → OnOk r (ActedAt t place old.stations news)
    → IfErr r (λ x. (at : StationView) → slice_get old.stations place ≡ Some at → (plan : PlanView) → IsRefusedSo plan t at.node x) → OnErr r (news ≡ old.stations)
    → Outcome r self (core_of old.plan old.whole news) e
outcome old self news e t place r same is named may task at did denied stays =
    subst (λ k. Outcome r k (core_of old.plan old.whole news) e) same
    (outcome_at old news e t place r is (subst (λ k. names_event k.plan e ≡ true) (sym same) named) (subst (λ k. MayApply k e) (sym same) may) (subst (λ k. IsTaskOf k e t) (sym same) task)
    (subst (λ k. slice_get (nodes_of k.plan) place ≡ Some (at_node e)) (sym same) at) did denied stays)
