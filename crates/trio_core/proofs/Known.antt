-- A core stays one that stands for a state that a legal list reaches, and what it refuses the machine refuses.
use Rattle.std.proofs.Common.{◌≡◌, ◌∙◌, ◌++◌, ℕ, List, [], ◌∷◌, Ok, Err, Result, Option, None, Some, IsSome, OnOk, OnErr, slice_get, refl, sym, ap, subst}
use Rattle.plan_reader.specs.PlanView.{PlanView}
use Rattle.trio_machine.specs.Flow.{IsTrioPlan, trio_flow}
use Rattle.trio_machine.specs.Legal.{IsLegal}
use Rattle.trio_machine.specs.Links.{HasNode}
use Rattle.trio_machine.specs.Machine.{State, act_of, acted, after, at_node, does, opening, step}
use Rattle.trio_machine.specs.Messages.{Refusal}
use Rattle.trio_machine.specs.Sound.{IsSound}
use Rattle.trio_machine.specs.declared.event.TrioEvent.{TrioEvent}
use Rattle.trio_machine.specs.declared.node.TrioNode.{TrioNode}
use Rattle.trio_machine.proofs.Laws.{reached_is_sound}
use Rattle.trio_machine.proofs.Legal.{legal_join}
use Rattle.trio_core.specs.Acts.{IsRefusedSo, MayBeAsked}
use Rattle.trio_core.specs.CoreView.{CoreView, StationView, core_of, flow_in, found, inputs_of, place_of}
use Rattle.trio_core.specs.Refusals.{IsRefusal}
use Rattle.trio_core.specs.Stands.{AreTimely, IsCore, IsThere, StandsFor, StationStands}
use Rattle.trio_core.specs.Steps.{ActedAt, GoesOn, IsApplied, IsNamed, IsTaskOf}
use Rattle.trio_core.specs.declared.error.TrioError.{TrioError}
use Rattle.trio_core.specs.declared.error.TrioError.TheVariants as error
use Rattle.trio_core.specs.declared.task.TrioTask.{TrioTask}
use Rattle.trio_core.proofs.Placing.{changed, found_is, inputs_same}
use Rattle.trio_core.proofs.Stepping.{asked_at, goes_on, named_there}
use Rattle.trio_machine.proofs.Steps.{at_there}
use Rattle.trio_core.proofs.Changes.{HasChanged}

-- the state that a core stands for is sound
pub is_sound : (core : CoreView) (is : IsCore core) → IsSound (flow_in core) is.state
is_sound core is = (reached_is_sound core.plan (inputs_of core) is.plan is.events is.state is.legal).sound

core_on : (old new : CoreView) (e : TrioEvent) → IsCore old → IsNamed (flow_in old) e → GoesOn old new e → new.plan ≡ old.plan → inputs_of new ≡ inputs_of old → IsCore new
core_on old new e is named goes plan_same inputs_is =
    let f = flow_in old in
    let z = goes is.state is.stands (is_sound old is) in
    let es = is.events ++ e ∷ [] in
    let legal : IsLegal f es z.0 = legal_join f opening is.state z.0 is.events (e ∷ []) is.legal (record { there = (named_there f e named, tt); leads = z.1 }) in
    record {
      plan = subst IsTrioPlan (sym plan_same) is.plan;
      times = subst AreTimely (sym inputs_is) is.times;
      events = es;
      state = z.0;
      legal = subst (λ P. IsLegal (trio_flow P (inputs_of new)) es z.0) (sym plan_same) (subst (λ I. IsLegal (trio_flow old.plan I) es z.0) (sym inputs_is) legal);
      stands = z.2;
    }

pub applied : (old new : CoreView) (t : TrioTask) (e : TrioEvent) → IsCore old → IsNamed (flow_in old) e → IsTaskOf old e t → HasChanged (at_node e) t old new → IsCore new × IsApplied old new e
applied old new t e is named task h =
    let goes = goes_on old new t e is.plan is.times named h task in
    let inputs = inputs_same (at_node e) t old new h in
    (core_on old new e is named goes h.plan inputs, record { steps = goes; others = h.others; plan = h.plan; inputs = inputs })

-- ---- refusals

refusal_on : {X Y : Type 0} (g : Result X Refusal → Result Y Refusal) → ((r : Refusal) → g (Err r) ≡ Err r) → (x : Result X Refusal) (e : TrioError) → IsRefusal x e → IsRefusal (g x) e
refusal_on g same x (error.NotSent i n) h = ap g h ∙ same _
refusal_on g same x error.NothingDue h = ap g h ∙ same _
refusal_on g same x error.NotRunning h = ap g h ∙ same _
refusal_on g same x error.NoMoreRows h = ap g h ∙ same _
refusal_on g same x (error.NotHeld a b c) h = ap g h ∙ same _
refusal_on g same x error.OutOfMemory h = tt

-- what is refused before the node is asked
pub refused_early : (core : CoreView) (s : State) (e : TrioEvent) (x : TrioError) → IsRefusal (act_of (flow_in core) s e) x → IsRefusal (step (flow_in core) s e) x
unfolding step
refused_early core s e x h = refusal_on (acted (flow_in core) (at_node e) s) (λ r. refl) (act_of (flow_in core) s e) x h

-- what the node refuses
pub refused_there : (core : CoreView) (t : TrioTask) (e : TrioEvent) (at : StationView) (x : TrioError) → IsTrioPlan core.plan → AreTimely (inputs_of core) → IsNamed (flow_in core) e → IsTaskOf core e t → found (at_node e) core.stations ≡ Some at
    → IsRefusedSo t at.member x → (s : State) → StandsFor core s → IsSound (flow_in core) s → IsRefusal (step (flow_in core) s e) x
unfolding step
refused_there core t e at x is times named task here refused s stands sound =
    let f = flow_in core in
    let n = at_node e in
    let z = task s stands in
    let has = at_there f e (named_there f e named) in
    let stood : StationStands core.plan (inputs_of core) n at s = subst (λ o. IsThere core.plan (inputs_of core) n o s) here (stands n has) in
    let asked = asked_at core e t at is times named here s stands sound z.0 z.1 z.2 in
    let at_does : IsRefusal (does f n z.0 (s.nodes n)) x = subst (λ k. IsRefusal (does f k z.0 (s.nodes n)) x) stood.name (refused core.plan (inputs_of core) (s.nodes n) z.0 asked) in
    let at_after : IsRefusal (after n s (does f n z.0 (s.nodes n))) x = refusal_on (after n s) (λ r. refl) (does f n z.0 (s.nodes n)) x at_does in
    subst (λ a. IsRefusal (acted f n s a) x) (sym z.1) at_after

-- ---- what a core does at an event

-- a node of the plan is there
pub is_there : (core : CoreView) → IsCore core → (n : TrioNode) → HasNode (flow_in core) n → IsSome (found n core.stations)
is_there core is n has = go (found n core.stations) (is.stands n has)
  where
    go : (o : Option StationView) → IsThere core.plan (inputs_of core) n o is.state → IsSome o
    go None h = absurd h
    go (Some at) h = refl

module _ (plan : PlanView) (xs : List StationView) (self : CoreView) (e : TrioEvent) (t : TrioTask) (i : ℕ) (same : core_of plan xs ≡ self) (is : IsCore (core_of plan xs)) (named : IsNamed (flow_in self) e) (task : IsTaskOf self e t)
    (place : place_of (at_node e) xs ≡ Some i) where
  named_inside : IsNamed (flow_in (core_of plan xs)) e
  named_inside = subst (λ (k : CoreView). IsNamed (flow_in k) e) (sym same) named

  task_inside : IsTaskOf (core_of plan xs) e t
  task_inside = subst (λ (k : CoreView). IsTaskOf k e t) (sym same) task

  pub may_be_asked : (at : StationView) → slice_get xs i ≡ Some at → MayBeAsked t at.member
  may_be_asked at here =
      let core = core_of plan xs in
      let z = task_inside is.state is.stands in
      record {
        plan = plan;
        inputs = inputs_of core;
        numbers = is.state.nodes (at_node e);
        act = z.0;
        asked = asked_at core e t at is.plan is.times named_inside (found_is (at_node e) xs i place ∙ here) is.state is.stands (is_sound core is) z.0 z.1 z.2;
      }

  did_act : (news : List StationView) → ActedAt t i xs news → IsCore (core_of plan news) × IsApplied self (core_of plan news) e
  did_act news h =
      let z = applied (core_of plan xs) (core_of plan news) t e is named_inside task_inside (changed plan (at_node e) t xs news i place h) in
      (z.0, subst (λ (k : CoreView). IsApplied k (core_of plan news) e) same z.1)

  pub core_after : {X : Type 0} (r : Result X TrioError) (news : List StationView) → OnOk r (ActedAt t i xs news) → OnErr r (news ≡ xs) → IsCore (core_of plan news)
  core_after (Ok x) news h k = (did_act news h).0
  core_after (Err x) news h k = subst (λ ys. IsCore (core_of plan ys)) (sym k) is

  pub applied_after : {X : Type 0} (r : Result X TrioError) (news : List StationView) → OnOk r (ActedAt t i xs news) → OnOk r (IsApplied self (core_of plan news) e)
  applied_after (Ok x) news h = (did_act news h).1
  applied_after (Err x) news h = h

  pub refused_after : (at : StationView) (x : TrioError) → slice_get xs i ≡ Some at → IsRefusedSo t at.member x → (s : State) → StandsFor self s → IsSound (flow_in self) s → IsRefusal (step (flow_in self) s e) x
  refused_after at x here refused = subst (λ (k : CoreView). (s : State) → StandsFor k s → IsSound (flow_in k) s → IsRefusal (step (flow_in k) s e) x) same
      (refused_there (core_of plan xs) t e at x is.plan is.times named_inside task_inside (found_is (at_node e) xs i place ∙ here) refused)
