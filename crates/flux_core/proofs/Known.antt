-- A core stays one that stands for a known state.
use Rattle.std.proofs.Common.{◌≡◌, ◌∙◌, ◌⊎◌, inl, inr, ◌++◌, Bool, true, false, [], ◌∷◌, Err, Result, Some, refl, sym, ap, subst, true≢false}
use Rattle.tuple_edge.specs.declared.event.Event.{Event}
use Rattle.tuple_edge.specs.declared.node.NodeId.{NodeId}
use Rattle.tuple_edge.specs.declared.node.NodeId.TheVariants as node
use Rattle.plan_reader.specs.Nodes.{names_event}
use Rattle.plan_reader.specs.PlanView.{IsPlan}
use Rattle.pair_machine.specs.Counts.{flow_of}
use Rattle.pair_machine.specs.Drain.{IsDrainable}
use Rattle.pair_machine.specs.Flow.{Flow}
use Rattle.pair_machine.specs.Journal.{TakesNoMessage}
use Rattle.pair_machine.specs.Legal.{IsLegal}
use Rattle.pair_machine.specs.Links.{IsThere}
use Rattle.pair_machine.specs.Machine.{State, act_of, acted, after, at_node, does, opening, step}
use Rattle.pair_machine.specs.Messages.{Refusal}
use Rattle.pair_machine.specs.Sound.{IsSound}
use Rattle.pair_machine.proofs.DrainAfter.{sound_drains}
use Rattle.pair_machine.proofs.Legal.{legal_join}
use Rattle.pair_machine.proofs.MachineLaws.{steps_keep_sound}
use Rattle.pair_machine.proofs.StepTurns.{at_there}
use Rattle.replica_node.specs.Course.{AreTimely}
use Rattle.plan_nodes.specs.NodeOrder.{nodes_of}
use Rattle.plan_nodes.specs.States.{AllCame, has_ended, id_of}
use Rattle.plan_nodes.specs.declared.state.NodeState.{NodeState}
use Rattle.plan_nodes.specs.declared.state.NodeState.TheVariants as state
use Rattle.flux_core.specs.Acts.{IsActOf, IsRefusedSo}
use Rattle.flux_core.specs.CoreView.{CoreView, Standing, StationView, ended_at, flow_in, inputs_of, standing, station}
use Rattle.flux_core.specs.Refusals.{IsRefusal}
use Rattle.flux_core.specs.Stands.{ContentStands, IsCore, IsGiven, IsKnown, IsReached, StandsFor}
use Rattle.flux_core.specs.Steps.{GoesOn, HasSoundState, IsApplied, IsTaskOf, MayApply}
use Rattle.flux_core.specs.declared.asked.Asked.{Asked}
use Rattle.flux_core.specs.declared.error.ApplyError.{ApplyError}
use Rattle.flux_core.specs.declared.error.ApplyError.TheVariants as error
use Rattle.flux_core.proofs.KeepsOwed.{keeps_drainable}
use Rattle.flux_core.proofs.Placing.{gone_same, inputs_same as inputs_kept, still_came}
use Rattle.flux_core.proofs.Steps.{goes_on}
use Rattle.flux_core.proofs.There.{there}
use Rattle.flux_core.proofs.Changes.{HasChanged}

-- ---- what is known goes on

module _ (old new : CoreView) (e : Event) (p : IsPlan old.plan) (is_there : IsThere (flow_in old) e) (goes : GoesOn old new e) (plan_same : new.plan ≡ old.plan) (inputs_same : inputs_of new ≡ inputs_of old) where
  reached_on : IsReached old → IsReached new
  reached_on r =
      let f = flow_in old in
      let z = goes r.state r.stands (inl r.sound) in
      let es = r.events ++ e ∷ [] in
      let legal : IsLegal f es z.0 = legal_join f opening r.state z.0 r.events (e ∷ []) r.legal (record { there = (is_there, tt); leads = z.1 }) in
      let sound : IsSound f z.0 = steps_keep_sound old.plan (inputs_of old) p r.state z.0 e is_there r.sound z.1 in
      record {
        events = es;
        state = z.0;
        legal = subst (λ P. IsLegal (flow_of P (inputs_of new)) es z.0) (sym plan_same) (subst (λ I. IsLegal (flow_of old.plan I) es z.0) (sym inputs_same) legal);
        sound = subst (λ P. IsSound (flow_of P (inputs_of new)) z.0) (sym plan_same) (subst (λ I. IsSound (flow_of old.plan I) z.0) (sym inputs_same) sound);
        stands = z.2;
      }

  given_at : (u : State) → IsDrainable (flow_in old) u → StandsFor new u → IsGiven new
  given_at u h stands = record {
    state = u;
    drainable = subst (λ P. IsDrainable (flow_of P (inputs_of new)) u) (sym plan_same) (subst (λ I. IsDrainable (flow_of old.plan I) u) (sym inputs_same) h);
    stands = stands;
  }

  given_on : IsGiven old → TakesNoMessage e ⊎ HasSoundState old → IsGiven new
  given_on g (inl free) =
      let z = goes g.state g.stands (inr (free, g.drainable)) in
      given_at z.0 (keeps_drainable old.plan (inputs_of old) p g.state z.0 e is_there free g.drainable z.1) z.2
  given_on g (inr sound) =
      let z = goes sound.0 sound.1 (inl sound.2) in
      given_at z.0 (sound_drains old.plan (inputs_of old) p z.0 (steps_keep_sound old.plan (inputs_of old) p sound.0 z.0 e is_there sound.2 z.1)) z.2

  known_on : (whole : Bool) → IsKnown whole old → (whole ≡ true) ⊎ (TakesNoMessage e ⊎ HasSoundState old) → IsKnown whole new
  known_on true h may = reached_on h
  known_on false h (inl t) = absurd (true≢false (sym t))
  known_on false h (inr may) = given_on h may

pub applied : (old new : CoreView) (t : Asked) (e : Event) → IsCore old → names_event old.plan e ≡ true → MayApply old e → IsTaskOf old e t → HasChanged (at_node e) t old new → IsCore new × IsApplied old new e
applied old new t e core named may task h =
    let is_there = there old.plan (inputs_of old) core.plan e named in
    let inputs = inputs_kept (at_node e) t old new h in
    let goes = goes_on old new t e core.plan core.times is_there h task in (
      record {
        plan = subst IsPlan (sym h.plan) core.plan;
        times = subst AreTimely (sym inputs) core.times;
        names = h.names ∙ core.names ∙ ap nodes_of (sym h.plan);
        known = subst (λ w. IsKnown w new) (sym h.whole) (known_on old new e core.plan is_there goes h.plan inputs old.whole core.known may);
        came = still_came (at_node e) t old new h core.came;
      },
      record { steps = goes; others = h.others; plan = h.plan; inputs = inputs; whole = h.whole; gone = gone_same (at_node e) t old new h },
    )

-- ---- refusals

refusal_on : {X Y : Type 0} (g : Result X Refusal → Result Y Refusal) → ((r : Refusal) → g (Err r) ≡ Err r) → (x : Result X Refusal) (e : ApplyError) → IsRefusal x e → IsRefusal (g x) e
refusal_on g same x (error.NotSent l i n) h = ap g h ∙ same _
refusal_on g same x error.NothingDue h = ap g h ∙ same _
refusal_on g same x error.NotRunning h = ap g h ∙ same _
refusal_on g same x error.NoMoreRows h = ap g h ∙ same _
refusal_on g same x (error.NotHeld a b c) h = ap g h ∙ same _
refusal_on g same x error.OutOfMemory h = tt

-- what is refused before the node is asked
pub refused_early : (f : Flow) (s : State) (e : Event) (x : ApplyError) → IsRefusal (act_of f s e) x → IsRefusal (step f s e) x
unfolding step
refused_early f s e x h = refusal_on (acted f (at_node e) s) (λ r. refl) (act_of f s e) x h

-- all inputs came to a node of a core: only ingress has any
came_where : (s : NodeState) → (id_of s ≡ node.Ingress → has_ended s ≡ true) → AllCame s
came_where (state.Ingress i) h = h refl
came_where (state.Replica v) h = tt
came_where (state.Control c) h = tt
came_where (state.Egress e) h = tt

came_there : (core : CoreView) → IsCore core → (n : NodeId) (at : StationView) → station core n ≡ standing (Some at) → id_of at.node ≡ n → AllCame at.node
came_there core is n at here name = came_where at.node (λ ingress.
    let same : node.Ingress ≡ n = sym ingress ∙ name in
    sym (ap (λ (k : Standing). ended_at k.content) (ap (station core) same ∙ here)) ∙ is.came)

-- what the node refuses
pub refused_there : (core : CoreView) (t : Asked) (e : Event) (x : ApplyError) (at : StationView) → IsCore core → names_event core.plan e ≡ true → IsTaskOf core e t
    → station core (at_node e) ≡ standing (Some at) → id_of at.node ≡ at_node e → IsRefusedSo core.plan t at.node x → (s : State) → StandsFor core s → IsRefusal (step (flow_in core) s e) x
unfolding step
refused_there core t e x at is named task here name refused s stands =
    let f = flow_in core in
    let n = at_node e in
    let z = task s stands in
    let has = at_there f e (there core.plan (inputs_of core) is.plan e named) in
    let stood : ContentStands core.plan (inputs_of core) n (Some at.node) (s.nodes n) = subst (λ (k : Standing). ContentStands core.plan (inputs_of core) n k.content (s.nodes n)) here (stands n has).content in
    let at_does : IsRefusal (does f n z.0 (s.nodes n)) x = subst (λ k. IsRefusal (does f k z.0 (s.nodes n)) x) name
    (refused (came_there core is n at here name) (inputs_of core) is.plan (s.nodes n) z.0 (subst (λ k. IsActOf core.plan (inputs_of core) k t (s.nodes n) z.0) (sym name) z.2) stood.1) in
    let at_after : IsRefusal (after n s (does f n z.0 (s.nodes n))) x = refusal_on (after n s) (λ r. refl) (does f n z.0 (s.nodes n)) x at_does in
    subst (λ a. IsRefusal (acted f n s a) x) (sym z.1) at_after
