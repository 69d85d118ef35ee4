-- A core along a list of events.
use Rattle.std.proofs.Common.{◌≡◌, ◌∙◌, ◌<◌, ◌+◌, ℕ, zero, suc, List, [], ◌∷◌, Ok, Err, Result, drop, length, slice_index_or, refl, sym, ap, subst, arith}
use Rattle.std.specs.Prelude.{◌≢◌, ◌&&◌}
use Rattle.std.specs.List.{All}
use Rattle.std.proofs.lemmas.List.Elements.{All-head, All-tail}
use Rattle.tuple_edge.specs.Input.{Input}
use Rattle.plan_reader.specs.PlanView.{PlanView}
use Rattle.pair_machine.proofs.Tests.{both}
use Rattle.trio_machine.specs.Flow.{IsTrioPlan, trio_flow}
use Rattle.trio_machine.specs.Machine.{State, step}
use Rattle.trio_machine.specs.Messages.{NoMoreRows, NotHeld, NotRunning, NotSent, NothingDue, Refusal}
use Rattle.trio_machine.specs.Sound.{IsSound}
use Rattle.trio_machine.specs.declared.event.TrioEvent.{TrioEvent}
use Rattle.trio_machine.specs.declared.event.TrioEvent.TheVariants as event
use Rattle.trio_machine.proofs.Laws.{steps_keep_sound}
use Rattle.trio_text.specs.Nodes.{carries_some, has_trio_node, place_of}
use Rattle.trio_text.specs.Text.{IsNamed}
use Rattle.trio_text.specs.declared.lined.TrioLined.{TrioLined}
use Rattle.trio_text.proofs.PlanNodes.{named_there, nodes_known}
use Rattle.trio_core.specs.CoreView.{CoreView, flow_in, inputs_of}
use Rattle.trio_core.specs.Refusals.{IsRefusal}
use Rattle.trio_core.specs.Stands.{StandsFor}
use Rattle.trio_core.specs.Steps as core_steps
use Rattle.trio_core.specs.Steps.{IsApplied}
use Rattle.trio_core.specs.declared.error.TrioError.{TrioError}
use Rattle.trio_core.specs.declared.error.TrioError.TheVariants as error
use Rattle.trio_command.specs.Follows.{IsFollowed, IsStopped, StandsSound}
use Rattle.trio_command.specs.Replaying.{error_text, refusal_text, replayed, stepped, then_on}

-- ---- events of a text are events of the plan

pub step_named : (plan : PlanView) (inputs : List Input) (e : TrioEvent) → IsNamed plan e → core_steps.IsNamed (trio_flow plan inputs) e
step_named plan inputs (event.Take from to index) h =
    let z = both (has_trio_node plan from && has_trio_node plan to) (carries_some plan (place_of from) (place_of to)) h.0 in
    let y = both (has_trio_node plan from) (has_trio_node plan to) z.0 in
    ((nodes_known plan inputs from).there y.0, (nodes_known plan inputs to).there y.1)
step_named plan inputs (event.Work n) h = named_there plan inputs (event.Work n) h
step_named plan inputs event.Make h = tt
step_named plan inputs (event.Kill n) h = named_there plan inputs (event.Kill n) h
step_named plan inputs (event.Pull from to) h = named_there plan inputs (event.Pull from to) h

-- ---- what is left of a list

-- The events that are left are the plan's, and lead on from where a core stands as all of them do from where it stood.
pub record Left (old now : CoreView) (rest whole : List TrioLined) : Type 0 where
  pub plan : now.plan ≡ old.plan
  pub inputs : inputs_of now ≡ inputs_of old
  pub named : All (λ x. IsNamed old.plan x.event) rest
  pub goes : (s : State) → StandsSound old s → (t : State) × StandsSound now t × (replayed (flow_in old) whole s ≡ replayed (flow_in old) rest t)

pub left_whole : (core : CoreView) (whole : List TrioLined) → All (λ x. IsNamed core.plan x.event) whole → Left core core whole whole
left_whole core whole named = record { plan = refl; inputs = refl; named = named; goes = λ s h. (s, h, refl) }

drop_next : {X : Type 0} (xs : List X) (i : ℕ) (d : X) → i < length xs → drop i xs ≡ slice_index_or xs i d ∷ drop (i + 1) xs
drop_next [] i d l = absurd (omega (arith, l))
drop_next (x ∷ xs) zero d l = refl
drop_next (x ∷ xs) (suc i) d l = let n : suc (i + 1) ≡ suc i + 1 = omega arith in drop_next xs i d (omega arith) ∙ ap (λ k. slice_index_or xs i d ∷ drop k (x ∷ xs)) n

-- the next one of those that are left
pub left_at : (old now : CoreView) (whole : List TrioLined) (i : ℕ) (d : TrioLined) → i < length whole → Left old now (drop i whole) whole
    → Left old now (slice_index_or whole i d ∷ drop (i + 1) whole) whole
left_at old now whole i d within left = subst (λ rest. Left old now rest whole) (drop_next whole i d within) left

module _ (old now : CoreView) (l : TrioLined) (rest whole : List TrioLined) (left : Left old now (l ∷ rest) whole) where
  same : flow_in now ≡ flow_in old
  same = λ j. trio_flow (left.plan j) (left.inputs j)

  named : IsNamed old.plan l.event
  named = All-head (λ x. IsNamed old.plan x.event) l rest left.named

  -- it may be applied
  pub left_named : core_steps.IsNamed (flow_in now) l.event
  left_named = step_named now.plan (inputs_of now) l.event (subst (λ p. IsNamed p l.event) (sym left.plan) named)

  -- once it was applied, those behind it are left
  pub left_next : (new : CoreView) → IsTrioPlan old.plan → IsApplied now new l.event → Left old new rest whole
  left_next new is applied = record {
    plan = applied.plan ∙ left.plan;
    inputs = applied.inputs ∙ left.inputs;
    named = All-tail (λ x. IsNamed old.plan x.event) l rest left.named;
    goes = λ s h.
        let z = left.goes s h in
        let next = applied.steps z.0 z.1.stands z.1.sound in
        let onward : step (flow_in old) z.0 l.event ≡ Ok next.0 = subst (λ f. step f z.0 l.event ≡ Ok next.0) same next.1 in
        let sound = steps_keep_sound old.plan (inputs_of old) is z.0 next.0 l.event (named_there old.plan (inputs_of old) l.event named) (subst (λ f. IsSound f z.0) same z.1.sound) onward in
        let again : flow_in new ≡ flow_in old = λ j. trio_flow ((applied.plan ∙ left.plan) j) ((applied.inputs ∙ left.inputs) j) in
        (next.0, record { stands = next.2; sound = subst (λ f. IsSound f next.0) (sym again) sound }, z.2 ∙ ap (λ r. then_on (replayed (flow_in old) rest) (stepped l.line r)) onward);
  }

  refusal_said : (r : Result State Refusal) (e : TrioError) → IsRefusal r e → e ≢ error.OutOfMemory → (why : Refusal) × (r ≡ Err why) × (error_text e ≡ refusal_text why)
  refusal_said r (error.NotSent i n) h known = (NotSent i n, h, refl)
  refusal_said r error.NothingDue h known = (NothingDue, h, refl)
  refusal_said r error.NotRunning h known = (NotRunning, h, refl)
  refusal_said r error.NoMoreRows h known = (NoMoreRows, h, refl)
  refusal_said r (error.NotHeld a b c) h known = (NotHeld a b c, h, refl)
  refusal_said r error.OutOfMemory h known = absurd (known refl)

  -- where it is no step, the list stops at it
  pub left_stops : (e : TrioError) → ((s : State) → StandsFor now s → IsSound (flow_in now) s → IsRefusal (step (flow_in now) s l.event) e) → IsStopped old whole (record { line = l.line; error = e })
  left_stops e refused known s h =
      let z = left.goes s h in
      let said = refusal_said (step (flow_in old) z.0 l.event) e (subst (λ f. IsRefusal (step f z.0 l.event) e) same (refused z.0 z.1.stands z.1.sound)) known in
      record { why = said.0; refused = z.2 ∙ ap (λ r. then_on (replayed (flow_in old) rest) (stepped l.line r)) said.1; said = said.2 }

-- where none is left, they were followed
pub left_none : (old now : CoreView) (rest whole : List TrioLined) → rest ≡ [] → Left old now rest whole → IsFollowed old now whole
left_none old now rest whole none left s h =
    let z = left.goes s h in (z.0, z.1, z.2 ∙ ap (λ ls. replayed (flow_in old) ls z.0) none)
