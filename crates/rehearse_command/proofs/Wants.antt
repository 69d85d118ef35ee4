-- Legal events are never refused where they are watched.
use Rattle.std.proofs.Common.{◌≡◌, ◌∙◌, ◌++◌, List, ◌∷◌, Ok, Err, Result, refl, sym, ap, subst}
use Rattle.std.proofs.lemmas.List.{map-append}
use Rattle.tuple_edge.specs.declared.event.Event.{Event}
use Rattle.plan_reader.specs.PlanView.{IsPlan}
use Rattle.pair_machine.specs.Counts.{flow_of}
use Rattle.pair_machine.specs.Flow.{Flow}
use Rattle.pair_machine.specs.Machine.{Leads, State, follow, opening, step}
use Rattle.pair_machine.specs.Messages.{Refusal}
use Rattle.pair_machine.proofs.Legal.{follow_err, leads_one, leads_split}
use Rattle.pair_machine.proofs.MachineLaws.{plan_opens_sound}
use Rattle.run_journal.specs.declared.lined.Lined.{Lined}
use Rattle.flux_core.specs.CoreView.{CoreView, flow_in, inputs_of}
use Rattle.flux_core.specs.Follows.{events_of}
use Rattle.flux_core.specs.Refusals.{IsRefusal}
use Rattle.flux_core.specs.Stands.{StandsFor}
use Rattle.flux_core.specs.declared.error.ApplyError.{ApplyError}
use Rattle.flux_core.specs.declared.error.ApplyError.TheVariants as error
use Rattle.run_watch.specs.Seen.{HasStopped}
use Rattle.run_watch.specs.declared.watching.WatchError.{WatchError}
use Rattle.run_watch.specs.declared.watching.WatchError.TheVariants as watch_error
use Rattle.rehearse_command.specs.Watches.{IsWant, LeadOn}

-- the first of events that lead on is a step
first_step : (f : Flow) (s t : State) (e : Event) (es : List Event) → Leads f s (e ∷ es) t → (u : State) × (step f s e ≡ Ok u)
first_step f s t e es leads = go (step f s e) refl leads
  where
    go : (r : Result State Refusal) → step f s e ≡ r → follow f es r ≡ Ok t → (u : State) × (step f s e ≡ Ok u)
    go (Ok u) is leads = (u, is)
    go (Err why) is leads = let g = follow_err f es why in let z : ⊥ = cc (leads, g) in absurd z

-- a step is refused for want of memory alone
no_refusal : (r : Result State Refusal) (u : State) (e : ApplyError) → r ≡ Ok u → IsRefusal r e → e ≡ error.OutOfMemory
no_refusal r u (error.NotSent link index sent) is refused = let z : ⊥ = cc (is, refused) in absurd z
no_refusal r u error.NothingDue is refused = let z : ⊥ = cc (is, refused) in absurd z
no_refusal r u error.NotRunning is refused = let z : ⊥ = cc (is, refused) in absurd z
no_refusal r u error.NoMoreRows is refused = let z : ⊥ = cc (is, refused) in absurd z
no_refusal r u (error.NotHeld low mark produced) is refused = let z : ⊥ = cc (is, refused) in absurd z
no_refusal r u error.OutOfMemory is refused = refl

pub wants : (old new : CoreView) (lines : List Lined) (why : WatchError) → IsPlan old.plan → StandsFor old opening → LeadOn old lines → HasStopped old new lines why → IsWant why
wants old new lines watch_error.OutOfMemory limits opens legal h = tt
wants old new lines (watch_error.Stopped stop) limits opens legal h =
    let f : Flow = flow_in old in
    let z = h.followed.goes opening opens (plan_opens_sound old.plan (inputs_of old) limits) in
    let same : flow_in new ≡ flow_in old = λ j. flow_of (h.followed.plan j) (h.followed.inputs j) in
    let parts : events_of lines ≡ events_of h.front ++ events_of (h.at ∷ h.rest) = ap events_of (sym h.lines_are) ∙ map-append (λ (l : Lined). l.event) h.front (h.at ∷ h.rest) in
    let split = leads_split f opening legal.0 (events_of h.front) (events_of (h.at ∷ h.rest)) (subst (λ es. Leads f opening es legal.0) parts legal.1) in
    let here : split.0 ≡ z.0 = leads_one f opening split.0 z.0 (events_of h.front) split.1 z.1 in
    let next = first_step f z.0 legal.0 h.at.event (events_of h.rest) (subst (λ s. Leads f s (events_of (h.at ∷ h.rest)) legal.0) here split.2) in
    no_refusal (step f z.0 h.at.event) next.0 stop.error next.1 (subst (λ g. IsRefusal (step g z.0 h.at.event) stop.error) same (h.refused z.0 z.3))
