-- What one try of an event comes to.
use Rattle.std.proofs.Common.{◌≡◌, ◌↔◌, ◌++◌, inr, Bool, true, false, List, [], ◌∷◌, Ok, Err, refl, sym, ◌∙◌}
use Rattle.tuple_edge.specs.declared.event.Event.{Event}
use Rattle.pair_machine.specs.Drain.{IsDrainEvent}
use Rattle.pair_machine.specs.Flow.{Flow}
use Rattle.pair_machine.specs.Journal.{TakesNoMessage}
use Rattle.pair_machine.specs.Machine.{State, step}
use Rattle.pair_machine.specs.Messages.{NoMoreRows, NotHeld, NotRunning, NotSent, NothingDue, Refusal}
use Rattle.flux_core.specs.CoreView.{CoreView, flow_in, gone_by, inputs_of}
use Rattle.flux_core.specs.Refusals.{IsRefusal}
use Rattle.flux_core.specs.Stands.{IsCore, StandsFor}
use Rattle.flux_core.specs.Steps.{IsApplied}
use Rattle.flux_core.specs.declared.error.ApplyError.{ApplyError}
use Rattle.flux_core.specs.declared.error.ApplyError.TheVariants as error
use Rattle.core_drain.specs.Progress.{IsNext, IsNone, IsOver, Keeps}

-- code's test says whether it is an event of the drain
abbrev pub Tells : CoreView → Event → Bool → Type 0
Tells core e result = (s : State) → StandsFor core s → (result ≡ true) ↔ IsDrainEvent (flow_in core) s e

pub none_undrained : (core : CoreView) (events : List Event) (e : Event) (result : Bool) → Tells core e result → result ≡ false → IsNone core core events events e
none_undrained core events e result tells stops = record {
  unchanged = refl;
  no_event = refl;
  over = λ s stands d t done. (let z : result ≡ true = (tells s stands).1 d in let y : false ≡ true = sym stops ∙ z in let w : ⊥ = cc y in w);
}

refused : (f : Flow) (s : State) (e : Event) (r : Refusal) → step f s e ≡ Err r → IsOver f e s
refused f s e r h d t done = let z : Err r ≡ Ok t = sym h ∙ done in cc z

refusal_over : (f : Flow) (s : State) (e : Event) (x : ApplyError) → (x ≡ error.OutOfMemory → ⊥) → IsRefusal (step f s e) x → IsOver f e s
refusal_over f s e (error.NotSent l i n) ne h = refused f s e (NotSent l i n) h
refusal_over f s e error.NothingDue ne h = refused f s e NothingDue h
refusal_over f s e error.NotRunning ne h = refused f s e NotRunning h
refusal_over f s e error.NoMoreRows ne h = refused f s e NoMoreRows h
refusal_over f s e (error.NotHeld a b c) ne h = refused f s e (NotHeld a b c) h
refusal_over f s e error.OutOfMemory ne h = absurd (ne refl)

pub none_refused : (old new : CoreView) (before after : List Event) (e : Event) (x : ApplyError) → new ≡ old → after ≡ before → (x ≡ error.OutOfMemory → ⊥)
    → ((s : State) → StandsFor old s → IsRefusal (step (flow_in old) s e) x) → IsNone old new before after e
none_refused old new before after e x same listed ne h = record { unchanged = same; no_event = listed; over = λ s stands. refusal_over (flow_in old) s e x ne (h s stands) }

pub next_applied : (old new : CoreView) (before after : List Event) (e : Event) (result : Bool) → TakesNoMessage e → Tells old e result → result ≡ true → IsApplied old new e → after ≡ before ++ e ∷ [] → IsNext old new before after e
next_applied old new before after e result free tells goes a listed = record {
  listed = listed;
  steps = λ s stands g. ((tells s stands).0 goes, a.steps s stands (inr (free, g)));
}

pub keeps_by : (old new : CoreView) → new.plan ≡ old.plan → inputs_of new ≡ inputs_of old → new.whole ≡ old.whole → gone_by new ≡ gone_by old → IsCore new → Keeps old new
keeps_by old new plan inputs whole gone core = record { plan = plan; inputs = inputs; whole = whole; gone = gone; core = core }
