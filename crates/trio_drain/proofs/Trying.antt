-- What one try of an event comes to.
use Rattle.std.proofs.Common.{◌≡◌, ◌↔◌, Bool, true, false, Ok, Err, refl, sym, ◌∙◌}
use Rattle.pair_machine.specs.Flow.{Flow}
use Rattle.trio_machine.specs.Drain.{IsDrainEvent}
use Rattle.trio_machine.specs.Machine.{State, step}
use Rattle.trio_machine.specs.Messages.{NoMoreRows, NotHeld, NotRunning, NotSent, NothingDue, Refusal}
use Rattle.trio_machine.specs.Sound.{IsSound}
use Rattle.trio_machine.specs.declared.event.TrioEvent.{TrioEvent}
use Rattle.trio_core.specs.CoreView.{CoreView, flow_in}
use Rattle.trio_core.specs.Refusals.{IsRefusal}
use Rattle.trio_core.specs.Stands.{StandsFor}
use Rattle.trio_core.specs.Steps.{IsApplied}
use Rattle.trio_core.specs.declared.error.TrioError.{TrioError}
use Rattle.trio_core.specs.declared.error.TrioError.TheVariants as error
use Rattle.trio_drain.specs.Order.{IsOver}
use Rattle.trio_drain.specs.Progress.{IsNext, IsNone}

-- code's test says whether it is an event of the drain
abbrev pub Tells : CoreView → TrioEvent → Bool → Type 0
Tells core e result = (s : State) → StandsFor core s → (result ≡ true) ↔ IsDrainEvent (flow_in core) s e

pub none_undrained : (core : CoreView) (e : TrioEvent) (result : Bool) → Tells core e result → result ≡ false → IsNone core core e
none_undrained core e result tells stops = record {
  unchanged = refl;
  over = λ s stands sound d t done. (let z : result ≡ true = (tells s stands).1 d in let y : false ≡ true = sym stops ∙ z in let w : ⊥ = cc y in w);
}

refused : (f : Flow) (s : State) (e : TrioEvent) (r : Refusal) → step f s e ≡ Err r → IsOver f e s
refused f s e r h d t done = let z : Err r ≡ Ok t = sym h ∙ done in cc z

refusal_over : (f : Flow) (s : State) (e : TrioEvent) (x : TrioError) → (x ≡ error.OutOfMemory → ⊥) → IsRefusal (step f s e) x → IsOver f e s
refusal_over f s e (error.NotSent i n) ne h = refused f s e (NotSent i n) h
refusal_over f s e error.NothingDue ne h = refused f s e NothingDue h
refusal_over f s e error.NotRunning ne h = refused f s e NotRunning h
refusal_over f s e error.NoMoreRows ne h = refused f s e NoMoreRows h
refusal_over f s e (error.NotHeld a b c) ne h = refused f s e (NotHeld a b c) h
refusal_over f s e error.OutOfMemory ne h = absurd (ne refl)

pub none_refused : (old new : CoreView) (e : TrioEvent) (x : TrioError) → new ≡ old → (x ≡ error.OutOfMemory → ⊥)
    → ((s : State) → StandsFor old s → IsSound (flow_in old) s → IsRefusal (step (flow_in old) s e) x) → IsNone old new e
none_refused old new e x same ne h = record { unchanged = same; over = λ s stands sound. refusal_over (flow_in old) s e x ne (h s stands sound) }

pub next_applied : (old new : CoreView) (e : TrioEvent) (result : Bool) → Tells old e result → result ≡ true → IsApplied old new e → IsNext old new e
next_applied old new e result tells goes a s stands sound = ((tells s stands).0 goes, a.steps s stands sound)
