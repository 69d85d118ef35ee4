-- A core along a list of events.
use Rattle.std.proofs.Common.{◌≡◌, ◌∙◌, inl, ◌++◌, ◌<◌, ◌+◌, ℕ, zero, suc, true, List, [], ◌∷◌, Ok, drop, length, slice_index_or, refl, sym, ap, subst, arith}
use Rattle.std.specs.List.{All}
use Rattle.std.proofs.lemmas.List.Elements.{All-head, All-tail}
use Rattle.tuple_edge.specs.declared.event.Event.{Event}
use Rattle.plan_reader.specs.Nodes.{names_event}
use Rattle.pair_machine.specs.Counts.{flow_of}
use Rattle.pair_machine.specs.Machine.{State, step}
use Rattle.pair_machine.specs.Sound.{IsSound}
use Rattle.pair_machine.proofs.Legal.{leads_join}
use Rattle.pair_machine.proofs.MachineLaws.{steps_keep_sound}
use Rattle.run_journal.specs.declared.lined.Lined.{Lined}
use Rattle.flux_core.specs.CoreView.{CoreView, flow_in, inputs_of}
use Rattle.flux_core.specs.Follows.{AreNamed, IsFollowed, IsStopped, events_of}
use Rattle.flux_core.specs.Refusals.{IsRefusal}
use Rattle.flux_core.specs.Stands.{IsCore, StandsFor}
use Rattle.flux_core.specs.Steps.{IsApplied}
use Rattle.flux_core.specs.declared.error.ApplyError.{ApplyError}
use Rattle.flux_core.proofs.There.{there}

followed_none : (core : CoreView) → IsFollowed core core []
followed_none core = record { goes = λ s stands sound. (s, refl, sound, stands); plan = refl; inputs = refl; whole = refl }

followed_next : (old now new : CoreView) (es : List Event) (e : Event) → IsCore old → names_event old.plan e ≡ true → IsFollowed old now es → IsApplied now new e → IsFollowed old new (es ++ e ∷ [])
followed_next old now new es e is named h a = record {
  goes = λ s stands sound.
      let z = h.goes s stands sound in
      let same : flow_in now ≡ flow_in old = λ j. flow_of (h.plan j) (h.inputs j) in
      let next = a.steps z.0 z.3 (inl (subst (λ f. IsSound f z.0) (sym same) z.2)) in
      let stepped : step (flow_in old) z.0 e ≡ Ok next.0 = subst (λ f. step f z.0 e ≡ Ok next.0) same next.1 in
      (next.0, leads_join (flow_in old) s z.0 next.0 es (e ∷ []) z.1 stepped, steps_keep_sound old.plan (inputs_of old) is.plan z.0 next.0 e (there old.plan (inputs_of old) is.plan e named) z.2 stepped, next.2);
  plan = a.plan ∙ h.plan;
  inputs = a.inputs ∙ h.inputs;
  whole = a.whole ∙ h.whole;
}

drop_next : {X : Type 0} (xs : List X) (i : ℕ) (d : X) → i < length xs → drop i xs ≡ slice_index_or xs i d ∷ drop (i + 1) xs
drop_next [] i d l = absurd (omega (arith, l))
drop_next (x ∷ xs) zero d l = refl
drop_next (x ∷ xs) (suc i) d l = let n : suc (i + 1) ≡ suc i + 1 = omega arith in drop_next xs i d (omega arith) ∙ ap (λ k. slice_index_or xs i d ∷ drop k (x ∷ xs)) n

-- the lines before the rest are followed
pub record Along (old now : CoreView) (rest lines : List Lined) : Type 0 where
  pub front : List Lined
  pub lines_are : front ++ rest ≡ lines
  pub followed : IsFollowed old now (events_of front)

pub along_none : (core : CoreView) (lines : List Lined) → Along core core lines lines
along_none core lines = record { front = []; lines_are = refl; followed = followed_none core }

one_more : (front : List Lined) (x : Lined) (rest : List Lined) → (front ++ x ∷ []) ++ rest ≡ front ++ x ∷ rest
one_more [] x rest = refl
one_more (y ∷ front) x rest = λ j. y ∷ one_more front x rest j

events_more : (front : List Lined) (x : Lined) → events_of front ++ x.event ∷ [] ≡ events_of (front ++ x ∷ [])
events_more [] x = refl
events_more (y ∷ front) x = λ j. y.event ∷ events_more front x j

all_there : (P : Lined → Type 0) (front : List Lined) (x : Lined) (rest : List Lined) → All P (front ++ x ∷ rest) → P x
all_there P [] x rest h = All-head P x rest h
all_there P (y ∷ front) x rest h = all_there P front x rest (All-tail P y (front ++ x ∷ rest) h)

module _ (old now : CoreView) (x : Lined) (rest lines : List Lined) (named : AreNamed old.plan lines) (along : Along old now (x ∷ rest) lines) where
  named_first : names_event old.plan x.event ≡ true
  named_first = all_there (λ (l : Lined). names_event old.plan l.event ≡ true) along.front x rest (subst (AreNamed old.plan) (sym along.lines_are) named)

  pub named_next : names_event now.plan x.event ≡ true
  named_next = subst (λ p. names_event p x.event ≡ true) (sym along.followed.plan) named_first

  pub whole_next : old.whole ≡ true → now.whole ≡ true
  whole_next w = along.followed.whole ∙ w

  pub along_next : (new : CoreView) → IsCore old → IsApplied now new x.event → Along old new rest lines
  along_next new is a = record {
    front = along.front ++ x ∷ [];
    lines_are = one_more along.front x rest ∙ along.lines_are;
    followed = subst (IsFollowed old new) (events_more along.front x) (followed_next old now new (events_of along.front) x.event is named_first along.followed a);
  }

  pub stopped : (new : CoreView) (e : ApplyError) → new ≡ now → ((s : State) → StandsFor now s → IsRefusal (step (flow_in now) s x.event) e) → IsStopped old new lines (record { line = x.line; error = e })
  stopped new e same refused = record {
    front = along.front;
    at = x;
    rest = rest;
    lines_are = along.lines_are;
    line = refl;
    followed = subst (λ k. IsFollowed old k (events_of along.front)) (sym same) along.followed;
    refused = subst (λ k. (s : State) → StandsFor k s → IsRefusal (step (flow_in k) s x.event) e) (sym same) refused;
  }

-- where the rest goes on with the line at a place
pub along_at : (old now : CoreView) (lines : List Lined) (i : ℕ) (d : Lined) → i < length lines → Along old now (drop i lines) lines → Along old now (slice_index_or lines i d ∷ drop (i + 1) lines) lines
along_at old now lines i d l = subst (λ rest. Along old now rest lines) (drop_next lines i d l)

append_none : (front : List Lined) → front ++ [] ≡ front
append_none [] = refl
append_none (y ∷ front) = λ j. y ∷ append_none front j

pub followed_all : (old now : CoreView) (lines : List Lined) → Along old now [] lines → IsFollowed old now (events_of lines)
followed_all old now lines along = subst (λ l. IsFollowed old now (events_of l)) (sym (append_none along.front) ∙ along.lines_are) along.followed
