-- What is noted at one event is what is told of it.
use Rattle.std.proofs.Common.{◌≡◌, ◌∙◌, inl, ◌++◌, ◌+◌, ℕ, true, List, [], ◌∷◌, Ok, Option, Result, append-nil, map, refl, sym, ap, subst}
use Rattle.std.proofs.lemmas.List.Elements.{All-cons, All-nil}
use Rattle.tuple_edge.specs.declared.node.NodeId.{NodeId}
use Rattle.tuple_edge.specs.declared.event.Event.{Event}
use Rattle.plan_reader.specs.Nodes.{has_node, names_event}
use Rattle.pair_machine.specs.Counts.{flow_of}
use Rattle.pair_machine.specs.Machine.{State, at_node, step}
use Rattle.pair_machine.specs.Messages.{Refusal}
use Rattle.run_journal.specs.declared.lined.Lined.{Lined}
use Rattle.flux_core.specs.CoreView.{CoreView, flow_in, inputs_of}
use Rattle.flux_core.specs.Stands.{IsCore, StandsFor}
use Rattle.flux_core.specs.Steps.{IsApplied}
use Rattle.flux_core.proofs.Done.{pair_named}
use Rattle.flux_core.proofs.Following.{along_next, along_none, followed_all}
use Rattle.run_watch.specs.Glimpses.{glimpse_of}
use Rattle.run_watch.specs.Happenings.{happenings, pair_loss}
use Rattle.run_watch.specs.Pairs.{DifferAt}
use Rattle.run_watch.specs.Seen.{HasSeen}
use Rattle.run_watch.specs.Stamps.{IsAt, seen_happenings, stamped}
use Rattle.run_watch.specs.TraceView.{TraceView}
use Rattle.run_watch.specs.Watching.{fallen, told_along, told_at, told_by}
use Rattle.run_watch.specs.declared.glimpse.Glimpse.{Glimpse}
use Rattle.run_watch.specs.declared.happening.Happening.{Happening}
use Rattle.run_watch.specs.declared.happening.Told.{Told}
use Rattle.run_watch.specs.declared.trace.At.{At}
use Rattle.run_watch.proofs.Steps.{steps_differ}

map_same : {X Y : Type 0} (f g : X → Y) → ((x : X) → f x ≡ g x) → (xs : List X) → map f xs ≡ map g xs
map_same f g h xs = λ j. map (λ x. h x j) xs

-- what was looked at around an event of a node that was applied
pub record Looked (old new : CoreView) (n : NodeId) (place line : ℕ) (before after : Glimpse) (pair : Option Happening) (at : At) : Type 0 where
  pub before_is : (s : State) → StandsFor old s → before ≡ glimpse_of (flow_in old) s n
  pub after_is : (s : State) → StandsFor new s → after ≡ glimpse_of (flow_in new) s n
  pub pair_is : (s t : State) → StandsFor new t → DifferAt n s t → before ≡ glimpse_of (flow_in new) s n → after ≡ glimpse_of (flow_in new) t n → pair ≡ pair_loss n s t
  pub at_is : (s : State) → StandsFor new s → IsAt new.plan (inputs_of new) at (place + 1) line s

module _ (old new : CoreView) (x : Lined) (t u : TraceView) (before after : Glimpse) (pair : Option Happening) (at : At) (is : IsCore old) (named : names_event old.plan x.event ≡ true)
    (applied : IsApplied old new x.event) (looked : Looked old new (at_node x.event) t.place x.line before after pair at) where
  P : Lined → Type 0
  P l = names_event old.plan l.event ≡ true

  same : flow_in new ≡ flow_in old
  same = λ j. flow_of (applied.plan j) (applied.inputs j)

  module _ (s next : State) (from : StandsFor old s) (to : StandsFor new next) (stepped : step (flow_in old) s x.event ≡ Ok next) where
    happened_here : seen_happenings at.place t.falls x.event (at_node x.event) before after pair ≡ happenings (flow_in old) (t.place + 1) t.falls x.event s next
    happened_here =
        let n = at_node x.event in
        let a = looked.before_is s from in
        let b : after ≡ glimpse_of (flow_in old) next n = looked.after_is next to ∙ ap (λ f. glimpse_of f next n) same in
        let p = looked.pair_is s next to (steps_differ (flow_in old) s next x.event stepped) (a ∙ ap (λ f. glimpse_of f s n) (sym same)) (looked.after_is next to) in
        let place : at.place ≡ t.place + 1 = ap (λ (k : At). k.place) (looked.at_is next to) in
        (λ j. seen_happenings (place j) t.falls x.event n (a j) (b j) (p j))

    stamped_here : (h : Happening) → stamped at h ≡ told_at old.plan (inputs_of old) (t.place + 1) x.line next h
    stamped_here h = ap (λ (k : At). stamped k h) (looked.at_is next to) ∙ (λ j. told_at (applied.plan j) (applied.inputs j) (t.place + 1) x.line next h)

    told_here : map (stamped at) (seen_happenings at.place t.falls x.event (at_node x.event) before after pair)
        ≡ told_along old.plan (inputs_of old) t.place t.falls (x ∷ []) (Ok s)
    told_here =
        let by : Result State Refusal → List Told = told_by old.plan (inputs_of old) (t.place + 1) t.falls x s in
        map_same (stamped at) (told_at old.plan (inputs_of old) (t.place + 1) x.line next) stamped_here (seen_happenings at.place t.falls x.event (at_node x.event) before after pair)
        ∙ ap (map (told_at old.plan (inputs_of old) (t.place + 1) x.line next)) happened_here
        ∙ ap by (sym stepped)
        ∙ sym (append-nil (by (step (flow_in old) s x.event)))

  seen_one : u.told ≡ t.told ++ map (stamped at) (seen_happenings at.place t.falls x.event (at_node x.event) before after pair) → u.falls ≡ fallen (t.place + 1) x.event t.falls → u.place ≡ t.place + 1
      → HasSeen old new t u (x ∷ [])
  unfolding P
  seen_one told falls place = record {
    followed = followed_all old new (x ∷ []) (along_next old old x [] (x ∷ []) (All-cons P x [] named (All-nil P)) (along_none old (x ∷ [])) new is applied);
    told = λ s from sound.
        let z = applied.steps s from (inl sound) in
        told ∙ ap (λ r. t.told ++ r) (told_here s z.0 from z.2 z.1);
    falls = falls;
    place = place;
  }

-- the same, by a name of the event's node
pub seen_at : (old new : CoreView) (x : Lined) (t u : TraceView) (n : NodeId) (before after : Glimpse) (pair : Option Happening) (at : At) → IsCore old → n ≡ at_node x.event → names_event old.plan x.event ≡ true → IsApplied old new x.event
    → Looked old new n t.place x.line before after pair at → u.told ≡ t.told ++ map (stamped at) (seen_happenings at.place t.falls x.event n before after pair) → u.falls ≡ fallen (t.place + 1) x.event t.falls → u.place ≡ t.place + 1
    → HasSeen old new t u (x ∷ [])
seen_at old new x t u n before after pair at is here named applied looked told falls place =
    seen_one old new x t u before after pair at is named applied (subst (λ m. Looked old new m t.place x.line before after pair at) here looked)
    (subst (λ m. u.told ≡ t.told ++ map (stamped at) (seen_happenings at.place t.falls x.event m before after pair)) here told) falls place

-- the node of an event that names what the plan has
pub node_named : (core : CoreView) → IsCore core → (e : Event) (n : NodeId) → n ≡ at_node e → names_event core.plan e ≡ true → has_node core.plan n ≡ true
node_named core is e n here named = pair_named core core n e refl is (sym here) named
