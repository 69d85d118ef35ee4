-- A core along the drain's events: it keeps what the drain needs, and one more event leads it on.
use Rattle.std.proofs.Common.{◌≡◌, ◌+◌, ℕ, zero, suc, Bool, true, false, List, [], ◌∷◌, ◌++◌, Result, Ok, Err, OnErr, OnOk, replicate, refl, sym, ap, ◌∙◌, subst, arith, append_assoc}
use Rattle.std.proofs.lemmas.List.{append-nil}
use Rattle.tuple_edge.specs.declared.event.Event.{Event}
use Rattle.plan_reader.specs.Nodes.{names_event}
use Rattle.pair_machine.specs.Counts.{flow_of}
use Rattle.pair_machine.specs.Drain.{AreDrainEvents, IsDrainEvent, IsDrainable}
use Rattle.pair_machine.specs.Flow.{Flow}
use Rattle.pair_machine.specs.Legal.{IsLegalFrom}
use Rattle.pair_machine.specs.Links.{IsThere}
use Rattle.pair_machine.specs.Machine.{State, follow, step}
use Rattle.pair_machine.specs.Messages.{Refusal}
use Rattle.pair_machine.proofs.Legal.{follow_err, legal_join, legal_split, leads_one}
use Rattle.pair_machine.proofs.PlanFlow.{plan_is_flow}
use Rattle.flux_core.specs.CoreView.{CoreView, flow_in}
use Rattle.flux_core.specs.Stands.{IsCore, StandsFor}
use Rattle.flux_core.proofs.There.{there}
use Rattle.core_drain.proofs.Events.{IsAlong, along, drains_on, drains_split, replicate_join}
use Rattle.core_drain.specs.Progress.{IsAfter, IsBlock, IsNext, IsNone, IsOver, IsTried, IsWithin, Keeps, MayBegin, Start, flow_at}

-- ---- what stays

pub keeps_none : (core : CoreView) → IsCore core → Keeps core core
keeps_none core is = record { plan = refl; inputs = refl; whole = refl; gone = refl; core = is }

pub keeps_on : (a b c : CoreView) → Keeps a b → Keeps b c → Keeps a c
keeps_on a b c x y = record { plan = y.plan ∙ x.plan; inputs = y.inputs ∙ x.inputs; whole = y.whole ∙ x.whole; gone = y.gone ∙ x.gone; core = y.core }

pub keeps_same : (old now new : CoreView) → new ≡ now → Keeps old now → Keeps old new
keeps_same old now new same k = subst (Keeps old) (sym same) k

pub named_on : (old new : CoreView) (e : Event) → Keeps old new → names_event old.plan e ≡ true → names_event new.plan e ≡ true
named_on old new e k named = subst (λ p. names_event p e ≡ true) (sym k.plan) named

-- ---- along the drain's events

pub along_at : (b : Start) → MayBegin b → (core : CoreView) (events done : List Event) → (a : IsAfter b core events done) → IsAlong (flow_at b) b.state done a.state
along_at b m core events done a = along (flow_at b) (plan_is_flow b.plan b.inputs m.plan) done b.state a.state m.drainable a.legal a.ready

flow_same : (b : Start) (core : CoreView) (events done : List Event) → IsAfter b core events done → flow_in core ≡ flow_at b
flow_same b core events done a = λ j. flow_of (a.plan j) (a.inputs j)

module _ (b : Start) (m : MayBegin b) (now : CoreView) (events done : List Event) (a : IsAfter b now events done) (e : Event) where
  abbrev f : Flow
  f = flow_at b

  pub record Stepped (new : CoreView) : Type 0 where
    pub state : State
    pub drains : IsDrainEvent f a.state e
    pub stepped : step f a.state e ≡ Ok state
    pub stands : StandsFor new state

  pub stepped : (new : CoreView) (after : List Event) → IsNext now new events after e → Stepped new
  stepped new after n =
      let same = flow_same b now events done a in
      let g = along_at b m now events done a in
      let x = n.steps a.state a.stands (subst (λ k. IsDrainable k a.state) (sym same) g.drainable) in
      record {
        state = x.1.0;
        drains = subst (λ k. IsDrainEvent k a.state e) same x.0;
        stepped = subst (λ k. step k a.state e ≡ Ok x.1.0) same x.1.1;
        stands = x.1.2;
      }

  pub after_next : (new : CoreView) (after : List Event) → IsThere f e → Keeps now new → IsNext now new events after e → IsAfter b new after (done ++ e ∷ [])
  after_next new after there keeps n =
      let x = stepped new after n in
      record {
        plan = keeps.plan ∙ a.plan;
        inputs = keeps.inputs ∙ a.inputs;
        listed = n.listed ∙ (ap (λ es. es ++ e ∷ []) a.listed ∙ append_assoc b.events done (e ∷ []));
        state = x.state;
        legal = legal_join f b.state a.state x.state done (e ∷ []) a.legal (record { there = (there, tt); leads = x.stepped });
        ready = drains_on f done (e ∷ []) (Ok b.state) a.state a.legal.leads a.ready (x.drains, tt);
        stands = x.stands;
      }

-- an event that is named is there
pub there_at : (b : Start) → MayBegin b → (core : CoreView) → core.plan ≡ b.plan → (e : Event) → names_event core.plan e ≡ true → IsThere (flow_at b) e
there_at b m core same e named = there b.plan b.inputs m.plan e (subst (λ p. names_event p e ≡ true) same named)

-- of n times, some were done
pub record Left (b : Start) (done : List Event) (e : Event) (n : ℕ) (now : CoreView) (events : List Event) : Type 0 where
  pub count : ℕ
  pub left : ℕ
  pub sum : n ≡ count + left
  pub after : IsAfter b now events (done ++ replicate count e)

pub left_none : (b : Start) (done : List Event) (e : Event) (n : ℕ) (now : CoreView) (events : List Event) → IsAfter b now events done → Left b done e n now events
left_none b done e n now events a = record { count = 0; left = n; sum = omega arith; after = subst (IsAfter b now events) (sym (append-nil done)) a }

module _ (b : Start) (m : MayBegin b) (done : List Event) (e : Event) (n : ℕ) (block : IsBlock b done e n) (now : CoreView) (events : List Event) (l : Left b done e n now events) where
  abbrev g : Flow
  g = flow_at b

  abbrev so_far : List Event
  so_far = done ++ replicate l.count e

  all_done : l.left ≡ 0 → l.after.state ≡ block.reached
  all_done z =
      let same : l.count ≡ n = (let s = l.sum in omega arith) in
      let legal : IsLegalFrom g b.state (done ++ replicate n e) l.after.state = subst (λ j. IsLegalFrom g b.state (done ++ replicate j e) l.after.state) same l.after.legal in
      leads_one g b.state l.after.state block.reached (done ++ replicate n e) legal.leads block.legal.leads

  -- one more
  pub left_next : (new : CoreView) (after : List Event) → IsThere g e → Keeps now new → IsNext now new events after e → Left b done e n new after
  left_next new after there keeps next = go l.left refl
    where
      go : (k : ℕ) → l.left ≡ k → Left b done e n new after
      go zero z =
          let x = stepped b m now events so_far l.after e new after next in
          let over = subst (IsOver g e) (sym (all_done z)) block.over in
          absurd (over x.drains x.state x.stepped)
      go (suc k) z =
          let s = l.sum in
          let more = after_next b m now events so_far l.after e new after there keeps next in
          let listed : so_far ++ e ∷ [] ≡ done ++ replicate (suc l.count) e =
          append_assoc done (replicate l.count e) (e ∷ []) ∙ ap (λ es. done ++ es) (sym (replicate_join e l.count 1 (suc l.count) (omega arith))) in
          record { count = suc l.count; left = k; sum = omega arith; after = subst (IsAfter b new after) listed more }

  -- no more
  none_left : IsOver g e l.after.state → l.left ≡ 0
  none_left over = go l.left refl
    where
      go : (k : ℕ) → l.left ≡ k → k ≡ 0
      go zero z = refl
      go (suc k) z =
          let rest = e ∷ replicate k e in
          let s = l.sum in
          let listed : done ++ replicate n e ≡ so_far ++ rest =
          ap (λ es. done ++ es) (replicate_join e l.count (suc k) n (omega arith)) ∙ sym (append_assoc done (replicate l.count e) rest) in
          let legal = subst (λ es. IsLegalFrom g b.state es block.reached) listed block.legal in
          let ready = subst (λ es. AreDrainEvents g es (Ok b.state)) listed block.ready in
          let halves = legal_split g b.state block.reached so_far rest legal in
          let here : halves.0 ≡ l.after.state = leads_one g b.state halves.0 l.after.state so_far halves.1.leads l.after.legal.leads in
          let drains = drains_split g so_far rest (Ok b.state) l.after.state l.after.legal.leads ready in
          let leads : follow g (replicate k e) (step g l.after.state e) ≡ Ok block.reached = subst (λ u. follow g (replicate k e) (step g u e) ≡ Ok block.reached) here halves.2.leads in
          absurd (stops (step g l.after.state e) refl leads drains.0)
        where
          stops : (r : Result State Refusal) → step g l.after.state e ≡ r → follow g (replicate k e) r ≡ Ok block.reached → IsDrainEvent g l.after.state e → ⊥
          stops (Ok u) q f d = over d u q
          stops (Err x) q f d = let w : Err x ≡ Ok block.reached = sym (follow_err g (replicate k e) x) ∙ f in cc w

  pub left_ends : (new : CoreView) (after : List Event) → IsNone now new events after e → IsAfter b new after (done ++ replicate n e)
  left_ends new after none =
      let same = flow_same b now events so_far l.after in
      let over = subst (λ k. IsOver k e l.after.state) same (none.over l.after.state l.after.stands) in
      let z = none_left over in
      let s = l.sum in
      let all : l.count ≡ n = omega arith in
      let a = subst (λ j. IsAfter b now events (done ++ replicate j e)) all l.after in
      subst (λ c. IsAfter b c after (done ++ replicate n e)) (sym none.unchanged) (subst (λ es. IsAfter b now es (done ++ replicate n e)) (sym none.no_event) a)

  pub left_within : IsWithin b now events
  left_within = record {
    front = so_far;
    rest = replicate l.left e ++ block.rest;
    whole = sym (append_assoc so_far (replicate l.left e) block.rest)
        ∙ (ap (λ es. es ++ block.rest) (append_assoc done (replicate l.count e) (replicate l.left e) ∙ ap (λ es. done ++ es) (sym (replicate_join e l.count l.left n l.sum))) ∙ block.whole);
    after = l.after;
  }

pub within_same : (b : Start) (now new : CoreView) (events after : List Event) → new ≡ now → after ≡ events → IsWithin b now events → IsWithin b new after
within_same b now new events after same listed w = subst (λ c. IsWithin b c after) (sym same) (subst (IsWithin b now) (sym listed) w)

-- ---- what a try came to

pub none_of : (old new : CoreView) (before after : List Event) (e : Event) (did : Bool) → IsTried did old new before after e → did ≡ false → IsNone old new before after e
none_of old new before after e true h stops = let w : ⊥ = cc stops in absurd w
none_of old new before after e false h stops = h

pub next_of : (old new : CoreView) (before after : List Event) (e : Event) (did : Bool) → IsTried did old new before after e → did ≡ true → IsNext old new before after e
next_of old new before after e true h goes = h
next_of old new before after e false h goes = let w : ⊥ = cc goes in absurd w

-- what holds holds after a failure
pub on_err : {X E : Type 0} {P : Type 0} (r : Result X E) → P → OnErr r P
on_err (Ok x) p = tt
on_err (Err e) p = p

pub on_err_map : {X E : Type 0} {P Q : Type 0} (r : Result X E) → (P → Q) → OnErr r P → OnErr r Q
on_err_map (Ok x) f p = tt
on_err_map (Err e) f p = f p

pub on_ok_map : {X E : Type 0} {P Q : Type 0} (r : Result X E) → (P → Q) → OnOk r P → OnOk r Q
on_ok_map (Ok x) f p = f p
on_ok_map (Err e) f p = tt
