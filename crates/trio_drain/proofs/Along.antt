-- A core along the drain's events: it keeps what the drain needs, and one more event leads it on.
use Rattle.std.proofs.Common.{◌≡◌, ◌+◌, ℕ, zero, suc, Bool, true, false, List, [], ◌∷◌, ◌++◌, Result, Ok, Err, OnErr, OnOk, replicate, refl, sym, ap, ◌∙◌, subst, arith, append_assoc}
use Rattle.std.specs.Prelude.{◌==◌, if◌then◌else◌}
use Rattle.std.proofs.lemmas.List.{append-nil}
use Rattle.pair_machine.specs.Drain.{partition, source_of}
use Rattle.pair_machine.specs.Flow.{Flow}
use Rattle.pair_machine.specs.Numbers.{Partition}
use Rattle.trio_machine.specs.Drain.{AreDrainEvents, IsDrainEvent, feeder, server}
use Rattle.trio_machine.specs.Flow.{trio_flow}
use Rattle.trio_machine.specs.Legal.{IsLegalFrom}
use Rattle.trio_machine.specs.Links.{IsThere}
use Rattle.trio_machine.specs.Machine.{State, follow, step}
use Rattle.trio_machine.specs.Messages.{Refusal}
use Rattle.trio_machine.specs.Numbers.{replica_at}
use Rattle.trio_machine.specs.Sound.{IsSound}
use Rattle.trio_machine.specs.declared.event.TrioEvent.{TrioEvent}
use Rattle.trio_machine.specs.declared.event.TrioEvent.TheVariants as event
use Rattle.trio_machine.specs.declared.node.TrioNode.{TrioNode}
use Rattle.trio_machine.specs.declared.node.TrioNode.TheVariants as node
use Rattle.trio_machine.proofs.Legal.{follow_err, legal_join, legal_split, one_end}
use Rattle.trio_core.specs.CoreView.{CoreView, flow_in}
use Rattle.trio_core.specs.Stands.{IsCore, StandsFor}
use Rattle.trio_core.specs.Steps.{IsNamed}
use Rattle.trio_drain.specs.Order.{IsBlock, IsOver, MayBegin, Start, flow_at}
use Rattle.trio_drain.specs.Progress.{IsAfter, IsNext, IsNone, IsTried, IsWithin, Keeps}
use Rattle.trio_drain.proofs.Blocks.{flow}
use Rattle.trio_drain.proofs.Groups.{server_ahead}
use Rattle.trio_drain.proofs.Steps.{IsDrainStep, along, drains_on, drains_split, replicate_join}

-- ---- what stays

pub keeps_none : (core : CoreView) → IsCore core → Keeps core core
keeps_none core is = record { plan = refl; inputs = refl; core = is }

pub keeps_on : (a b c : CoreView) → Keeps a b → Keeps b c → Keeps a c
keeps_on a b c x y = record { plan = y.plan ∙ x.plan; inputs = y.inputs ∙ x.inputs; core = y.core }

pub flow_kept : (old new : CoreView) → Keeps old new → flow_in new ≡ flow_in old
flow_kept old new k = λ j. trio_flow (k.plan j) (k.inputs j)

-- ---- along the drain's events

pub along_at : (b : Start) → MayBegin b → (core : CoreView) (done : List TrioEvent) → (a : IsAfter b core done) → IsDrainStep (flow_at b) b.state a.state
along_at b m core done a = along (flow_at b) (flow b m) done b.state a.state m.sound a.legal a.ready

pub flow_same : (b : Start) (core : CoreView) (done : List TrioEvent) → IsAfter b core done → flow_in core ≡ flow_at b
flow_same b core done a = λ j. trio_flow (a.plan j) (a.inputs j)

pub listed_on : (b : Start) (core : CoreView) (xs ys : List TrioEvent) → xs ≡ ys → IsAfter b core xs → IsAfter b core ys
listed_on b core xs ys e a = subst (IsAfter b core) e a

module _ (b : Start) (m : MayBegin b) (now : CoreView) (done : List TrioEvent) (a : IsAfter b now done) (e : TrioEvent) where
  abbrev f : Flow
  f = flow_at b

  pub record Stepped (new : CoreView) : Type 0 where
    pub state : State
    pub drains : IsDrainEvent f a.state e
    pub stepped : step f a.state e ≡ Ok state
    pub stands : StandsFor new state

  pub stepped : (new : CoreView) → IsNext now new e → Stepped new
  stepped new n =
      let same = flow_same b now done a in
      let g = along_at b m now done a in
      let x = n a.state a.stands (subst (λ k. IsSound k a.state) (sym same) g.sound) in
      record {
        state = x.1.0;
        drains = subst (λ k. IsDrainEvent k a.state e) same x.0;
        stepped = subst (λ k. step k a.state e ≡ Ok x.1.0) same x.1.1;
        stands = x.1.2;
      }

  pub after_next : (new : CoreView) → IsThere f e → Keeps now new → IsNext now new e → IsAfter b new (done ++ e ∷ [])
  after_next new there keeps n =
      let x = stepped new n in
      record {
        plan = keeps.plan ∙ a.plan;
        inputs = keeps.inputs ∙ a.inputs;
        state = x.state;
        legal = legal_join f b.state a.state x.state done (e ∷ []) a.legal (record { there = (there, tt); leads = x.stepped });
        ready = drains_on f done (e ∷ []) (Ok b.state) a.state a.legal.leads a.ready (x.drains, tt);
        stands = x.stands;
      }

-- of n times, some were done
pub record Left (b : Start) (done : List TrioEvent) (e : TrioEvent) (n : ℕ) (now : CoreView) : Type 0 where
  pub count : ℕ
  pub left : ℕ
  pub sum : n ≡ count + left
  pub after : IsAfter b now (done ++ replicate count e)

pub left_none : (b : Start) (done : List TrioEvent) (e : TrioEvent) (n : ℕ) (now : CoreView) → IsAfter b now done → Left b done e n now
left_none b done e n now a = record { count = 0; left = n; sum = omega arith; after = subst (IsAfter b now) (sym (append-nil done)) a }

module _ (b : Start) (m : MayBegin b) (done : List TrioEvent) (e : TrioEvent) (n : ℕ) (block : IsBlock b done e n) (now : CoreView) (l : Left b done e n now) where
  abbrev g : Flow
  g = flow_at b

  abbrev so_far : List TrioEvent
  so_far = done ++ replicate l.count e

  all_done : l.left ≡ 0 → l.after.state ≡ block.reached
  all_done z =
      let same : l.count ≡ n = (let s = l.sum in omega arith) in
      let legal : IsLegalFrom g b.state (done ++ replicate n e) l.after.state = subst (λ j. IsLegalFrom g b.state (done ++ replicate j e) l.after.state) same l.after.legal in
      one_end g b.state l.after.state block.reached (done ++ replicate n e) legal block.legal

  -- one more
  pub left_next : (new : CoreView) → IsThere g e → Keeps now new → IsNext now new e → Left b done e n new
  left_next new there keeps next = go l.left refl
    where
      go : (k : ℕ) → l.left ≡ k → Left b done e n new
      go zero z =
          let x = stepped b m now so_far l.after e new next in
          let over = subst (IsOver g e) (sym (all_done z)) block.over in
          absurd (over x.drains x.state x.stepped)
      go (suc k) z =
          let s = l.sum in
          let more = after_next b m now so_far l.after e new there keeps next in
          let listed : so_far ++ e ∷ [] ≡ done ++ replicate (suc l.count) e =
          append_assoc done (replicate l.count e) (e ∷ []) ∙ ap (λ es. done ++ es) (sym (replicate_join e l.count 1 (suc l.count) (omega arith))) in
          record { count = suc l.count; left = k; sum = omega arith; after = subst (IsAfter b new) listed more }

  -- no more
  none_left : IsOver g e l.after.state → l.left ≡ 0
  none_left over = go l.left refl
    where
      go : (k : ℕ) → l.left ≡ k → k ≡ 0
      go zero z = refl
      go (suc k) z =
          let rest = e ∷ replicate k e in
          let s = l.sum in
          let listed : done ++ replicate n e ≡ so_far ++ rest =
          ap (λ es. done ++ es) (replicate_join e l.count (suc k) n (omega arith)) ∙ sym (append_assoc done (replicate l.count e) rest) in
          let legal = subst (λ es. IsLegalFrom g b.state es block.reached) listed block.legal in
          let ready = subst (λ es. AreDrainEvents g es (Ok b.state)) listed block.ready in
          let halves = legal_split g b.state block.reached so_far rest legal in
          let here : halves.0 ≡ l.after.state = one_end g b.state halves.0 l.after.state so_far halves.1 l.after.legal in
          let drains = drains_split g so_far rest (Ok b.state) l.after.state l.after.legal.leads ready in
          let leads : follow g (replicate k e) (step g l.after.state e) ≡ Ok block.reached = subst (λ u. follow g (replicate k e) (step g u e) ≡ Ok block.reached) here halves.2.leads in
          absurd (stops (step g l.after.state e) refl leads drains.0)
        where
          stops : (r : Result State Refusal) → step g l.after.state e ≡ r → follow g (replicate k e) r ≡ Ok block.reached → IsDrainEvent g l.after.state e → ⊥
          stops (Ok u) q f d = over d u q
          stops (Err x) q f d = let w : Err x ≡ Ok block.reached = sym (follow_err g (replicate k e) x) ∙ f in cc w

  pub left_ends : (new : CoreView) → IsNone now new e → IsAfter b new (done ++ replicate n e)
  left_ends new none =
      let same = flow_same b now so_far l.after in
      let sound = subst (λ k. IsSound k l.after.state) (sym same) (along_at b m now so_far l.after).sound in
      let over = subst (λ k. IsOver k e l.after.state) same (none.over l.after.state l.after.stands sound) in
      let z = none_left over in
      let s = l.sum in
      let all : l.count ≡ n = omega arith in
      let a = subst (λ j. IsAfter b now (done ++ replicate j e)) all l.after in
      subst (λ c. IsAfter b c (done ++ replicate n e)) (sym none.unchanged) a

  pub left_within : IsWithin b now
  left_within = record {
    front = so_far;
    rest = replicate l.left e ++ block.rest;
    whole = sym (append_assoc so_far (replicate l.left e) block.rest)
        ∙ (ap (λ es. es ++ block.rest) (append_assoc done (replicate l.count e) (replicate l.left e) ∙ ap (λ es. done ++ es) (sym (replicate_join e l.count l.left n l.sum))) ∙ block.whole);
    after = l.after;
  }

pub within_same : (b : Start) (now new : CoreView) → new ≡ now → IsWithin b now → IsWithin b new
within_same b now new same w = subst (IsWithin b) (sym same) w

-- ---- what a try came to

pub none_of : (old new : CoreView) (e : TrioEvent) (did : Bool) → IsTried did old new e → did ≡ false → IsNone old new e
none_of old new e true h stops = let w : ⊥ = cc stops in absurd w
none_of old new e false h stops = h

pub next_of : (old new : CoreView) (e : TrioEvent) (did : Bool) → IsTried did old new e → did ≡ true → IsNext old new e
next_of old new e true h goes = h
next_of old new e false h goes = let w : ⊥ = cc goes in absurd w

-- what holds holds after a failure
pub on_err : {X E : Type 0} {P : Type 0} (r : Result X E) → P → OnErr r P
on_err (Ok x) p = tt
on_err (Err e) p = p

pub on_err_map : {X E : Type 0} {P Q : Type 0} (r : Result X E) → (P → Q) → OnErr r P → OnErr r Q
on_err_map (Ok x) f p = tt
on_err_map (Err e) f p = f p

pub on_ok_map : {X E : Type 0} {P Q : Type 0} (r : Result X E) → (P → Q) → OnOk r P → OnOk r Q
on_ok_map (Ok x) f p = f p
on_ok_map (Err e) f p = tt

-- ---- who serves

-- the server that code finds is the one at the beginning
pub server_at : (b : Start) → MayBegin b → (core : CoreView) (done : List TrioEvent) → IsAfter b core done → (p : Partition) (c : ℕ) → ((s : State) → StandsFor core s → c ≡ server s p) → c ≡ server b.state p
server_at b m core done a p c found = found a.state a.stands ∙ server_ahead b.state a.state p (along_at b m core done a).ahead

-- and so is the node that it pulls from
pub feeder_at : (b : Start) → MayBegin b → (core : CoreView) (done : List TrioEvent) → IsAfter b core done → (p : Partition) (stage q : ℕ) (from : TrioNode) → p.stage ≡ stage
    → ((s : State) (target : ℕ) → StandsFor core s → from ≡ feeder s (partition stage target) q) → from ≡ feeder b.state p q
feeder_at b m core done a p stage q from at found =
    let stays = server_ahead b.state a.state (source_of p q) (along_at b m core done a).ahead in
    found a.state p.part a.stands ∙ ap (λ k. feeder a.state (partition k p.part) q) (sym at) ∙ ap (λ c. if p.stage == 1 then node.Ingress else replica_at (source_of p q) c) stays

-- ---- named events

named_there : (f : Flow) (e : TrioEvent) → IsNamed f e → IsThere f e
named_there f (event.Take from to k) h = h.1
named_there f (event.Work n) h = h
named_there f event.Make h = h
named_there f (event.Kill n) h = h
named_there f (event.Pull from to) h = h

-- an event that is named is there
pub there_at : (b : Start) (core : CoreView) (done : List TrioEvent) → IsAfter b core done → (e : TrioEvent) → IsNamed (flow_in core) e → IsThere (flow_at b) e
there_at b core done a e named = named_there (flow_at b) e (subst (λ f. IsNamed f e) (flow_same b core done a) named)

pub named_on : (old new : CoreView) (e : TrioEvent) → Keeps old new → IsNamed (flow_in old) e → IsNamed (flow_in new) e
named_on old new e k named = subst (λ f. IsNamed f e) (sym (flow_kept old new k)) named
