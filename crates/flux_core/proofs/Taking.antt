-- What a Take asks of its node is the packet that was sent at its place.
use Rattle.std.proofs.Common.{◌≡◌, ◌∙◌, ℕ, zero, suc, List, [], ◌∷◌, None, Some, Err, length, slice_get, refl, sym, ap, subst, true, unwrap_or, arith}
use Rattle.tuple_edge.specs.declared.event.Event.TheVariants as event
use Rattle.tuple_edge.specs.declared.node.LinkId.{LinkId}
use Rattle.tuple_edge.specs.declared.packet.Body.{Body}
use Rattle.plan_reader.specs.Nodes.{has_link}
use Rattle.pair_machine.specs.Contents.{BodyStands}
use Rattle.pair_machine.specs.Courses.{Pairwise}
use Rattle.pair_machine.specs.Machine.{State, act_of, nth_from_one, taking_of}
use Rattle.pair_machine.specs.Messages.{Message, NotSent, Takes}
use Rattle.flux_core.specs.Acts.{IsTimelyTask}
use Rattle.plan_nodes.specs.NodeOrder.{nodes_of}
use Rattle.flux_core.specs.CoreView.{CoreView, flow_in, inputs_of, standing, standing_at, station}
use Rattle.flux_core.specs.Refusals.{IsRefusal}
use Rattle.flux_core.specs.Sent.{bodies_to}
use Rattle.flux_core.specs.Stands.{IsCore, StandsFor}
use Rattle.flux_core.specs.Steps.{IsTaskOf}
use Rattle.flux_core.specs.Taken.{IsMissing, IsPacketOf}
use Rattle.node_tasks.specs.declared.task.Task.TheVariants as task
use Rattle.flux_core.specs.declared.asked.Asked.{Asked}
use Rattle.flux_core.specs.declared.asked.Asked.TheVariants as asked
use Rattle.flux_core.specs.declared.error.ApplyError.{ApplyError}
use Rattle.flux_core.specs.declared.error.ApplyError.TheVariants as error
use Rattle.flux_core.proofs.Placing.{placed}
use Rattle.flux_core.proofs.There.{sender_there}

-- ---- lists related one by one

pairwise-at : {X Y : Type 0} (R : X → Y → Type 0) (xs : List X) (ys : List Y) (k : ℕ) (x : X) → Pairwise R xs ys → slice_get xs k ≡ Some x → (y : Y) × (slice_get ys k ≡ Some y) × R x y
pairwise-at R [] ys k x h e = let z : ⊥ = cc e in absurd z
pairwise-at R (a ∷ xs) [] k x h e = absurd h
pairwise-at R (a ∷ xs) (b ∷ ys) zero x h e = (b, refl, subst (λ z. R z b) (ap (λ o. unwrap_or o a) e) h.0)
pairwise-at R (a ∷ xs) (b ∷ ys) (suc k) x h e = pairwise-at R xs ys k x h.1 e

pairwise-none : {X Y : Type 0} (R : X → Y → Type 0) (xs : List X) (ys : List Y) (k : ℕ) → Pairwise R xs ys → slice_get xs k ≡ None → slice_get ys k ≡ None
pairwise-none R [] [] k h e = refl
pairwise-none R [] (b ∷ ys) k h e = absurd h
pairwise-none R (a ∷ xs) [] k h e = refl
pairwise-none R (a ∷ xs) (b ∷ ys) zero h e = let z : ⊥ = cc e in absurd z
pairwise-none R (a ∷ xs) (b ∷ ys) (suc k) h e = pairwise-none R xs ys k h.1 e

pairwise-length : {X Y : Type 0} (R : X → Y → Type 0) (xs : List X) (ys : List Y) → Pairwise R xs ys → length xs ≡ length ys
pairwise-length R [] [] h = refl
pairwise-length R [] (b ∷ ys) h = absurd h
pairwise-length R (a ∷ xs) [] h = absurd h
pairwise-length R (a ∷ xs) (b ∷ ys) h = let r = pairwise-length R xs ys h.1 in omega arith

nth-at : {X Y : Type 0} (R : X → Y → Type 0) (xs : List X) (ys : List Y) (k : ℕ) (x : X) → Pairwise R xs ys → nth_from_one xs k ≡ Some x → (y : Y) × (nth_from_one ys k ≡ Some y) × R x y
nth-at R xs ys zero x h e = let z : ⊥ = cc e in absurd z
nth-at R xs ys (suc k) x h e = pairwise-at R xs ys k x h e

nth-none : {X Y : Type 0} (R : X → Y → Type 0) (xs : List X) (ys : List Y) (k : ℕ) → Pairwise R xs ys → nth_from_one xs k ≡ None → nth_from_one ys k ≡ None
nth-none R xs ys zero h e = refl
nth-none R xs ys (suc k) h e = pairwise-none R xs ys k h e

-- ---- the log of a node

module _ (core : CoreView) (named_plan : IsCore core) (l : LinkId) (k : ℕ) (named : has_link core.plan l ≡ true) where
  packets : (s : State) → StandsFor core s → Pairwise (BodyStands core.plan (inputs_of core) l) (bodies_to l.to (station core l.from).sent) (s.sent l)
  packets s stands = (stands l.from (sender_there core.plan (inputs_of core) l named)).sent l.to

  found : (t : Asked) → IsPacketOf (bodies_to l.to (station core l.from).sent) l k t → IsTaskOf core (event.Take l k) t
  found (asked.Task (task.Take from index packet)) h s stands =
      let bodies = bodies_to l.to (station core l.from).sent in
      let m = nth-at (BodyStands core.plan (inputs_of core) l) bodies (s.sent l) k packet.body (packets s stands) h.1 in (
        Takes l.from m.0,
        ap (taking_of l k (s.sent l)) m.1,
        subst (λ a. (x : Message) × (Takes l.from m.0 ≡ Takes a x) × BodyStands core.plan (inputs_of core) (record { from = a; to = l.to }) packet.body x) (sym h.0) (m.0, refl, m.2),
      )
  found (asked.Task task.Work) h s stands = absurd h
  found (asked.Task task.Make) h s stands = absurd h
  found (asked.Task task.Kill) h s stands = absurd h
  found (asked.Task task.AskStop) h s stands = absurd h
  found (asked.Task task.AskBack) h s stands = absurd h
  found (asked.Pull q i) h s stands = absurd h

  missing : (x : ApplyError) → IsMissing (bodies_to l.to (station core l.from).sent) l k x → (s : State) → StandsFor core s → IsRefusal (act_of (flow_in core) s (event.Take l k)) x
  missing (error.NotSent m i n) h s stands =
      let bodies = bodies_to l.to (station core l.from).sent in
      let R = BodyStands core.plan (inputs_of core) l in
      let none = nth-none R bodies (s.sent l) k (packets s stands) h.3 in
      let count : length (s.sent l) ≡ n = sym (pairwise-length R bodies (s.sent l) (packets s stands)) ∙ sym h.2 in
      ap (taking_of l k (s.sent l)) none ∙ (λ j. Err (NotSent (sym h.0 j) (sym h.1 j) (count j)))
  missing error.NothingDue h s stands = absurd h
  missing error.NotRunning h s stands = absurd h
  missing error.NoMoreRows h s stands = absurd h
  missing (error.NotHeld a b c) h s stands = absurd h
  missing error.OutOfMemory h s stands = tt

-- the same of the log at the node's place, of the value that the fields make
module _ (old self : CoreView) (same : old ≡ self) (is : IsCore old) (l : LinkId) (k place : ℕ) (named : has_link self.plan l ≡ true) (at : slice_get (nodes_of self.plan) place ≡ Some l.from) where
  log_is : (standing_at old.stations place).sent ≡ (station old l.from).sent
  log_is =
      let p = placed old is l.from place (subst (λ c. slice_get (nodes_of c.plan) place ≡ Some l.from) (sym same) at) in
      ap (λ o. (standing o).sent) (p.there ∙ sym p.under)

  pub taken_found : (t : Asked) → IsPacketOf (bodies_to l.to (standing_at old.stations place).sent) l k t → IsTaskOf self (event.Take l k) t
  taken_found t h =
      subst (λ c. IsTaskOf c (event.Take l k) t) same
      (found old is l k (subst (λ c. has_link c.plan l ≡ true) (sym same) named) t (subst (λ log. IsPacketOf (bodies_to l.to log) l k t) log_is h))

  pub taken_missing : (x : ApplyError) → IsMissing (bodies_to l.to (standing_at old.stations place).sent) l k x → (s : State) → StandsFor self s → IsRefusal (act_of (flow_in self) s (event.Take l k)) x
  taken_missing x h =
      subst (λ c. (s : State) → StandsFor c s → IsRefusal (act_of (flow_in c) s (event.Take l k)) x) same
      (missing old is l k (subst (λ c. has_link c.plan l ≡ true) (sym same) named) x (subst (λ log. IsMissing (bodies_to l.to log) l k x) log_is h))

-- a Take's packet has nothing that is timely or not
pub taken_timely : (bodies : List Body) (l : LinkId) (k : ℕ) (t : Asked) → IsPacketOf bodies l k t → IsTimelyTask t
taken_timely bodies l k (asked.Task t) h = tt
taken_timely bodies l k (asked.Pull q i) h = absurd h
