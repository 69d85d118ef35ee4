-- What a Take asks of its node is the packet that was sent at its place.
use Rattle.std.proofs.Common.{◌≡◌, ◌∙◌, ◌<◌, ◌≤◌, ◌+◌, ℕ, zero, suc, Bool, true, false, List, [], ◌∷◌, Option, None, Some, Err, length, take, slice_get, refl, sym, ap, subst, arith, if◌then◌else◌}
use Rattle.pair_machine.specs.Machine.{nth_from_one}
use Rattle.trio_machine.specs.Links.{HasNode}
use Rattle.trio_machine.specs.Machine.{State, act_of, taking_of}
use Rattle.trio_machine.specs.Messages.{NotSent, Takes}
use Rattle.trio_machine.specs.Numbers.{is_node}
use Rattle.trio_machine.specs.declared.body.TrioBody.{TrioBody}
use Rattle.trio_machine.specs.declared.event.TrioEvent.TheVariants as event
use Rattle.trio_machine.specs.declared.node.TrioNode.{TrioNode}
use Rattle.trio_nodes.specs.Contents.{BodyStands}
use Rattle.trio_core.specs.CoreView.{CoreView, Log, StationView, flow_in, found, inputs_of}
use Rattle.trio_core.specs.Refusals.{IsRefusal}
use Rattle.trio_core.specs.Sent.{Counted, bodies_to, body_at}
use Rattle.trio_core.specs.Stands.{IsThere, StandsFor, StationStands}
use Rattle.trio_core.specs.Steps.{IsTaskOf}
use Rattle.trio_core.specs.Taken.{IsMissing, IsPacketOf}
use Rattle.trio_core.specs.declared.error.TrioError.{TrioError}
use Rattle.trio_core.specs.declared.error.TrioError.TheVariants as error
use Rattle.trio_core.specs.declared.task.TrioTask.{TrioTask}
use Rattle.trio_core.specs.declared.task.TrioTask.TheVariants as task
use Rattle.trio_core.proofs.Lists.{nth_at, nth_none, pairwise_length}

-- ---- the search of a log

-- how many packets a place has for a node: one or none
abbrev pub one_of : Option TrioBody → ℕ
one_of None = 0
one_of (Some b) = 1

next_count : (to : TrioNode) (xs : Log) (k : ℕ) → k < length xs → length (bodies_to to (take (suc k) xs)) ≡ one_of (body_at to xs k) + length (bodies_to to (take k xs))
next_count to [] k l = absurd (omega (arith, l))
next_count to (p ∷ xs) zero l = by (is_node p.0 to)
  where
    by : (b : Bool) → length (if b then p.1 ∷ [] else []) ≡ one_of (if b then Some p.1 else None) + 0
    by true = refl
    by false = refl
next_count to (p ∷ xs) (suc k) l = by (is_node p.0 to) (next_count to xs k (omega arith))
  where
    by : (b : Bool) → length (bodies_to to (take (suc k) xs)) ≡ one_of (body_at to xs k) + length (bodies_to to (take k xs))
        → length (if b then p.1 ∷ bodies_to to (take (suc k) xs) else bodies_to to (take (suc k) xs)) ≡ one_of (body_at to xs k) + length (if b then p.1 ∷ bodies_to to (take k xs) else bodies_to to (take k xs))
    by true e = omega (arith, e)
    by false e = e

pub counted_next : (to : TrioNode) (log : Log) (nth sent : ℕ) → nth < length log → Counted to log nth sent → Counted to log (nth + 1) (one_of (body_at to log nth) + sent)
counted_next to log nth sent within h = record {
  few = go (body_at to log nth);
  count = ap (λ k. one_of (body_at to log nth) + k) h.count ∙ sym (next_count to log nth within) ∙ ap (λ k. length (bodies_to to (take k log))) next;
}
  where
    next : suc nth ≡ nth + 1
    next = omega arith

    go : (o : Option TrioBody) → one_of o + sent ≤ nth + 1
    go None = let f = h.few in omega arith
    go (Some b) = let f = h.few in omega arith

pub counted_some : (to : TrioNode) (log : Log) (nth sent : ℕ) (b : TrioBody) → nth < length log → Counted to log nth sent → body_at to log nth ≡ Some b → Counted to log (nth + 1) (sent + 1)
counted_some to log nth sent b within h e = let next : 1 + sent ≡ sent + 1 = omega arith in subst (Counted to log (nth + 1)) (ap (λ o. one_of o + sent) e ∙ next) (counted_next to log nth sent within h)

pub counted_none : (to : TrioNode) (log : Log) (nth sent : ℕ) → nth < length log → Counted to log nth sent → body_at to log nth ≡ None → Counted to log (nth + 1) sent
counted_none to log nth sent within h e = let next : 0 + sent ≡ sent = omega arith in subst (Counted to log (nth + 1)) (ap (λ o. one_of o + sent) e ∙ next) (counted_next to log nth sent within h)

-- the packet at the next place is the next of those to the node
body_there : (to : TrioNode) (xs : Log) (k : ℕ) (b : TrioBody) → body_at to xs k ≡ Some b → slice_get (bodies_to to xs) (length (bodies_to to (take k xs))) ≡ Some b
body_there to [] k b e = let z : ⊥ = cc e in absurd z
body_there to (p ∷ xs) zero b e = by (is_node p.0 to) e
  where
    by : (t : Bool) → (if t then Some p.1 else None) ≡ Some b → slice_get (if t then p.1 ∷ bodies_to to xs else bodies_to to xs) 0 ≡ Some b
    by true e = e
    by false e = let z : ⊥ = cc e in absurd z
body_there to (p ∷ xs) (suc k) b e = by (is_node p.0 to) (body_there to xs k b e)
  where
    by : (t : Bool) → slice_get (bodies_to to xs) (length (bodies_to to (take k xs))) ≡ Some b
        → slice_get (if t then p.1 ∷ bodies_to to xs else bodies_to to xs) (length (if t then p.1 ∷ bodies_to to (take k xs) else bodies_to to (take k xs))) ≡ Some b
    by true e = e
    by false e = e

pub found_here : (to : TrioNode) (log : Log) (nth sent index : ℕ) (b : TrioBody) → Counted to log nth sent → body_at to log nth ≡ Some b → sent + 1 ≡ index → nth_from_one (bodies_to to log) index ≡ Some b
found_here to log nth sent index b h e same =
    subst (λ k. nth_from_one (bodies_to to log) k ≡ Some b) same
    (subst (λ k. nth_from_one (bodies_to to log) k ≡ Some b) place (body_there to log nth b e))
  where
    place : suc (length (bodies_to to (take nth log))) ≡ sent + 1
    place = omega (arith, h.count)

-- where all are counted, and there are fewer than the place, none stands there
past : {X : Type 0} (xs : List X) (k : ℕ) → length xs ≤ k → slice_get xs k ≡ None
past [] k l = refl
past (x ∷ xs) zero l = absurd (omega (arith, l))
past (x ∷ xs) (suc k) l = past xs k (omega arith)

take_all : (xs : Log) (n : ℕ) → n ≡ length xs → take n xs ≡ xs
take_all xs n e = ap (λ k. take k xs) e ∙ go xs
  where
    go : (ys : Log) → take (length ys) ys ≡ ys
    go [] = refl
    go (y ∷ ys) = ap (λ r. y ∷ r) (go ys)

pub none_there : (to : TrioNode) (log : Log) (nth sent index : ℕ) → nth ≡ length log → Counted to log nth sent → (1 ≤ index → sent < index) → (sent ≡ length (bodies_to to log)) × (nth_from_one (bodies_to to log) index ≡ None)
none_there to log nth sent index whole h below =
    let count : sent ≡ length (bodies_to to log) = h.count ∙ ap (λ ps. length (bodies_to to ps)) (take_all log nth whole) in
    (count, go index below count)
  where
    go : (k : ℕ) → (1 ≤ k → sent < k) → sent ≡ length (bodies_to to log) → nth_from_one (bodies_to to log) k ≡ None
    go zero below e = refl
    go (suc k) below e = let b = below (omega arith) in past (bodies_to to log) k (omega (arith, e, b))

-- ---- the packets of a link

module _ (core : CoreView) (from to : TrioNode) (k : ℕ) (has : HasNode (flow_in core) from) (at : StationView) (here : found from core.stations ≡ Some at) where
  link_stands : (s : State) → StandsFor core s → StationStands core.plan (inputs_of core) from at s
  link_stands s stands = subst (λ o. IsThere core.plan (inputs_of core) from o s) here (stands from has)

  pub taken_found : (t : TrioTask) → IsPacketOf (bodies_to to at.sent) from k t → IsTaskOf core (event.Take from to k) t
  taken_found (task.Take sender b) h s stands =
      let bodies = bodies_to to at.sent in
      let m = nth_at (BodyStands core.plan (inputs_of core)) bodies (s.sent from to) k b ((link_stands s stands).sent to) h.1 in (
        Takes from m.0,
        ap (taking_of from k (s.sent from to)) m.1,
        (m.0, ap (λ n. Takes n m.0) (sym h.0), m.2),
      )
  taken_found task.Work h s stands = absurd h
  taken_found task.Make h s stands = absurd h
  taken_found task.Kill h s stands = absurd h
  taken_found (task.Pull q i) h s stands = absurd h

  pub taken_missing : (x : TrioError) → IsMissing (bodies_to to at.sent) k x → (s : State) → StandsFor core s → IsRefusal (act_of (flow_in core) s (event.Take from to k)) x
  taken_missing (error.NotSent i n) h s stands =
      let bodies = bodies_to to at.sent in
      let R = BodyStands core.plan (inputs_of core) in
      let packets = (link_stands s stands).sent to in
      let none = nth_none R bodies (s.sent from to) k packets h.2 in
      let count : length (s.sent from to) ≡ n = sym (pairwise_length R bodies (s.sent from to) packets) ∙ sym h.1 in
      ap (taking_of from k (s.sent from to)) none ∙ (λ j. Err (NotSent (sym h.0 j) (count j)))
  taken_missing error.NothingDue h s stands = absurd h
  taken_missing error.NotRunning h s stands = absurd h
  taken_missing error.NoMoreRows h s stands = absurd h
  taken_missing (error.NotHeld a b c) h s stands = absurd h
  taken_missing error.OutOfMemory h s stands = tt
