-- After every list of events within a safe script, no pair is lost.
use Rattle.std.proofs.Common.{◌≡◌, ◌≢◌, ◌≤◌, inl, inr, ℕ, zero, suc, Bool, true, false, List, [], ◌∷◌, ◌&&◌, Some, Result, Ok, Err, refl, sym, ◌∙◌, subst}
use Rattle.std.specs.Prelude.{if◌then◌else◌, slice_get}
use Rattle.tuple_edge.specs.declared.event.Event.{Event}
use Rattle.tuple_edge.specs.declared.event.Event.TheVariants as event
use Rattle.tuple_edge.specs.declared.node.NodeId.{NodeId}
use Rattle.tuple_edge.specs.declared.node.Which.{Which}
use Rattle.tuple_edge.specs.declared.node.Which.TheVariants.{A, B}
use Rattle.pair_machine.specs.declared.order.Order.{Order}
use Rattle.pair_machine.specs.Flow.{Flow, IsFlow}
use Rattle.pair_machine.specs.Links.{IsThere}
use Rattle.pair_machine.specs.Lists.{Among, Each}
use Rattle.pair_machine.specs.Machine.{Leads, State, follow, opening, step}
use Rattle.pair_machine.specs.Messages.{Refusal}
use Rattle.pair_machine.specs.Numbers.{Partition, is_node, replica_at}
use Rattle.pair_machine.specs.Pairs.{side_of}
use Rattle.pair_machine.specs.Scripts.{AreAllowed, AreOfOnePair, AreWithin, IsAllowed, IsSafe}
use Rattle.pair_machine.specs.Sound.{IsServed, IsSound}
use Rattle.pair_machine.proofs.Orders.{AreOrdersSafe, ArePairsKept, IsOrdered, IsOrderedEvent, Orders}
use Rattle.pair_machine.proofs.SafeKept.{keep_kept_turns, not_lost}
use Rattle.pair_machine.proofs.SoundKept.{opening_sound, sound_kept}
use Rattle.pair_machine.proofs.StepTurns.{Goes, HoldsOnOk, step_goes}
use Rattle.pair_machine.proofs.Names.{is_node-true, node_self}
use Rattle.pair_machine.proofs.Tests.{both, if_elim}

-- ---- the orders of a script

abbrev is_same : Bool → Bool → Bool
is_same true b = b
is_same false true = false
is_same false false = true

-- whether a script has a kill, or a stop, order of a node
abbrev has_order : Bool → NodeId → List Order → Bool
has_order kill n [] = false
has_order kill n (o ∷ os) = if is_node o.node n && is_same kill o.kill then true else has_order kill n os

abbrev orders_of : List Order → Orders
orders_of script = record { kill = λ n. has_order true n script; stop = λ n. has_order false n script }

is_same-true : (a b : Bool) → is_same a b ≡ true → b ≡ a
is_same-true true b e = e
is_same-true false true e = sym e
is_same-true false false e = refl

is_same-self : (a : Bool) → is_same a a ≡ true
is_same-self true = refl
is_same-self false = refl

order_there : (kill : Bool) (n : NodeId) (o : Order) (script : List Order) → Among o script → o.node ≡ n → o.kill ≡ kill → has_order kill n script ≡ true
order_there kill n o [] c at k = absurd c
order_there kill n o (x ∷ xs) (inl e) at k = if_elim (λ b. b ≡ true) (is_node x.node n && is_same kill x.kill) true (has_order kill n xs) (λ z. refl) (λ z. absurd (let y : ⊥ = cc (z, here) in y))
  where
    here : (is_node x.node n && is_same kill x.kill) ≡ true
    here = subst (λ (y : Order). (is_node y.node n && is_same kill y.kill) ≡ true) e (rw (at, k) (λ i. node_self n i && is_same-self kill i))
order_there kill n o (x ∷ xs) (inr c) at k = if_elim (λ b. b ≡ true) (is_node x.node n && is_same kill x.kill) true (has_order kill n xs) (λ z. refl) (λ z. order_there kill n o xs c at k)

-- where a script has an order of a node, it stands at a place
record Found (kill : Bool) (n : NodeId) (script : List Order) : Type 0 where
  place : ℕ
  order : Order
  there : slice_get script place ≡ Some order
  node_is : order.node ≡ n
  kill_is : order.kill ≡ kill

found : (kill : Bool) (n : NodeId) (script : List Order) → has_order kill n script ≡ true → Found kill n script
found kill n [] e = absurd (let z : ⊥ = cc e in z)
found kill n (x ∷ xs) e = go (is_node x.node n && is_same kill x.kill) refl e (λ z. later (found kill n xs z))
  where
    later : Found kill n xs → Found kill n (x ∷ xs)
    later h = record { place = suc h.place; order = h.order; there = h.there; node_is = h.node_is; kill_is = h.kill_is }

    go : (c : Bool) → (is_node x.node n && is_same kill x.kill) ≡ c → (if c then true else has_order kill n xs) ≡ true → (has_order kill n xs ≡ true → Found kill n (x ∷ xs)) → Found kill n (x ∷ xs)
    go true c e h =
        let z = both (is_node x.node n) (is_same kill x.kill) c in record { place = zero; order = x; there = refl; node_is = is_node-true x.node n z.0; kill_is = is_same-true kill x.kill z.1 }
    go false c e h = h e

-- a safe script has no kill order beside another order of its pair
alone : (script : List Order) → IsSafe script → (n m : NodeId) (kill : Bool) → Found true n script → Found kill m script → AreOfOnePair n m → (true ≡ kill → n ≡ m → ⊥) → ⊥
alone script safe n m kill x y pair differ =
    let apart : x.place ≢ y.place = λ e. (let same : x.order ≡ y.order = cc (x.there, y.there, e) in differ (sym x.kill_is ∙ (λ i. (same i).kill) ∙ y.kill_is) (sym x.node_is ∙ (λ i. (same i).node) ∙ y.node_is)) in
    let is = safe x.place y.place x.order y.order x.there y.there apart (rw (x.node_is, y.node_is) pair) in
    let z : ⊥ = cc (is, x.kill_is) in z

script_safe : (script : List Order) → IsSafe script → AreOrdersSafe (orders_of script)
script_safe script safe p = record {
  first = λ k. (none (replica_at p A) (replica_at p A) false k (refl, refl) (λ e. cc e), none (replica_at p A) (replica_at p B) true k (refl, refl) (λ e n. cc n), none (replica_at p A) (replica_at p B) false k (refl, refl) (λ e. cc e));
  second = λ k. (none (replica_at p B) (replica_at p B) false k (refl, refl) (λ e. cc e), none (replica_at p B) (replica_at p A) true k (refl, refl) (λ e n. cc n), none (replica_at p B) (replica_at p A) false k (refl, refl) (λ e. cc e));
}
  where
    none : (n m : NodeId) (kill : Bool) → has_order true n script ≡ true → AreOfOnePair n m → (true ≡ kill → n ≡ m → ⊥) → has_order kill m script ≡ false
    none n m kill k pair differ = go (has_order kill m script) refl
      where
        go : (b : Bool) → has_order kill m script ≡ b → has_order kill m script ≡ false
        go false e = e
        go true e = absurd (alone script safe n m kill (found true n script k) (found kill m script e) pair differ)

allowed_ordered : (script : List Order) (s : State) (e : Event) → IsAllowed script s e → IsOrderedEvent (orders_of script) e
allowed_ordered script s (event.Kill n) h = order_there true n h.0 script h.1 h.2 h.3
allowed_ordered script s (event.AskStop n) h = order_there false n h.0 script h.1 h.2 h.3
allowed_ordered script s (event.Take l k) h = tt
allowed_ordered script s (event.Work n) h = tt
allowed_ordered script s event.Make h = tt
allowed_ordered script s (event.AskBack n) h = tt
allowed_ordered script s (event.Pull from to) h = tt

-- ---- runs

-- what an event is to meet in a run
abbrev pub MayHappen : Flow → Orders → Event → Type 0
MayHappen f o e = IsThere f e × IsOrderedEvent o e

pub record IsSafeState (f : Flow) (o : Orders) (s : State) : Type 0 where
  pub sound : IsSound f s
  pub kept : ArePairsKept o s

safe_step : (f : Flow) → IsFlow f → (o : Orders) → AreOrdersSafe o → (s : State) (e : Event) → MayHappen f o e → IsSafeState f o s → HoldsOnOk (IsSafeState f o) (step f s e)
safe_step f ok o safe s e h old = go (step f s e) (sound_kept f ok s e h.0 old.sound) (λ p. step_goes f o s e p h.0 h.1 old.sound.carried)
  where
    go : (r : Result State Refusal) → HoldsOnOk (IsSound f) r → ((p : Partition) → HoldsOnOk (Goes f p o s) r) → HoldsOnOk (IsSafeState f o) r
    go (Ok t) a g = record { sound = a; kept = λ p l. keep_kept_turns (g p) (safe p) (old.sound.pairs p l) (old.kept p l) }
    go (Err x) a g = tt

safe_run : (f : Flow) → IsFlow f → (script : List Order) → AreOrdersSafe (orders_of script) → (es : List Event) (r : Result State Refusal) → Each (IsThere f) es → AreAllowed f script es r → HoldsOnOk (IsSafeState f (orders_of script)) r → HoldsOnOk (IsSafeState f (orders_of script)) (follow f es r)
safe_run f ok script safe [] r there h old = old
safe_run f ok script safe (e ∷ es) (Ok s) there h old = safe_run f ok script safe es (step f s e) there.1 h.1 (safe_step f ok (orders_of script) safe s e (there.0, allowed_ordered script s e h.0) old)
safe_run f ok script safe (e ∷ es) (Err x) there h old = tt

opening_ordered : (kill stop : Bool) (p : Partition) (w : Which) → IsOrdered kill stop (side_of opening p w)
opening_ordered kill stop p w = record { downs = tt; asks = tt; wanted = λ e. absurd (let z : ⊥ = cc e in z); stops = tt; runs = λ e u. tt; caught = λ e u g. tt }

opening_kept : (o : Orders) → ArePairsKept o opening
opening_kept o p l = record { first = opening_ordered _ _ p A; second = opening_ordered _ _ p B; stays = record { partner_of_a = λ e. refl; partner_of_b = λ e. refl; one_up = inl refl } }

pub never_lost : (f : Flow) → IsFlow f → (script : List Order) → IsSafe script → (es : List Event) (t : State) → Each (IsThere f) es → AreWithin f script es → Leads f opening es t → (p : Partition) → 1 ≤ p.stage → IsServed t p
never_lost f ok script safe es t there within e p l =
    let o = orders_of script in
    let orders_safe = script_safe script safe in
    let all = subst (HoldsOnOk (IsSafeState f o)) e (safe_run f ok script orders_safe es (Ok opening) there within.allowed (record { sound = opening_sound f ok; kept = opening_kept o })) in
    not_lost (o.kill (replica_at p A)) (o.stop (replica_at p A)) (o.kill (replica_at p B)) (o.stop (replica_at p B)) (side_of t p A) (side_of t p B) (orders_safe p) (all.sound.pairs p l) (all.kept p l)
