-- The four facts of a pair under a safe script.
use Rattle.std.proofs.Common.{◌≡◌, ◌≢◌, ◌⊎◌, inl, inr, ⊎_elim, ℕ, zero, suc, Bool, true, false, List, [], ◌∷◌, ◌&&◌, Some, refl, sym, ap, ◌∙◌, subst}
use Rattle.std.specs.Prelude.{◌==◌, if◌then◌else◌, slice_get}
use Rattle.std.proofs.lemmas.Bool.{eq-eqb}
use Rattle.tuple_edge.specs.declared.event.Event.{Event}
use Rattle.tuple_edge.specs.declared.event.Event.TheVariants as event
use Rattle.tuple_edge.specs.declared.node.NodeId.{NodeId}
use Rattle.tuple_edge.specs.declared.node.Which.{Which}
use Rattle.tuple_edge.specs.declared.node.Which.TheVariants.{A, B}
use Rattle.tuple_edge.specs.declared.status.Status.TheVariants as status
use Rattle.pair_machine.specs.Controllers.{is_down}
use Rattle.pair_machine.specs.Counts.{flow_of}
use Rattle.pair_machine.specs.Flow.{Flow}
use Rattle.pair_machine.specs.Lists.{Among, Each}
use Rattle.pair_machine.specs.Machine.{State, opening}
use Rattle.pair_machine.specs.Messages.{AskStop, Down, Message, Stop}
use Rattle.pair_machine.specs.Numbers.{Partition, is_node, other, replica_at}
use Rattle.pair_machine.specs.Pairs.{AreIncarnationsInOrder, Side, side_of}
use Rattle.pair_machine.specs.Replicas.{inc_of}
use Rattle.pair_machine.specs.Scripts.{AreOfOnePair, IsAllowed, IsSafe}
use Rattle.pair_machine.specs.Sound.{Serves}
use Rattle.pair_machine.specs.declared.order.Order.{Order}
use Rattle.pair_machine.proofs.Lists.{each_at}
use Rattle.pair_machine.proofs.Names.{is_node-true, node_self}
use Rattle.pair_machine.proofs.Orders.{AreSafe, IsKept, IsOrdered, IsOrderedEvent, OfAskStop, OfDown, OfStop, Orders}
use Rattle.pair_machine.proofs.PairKept.{Turns, none, then_first, then_second}
use Rattle.pair_machine.proofs.SafeKept.{keep_kept}
use Rattle.pair_machine.proofs.Tests.{both, if_elim}
use Rattle.machine_parts.specs.Parts.{BothWays}
use Rattle.machine_parts.specs.SafePairs.{AreNoticesOrdered, AreStopsOver, HasOrder, IsSafePair, MayFail, OpeningPairsAreSafe, RunsWhereUp, SafePairsAreServed, SafePairsStaySafe}
use Rattle.machine_parts.proofs.Turned.{gone, incarnations_turn, turned}

-- ---- whether a script has an order

abbrev same_bool : Bool → Bool → Bool
same_bool true b = b
same_bool false true = false
same_bool false false = true

same_bool-true : (a b : Bool) → same_bool a b ≡ true → b ≡ a
same_bool-true true b e = e
same_bool-true false true e = sym e
same_bool-true false false e = refl

same_bool-self : (a : Bool) → same_bool a a ≡ true
same_bool-self true = refl
same_bool-self false = refl

abbrev is_order : Bool → NodeId → Order → Bool
is_order kill n o = is_node o.node n && same_bool kill o.kill

abbrev has_order : Bool → List Order → NodeId → Bool
has_order kill [] n = false
has_order kill (o ∷ script) n = if is_order kill n o then true else has_order kill script n

found : (kill : Bool) (script : List Order) (n : NodeId) → has_order kill script n ≡ true → HasOrder kill script n
found kill [] n e = absurd (let z : ⊥ = cc e in z)
found kill (o ∷ script) n e = go (is_order kill n o) refl e (found kill script n)
  where
    go : (c : Bool) → is_order kill n o ≡ c → (if c then true else has_order kill script n) ≡ true → (has_order kill script n ≡ true → HasOrder kill script n) → HasOrder kill (o ∷ script) n
    go true is e later = let z = both (is_node o.node n) (same_bool kill o.kill) is in (o, inl refl, is_node-true o.node n z.0, same_bool-true kill o.kill z.1)
    go false is e later = let h = later e in (h.0, inr h.1, h.2, h.3)

there : (kill : Bool) (script : List Order) (n : NodeId) → HasOrder kill script n → has_order kill script n ≡ true
there kill script n h = among script h.1
  where
    here : is_order kill n h.0 ≡ true
    here = rw (h.2, h.3) (λ i. node_self n i && same_bool-self kill i)

    among : (xs : List Order) → Among h.0 xs → has_order kill xs n ≡ true
    among [] c = absurd c
    among (x ∷ xs) (inl e) = ap (λ c. if c then true else has_order kill xs n) (subst (λ (y : Order). is_order kill n y ≡ true) e here)
    among (x ∷ xs) (inr c) = if_elim (λ b. b ≡ true) (is_order kill n x) true (has_order kill xs n) (λ z. refl) (λ z. among xs c)

not_there : (kill : Bool) (script : List Order) (n : NodeId) → has_order kill script n ≡ false → HasOrder kill script n → ⊥
not_there kill script n e h = let z : ⊥ = cc (there kill script n h, e) in z

-- ---- a safe script has no order to fail beside another order of its pair

place_of : (o : Order) (xs : List Order) → Among o xs → (i : ℕ) × (slice_get xs i ≡ Some o)
place_of o [] c = absurd c
place_of o (x ∷ xs) (inl e) = (zero, ap Some (sym e))
place_of o (x ∷ xs) (inr c) = let h = place_of o xs c in (suc h.0, h.1)

alone : (script : List Order) → IsSafe script → (n m : NodeId) (kill : Bool) → AreOfOnePair n m → (true ≡ kill → n ≡ m → ⊥) → has_order true script n ≡ true → has_order kill script m ≡ false
alone script safe n m kill pair differ fails = go (has_order kill script m) refl
  where
    never : HasOrder true script n → HasOrder kill script m → ⊥
    never x y =
        let i = place_of x.0 script x.1 in
        let j = place_of y.0 script y.1 in
        let apart : i.0 ≢ j.0 = λ e. (let same : x.0 ≡ y.0 = cc (i.1, j.1, e) in differ (sym x.3 ∙ (λ k. (same k).kill) ∙ y.3) (sym x.2 ∙ (λ k. (same k).node) ∙ y.2)) in
        let is = safe i.0 j.0 x.0 y.0 i.1 j.1 apart (rw (x.2, y.2) pair) in
        let z : ⊥ = cc (is, x.3) in z

    go : (b : Bool) → has_order kill script m ≡ b → has_order kill script m ≡ false
    go false e = e
    go true e = absurd (never (found true script n fails) (found kill script m e))

abbrev orders_of : List Order → Orders
orders_of script = record { kill = has_order true script; stop = has_order false script }

orders_safe : (script : List Order) → IsSafe script → (p : Partition) → AreSafe (has_order true script (replica_at p A)) (has_order false script (replica_at p A)) (has_order true script (replica_at p B)) (has_order false script (replica_at p B))
orders_safe script safe p = record {
  first = λ k. (alone script safe (replica_at p A) (replica_at p A) false (refl, refl) (λ e. cc e) k, alone script safe (replica_at p A) (replica_at p B) true (refl, refl) (λ e n. cc n) k, alone script safe (replica_at p A) (replica_at p B) false (refl, refl) (λ e. cc e) k);
  second = λ k. (alone script safe (replica_at p B) (replica_at p B) false (refl, refl) (λ e. cc e) k, alone script safe (replica_at p B) (replica_at p A) true (refl, refl) (λ e n. cc n) k, alone script safe (replica_at p B) (replica_at p A) false (refl, refl) (λ e. cc e) k);
}

allowed_ordered : (script : List Order) (s : State) (e : Event) → IsAllowed script s e → IsOrderedEvent (orders_of script) e
allowed_ordered script s (event.Kill n) h = there true script n (h.0, h.1, h.2, h.3)
allowed_ordered script s (event.AskStop n) h = there false script n (h.0, h.1, h.2, h.3)
allowed_ordered script s (event.Take l k) h = tt
allowed_ordered script s (event.Work n) h = tt
allowed_ordered script s event.Make h = tt
allowed_ordered script s (event.AskBack n) h = tt
allowed_ordered script s (event.Pull from to) h = tt

-- ---- the facts, in the form that turns keep

each_from : (P : Message → Type 0) (xs : List Message) → ((m : Message) → Among m xs → P m) → Each P xs
each_from P [] g = tt
each_from P (x ∷ xs) g = (g x (inl refl), each_from P xs (λ m c. g m (inr c)))

of_down : (P : Type 0) (xs : List Message) → ((i : ℕ) → Among (Down i) xs → P) → (m : Message) → Among m xs → OfDown P m
of_down P xs g (Down i) c = g i c
of_down P xs g message c = tt

of_ask : (P : Type 0) (xs : List Message) → ((i : ℕ) → Among (AskStop i) xs → P) → (m : Message) → Among m xs → OfAskStop P m
of_ask P xs g (AskStop i) c = g i c
of_ask P xs g message c = tt

of_stop : (P : ℕ → Type 0) (xs : List Message) → ((i : ℕ) → Among (Stop i) xs → P i) → (m : Message) → Among m xs → OfStop P m
of_stop P xs g (Stop i) c = g i c
of_stop P xs g message c = tt

ordered : (script : List Order) (n : NodeId) (a : Side) → AreNoticesOrdered script n a → AreStopsOver a → ((MayFail script n → ⊥) → RunsWhereUp a) → IsOrdered (has_order true script n) (has_order false script n) a
ordered script n a notices stops runs = record {
  downs = each_from (OfDown (has_order true script n ≡ true)) a.up (of_down (has_order true script n ≡ true) a.up (λ i c. there true script n (notices.downs i c)));
  asks = each_from (OfAskStop (has_order false script n ≡ true)) a.up (of_ask (has_order false script n ≡ true) a.up (λ i c. there false script n (notices.asks i c)));
  wanted = λ e. there false script n (notices.wanted e);
  stops = each_from (OfStop (λ i. is_down a.watched.status ≡ false → i ≢ a.watched.inc)) a.down (of_stop (λ i. is_down a.watched.status ≡ false → i ≢ a.watched.inc) a.down (λ i c not_down same. stops not_down (subst (λ j. Among (Stop j) a.down) same c)));
  runs = λ e u. (runs (not_there true script n e)).up u;
  caught = λ e u c. (runs (not_there true script n e)).caught u c;
}

notices_of : (script : List Order) (n : NodeId) (a : Side) → IsOrdered (has_order true script n) (has_order false script n) a → AreNoticesOrdered script n a
notices_of script n a k = record {
  downs = λ i c. found true script n (each_at (OfDown (has_order true script n ≡ true)) (Down i) a.up c k.downs);
  asks = λ i c. found false script n (each_at (OfAskStop (has_order false script n ≡ true)) (AskStop i) a.up c k.asks);
  wanted = λ e. found false script n (k.wanted e);
}

stops_of : (kill stop : Bool) (a : Side) → IsOrdered kill stop a → AreStopsOver a
stops_of kill stop a k not_down c = each_at (OfStop (λ i. is_down a.watched.status ≡ false → i ≢ a.watched.inc)) (Stop a.watched.inc) a.down c k.stops not_down refl

runs_of : (script : List Order) (n : NodeId) (stop : Bool) (a : Side) → IsOrdered (has_order true script n) stop a → (MayFail script n → ⊥) → RunsWhereUp a
runs_of script n stop a k never = record { up = λ u. k.runs none u; caught = λ u c. k.caught none u c }
  where
    none : has_order true script n ≡ false
    none = go (has_order true script n) refl
      where
        go : (b : Bool) → has_order true script n ≡ b → has_order true script n ≡ false
        go false e = e
        go true e = absurd (never (found true script n e))

abbrev Kept : List Order → State → Partition → Type 0
Kept script s p =
    IsKept (has_order true script (replica_at p A)) (has_order false script (replica_at p A)) (has_order true script (replica_at p B)) (has_order false script (replica_at p B)) (side_of s p A) (side_of s p B)

kept_of : (script : List Order) (s : State) (p : Partition) → IsSafePair script s p → Kept script s p
kept_of script s p h = record {
  first = ordered script (replica_at p A) (side_of s p A) (h.notices A) (h.stops A) (h.runs A);
  second = ordered script (replica_at p B) (side_of s p B) (h.notices B) (h.stops B) (h.runs B);
  stays = record { partner_of_a = λ e. h.up.partner A (found true script (replica_at p A) e); partner_of_b = λ e. h.up.partner B (found true script (replica_at p B) e); one_up = h.up.one };
}

safe_of : (script : List Order) (s : State) (p : Partition) → Kept script s p → IsSafePair script s p
safe_of script s p k = record { notices = notices; stops = stops; runs = runs; up = record { partner = partner; one = k.stays.one_up } }
  where
    notices : (w : Which) → AreNoticesOrdered script (replica_at p w) (side_of s p w)
    notices A = notices_of script (replica_at p A) (side_of s p A) k.first
    notices B = notices_of script (replica_at p B) (side_of s p B) k.second

    stops : (w : Which) → AreStopsOver (side_of s p w)
    stops A = stops_of _ _ (side_of s p A) k.first
    stops B = stops_of _ _ (side_of s p B) k.second

    runs : (w : Which) → (MayFail script (replica_at p w) → ⊥) → RunsWhereUp (side_of s p w)
    runs A = runs_of script (replica_at p A) _ (side_of s p A) k.first
    runs B = runs_of script (replica_at p B) _ (side_of s p B) k.second

    partner : (w : Which) → MayFail script (replica_at p w) → (side_of s p (other w)).watched.status ≡ status.Up
    partner A h = k.stays.partner_of_a (there true script (replica_at p A) h)
    partner B h = k.stays.partner_of_b (there true script (replica_at p B) h)

-- ---- turns

safe_round : {ka sa kb sb : Bool} → AreSafe ka sa kb sb → AreSafe kb sb ka sa
safe_round s = record { first = s.second; second = s.first }

kept_round : {ka sa kb sb : Bool} {a b : Side} → IsKept ka sa kb sb a b → IsKept kb sb ka sa b a
kept_round k = record { first = k.second; second = k.first; stays = record { partner_of_a = k.stays.partner_of_b; partner_of_b = k.stays.partner_of_a; one_up = ⊎_elim (λ z. inr z) (λ z. inl z) k.stays.one_up } }

turns_safe : {f : Flow} {p : Partition} {ka sa kb sb : Bool} {a b x y : Side} → Turns f p ka sa kb sb a b x y → AreSafe ka sa kb sb → BothWays AreIncarnationsInOrder a b × IsKept ka sa kb sb a b
    → BothWays AreIncarnationsInOrder x y × IsKept ka sa kb sb x y
turns_safe (none a b) s h = h
turns_safe (then_first a b c d x y ts t) s h = let k = turns_safe ts s h in (incarnations_turn t k.0, keep_kept t s k.0.0 k.1)
turns_safe (then_second a b c d x y ts t) s h = let k = turns_safe ts s h in (turned AreIncarnationsInOrder y x (incarnations_turn t (turned AreIncarnationsInOrder c d k.0)), kept_round (keep_kept t (safe_round s) k.0.1 (kept_round k.1)))

-- ---- the laws

opening_ordered : (kill stop : Bool) (p : Partition) (w : Which) → IsOrdered kill stop (side_of opening p w)
opening_ordered kill stop p w = record { downs = tt; asks = tt; wanted = λ e. absurd (let z : ⊥ = cc e in z); stops = tt; runs = λ e u. tt; caught = λ e u c. tt }

pub opening_safe : OpeningPairsAreSafe
opening_safe script p l = safe_of script opening p (record { first = opening_ordered _ _ p A; second = opening_ordered _ _ p B; stays = record { partner_of_a = λ e. refl; partner_of_b = λ e. refl; one_up = inl refl } })

pub safe_kept : SafePairsStaySafe
safe_kept plan inputs h script safe s t e is_there allowed links incarnations pairs done = λ p l.
    safe_of script t p (turns_safe (gone (flow_of plan inputs) (orders_of script) s t e is_there (allowed_ordered script s e allowed) links done p) (orders_safe script safe p) (incarnations p l, kept_of script s p (pairs p l))).1

serves_up : (kill stop : Bool) (a b : Side) → AreIncarnationsInOrder a b → IsOrdered kill stop a → kill ≡ false → a.watched.status ≡ status.Up → Serves a
serves_up kill stop a b n k e u = (k.runs e u, ap (λ s. if is_down s then false else inc_of a.replica == a.watched.inc) u ∙ eq-eqb (inc_of a.replica) a.watched.inc (n.agrees u).0)

served : (ka sa kb sb : Bool) (a b : Side) → AreSafe ka sa kb sb → BothWays AreIncarnationsInOrder a b → IsKept ka sa kb sb a b → Serves a ⊎ Serves b
served true sa kb sb a b s n k = inr (serves_up kb sb b a n.1 k.second (s.first refl).1 (k.stays.partner_of_a refl))
served false sa true sb a b s n k = inl (serves_up false sa a b n.0 k.first refl (k.stays.partner_of_b refl))
served false sa false sb a b s n k = ⊎_elim (λ u. inl (serves_up false sa a b n.0 k.first refl u)) (λ u. inr (serves_up false sb b a n.1 k.second refl u)) k.stays.one_up

pub safe_served : SafePairsAreServed
safe_served plan inputs h script safe s incarnations pairs p l =
    served (has_order true script (replica_at p A)) (has_order false script (replica_at p A)) (has_order true script (replica_at p B)) (has_order false script (replica_at p B)) (side_of s p A) (side_of s p B) (orders_safe script safe p) (incarnations p l) (kept_of script s p (pairs p l))
