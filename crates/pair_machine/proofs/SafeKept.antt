-- Each turn under safe orders keeps a replica of the pair up.
use Rattle.std.proofs.Common.{◌≡◌, ◌≢◌, ◌⊎◌, inl, inr, ⊎_elim, ◌<◌, ℕ, Bool, true, false, List, ◌+◌, refl, sym, ap, ◌∙◌, arith}
use Rattle.std.specs.Prelude.{◌==◌, if◌then◌else◌}
use Rattle.std.proofs.lemmas.Bool.{eq-eqb}
use Rattle.tuple_edge.specs.declared.status.Status.TheVariants as status
use Rattle.pair_machine.proofs.Orders.{AreSafe, IsKept, IsOrdered, OfAskStop, OfDown, OfStop, StaysUp}
use Rattle.pair_machine.specs.Controllers.{is_down}
use Rattle.pair_machine.specs.Flow.{Flow}
use Rattle.pair_machine.specs.Lists.{Among, Each}
use Rattle.pair_machine.specs.Messages.{AskBack, AskStop, Begin, Caught, Down, Lead, Message, Report, Serve, Stop}
use Rattle.pair_machine.specs.Numbers.{Partition, Watched}
use Rattle.pair_machine.specs.Pairs.{AreIncarnationsInOrder, IsPairSound, NamesAtMost, Side}
use Rattle.pair_machine.specs.Replicas.{inc_of}
use Rattle.pair_machine.specs.Sound.{Serves}
use Rattle.tuple_edge.specs.declared.status.Status.{Status}
use Rattle.pair_machine.proofs.Turns.{Turn, runs, tells, asks_stop, asks_back, serves, gives, ends, dies, halts, begins, holds, gathers, catches, hears, flags, raises, names, downs, stops, backs}
use Rattle.pair_machine.proofs.PairKept.{Turns, none, then_first, then_second, keep_turns}
use Rattle.pair_machine.proofs.Lists.{each_more, each_map, each_at}

stop_more : (P Q : ℕ → Type 0) → ((i : ℕ) → P i → Q i) → (m : Message) → OfStop P m → OfStop Q m
stop_more P Q g (Stop i) n = g i n
stop_more P Q g message n = tt

named_stop : (n j : ℕ) → n < j → (m : Message) → NamesAtMost n m → OfStop (λ i. false ≡ false → i ≢ j) m
named_stop n j l (Stop i) h = λ e inner. omega arith
named_stop n j l message h = tt

absurd_up : {X : Type 0} → status.Catching ≡ status.Up → X
absurd_up e = cc

absurd_down_up : {X : Type 0} → status.Down ≡ status.Up → X
absurd_down_up e = cc

absurd_down_catching : {X : Type 0} → status.Down ≡ status.Catching → X
absurd_down_catching e = cc

absurd_up_catching : {X : Type 0} → status.Up ≡ status.Catching → X
absurd_up_catching e = cc

both_ways : {X : Type 0} {k : Bool} → k ≡ true → k ≡ false → X
both_ways e inner = absurd (let z : ⊥ = cc in z)

is_down_of : (s t : Status) → s ≡ t → is_down t ≡ false → is_down s ≡ false
is_down_of s t e h = ap is_down e ∙ h

-- one replica's orders
pub keep_ordered : {f : Flow} {p : Partition} {ka sa : Bool} {a b a_after b_after : Side} → Turn f p ka sa a b a_after b_after → AreIncarnationsInOrder a b → IsOrdered ka sa a → IsOrdered ka sa a_after
keep_ordered (runs x t s h up down across b m) n k = search (each_more, arith)
keep_ordered (tells x e h up down across b) n k = record {
  downs = each_more (OfDown _) up (Report x.inc e (x.consumer.marks e.from)) k.downs tt;
  asks = each_more (OfAskStop _) up (Report x.inc e (x.consumer.marks e.from)) k.asks tt;
  wanted = k.wanted;
  stops = k.stops;
  runs = λ e inner. tt;
  caught = λ e inner c. tt;
}
keep_ordered (asks_stop x h up down across b y) n k = record {
  downs = each_more (OfDown _) up (AskStop x.inc) k.downs tt;
  asks = each_more (OfAskStop _) up (AskStop x.inc) k.asks y;
  wanted = k.wanted;
  stops = k.stops;
  runs = λ e inner. tt;
  caught = λ e inner c. tt;
}
keep_ordered (asks_back x h up down across b) n k = record {
  downs = each_more (OfDown _) up AskBack k.downs tt;
  asks = each_more (OfAskStop _) up AskBack k.asks tt;
  wanted = k.wanted;
  stops = k.stops;
  runs = λ e inner. tt;
  caught = λ e inner c. tt;
}
keep_ordered (serves x target h up down across b c l) n k = search (each_more, arith)
keep_ordered (gives x mv h up down across b e) n k = search (each_more, arith)
keep_ordered (ends x mv h up down across b e) n k = search (each_more, arith)
keep_ordered (dies r h up down across b y) n k = record {
  downs = each_more (OfDown _) up (Down (inc_of r)) k.downs y;
  asks = each_more (OfAskStop _) up (Down (inc_of r)) k.asks tt;
  wanted = k.wanted;
  stops = k.stops;
  runs = λ e inner. both_ways y e;
  caught = λ e inner c. both_ways y e;
}
keep_ordered (halts r h up down across b c) n k =
    let at = each_at (OfStop (λ i. is_down h.status ≡ false → i ≢ h.inc)) (Stop (inc_of r)) down c k.stops in record {
      downs = k.downs;
      asks = k.asks;
      wanted = k.wanted;
      stops = k.stops;
      runs = λ e u. at (ap is_down u) (n.agrees u).0;
      caught = λ e u g. at (ap is_down u) (let z = each_at (NamesAtMost (inc_of r)) (Caught h.inc) up g n.to_control in let y = n.below in omega arith);
    }
keep_ordered (begins r i h up down across b c l) n k =
    let at = each_at (NamesAtMost h.inc) (Begin i) down c n.to_replica in record {
      downs = k.downs;
      asks = k.asks;
      wanted = k.wanted;
      stops = k.stops;
      runs = λ e u. let z = (n.agrees u).0 in omega arith;
      caught = λ e u g. let z = each_at (NamesAtMost (inc_of r)) (Caught h.inc) up g n.to_control in omega arith;
    }
keep_ordered (holds g held h up down across b) n k = search (each_more, arith)
keep_ordered (gathers g m h up down across b c) n k = search (each_more, arith)
keep_ordered (catches g m h up down across b c) n k = record {
  downs = each_more (OfDown _) up (Caught g.inc) k.downs tt;
  asks = each_more (OfAskStop _) up (Caught g.inc) k.asks tt;
  wanted = k.wanted;
  stops = k.stops;
  runs = λ e inner. tt;
  caught = λ e inner c. tt;
}
keep_ordered (hears r h up down across b e k_after c d) n k = search (each_more, arith)
keep_ordered {sa = sa} (flags r h up down across b stop back y) n k = record {
  downs = k.downs;
  asks = k.asks;
  wanted = λ e. ⊎_elim k.wanted (λ g. each_at (OfAskStop (sa ≡ true)) (AskStop h.inc) up g k.asks) (y e);
  stops = k.stops;
  runs = k.runs;
  caught = k.caught;
}
keep_ordered (raises r h up down across b c d) n k = record {
  downs = k.downs;
  asks = k.asks;
  wanted = k.wanted;
  stops = each_map (OfStop (λ i. is_down h.status ≡ false → i ≢ h.inc)) (OfStop (λ i. false ≡ false → i ≢ h.inc)) (stop_more (λ i. is_down h.status ≡ false → i ≢ h.inc) (λ i. false ≡ false → i ≢ h.inc) (λ i g e. g (ap is_down c))) down k.stops;
  runs = λ e u. k.caught e c d;
  caught = λ e u g. absurd_up_catching u;
}
keep_ordered (names r h up down across b term) n k = record {
  downs = k.downs;
  asks = k.asks;
  wanted = k.wanted;
  stops = each_more (OfStop _) down (Lead h.inc term) k.stops tt;
  runs = k.runs;
  caught = k.caught;
}
keep_ordered (downs r h up down across b y) n k = record {
  downs = k.downs;
  asks = k.asks;
  wanted = λ e. absurd (let z : ⊥ = cc e in z);
  stops = each_map (OfStop (λ i. is_down h.status ≡ false → i ≢ h.inc)) (OfStop (λ i. true ≡ false → i ≢ h.inc)) (stop_more (λ i. is_down h.status ≡ false → i ≢ h.inc) (λ i. true ≡ false → i ≢ h.inc) (λ i g e. absurd (let z : ⊥ = cc e in z))) down k.stops;
  runs = λ e u. absurd_down_up u;
  caught = λ e u g. absurd_down_catching u;
}
keep_ordered (stops r h up down across b y) n k = record {
  downs = k.downs;
  asks = k.asks;
  wanted = k.wanted;
  stops = each_more (OfStop (λ i. is_down h.status ≡ false → i ≢ h.inc)) down (Stop h.inc) k.stops (λ e. absurd (let z : true ≡ false = sym (ap is_down y) ∙ e in let v : ⊥ = cc z in v));
  runs = k.runs;
  caught = k.caught;
}
keep_ordered (backs r h up down across b c d) n k = record {
  downs = k.downs;
  asks = k.asks;
  wanted = k.wanted;
  stops = each_more (OfStop (λ i. false ≡ false → i ≢ h.inc + 1)) down (Begin (h.inc + 1)) (each_map (NamesAtMost h.inc) (OfStop (λ i. false ≡ false → i ≢ h.inc + 1)) (named_stop h.inc (h.inc + 1) (omega arith)) down n.to_replica) tt;
  runs = λ e u. absurd_up u;
  caught = λ e u g. absurd (let z = each_at (NamesAtMost (inc_of r)) (Caught (h.inc + 1)) up g n.to_control in let y = n.below in omega arith);
}

pub keep_orders_there : {f : Flow} {p : Partition} {ka sa kb sb : Bool} {a b a_after b_after : Side} → Turn f p ka sa a b a_after b_after → IsOrdered kb sb b → IsOrdered kb sb b_after
keep_orders_there (runs x t s h up down across b m) k = k
keep_orders_there (tells x e h up down across b) k = k
keep_orders_there (asks_stop x h up down across b y) k = k
keep_orders_there (asks_back x h up down across b) k = k
keep_orders_there (serves x target h up down across b c l) k = k
keep_orders_there (gives x mv h up down across b e) k = k
keep_orders_there (ends x mv h up down across b e) k = k
keep_orders_there (dies r h up down across b y) k = k
keep_orders_there (halts r h up down across b c) k = k
keep_orders_there (begins r i h up down across b c l) k = k
keep_orders_there (holds g held h up down across b) k = k
keep_orders_there (gathers g m h up down across b c) k = k
keep_orders_there (catches g m h up down across b c) k = k
keep_orders_there (hears r h up down across b e k_after c d) k = k
keep_orders_there (flags r h up down across b stop back y) k = k
keep_orders_there (raises r h up down across b c d) k = k
keep_orders_there (names r h up down across b term) k = k
keep_orders_there (downs r h up down across b y) k = k
keep_orders_there (stops r h up down across b y) k = k
keep_orders_there (backs r h up down across b c d) k = record {
  downs = k.downs;
  asks = k.asks;
  wanted = k.wanted;
  stops = each_more (OfStop (λ i. is_down b.watched.status ≡ false → i ≢ b.watched.inc)) b.down (Serve b.watched.inc (h.inc + 1)) k.stops tt;
  runs = k.runs;
  caught = k.caught;
}

-- who stays up
still_up : {ka kb : Bool} {a b a_after b_after : Side} → a.watched.status ≡ a_after.watched.status → b.watched.status ≡ b_after.watched.status → StaysUp ka kb a b → StaysUp ka kb a_after b_after
still_up e inner k = record {
  partner_of_a = λ z. sym inner ∙ k.partner_of_a z;
  partner_of_b = λ z. sym e ∙ k.partner_of_b z;
  one_up = ⊎_elim (λ z. inl (sym e ∙ z)) (λ z. inr (sym inner ∙ z)) k.one_up;
}

down_safe : (ka sa kb sb : Bool) (h : Watched) (up : List Message) (st : Status) → AreSafe ka sa kb sb → Each (OfDown (ka ≡ true)) up → (h.stop ≡ true → sa ≡ true) → kb ≡ true →
    Among (Down h.inc) up ⊎ ((h.stop ≡ true) × (h.status ≡ status.Up) × (st ≡ status.Up)) → ⊥
down_safe ka sa kb sb h up st s sent wanted y (inl g) = let z = each_at (OfDown (ka ≡ true)) (Down h.inc) up g sent in both_ways y (s.first z).1
down_safe ka sa kb sb h up st s sent wanted y (inr g) = both_ways (wanted g.0) (s.second y).2

pub keep_up : {f : Flow} {p : Partition} {ka sa kb sb : Bool} {a b a_after b_after : Side} → Turn f p ka sa a b a_after b_after → AreSafe ka sa kb sb → IsKept ka sa kb sb a b → StaysUp ka kb a_after b_after
keep_up {ka = ka} {sa = sa} {kb = kb} {sb = sb} (downs r h up down across b y) s k = record {
  partner_of_a = k.stays.partner_of_a;
  partner_of_b = λ z. absurd (down_safe ka sa kb sb h up b.watched.status s k.first.downs k.first.wanted z y);
  one_up = inr (⊎_elim (λ g. k.stays.partner_of_a (each_at (OfDown (ka ≡ true)) (Down h.inc) up g k.first.downs)) (λ g. g.2) y);
}
keep_up (raises r h up down across b c d) s k = record { partner_of_a = k.stays.partner_of_a; partner_of_b = λ z. refl; one_up = inl refl }
keep_up (backs r h up down across b c d) s k = record { partner_of_a = k.stays.partner_of_a; partner_of_b = λ z. absurd_down_up (sym c ∙ k.stays.partner_of_b z); one_up = inr d }
keep_up _ s k = still_up refl refl k.stays

pub keep_kept : {f : Flow} {p : Partition} {ka sa kb sb : Bool} {a b a_after b_after : Side} → Turn f p ka sa a b a_after b_after → AreSafe ka sa kb sb → AreIncarnationsInOrder a b → IsKept ka sa kb sb a b → IsKept ka sa kb sb a_after b_after
keep_kept t s n k = record { first = keep_ordered t n k.first; second = keep_orders_there t k.second; stays = keep_up t s k }

safe_round : {ka sa kb sb : Bool} → AreSafe ka sa kb sb → AreSafe kb sb ka sa
safe_round s = record { first = s.second; second = s.first }

kept_round : {ka sa kb sb : Bool} {a b : Side} → IsKept ka sa kb sb a b → IsKept kb sb ka sa b a
kept_round k = record { first = k.second; second = k.first; stays = record { partner_of_a = k.stays.partner_of_b; partner_of_b = k.stays.partner_of_a; one_up = ⊎_elim (λ z. inr z) (λ z. inl z) k.stays.one_up } }

pub keep_kept_turns : {f : Flow} {p : Partition} {ka sa kb sb : Bool} {a b a_after b_after : Side} → Turns f p ka sa kb sb a b a_after b_after → AreSafe ka sa kb sb → IsPairSound f p a b → IsKept ka sa kb sb a b → IsKept ka sa kb sb a_after b_after
keep_kept_turns (none a b) s n k = k
keep_kept_turns (then_first a b c d x y ts t) s n k = keep_kept t s (keep_turns ts n).first.incarnations (keep_kept_turns ts s n k)
keep_kept_turns (then_second a b c d x y ts t) s n k = kept_round (keep_kept t (safe_round s) (keep_turns ts n).second.incarnations (kept_round (keep_kept_turns ts s n k)))

-- a pair under safe orders isn't lost
serves_up : (kill stop : Bool) (a b : Side) → AreIncarnationsInOrder a b → IsOrdered kill stop a → kill ≡ false → a.watched.status ≡ status.Up → Serves a
serves_up kill stop a b n k e u = (k.runs e u, ap (λ s. if is_down s then false else inc_of a.replica == a.watched.inc) u ∙ eq-eqb (inc_of a.replica) a.watched.inc (n.agrees u).0)

pub not_lost : {f : Flow} {p : Partition} (ka sa kb sb : Bool) (a b : Side) → AreSafe ka sa kb sb → IsPairSound f p a b → IsKept ka sa kb sb a b → Serves a ⊎ Serves b
not_lost true sa kb sb a b s n k = inr (serves_up kb sb b a n.second.incarnations k.second (s.first refl).1 (k.stays.partner_of_a refl))
not_lost false sa true sb a b s n k = inl (serves_up false sa a b n.first.incarnations k.first refl (k.stays.partner_of_b refl))
not_lost false sa false sb a b s n k = ⊎_elim (λ u. inl (serves_up false sa a b n.first.incarnations k.first refl u)) (λ u. inr (serves_up false sb b a n.second.incarnations k.second refl u)) k.stays.one_up
