-- What a controller does is some turns of the sides of its pair.
use Rattle.std.proofs.Common.{◌≡◌, ◌⊎◌, inl, inr, ◌≤◌, ℕ, zero, suc, Bool, true, false, List, [], ◌∷◌, ◌++◌, None, ◌+◌, ◌&&◌, refl, ap, ◌∙◌, subst, append_assoc}
use Rattle.std.specs.Prelude.{max, ◌==◌, if◌then◌else◌, nat_lt}
use Rattle.std.proofs.lemmas.Bool.{eqb-true}
use Rattle.std.proofs.lemmas.List.{append-nil}
use Rattle.tuple_edge.specs.declared.status.Status.TheVariants as status
use Rattle.pair_machine.specs.Consumers.{with_at}
use Rattle.std.specs.Option.{is_none}
use Rattle.pair_machine.specs.Controllers.{acks, acks_from, backs as backs_of, controller_hears, controller_takes, counts, downed, goes_down, is_catching, is_down, is_up, leads_now, least, named, stops as stops_of, then_do, with_which}
use Rattle.pair_machine.specs.Flow.{Flow}
use Rattle.pair_machine.specs.Lists.{Among}
use Rattle.pair_machine.specs.Machine.{messages_to}
use Rattle.pair_machine.specs.Messages.{Ack, AskBack, AskStop, Caught, Down, Envelope, Lead, Message, Report, Stop, envelope}
use Rattle.pair_machine.specs.Numbers.{Controller, Partition, Replica, Watched, in_edge, is_node, is_which, other, replica_at}
use Rattle.pair_machine.specs.Pairs.{Side}
use Rattle.pair_machine.specs.Producers.{to_producers}
use Rattle.tuple_edge.specs.declared.node.EdgeId.{EdgeId}
use Rattle.tuple_edge.specs.declared.node.NodeId.{NodeId}
use Rattle.tuple_edge.specs.declared.node.Which.{Which}
use Rattle.tuple_edge.specs.declared.node.Which.TheVariants.{A, B}
use Rattle.tuple_edge.specs.declared.status.Status.{Status}
use Rattle.pair_machine.proofs.Turns.{side, Turn, hears, flags, raises, names, downs, stops, backs}
use Rattle.pair_machine.proofs.PairKept.{Turns, none, then_second, joined}
use Rattle.pair_machine.proofs.ReplicaTurns.{one, message_self, producers_other}
use Rattle.pair_machine.proofs.Tests.{both, if_elim, nat_self}

pub ones : {f : Flow} {p : Partition} {ka sa kb sb : Bool} {a b x y : Side} → Turn f p kb sb b a y x → Turns f p ka sa kb sb a b x y
ones {a = a} {b = b} {x = x} {y = y} t = then_second a b a b x y (none a b) t

pub messages_to-append : (n : NodeId) (xs ys : List Envelope) → messages_to n (xs ++ ys) ≡ messages_to n xs ++ messages_to n ys
messages_to-append n [] ys = refl
messages_to-append n (x ∷ xs) ys = go (is_node x.to n) (messages_to-append n xs ys)
  where
    go : (c : Bool) → messages_to n (xs ++ ys) ≡ messages_to n xs ++ messages_to n ys →
        (if c then x.message ∷ messages_to n (xs ++ ys) else messages_to n (xs ++ ys)) ≡ (if c then x.message ∷ messages_to n xs else messages_to n xs) ++ messages_to n ys
    go true e = ap (λ l. x.message ∷ l) e
    go false e = e

which_other : (w : Which) → is_which w (other w) ≡ false
which_other A = refl
which_other B = refl

message_other : (p : Partition) (w : Which) (m : Message) → messages_to (replica_at p (other w)) (envelope (replica_at p w) m ∷ []) ≡ []
message_other p w m = simp (nat_self, which_other)

is_down_not : (s : Status) → (if is_down s then false else true) ≡ true → is_down s ≡ false
is_down_not status.Up e = refl
is_down_not status.Catching e = refl
is_down_not status.Down e = cc

pub counts_both : (h : Watched) (i : ℕ) → counts h i ≡ true → (is_down h.status ≡ false) × (i ≡ h.inc)
counts_both h i = go (is_down h.status)
  where
    go : (d : Bool) → (if d then false else i == h.inc) ≡ true → (d ≡ false) × (i ≡ h.inc)
    go true e = cc
    go false e = (refl, eqb-true i h.inc e)

down_is : (s : Status) → is_down s ≡ true → s ≡ status.Down
down_is status.Up e = cc
down_is status.Catching e = cc
down_is status.Down e = refl

up_is : (s : Status) → is_up s ≡ true → s ≡ status.Up
up_is status.Up e = refl
up_is status.Catching e = cc
up_is status.Down e = cc

catching_is : (s : Status) → is_catching s ≡ true → s ≡ status.Catching
catching_is status.Up e = cc
catching_is status.Catching e = refl
catching_is status.Down e = cc

abbrev heard_by : Which → EdgeId → ℕ → Controller → Controller
heard_by w e k c = record c { watched = with_which c.watched w (record (c.watched w) { reports = with_at (c.watched w).reports e.from (max ((c.watched w).reports e.from) k) }) }

abbrev flag_by : Which → Bool → Bool → Controller → Controller
flag_by w stop back c = record c { watched = with_which c.watched w (record (c.watched w) { stop = stop; back = back }) }

module _ (f : Flow) (p : Partition) (ka sa kb sb : Bool) (copies : Which → Replica) (ups acrosses : Which → List Message) where
  abbrev pub at : Controller → (Which → List Message) → Which → Side
  at c d w = side (copies w) (c.watched w) (ups w) (d w) (acrosses w)

  abbrev pub Between : Controller → (Which → List Message) → Controller → (Which → List Message) → Type 0
  Between c d c_after d_after = Turns f p ka sa kb sb (at c d A) (at c d B) (at c_after d_after A) (at c_after d_after B)

  abbrev pub posted_to : (Which → List Message) → List Envelope → Which → List Message
  posted_to d out w = d w ++ messages_to (replica_at p w) out

  abbrev pub PairDone : Controller → (Which → List Message) → (Controller × List Envelope) → Type 0
  PairDone c d r = Between c d r.0 (posted_to d r.1)

  nothing : (c : Controller) (d : Which → List Message) → PairDone c d (c, [])
  nothing c d = simp append-nil (none (at c d A) (at c d B))

  -- one more part of the controller's step
  pub chained : (c : Controller) (d : Which → List Message) (r : Controller × List Envelope) (g : Controller → (Controller × List Envelope)) →
      PairDone c d r → PairDone r.0 (posted_to d r.1) (g r.0) → PairDone c d (then_do r g)
  chained c d r g s t = simp (messages_to-append, ← append_assoc) (joined s t)

  -- the letter of a turn of w, and what it leaves
  lettered : (w : Which) (c : Controller) (d : Which → List Message) (c_after : Controller) (m : Message) →
      Between c d c_after (with_which d w (d w ++ m ∷ [])) → PairDone c d (c_after, envelope (replica_at p w) m ∷ [])
  lettered A c d c_after m t = rw (message_self (replica_at p A) m, message_other p A m) (simp append-nil t)
  lettered B c d c_after m t = rw (message_self (replica_at p B) m, message_other p B m) (simp append-nil t)

  silent : (c : Controller) (d : Which → List Message) (c_after : Controller) → Between c d c_after d → PairDone c d (c_after, [])
  silent c d c_after t = simp append-nil t

  named_done : (w : Which) (c : Controller) (d : Which → List Message) → PairDone c d (named p w c)
  named_done A c d = lettered A c d (named p A c).0 _ (one (names (copies A) (c.watched A) (ups A) (d A) (acrosses A) (at c d B) (c.term + 1)))
  named_done B c d = lettered B c d (named p B c).0 _ (ones (names (copies B) (c.watched B) (ups B) (d B) (acrosses B) (at c d A) (c.term + 1)))

  -- why w goes down
  abbrev Why : Which → Controller → Type 0
  Why w c = Among (Down (c.watched w).inc) (ups w) ⊎ (((c.watched w).stop ≡ true) × ((c.watched w).status ≡ status.Up) × ((c.watched (other w)).status ≡ status.Up))

  downed_done : (w : Which) (c : Controller) (d : Which → List Message) → Why w c → Between c d (downed w c) d
  downed_done A c d y = one (downs (copies A) (c.watched A) (ups A) (d A) (acrosses A) (at c d B) y)
  downed_done B c d y = ones (downs (copies B) (c.watched B) (ups B) (d B) (acrosses B) (at c d A) y)

  goes_down_done : (w : Which) (c : Controller) (d : Which → List Message) → Why w c → PairDone c d (goes_down p w c)
  goes_down_done w c d y =
      if_elim (PairDone c d) (leads_now c.leader w) _ _
      (λ e. if_elim (PairDone c d) (is_up (c.watched (other w)).status) _ _ (λ inner. joined (downed_done w c d y) (named_done (other w) (downed w c) d)) (λ inner. silent c d (record (downed w c) { leader = None }) (downed_done w c d y)))
      (λ e. silent c d (downed w c) (downed_done w c d y))

  hears_done : (w : Which) (i : ℕ) (e : EdgeId) (k : ℕ) (c : Controller) (d : Which → List Message) → Among (Report i e k) (ups w) → PairDone c d (controller_hears p w (Report i e k) c)
  hears_done A i e k c d o = if_elim (PairDone c d) (counts (c.watched A) i) _ _
      (λ t. let z = counts_both (c.watched A) i t in
      silent c d (heard_by A e k c) (one (hears (copies A) (c.watched A) (ups A) (d A) (acrosses A) (at c d B) e k z.0 (subst (λ j. Among (Report j e k) (ups A)) z.1 o))))
      (λ t. nothing c d)
  hears_done B i e k c d o = if_elim (PairDone c d) (counts (c.watched B) i) _ _
      (λ t. let z = counts_both (c.watched B) i t in
      silent c d (heard_by B e k c) (ones (hears (copies B) (c.watched B) (ups B) (d B) (acrosses B) (at c d A) e k z.0 (subst (λ j. Among (Report j e k) (ups B)) z.1 o))))
      (λ t. nothing c d)

  flagged : (w : Which) (c : Controller) (d : Which → List Message) (stop back : Bool) → (stop ≡ true → ((c.watched w).stop ≡ true) ⊎ Among (AskStop (c.watched w).inc) (ups w)) → Between c d (record c { watched = with_which c.watched w (record (c.watched w) { stop = stop; back = back }) }) d
  flagged A c d stop back y = one (flags (copies A) (c.watched A) (ups A) (d A) (acrosses A) (at c d B) stop back y)
  flagged B c d stop back y = ones (flags (copies B) (c.watched B) (ups B) (d B) (acrosses B) (at c d A) stop back y)

  raised : (w : Which) (c : Controller) (d : Which → List Message) → (c.watched w).status ≡ status.Catching → Among (Caught (c.watched w).inc) (ups w) →
      Between c d (record c { watched = with_which c.watched w (record (c.watched w) { status = status.Up }) }) d
  raised A c d e o = one (raises (copies A) (c.watched A) (ups A) (d A) (acrosses A) (at c d B) e o)
  raised B c d e o = ones (raises (copies B) (c.watched B) (ups B) (d B) (acrosses B) (at c d A) e o)

  caught_done : (w : Which) (i : ℕ) (c : Controller) (d : Which → List Message) → Among (Caught i) (ups w) → PairDone c d (controller_hears p w (Caught i) c)
  caught_done w i c d o = if_elim (PairDone c d) ((i == (c.watched w).inc) && is_catching (c.watched w).status) _ _
      (λ t. let z = both (i == (c.watched w).inc) (is_catching (c.watched w).status) t in
      let here = subst (λ j. Among (Caught j) (ups w)) (eqb-true i (c.watched w).inc z.0) o in
      let up = record c { watched = with_which c.watched w (record (c.watched w) { status = status.Up }) } in
      let rises = raised w c d (catching_is (c.watched w).status z.1) here in
      if_elim (PairDone c d) (is_none c.leader) _ _ (λ e. joined rises (named_done w up d)) (λ e. silent c d up rises))
      (λ t. nothing c d)

  -- the message came from w, where it is one for the controller
  abbrev pub HeardUp : Which → Message → Type 0
  HeardUp w (Report i e k) = Among (Report i e k) (ups w)
  HeardUp w (Caught i) = Among (Caught i) (ups w)
  HeardUp w (Down i) = Among (Down i) (ups w)
  HeardUp w (AskStop i) = Among (AskStop i) (ups w)
  HeardUp w message = Unit {0}

  controller_hears_done : (w : Which) (m : Message) (c : Controller) (d : Which → List Message) → HeardUp w m → PairDone c d (controller_hears p w m c)
  controller_hears_done w (Report i e k) c d o = hears_done w i e k c d o
  controller_hears_done w (Down i) c d o = if_elim (PairDone c d) (counts (c.watched w) i) _ _ (λ t. goes_down_done w c d (let z = counts_both (c.watched w) i t in inl (subst (λ j. Among (Down j) (ups w)) z.1 o))) (λ t. nothing c d)
  controller_hears_done w (AskStop i) c d o = if_elim (PairDone c d) (counts (c.watched w) i) _ _ (λ t. silent c d (flag_by w true (c.watched w).back c) (flagged w c d true (c.watched w).back (λ e. let z = counts_both (c.watched w) i t in inr (subst (λ j. Among (AskStop j) (ups w)) z.1 o)))) (λ t. nothing c d)
  controller_hears_done w AskBack c d o = silent c d (flag_by (other w) (c.watched (other w)).stop true c) (flagged (other w) c d (c.watched (other w)).stop true (λ e. inl e))
  controller_hears_done w (Caught i) c d o = caught_done w i c d o
  controller_hears_done w message c d o = nothing c d

  backs_done : (w : Which) (c : Controller) (d : Which → List Message) → PairDone c d (backs_of p w c)
  backs_done A c d = if_elim (PairDone c d) ((c.watched A).back && (is_down (c.watched A).status && is_up (c.watched B).status)) _ _
      (λ t. let z = both (c.watched A).back (is_down (c.watched A).status && is_up (c.watched B).status) t in
      let y = both (is_down (c.watched A).status) (is_up (c.watched B).status) z.1 in
      simp (nat_self, append-nil) (one (backs (copies A) (c.watched A) (ups A) (d A) (acrosses A) (at c d B) (down_is (c.watched A).status y.0) (up_is (c.watched B).status y.1))))
      (λ t. nothing c d)
  backs_done B c d = if_elim (PairDone c d) ((c.watched B).back && (is_down (c.watched B).status && is_up (c.watched A).status)) _ _
      (λ t. let z = both (c.watched B).back (is_down (c.watched B).status && is_up (c.watched A).status) t in
      let y = both (is_down (c.watched B).status) (is_up (c.watched A).status) z.1 in
      simp (nat_self, append-nil) (ones (backs (copies B) (c.watched B) (ups B) (d B) (acrosses B) (at c d A) (down_is (c.watched B).status y.0) (up_is (c.watched A).status y.1))))
      (λ t. nothing c d)

  -- a Stop stands before what the loss of the leader brings
  stopped : (w : Which) (c : Controller) (d : Which → List Message) → ((c.watched w).stop ≡ true) × ((c.watched w).status ≡ status.Up) × ((c.watched (other w)).status ≡ status.Up) → PairDone c d ((goes_down p w c).0, envelope (replica_at p w) (Stop (c.watched w).inc) ∷ (goes_down p w c).1)
  stopped A c d y = if_elim (λ (r : Controller × List Envelope). PairDone c d (r.0, envelope (replica_at p A) (Stop (c.watched A).inc) ∷ r.1)) (leads_now c.leader A) _ _
      (λ e. if_elim (λ (r : Controller × List Envelope). PairDone c d (r.0, envelope (replica_at p A) (Stop (c.watched A).inc) ∷ r.1)) (is_up (c.watched B).status) _ _
      (λ inner. simp (nat_self, append-nil) (joined (joined (downed_done A c d (inr y)) (ones (names (copies B) (c.watched B) (ups B) (d B) (acrosses B) (at (downed A c) d A) (c.term + 1))))
      (one (stops (copies A) ((downed A c).watched A) (ups A) (d A) (acrosses A) (side (copies B) (c.watched B) (ups B) (d B ++ Lead (c.watched B).inc (c.term + 1) ∷ []) (acrosses B)) refl))))
      (λ inner. simp (nat_self, append-nil) (joined (downed_done A c d (inr y)) (one (stops (copies A) ((downed A c).watched A) (ups A) (d A) (acrosses A) (at (downed A c) d B) refl)))))
      (λ e. simp (nat_self, append-nil) (joined (downed_done A c d (inr y)) (one (stops (copies A) ((downed A c).watched A) (ups A) (d A) (acrosses A) (at (downed A c) d B) refl))))
  stopped B c d y = if_elim (λ (r : Controller × List Envelope). PairDone c d (r.0, envelope (replica_at p B) (Stop (c.watched B).inc) ∷ r.1)) (leads_now c.leader B) _ _
      (λ e. if_elim (λ (r : Controller × List Envelope). PairDone c d (r.0, envelope (replica_at p B) (Stop (c.watched B).inc) ∷ r.1)) (is_up (c.watched A).status) _ _
      (λ inner. simp (nat_self, append-nil) (joined (joined (downed_done B c d (inr y)) (one (names (copies A) (c.watched A) (ups A) (d A) (acrosses A) (at (downed B c) d B) (c.term + 1))))
      (ones (stops (copies B) ((downed B c).watched B) (ups B) (d B) (acrosses B) (side (copies A) (c.watched A) (ups A) (d A ++ Lead (c.watched A).inc (c.term + 1) ∷ []) (acrosses A)) refl))))
      (λ inner. simp (nat_self, append-nil) (joined (downed_done B c d (inr y)) (ones (stops (copies B) ((downed B c).watched B) (ups B) (d B) (acrosses B) (at (downed B c) d A) refl)))))
      (λ e. simp (nat_self, append-nil) (joined (downed_done B c d (inr y)) (ones (stops (copies B) ((downed B c).watched B) (ups B) (d B) (acrosses B) (at (downed B c) d A) refl))))

  stops_done : (w : Which) (c : Controller) (d : Which → List Message) → PairDone c d (stops_of p w c)
  stops_done w c d = if_elim (PairDone c d) ((c.watched w).stop && (is_up (c.watched w).status && is_up (c.watched (other w)).status)) _ _
      (λ t. let z = both (c.watched w).stop (is_up (c.watched w).status && is_up (c.watched (other w)).status) t in
      let v = both (is_up (c.watched w).status) (is_up (c.watched (other w)).status) z.1 in
      stopped w c d (z.0, up_is (c.watched w).status v.0, up_is (c.watched (other w)).status v.1)) (λ t. nothing c d)

  no_letters : 1 ≤ p.stage → (w : Which) (n q : ℕ) (c : Controller) → messages_to (replica_at p w) (acks_from n q p c) ≡ []
  no_letters s w zero q c = refl
  no_letters s w (suc n) q c =
      messages_to-append (replica_at p w) (if nat_lt (c.acked q) (least c q) then to_producers p q (Ack (in_edge p q) (least c q)) else []) (acks_from n (q + 1) p c)
      ∙ none_of (nat_lt (c.acked q) (least c q)) (no_letters s w n (q + 1) c)
    where
      none_of : (t : Bool) → messages_to (replica_at p w) (acks_from n (q + 1) p c) ≡ [] →
          messages_to (replica_at p w) (if t then to_producers p q (Ack (in_edge p q) (least c q)) else []) ++ messages_to (replica_at p w) (acks_from n (q + 1) p c) ≡ []
      none_of true e = rw (producers_other p w q (Ack (in_edge p q) (least c q)) s) e
      none_of false e = e

  acks_done : 1 ≤ p.stage → (c : Controller) (d : Which → List Message) → PairDone c d (acks (f.sources p.stage) p c)
  acks_done s c d =
      let a = no_letters s A (f.sources p.stage) 0 c in
      let b = no_letters s B (f.sources p.stage) 0 c in
      rw (a, b) (simp append-nil (none (at c d A) (at c d B)))

  pub controller_done : 1 ≤ p.stage → (w : Which) (m : Message) (c : Controller) (d : Which → List Message) → HeardUp w m → PairDone c d (controller_takes (f.sources p.stage) p w m c)
  controller_done s w m c d o =
      let r0 = controller_hears p w m c in
      let r1 = then_do r0 (backs_of p A) in
      let r2 = then_do r1 (backs_of p B) in
      let r3 = then_do r2 (stops_of p A) in
      let r4 = then_do r3 (stops_of p B) in
      let s0 = controller_hears_done w m c d o in
      let s1 = chained c d r0 (backs_of p A) s0 (backs_done A r0.0 (posted_to d r0.1)) in
      let s2 = chained c d r1 (backs_of p B) s1 (backs_done B r1.0 (posted_to d r1.1)) in
      let s3 = chained c d r2 (stops_of p A) s2 (stops_done A r2.0 (posted_to d r2.1)) in
      let s4 = chained c d r3 (stops_of p B) s3 (stops_done B r3.0 (posted_to d r3.1)) in
      chained c d r4 (acks (f.sources p.stage) p) s4 (acks_done s r4.0 (posted_to d r4.1))
