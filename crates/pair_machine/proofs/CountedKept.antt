-- Each turn keeps that the reports of a counted replica are at most its marks.
use Rattle.std.proofs.Common.{◌≡◌, ◌<◌, ◌≤◌, ℕ, zero, suc, Bool, true, false, List, ◌+◌, refl, sym, ap, ◌∙◌, subst, arith}
use Rattle.std.specs.Prelude.{max, ◌==◌, if◌then◌else◌, length}
use Rattle.std.proofs.lemmas.Bool.{eqb-true}
use Rattle.tuple_edge.specs.declared.status.Status.TheVariants as status
use Rattle.pair_machine.specs.Consumers.{with_at}
use Rattle.pair_machine.specs.Controllers.{counts, is_down}
use Rattle.pair_machine.specs.Flow.{Flow}
use Rattle.pair_machine.specs.Lists.{Among}
use Rattle.pair_machine.specs.Messages.{ChunkEnd, Message, Report}
use Rattle.pair_machine.specs.Numbers.{Gathering, GatheringNumbers, Gone, MoveNumbers, Partition, Replica, Running, Watched}
use Rattle.pair_machine.specs.Pairs.{AreCatchingCovered, AreCountedCovered, AreIncarnationsInOrder, AreReportsTrue, CountedReach, ReportFits, Side, in_end}
use Rattle.pair_machine.specs.Replicas.{caught_up, contains, inc_of, run_up}
use Rattle.tuple_edge.specs.declared.node.EdgeId.{EdgeId}
use Rattle.tuple_edge.specs.declared.status.Status.{Status}
use Rattle.pair_machine.proofs.Turns.{side, Turn, runs, tells, asks_stop, asks_back, serves, gives, ends, dies, halts, begins, holds, gathers, catches, hears, flags, raises, names, downs, stops, backs}
use Rattle.pair_machine.proofs.Lists.{each_at}

pub run_up-above : (n k : ℕ) (held : List ℕ) → k ≤ run_up n k held
run_up-above zero k held = omega arith
run_up-above (suc n) k held = go (contains (k + 1) held) (run_up-above n (k + 1) held)
  where
    go : (c : Bool) → k + 1 ≤ run_up n (k + 1) held → k ≤ (if c then run_up n (k + 1) held else k)
    go true h = omega arith
    go false h = omega arith

-- what is counted has the controller's incarnation, and isn't Down
pub counts_inc : (h : Watched) (i : ℕ) → counts h i ≡ true → i ≡ h.inc
counts_inc h i = go (is_down h.status)
  where
    go : (d : Bool) → (if d then false else i == h.inc) ≡ true → i ≡ h.inc
    go true e = cc
    go false e = eqb-true i h.inc e

pub counts_not_down : (h : Watched) (i : ℕ) → counts h i ≡ true → h.status ≡ status.Down → ⊥
counts_not_down h i e d = let f : counts h i ≡ false = ap (λ s. if is_down s then false else i == h.inc) d in cc

status_cases : (P : Status → Type 0) → P status.Up → P status.Catching → P status.Down → (s : Status) → P s
status_cases P u c d status.Up = u
status_cases P u c d status.Catching = c
status_cases P u c d status.Down = d

pub catching : (s : Status) → (s ≡ status.Up → ⊥) → (s ≡ status.Down → ⊥) → s ≡ status.Catching
catching status.Up u d = absurd (u refl)
catching status.Catching u d = refl
catching status.Down u d = absurd (d refl)

reach_hears : (h : Watched) (e : EdgeId) (k : ℕ) (r : Replica) → is_down h.status ≡ false → CountedReach h r → ReportFits r (Report h.inc e k) →
    CountedReach (record h { reports = with_at h.reports e.from (max (h.reports e.from) k) }) r
reach_hears h e k (Gone i) d c fits = tt
reach_hears h e k (Gathering g) d c fits = tt
reach_hears h e k (Running x) d c fits = λ same q.
    let at : h.inc ≡ x.inc = sym (counts_inc h x.inc same) in
    let old = c same q in
    let new = fits at in
    go q old new (q == e.from) (eqb-true q e.from)
  where
    go : (q : ℕ) → h.reports q ≤ x.consumer.marks q → k ≤ x.consumer.marks e.from → (t : Bool) → (t ≡ true → q ≡ e.from) → (if t then max (h.reports e.from) k else h.reports q) ≤ x.consumer.marks q
    go q old new true is = let z = is refl in let mark : x.consumer.marks q ≡ x.consumer.marks e.from = ap x.consumer.marks z in let rep : h.reports q ≡ h.reports e.from = ap h.reports z in omega arith
    go q old new false is = old

reach_raises : (h : Watched) (r : Replica) → h.status ≡ status.Catching → CountedReach h r → CountedReach (record h { status = status.Up }) r
reach_raises h (Gone i) e c = tt
reach_raises h (Gathering g) e c = tt
reach_raises h (Running x) e c = λ same. c (ap (λ s. if is_down s then false else x.inc == h.inc) e ∙ same)

reach_late : (h h_after : Watched) (r : Replica) → inc_of r < h_after.inc → CountedReach h_after r
reach_late h h_after (Gone i) l = tt
reach_late h h_after (Gathering g) l = tt
reach_late h h_after (Running x) l = λ same. let e = counts_inc h_after x.inc same in absurd (omega arith)

reach_down : (h : Watched) (r : Replica) → CountedReach (record h { status = status.Down; stop = false }) r
reach_down h (Gone i) = tt
reach_down h (Gathering g) = tt
reach_down h (Running x) = λ same. cc

reach_flags : (h : Watched) (r : Replica) (stop back : Bool) → CountedReach h r → CountedReach (record h { stop = stop; back = back }) r
reach_flags h (Gone i) stop back c = tt
reach_flags h (Gathering g) stop back c = tt
reach_flags h (Running x) stop back c = c

reach_caught : (g : GatheringNumbers) (m : MoveNumbers) (h : Watched) (up down across : List Message) (b : Side) →
    AreIncarnationsInOrder (side (Gathering g) h up down across) b → AreCatchingCovered b (side (Gathering g) h up down across) → Among (ChunkEnd g.inc g.taken m) b.across →
    CountedReach h (Running (caught_up g.inc m g.held))
reach_caught g m h up down across b n k c = λ same q.
    let at : g.inc ≡ h.inc = counts_inc h g.inc same in
    let is : h.status ≡ status.Catching = catching h.status (λ u. (n.agrees u).1) (counts_not_down h g.inc same) in
    let here : Among (ChunkEnd h.inc g.taken m) b.across = subst (λ i. Among (ChunkEnd i g.taken m) b.across) at c in
    let low : h.reports q ≤ m.marks q = k.moves is n.below m (in_end g.taken here) q in
    let above = run_up-above (length (g.held q)) (m.marks q) (g.held q) in
    omega arith

pub keep_counted : {f : Flow} {p : Partition} {kill stop : Bool} {a b a_after b_after : Side} → Turn f p kill stop a b a_after b_after → AreIncarnationsInOrder a b → AreReportsTrue a b → AreCatchingCovered b a → AreCountedCovered a b → AreCountedCovered a_after b_after
keep_counted (runs x t s h up down across b m) n rep cau k = record { reach = λ same q. let old = k.reach same q in let l = m q in omega arith }
keep_counted (tells x e h up down across b) n rep cau k = assumption
keep_counted (asks_stop x h up down across b y) n rep cau k = assumption
keep_counted (asks_back x h up down across b) n rep cau k = assumption
keep_counted (serves x target h up down across b c l) n rep cau k = assumption
keep_counted (gives x mv h up down across b e) n rep cau k = assumption
keep_counted (ends x mv h up down across b e) n rep cau k = assumption
keep_counted (dies r h up down across b y) n rep cau k = record { reach = tt }
keep_counted (halts r h up down across b c) n rep cau k = record { reach = tt }
keep_counted (begins r i h up down across b c l) n rep cau k = record { reach = tt }
keep_counted (holds g held h up down across b) n rep cau k = record { reach = tt }
keep_counted (gathers g m h up down across b c) n rep cau k = record { reach = tt }
keep_counted (catches g m h up down across b c) n rep cau k = record { reach = reach_caught g m h up down across b n cau c }
keep_counted (hears r h up down across b e k_after c d) n rep cau k = record { reach = reach_hears h e k_after r c k.reach (each_at (ReportFits r) (Report h.inc e k_after) up d rep.fits) }
keep_counted (flags r h up down across b stop back y) n rep cau k = record { reach = reach_flags h r stop back k.reach }
keep_counted (raises r h up down across b c d) n rep cau k = record { reach = reach_raises h r c k.reach }
keep_counted (names r h up down across b term) n rep cau k = assumption
keep_counted (downs r h up down across b y) n rep cau k = record { reach = reach_down h r }
keep_counted (stops r h up down across b y) n rep cau k = assumption
keep_counted (backs r h up down across b c d) n rep cau k =
    record { reach = reach_late h (record { status = status.Catching; inc = h.inc + 1; reports = b.watched.reports; stop = h.stop; back = false }) r (let l = n.below in omega arith) }

pub keep_counted_there : {f : Flow} {p : Partition} {kill stop : Bool} {a b a_after b_after : Side} → Turn f p kill stop a b a_after b_after → AreCountedCovered b a → AreCountedCovered b_after a_after
keep_counted_there (runs x t s h up down across b m) k = assumption
keep_counted_there (tells x e h up down across b) k = assumption
keep_counted_there _ k = record { reach = k.reach }
