-- What a node keeps is a true course, one more event keeps it, and links that give each packet under its index make courses agree.
use Rattle.std.proofs.Common.{◌≡◌, ◌≢◌, ◌<◌, ℕ, zero, suc, Bool, true, false, List, [], ◌∷◌, ◌++◌, Option, None, Some, Result, Ok, Err, refl, sym, ap, ◌∙◌, subst, arith, append_assoc}
use Rattle.std.specs.Prelude.{◌==◌, if◌then◌else◌}
use Rattle.std.proofs.lemmas.Bool.{eqb-true, eq-eqb}
use Rattle.std.proofs.lemmas.List.{append-nil}
use mathlib.Core.List.{IsPrefix}
use Rattle.tuple_edge.specs.declared.event.Event.TheVariants as event
use Rattle.pair_machine.specs.Courses.{ActFor, ActsFor, Agree, AllAsked, Arrivals, AskedAt, IsSentAtItsIndex, IsStep, IsTrueCourse, IsTrueHistory, IsTrueNode, MeetsBeforeEach, Moment, Pairwise, Replayed, StandsAt, TookBefore, TookSent, acted_on, also, course_of, given, given_back, moment_of, onto, replay, sent_at, taken_at}
use Rattle.pair_machine.specs.Flow.{Flow}
use Rattle.pair_machine.specs.Links.{IsThere, link}
use Rattle.pair_machine.specs.Lists.{Each}
use Rattle.pair_machine.specs.Machine.{at_node, messages_to, nth_from_one}
use Rattle.pair_machine.specs.Messages.{Act, Envelope, Message, Refusal}
use Rattle.pair_machine.specs.Numbers.{Node}
use Rattle.tuple_edge.specs.declared.event.Event.{Event}
use Rattle.tuple_edge.specs.declared.event.Stamped.{Stamped}
use Rattle.tuple_edge.specs.declared.node.LinkId.{LinkId}
use Rattle.tuple_edge.specs.declared.node.NodeId.{NodeId}
use Rattle.tuple_edge.specs.declared.packet.Body.{Body}
use Rattle.tuple_edge.specs.declared.packet.Packet.{Packet}
use Rattle.pair_machine.proofs.Lists.{each_append, each_map}
use Rattle.pair_machine.proofs.ControllerTurns.{messages_to-append}
use Rattle.pair_machine.proofs.Tests.{nat_not}

-- what came stays
abbrev pub Extends : Arrivals → Arrivals → Type 0
Extends arrived arrived_after = (from : NodeId) (k : ℕ) (p : Packet) → arrived from k ≡ Some p → arrived_after from k ≡ Some p

-- agreement -------------------------------------------------------------------

nth_prefix : {X : Type 0} (v : X) (xs ys : List X) (k : ℕ) → nth_from_one xs k ≡ Some v → nth_from_one (xs ++ ys) k ≡ Some v
nth_prefix v xs ys zero e = cc
nth_prefix v [] ys (suc k) e = cc
nth_prefix v (x ∷ xs) ys (suc zero) e = e
nth_prefix v (x ∷ xs) ys (suc (suc k)) e = nth_prefix v xs ys (suc k) e

-- a front of what was sent has each packet at its place
pub prefix_at_places : (xs ys : List Packet) → IsPrefix xs ys → IsSentAtItsIndex (nth_from_one xs) ys
prefix_at_places xs ys x k p e = subst (λ zs. nth_from_one zs k ≡ Some p) x.1 (nth_prefix p xs x.0 k e)

each_course : (P : Moment → Type 0) (arrived : Arrivals) (sent : NodeId → List Packet) (hs : List Stamped) → Each (λ h. P (moment_of arrived sent h)) hs → Each P (course_of arrived sent hs)
each_course P arrived sent [] h = tt
each_course P arrived sent (x ∷ hs) h = (h.0, each_course P arrived sent hs h.1)

sent_at-each : (c : ℕ) (ps : List Packet) → Each (λ p. p.at ≡ c) (sent_at c ps)
sent_at-each c [] = tt
sent_at-each c (p ∷ ps) = go (p.at == c) (eqb-true p.at c) (sent_at-each c ps)
  where
    go : (b : Bool) → (b ≡ true → p.at ≡ c) → Each (λ p. p.at ≡ c) (sent_at c ps) → Each (λ p. p.at ≡ c) (if b then p ∷ sent_at c ps else sent_at c ps)
    go true e old = (e refl, old)
    go false e old = old

module _ (f : Flow) (Stands : LinkId → Body → Message → Type 0) (Asks : NodeId → Node → Act → Type 0) where
  pub true_course : (n : NodeId) (arrived : Arrivals) (sent : NodeId → List Packet) (history : List Stamped) → IsTrueHistory f Stands Asks n arrived sent history →
      IsTrueCourse f Stands Asks n (course_of arrived sent history)
  true_course n arrived sent history t = record {
    here = each_course (λ m. at_node m.event ≡ n) arrived sent history t.here;
    there = each_course (λ m. IsThere f m.event) arrived sent history t.there;
    stamped = each_course (λ m. (to : NodeId) → Each (λ g. g.at ≡ m.clock) (m.gave to)) arrived sent history (all_stamped history);
    right = t.right;
  }
    where
      all_stamped : (hs : List Stamped) → Each (λ h. (to : NodeId) → Each (λ g. g.at ≡ h.clock) (sent_at h.clock (sent to))) hs
      all_stamped [] = tt
      all_stamped (h ∷ hs) = ((λ to. sent_at-each h.clock (sent to)), all_stamped hs)

  -- all nodes, where what came under an index was sent at that place
  module _ (arrived : NodeId → Arrivals) (sent : NodeId → NodeId → List Packet) (history : NodeId → List Stamped)
      (truth : (n : NodeId) → IsTrueHistory f Stands Asks n (arrived n) (sent n) (history n))
      (links : (from to : NodeId) → IsSentAtItsIndex (arrived to from) (sent from to)) where
    abbrev pub courses : NodeId → List Moment
    courses n = course_of (arrived n) (sent n) (history n)

    took_sent : (n : NodeId) (c : ℕ) (e : Event) → at_node e ≡ n → TookBefore c e (taken_at (arrived n) e) → TookSent courses c e (taken_at (arrived n) e)
    took_sent n c (event.Take l k) at h = go (arrived n l.from k) refl h
      where
        go : (o : Option Packet) → arrived n l.from k ≡ o → TookBefore c (event.Take l k) o → TookSent courses c (event.Take l k) o
        go None e h = h
        go (Some p) e h =
            let came : arrived l.to l.from k ≡ Some p = subst (λ m. arrived m l.from k ≡ Some p) (sym at) e in
            (subst (λ xs. nth_from_one xs k ≡ Some p) (sym ((truth l.from).whole l.to)) (links l.from l.to k p came), h)
    took_sent n c (event.Work k) at h = h
    took_sent n c event.Make at h = h
    took_sent n c (event.Kill k) at h = h
    took_sent n c (event.AskStop k) at h = h
    took_sent n c (event.AskBack k) at h = h
    took_sent n c (event.Pull from to) at h = h

    pub all_agree : Agree courses
    all_agree n = each_course (λ m. TookSent courses m.clock m.event m.took) (arrived n) (sent n) (history n) (go (history n) (truth n).here (truth n).before)
      where
        go : (hs : List Stamped) → Each (λ h. at_node h.event ≡ n) hs → Each (λ h. TookBefore h.clock h.event (taken_at (arrived n) h.event)) hs → Each (λ h. TookSent courses h.clock h.event (taken_at (arrived n) h.event)) hs
        go [] a b = tt
        go (h ∷ hs) a b = (took_sent n h.clock h.event a.0 b.0, go hs a.1 b.1)

-- one more event ------------------------------------------------------------------

-- the last element
data Snoc {X : Type 0} : List X → Type 0 where
  empty : Snoc []
  last : (xs : List X) (x : X) → Snoc (xs ++ x ∷ [])

snoc : {X : Type 0} (xs : List X) → Snoc xs
snoc [] = empty
snoc (x ∷ xs) = go (snoc xs)
  where
    go : {ys : List _} → Snoc ys → Snoc (x ∷ ys)
    go empty = last [] x
    go (last ys y) = last (x ∷ ys) y

not_empty : {X : Type 0} (xs : List X) (x : X) → xs ++ x ∷ [] ≡ [] → ⊥
not_empty [] x e = cc
not_empty (y ∷ xs) x e = cc

same_last : {X : Type 0} (xs ys : List X) (x y : X) → xs ++ x ∷ [] ≡ ys ++ y ∷ [] → (xs ≡ ys) × (x ≡ y)
same_last [] [] x y e = (refl, cc)
same_last [] (b ∷ ys) x y e = absurd (not_empty ys y (let z : [] ≡ ys ++ y ∷ [] = cc e in sym z))
same_last (a ∷ xs) [] x y e = absurd (not_empty xs x (let z : xs ++ x ∷ [] ≡ [] = cc e in z))
same_last (a ∷ xs) (b ∷ ys) x y e =
    let h : a ≡ b = cc e in let t : xs ++ x ∷ [] ≡ ys ++ y ∷ [] = cc e in
    let z = same_last xs ys x y t in (λ i. h i ∷ z.0 i, z.1)

onto-last : (pre post : List Moment) (m : Moment) → onto pre (post ++ m ∷ []) ≡ onto pre post ++ m ∷ []
onto-last [] post m = refl
onto-last (x ∷ pre) post m = onto-last pre (x ∷ post) m

-- how a list of moments with one more is split
data Cut (course : List Moment) (m : Moment) : List Moment → List Moment → Type 0 where
  inside : (pre post : List Moment) → onto pre post ≡ course → Cut course m pre (post ++ m ∷ [])
  at_end : (pre : List Moment) → onto pre [] ≡ course → Cut course m (m ∷ pre) []

cut : (course : List Moment) (m : Moment) (pre post : List Moment) → onto pre post ≡ course ++ m ∷ [] → Cut course m pre post
cut course m pre post e = go post (snoc post) e
  where
    front : (pre : List Moment) → onto pre [] ≡ course ++ m ∷ [] → Cut course m pre []
    front [] e = absurd (not_empty course m (sym e))
    front (x ∷ pre) e = let z = same_last (onto pre []) course x m (sym (onto-last pre [] x) ∙ e) in subst (λ k. Cut course m (k ∷ pre) []) (sym z.1) (at_end pre z.0)

    go : (post : List Moment) → Snoc post → onto pre post ≡ course ++ m ∷ [] → Cut course m pre post
    go post empty e = front pre e
    go post (last xs x) e = let z = same_last (onto pre xs) course x m (sym (onto-last pre xs x) ∙ e) in subst (λ k. Cut course m pre (xs ++ k ∷ [])) (sym z.1) (inside pre xs z.0)

sent_at-append : (c : ℕ) (xs ys : List Packet) → sent_at c (xs ++ ys) ≡ sent_at c xs ++ sent_at c ys
sent_at-append c [] ys = refl
sent_at-append c (x ∷ xs) ys = go (x.at == c) (sent_at-append c xs ys)
  where
    go : (b : Bool) → sent_at c (xs ++ ys) ≡ sent_at c xs ++ sent_at c ys → (if b then x ∷ sent_at c (xs ++ ys) else sent_at c (xs ++ ys)) ≡ (if b then x ∷ sent_at c xs else sent_at c xs) ++ sent_at c ys
    go true e = ap (λ l. x ∷ l) e
    go false e = e

sent_at-other : (c : ℕ) (ys : List Packet) → Each (λ p. p.at ≢ c) ys → sent_at c ys ≡ []
sent_at-other c [] h = refl
sent_at-other c (y ∷ ys) h = let z : (y.at == c) ≡ false = nat_not y.at c h.0 in simp z (sent_at-other c ys h.1)

sent_at-all : (c : ℕ) (ys : List Packet) → Each (λ p. p.at ≡ c) ys → sent_at c ys ≡ ys
sent_at-all c [] h = refl
sent_at-all c (y ∷ ys) h = let z : (y.at == c) ≡ true = eq-eqb y.at c h.0 in simp z (ap (λ l. y ∷ l) (sent_at-all c ys h.1))

pairwise_append : {X Y : Type 0} (R : X → Y → Type 0) (xs xs_after : List X) (ys ys_after : List Y) → Pairwise R xs ys → Pairwise R xs_after ys_after → Pairwise R (xs ++ xs_after) (ys ++ ys_after)
pairwise_append R [] xs_after [] ys_after h k = k
pairwise_append R [] xs_after (y ∷ ys) ys_after h k = absurd h
pairwise_append R (x ∷ xs) xs_after [] ys_after h k = absurd h
pairwise_append R (x ∷ xs) xs_after (y ∷ ys) ys_after h k = (h.0, pairwise_append R xs xs_after ys ys_after h.1 k)

course-append : (arrived : Arrivals) (sent : NodeId → List Packet) (hs ks : List Stamped) → course_of arrived sent (hs ++ ks) ≡ course_of arrived sent hs ++ course_of arrived sent ks
course-append arrived sent [] ks = refl
course-append arrived sent (h ∷ hs) ks = ap (λ l. moment_of arrived sent h ∷ l) (course-append arrived sent hs ks)

given-append : (to : NodeId) (xs ys : List Moment) → given to (xs ++ ys) ≡ given to xs ++ given to ys
given-append to [] ys = refl
given-append to (x ∷ xs) ys = ap (λ l. x.gave to ++ l) (given-append to xs ys) ∙ sym (append_assoc (x.gave to) (given to xs) (given to ys))

module _ (arrived arrived_after : Arrivals) (extends : Extends arrived arrived_after) (sent new : NodeId → List Packet) (c : ℕ) where
  abbrev sent_after : NodeId → List Packet
  sent_after n = sent n ++ new n

  taken_same : (k : ℕ) (e : Event) → TookBefore k e (taken_at arrived e) → taken_at arrived_after e ≡ taken_at arrived e
  taken_same k (event.Take l j) h = go (arrived l.from j) refl h
    where
      go : (o : Option Packet) → arrived l.from j ≡ o → TookBefore k (event.Take l j) o → arrived_after l.from j ≡ arrived l.from j
      go None e h = absurd h
      go (Some p) e h = extends l.from j p e ∙ sym e
  taken_same k (event.Work n) h = refl
  taken_same k event.Make h = refl
  taken_same k (event.Kill n) h = refl
  taken_same k (event.AskStop n) h = refl
  taken_same k (event.AskBack n) h = refl
  taken_same k (event.Pull from to) h = refl

  other_clock : (k : ℕ) (ys : List Packet) → k < c → Each (λ p. p.at ≡ c) ys → Each (λ p. p.at ≢ k) ys
  other_clock k [] l h = tt
  other_clock k (y ∷ ys) l h = ((λ e. let z = h.0 in omega arith), other_clock k ys l h.1)

  -- the moments before are as they were
  course_same : (hs : List Stamped) → Each (λ h. h.clock < c) hs → Each (λ h. TookBefore h.clock h.event (taken_at arrived h.event)) hs → ((to : NodeId) → Each (λ p. p.at ≡ c) (new to)) →
      course_of arrived_after sent_after hs ≡ course_of arrived sent hs
  course_same [] l b h = refl
  course_same (x ∷ hs) l b h =
      let took = taken_same x.clock x.event b.0 in
      let gave : (to : NodeId) → sent_at x.clock (sent_after to) ≡ sent_at x.clock (sent to) = λ to. sent_at-append x.clock (sent to) (new to) ∙ (ap (λ l. sent_at x.clock (sent to) ++ l) (sent_at-other x.clock (new to) (other_clock x.clock (new to) l.0 (h to))) ∙ append-nil (sent_at x.clock (sent to))) in
      let rest = course_same hs l.1 b.1 h in
      λ i. record { clock = x.clock; event = x.event; took = took i; gave = λ to. gave to i } ∷ rest i

given_before : (to : NodeId) (c : ℕ) (arrived : Arrivals) (sent : NodeId → List Packet) (hs : List Stamped) → Each (λ h. h.clock < c) hs → Each (λ p. p.at ≢ c) (given to (course_of arrived sent hs))
given_before to c arrived sent [] h = tt
given_before to c arrived sent (x ∷ hs) h =
    each_append (λ p. p.at ≢ c) (sent_at x.clock (sent to)) (given to (course_of arrived sent hs))
    (each_map (λ (p : Packet). p.at ≡ x.clock) (λ (p : Packet). p.at ≢ c) (λ p e inner. let l = h.0 in omega arith) (sent_at x.clock (sent to)) (sent_at-each x.clock (sent to)))
    (given_before to c arrived sent hs h.1)

module _ (f : Flow) (Stands : LinkId → Body → Message → Type 0) (Asks : NodeId → Node → Act → Type 0) (n : NodeId) (P P_after : Node → Type 0)
    (arrived arrived_after : Arrivals) (extends : Extends arrived arrived_after) (sent new : NodeId → List Packet) (history : List Stamped) (h : Stamped)
    (old : IsTrueNode f Stands Asks n P arrived sent history)
    (clocks : Each (λ g. g.clock < h.clock) history)
    (at : at_node h.event ≡ n) (there : IsThere f h.event)
    (took : TookBefore h.clock h.event (taken_at arrived_after h.event))
    (stamped : (to : NodeId) → Each (λ p. p.at ≡ h.clock) (new to))
    (stepped : IsStep f Stands Asks n P P_after h.event (taken_at arrived_after h.event) new) where
  abbrev before : List Moment
  before = course_of arrived sent history

  abbrev now : Moment
  now = moment_of arrived_after (λ k. sent k ++ new k) h

  gave_new : (to : NodeId) → sent_at h.clock (sent to ++ new to) ≡ new to
  gave_new to =
      let none : sent_at h.clock (sent to) ≡ [] = sent_at-other h.clock (sent to) (subst (Each (λ p. p.at ≢ h.clock)) (old.kept.whole to) (given_before to h.clock arrived sent history clocks)) in
      sent_at-append h.clock (sent to) (new to) ∙ (λ i. none i ++ sent_at-all h.clock (new to) (stamped to) i)

  course_now : course_of arrived_after (λ k. sent k ++ new k) (history ++ h ∷ []) ≡ before ++ now ∷ []
  course_now = course-append arrived_after (λ k. sent k ++ new k) history (h ∷ []) ∙ ap (λ l. l ++ now ∷ []) (course_same arrived arrived_after extends sent new h.clock history clocks old.kept.before stamped)

  -- the replay of the whole, with the new act
  next_replay : (pre : List Moment) (a : Act) (acts : List Act) → ActFor f Stands Asks n h.event (taken_at arrived_after h.event) a → (r : Result (Node × List Envelope) Refusal) →
      Replayed f Stands Asks n pre r → StandsAt f Stands Asks P r → AskedAt f Stands Asks n a r → Replayed f Stands Asks n (now ∷ pre) (acted_on f n a r) × StandsAt f Stands Asks P_after (acted_on f n a r)
  next_replay pre a acts af (Err e) right stands asked = absurd right
  next_replay pre a acts af (Ok d0) right stands asked =
      let s = stepped a af d0.0 stands asked in
      let pairs : (to : NodeId) → Pairwise (λ p m. Stands (link n to) p.body m) (given_back to pre ++ sent_at h.clock (sent to ++ new to)) (messages_to to (d0.1 ++ s.0.1)) = λ to.
      rw (messages_to-append to d0.1 s.0.1, gave_new to) (pairwise_append (λ p m. Stands (link n to) p.body m) (given_back to pre) (new to) (messages_to to d0.1) (messages_to to s.0.1) (right to) (s.3 to)) in
      let Goal : Result (Node × List Envelope) Refusal → Type 0 = λ r. Replayed f Stands Asks n (now ∷ pre) (also d0.1 r) × StandsAt f Stands Asks P_after (also d0.1 r) in
      subst Goal (sym s.1) (pairs, s.2)

  abbrev Both : List Moment → List Moment → Result (Node × List Envelope) Refusal → Type 0
  Both pre post r = Replayed f Stands Asks n pre r × (post ≡ [] → StandsAt f Stands Asks P_after r)

  all_right : (pre post : List Moment) → Cut before now pre post → (acts : List Act) → ActsFor f Stands Asks n pre acts → AllAsked f Stands Asks n acts → Both pre post (replay f n acts)
  all_right _ _ (inside pre post_more e) acts af aa = (old.kept.right pre post_more e acts af aa, λ z. absurd (not_empty post_more now z))
  all_right _ _ (at_end pre_more e) [] af aa = absurd af
  all_right _ _ (at_end pre_more e) (a ∷ acts) af aa =
      let r = next_replay pre_more a acts af.0 (replay f n acts) (old.kept.right pre_more [] e acts af.1 aa.1) (old.stands pre_more e acts af.1 aa.1) aa.0 in
      (r.0, λ z. r.1)

  before_same : (hs : List Stamped) → Each (λ g. TookBefore g.clock g.event (taken_at arrived g.event)) hs → Each (λ g. TookBefore g.clock g.event (taken_at arrived_after g.event)) hs
  before_same [] b = tt
  before_same (g ∷ hs) b = (subst (TookBefore g.clock g.event) (sym (taken_same arrived arrived_after extends sent new h.clock g.clock g.event b.0)) b.0, before_same hs b.1)

  pub one_more : IsTrueNode f Stands Asks n P_after arrived_after (λ k. sent k ++ new k) (history ++ h ∷ [])
  one_more = record {
    kept = record {
      here = each_append (λ g. at_node g.event ≡ n) history (h ∷ []) old.kept.here (at, tt);
      there = each_append (λ g. IsThere f g.event) history (h ∷ []) old.kept.there (there, tt);
      before = each_append (λ g. TookBefore g.clock g.event (taken_at arrived_after g.event)) history (h ∷ []) (before_same history old.kept.before) (took, tt);
      whole = λ to. ap (given to) course_now ∙ (given-append to before (now ∷ []) ∙ (λ i. old.kept.whole to i ++ (append-nil (sent_at h.clock (sent to ++ new to)) ∙ gave_new to) i));
      right = λ pre post e acts af aa. (all_right pre post (cut before now pre post (e ∙ course_now)) acts af aa).0;
    };
    stands = λ pre e acts af aa. (all_right pre [] (cut before now pre [] (e ∙ course_now)) acts af aa).1 refl;
  }

  -- where the node's numbers before each event met N of it, and do before the new one
  met_cut : (N : Event → Node → Type 0) → MeetsBeforeEach f Stands Asks N n arrived sent history → ((x : Node) → P x → N h.event x) → (pre post : List Moment) → Cut before now pre post →
      (m : Moment) (later : List Moment) → post ≡ m ∷ later → (acts : List Act) → ActsFor f Stands Asks n pre acts → AllAsked f Stands Asks n acts → StandsAt f Stands Asks (N m.event) (replay f n acts)
  met_cut N met new_met _ _ (inside pre [] e) m later q acts af aa =
      let same : now ≡ m = cc q in subst (λ (k : Moment). StandsAt f Stands Asks (N k.event) (replay f n acts)) same (stands_map (replay f n acts) (old.stands pre e acts af aa))
    where
      stands_map : (r : Result (Node × List Envelope) Refusal) → StandsAt f Stands Asks P r → StandsAt f Stands Asks (N h.event) r
      stands_map (Ok d) p = new_met d.0 p
      stands_map (Err z) p = p
  met_cut N met new_met _ _ (inside pre (x ∷ post) e) m later q acts af aa =
      let same : x ≡ m = cc q in subst (λ (k : Moment). StandsAt f Stands Asks (N k.event) (replay f n acts)) same (met pre x post e acts af aa)
  met_cut N met new_met _ _ (at_end pre e) m later q acts af aa = let z : ⊥ = cc q in absurd z

  pub one_more_met : (N : Event → Node → Type 0) → MeetsBeforeEach f Stands Asks N n arrived sent history → ((x : Node) → P x → N h.event x) →
      MeetsBeforeEach f Stands Asks N n arrived_after (λ k. sent k ++ new k) (history ++ h ∷ [])
  one_more_met N met new_met pre m later e acts af aa = met_cut N met new_met pre (m ∷ later) (cut before now pre (m ∷ later) (e ∙ course_now)) m later refl acts af aa
