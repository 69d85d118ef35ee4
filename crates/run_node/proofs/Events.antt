-- One event keeps a node sound.
use Rattle.std.proofs.Common.{◌≡◌, ◌≤◌, ◌<◌, ◌^◌, ℕ, Bool, true, false, List, [], ◌∷◌, ◌++◌, ◌||◌, Option, None, Some, Result, Ok, Err, refl, sym, ◌∙◌, subst, arith, IsTrue}
use mathlib.Core.List.{IsPrefix}
use Rattle.std.specs.Prelude.{if◌then◌else◌}
use Rattle.tuple_edge.specs.Input.{Input}
use Rattle.tuple_edge.specs.declared.event.Event.{Event}
use Rattle.tuple_edge.specs.declared.event.Event.TheVariants as event
use Rattle.tuple_edge.specs.declared.event.Stamped.{Stamped}
use Rattle.tuple_edge.specs.declared.node.NodeId.{NodeId}
use Rattle.tuple_edge.specs.declared.node.NodeId.TheVariants as node
use Rattle.tuple_edge.specs.declared.packet.Body.{Body}
use Rattle.tuple_edge.specs.declared.packet.Packet.{Packet}
use Rattle.tuple_edge.specs.declared.row.Row.{Row}
use Rattle.flux_link.proofs.Fronts.{grows_on}
use Rattle.plan_reader.specs.Nodes.{has_link}
use Rattle.plan_reader.specs.PlanView.{IsPlan, PlanView}
use Rattle.pair_machine.specs.Asked.{Asks}
use Rattle.pair_machine.specs.Contents.{BodyStands}
use Rattle.pair_machine.specs.Counts.{flow_of}
use Rattle.pair_machine.specs.Courses.{ActsFor, AllAsked, Arrivals, IsStep, IsTrueNode, MeetsBeforeEach, Moment, Replayed, StandsAt, TookBefore, onto, packets_to, replay, taken_at}
use Rattle.pair_machine.specs.Flow.{Flow}
use Rattle.pair_machine.specs.Links.{HasNode, IsThere, link}
use Rattle.pair_machine.specs.Lists.{Each}
use Rattle.pair_machine.specs.Machine.{at_node, new_node, partner_node}
use Rattle.pair_machine.specs.Messages.{Act, Envelope, Message, Refusal}
use Rattle.tuple_edge.specs.declared.node.LinkId.{LinkId}
use Rattle.pair_machine.specs.Numbers.{Node, is_node}
use Rattle.pair_machine.specs.Joint.{AreRising}
use Rattle.pair_machine.specs.Receivers.{GoOverLinks}
use Rattle.pair_machine.specs.Scripts.{DoesNotRepeat, HappenOnce, IsAllowedAt}
use Rattle.pair_machine.specs.Within.{IsWithinScript, history_events}
use Rattle.pair_machine.specs.declared.order.Order.{Order}
use Rattle.pair_machine.proofs.CourseKept.{one_more, one_more_met}
use Rattle.node_tasks.specs.Timely.{AreTimely}
use Rattle.pair_machine.proofs.Lists.{each_all, each_append, each_map}
use Rattle.node_tasks.specs.declared.task.Task.{Task}
use Rattle.node_tasks.specs.declared.task.Task.TheVariants as task
use Rattle.run_node.specs.declared.fired.Fired.{Fired}
use Rattle.run_node.specs.Ends.{InLink, OutLink, emitted_to, leads_to}
use Rattle.run_node.specs.Fits.{Fit}
use Rattle.run_node.specs.Sends.{with_all_sent}
use Rattle.run_node.specs.SoundNode.{IsNoRecall, IsNoStop, IsNoted, IsSoundNode, TapFits}
use Rattle.node_tasks.specs.Tasks.{DoesStep, event_of, packet_of}
use Rattle.run_node.specs.Fired.{fired_after, is_recall, is_stop, repeats}
use Rattle.run_node.proofs.SentPackets.{emitted-with_all_sent, leads-with_all_sent}
use Rattle.run_node.proofs.Merged.{CameFor, clock_of}

stamped_to : (clock : ℕ) (to : NodeId) (xs : List (NodeId × Body)) → Each (λ p. p.at ≡ clock) (packets_to clock to xs)
stamped_to clock to [] = tt
stamped_to clock to (x ∷ xs) = go (is_node x.0 to) (stamped_to clock to xs)
  where
    go : (b : Bool) → Each (λ (p : Packet). p.at ≡ clock) (packets_to clock to xs) → Each (λ (p : Packet). p.at ≡ clock) (if b then record { at = clock; body = x.1 } ∷ packets_to clock to xs else packets_to clock to xs)
    go true h = (refl, h)
    go false h = h

rises_more : (hs : List Stamped) (h : Stamped) → AreRising hs → Each (λ g. g.clock < h.clock) hs → AreRising (hs ++ h ∷ [])
rises_more [] h r k = (tt, tt)
rises_more (g ∷ hs) h r k = (each_append (λ x. g.clock < x.clock) hs (h ∷ []) r.0 (k.0, tt), rises_more hs h r.1 k.1)

has_partner : (f : Flow) (n : NodeId) → HasNode f n → HasNode f (partner_node n)
has_partner f node.Ingress h = h
has_partner f (node.Replica s p w) h = h
has_partner f (node.Control s p) h = h
has_partner f node.Egress h = h

is_there : (f : Flow) (me : NodeId) (t : Task) → HasNode f me → IsThere f (event_of me t)
is_there f me (task.Take from index packet) h = h
is_there f me task.Work h = h
is_there f me task.Make h = tt
is_there f me task.Kill h = h
is_there f me task.AskStop h = h
is_there f me task.AskBack h = has_partner f me h

taken_is : (arrived : Arrivals) (me : NodeId) (t : Task) → CameFor arrived t → taken_at arrived (event_of me t) ≡ packet_of t
taken_is arrived me (task.Take from index packet) h = h
taken_is arrived me task.Work h = refl
taken_is arrived me task.Make h = refl
taken_is arrived me task.Kill h = refl
taken_is arrived me task.AskStop h = refl
taken_is arrived me task.AskBack h = refl

took_before : (me : NodeId) (t : Task) (c : ℕ) → clock_of t < c → TookBefore c (event_of me t) (packet_of t)
took_before me (task.Take from index packet) c lt = lt
took_before me task.Work c lt = tt
took_before me task.Make c lt = tt
took_before me task.Kill c lt = tt
took_before me task.AskStop c lt = tt
took_before me task.AskBack c lt = tt

-- ---- what happens once

stop_once : (e : Event) (n : NodeId) → IsNoStop e → DoesNotRepeat e (event.Kill n) × DoesNotRepeat e (event.AskStop n)
stop_once (event.Kill m) n h = absurd h
stop_once (event.AskStop m) n h = absurd h
stop_once (event.AskBack m) n h = (λ z. let w : event.Kill n ≡ event.AskBack m = z in cc, λ z. let w : event.AskStop n ≡ event.AskBack m = z in cc)
stop_once (event.Take l k) n h = (tt, tt)
stop_once (event.Work m) n h = (tt, tt)
stop_once event.Make n h = (tt, tt)
stop_once (event.Pull from to) n h = (tt, tt)

recall_once : (e : Event) (n : NodeId) → IsNoRecall e → DoesNotRepeat e (event.AskBack n)
recall_once (event.Kill m) n h = λ z. let w : event.AskBack n ≡ event.Kill m = z in cc
recall_once (event.AskStop m) n h = λ z. let w : event.AskBack n ≡ event.AskStop m = z in cc
recall_once (event.AskBack m) n h = absurd h
recall_once (event.Take l k) n h = tt
recall_once (event.Work m) n h = tt
recall_once event.Make n h = tt
recall_once (event.Pull from to) n h = tt

other_once : (e : Event) (me : NodeId) (t : Task) → is_stop t ≡ false → is_recall t ≡ false → DoesNotRepeat e (event_of me t)
other_once e me task.Kill a b = cc
other_once e me task.AskStop a b = cc
other_once e me task.AskBack a b = cc
other_once (event.Kill m) me (task.Take from index packet) a b = λ z. let w : event.Take (link from me) index ≡ event.Kill m = z in cc
other_once (event.AskStop m) me (task.Take from index packet) a b = λ z. let w : event.Take (link from me) index ≡ event.AskStop m = z in cc
other_once (event.AskBack m) me (task.Take from index packet) a b = λ z. let w : event.Take (link from me) index ≡ event.AskBack m = z in cc
other_once (event.Take l k) me (task.Take from index packet) a b = tt
other_once (event.Work m) me (task.Take from index packet) a b = tt
other_once event.Make me (task.Take from index packet) a b = tt
other_once (event.Pull x y) me (task.Take from index packet) a b = tt
other_once (event.Kill m) me task.Work a b = λ z. let w : event.Work me ≡ event.Kill m = z in cc
other_once (event.AskStop m) me task.Work a b = λ z. let w : event.Work me ≡ event.AskStop m = z in cc
other_once (event.AskBack m) me task.Work a b = λ z. let w : event.Work me ≡ event.AskBack m = z in cc
other_once (event.Take l k) me task.Work a b = tt
other_once (event.Work m) me task.Work a b = tt
other_once event.Make me task.Work a b = tt
other_once (event.Pull x y) me task.Work a b = tt
other_once (event.Kill m) me task.Make a b = λ z. let w : event.Make ≡ event.Kill m = z in cc
other_once (event.AskStop m) me task.Make a b = λ z. let w : event.Make ≡ event.AskStop m = z in cc
other_once (event.AskBack m) me task.Make a b = λ z. let w : event.Make ≡ event.AskBack m = z in cc
other_once (event.Take l k) me task.Make a b = tt
other_once (event.Work m) me task.Make a b = tt
other_once event.Make me task.Make a b = tt
other_once (event.Pull x y) me task.Make a b = tt

-- an event that isn't a repeat does not repeat any before it
not_repeated : (fired : Fired) (me : NodeId) (t : Task) (hs : List Stamped) → repeats fired t ≡ false → IsNoted fired hs → Each (λ h. DoesNotRepeat h.event (event_of me t)) hs
not_repeated fired me task.Kill hs e n = each_map (λ (h : Stamped). IsNoStop h.event) (λ (h : Stamped). DoesNotRepeat h.event (event.Kill me)) (λ h k. (stop_once h.event me k).0) hs (n.stopped e)
not_repeated fired me task.AskStop hs e n = each_map (λ (h : Stamped). IsNoStop h.event) (λ (h : Stamped). DoesNotRepeat h.event (event.AskStop me)) (λ h k. (stop_once h.event me k).1) hs (n.stopped e)
not_repeated fired me task.AskBack hs e n = each_map (λ (h : Stamped). IsNoRecall h.event) (λ (h : Stamped). DoesNotRepeat h.event (event.AskBack (partner_node me))) (λ h k. recall_once h.event (partner_node me) k) hs (n.recalled e)
not_repeated fired me (task.Take from index packet) hs e n = each_all (λ (h : Stamped). DoesNotRepeat h.event (event.Take (link from me) index)) (λ h. other_once h.event me (task.Take from index packet) refl refl) hs
not_repeated fired me task.Work hs e n = each_all (λ (h : Stamped). DoesNotRepeat h.event (event.Work me)) (λ h. other_once h.event me task.Work refl refl) hs
not_repeated fired me task.Make hs e n = each_all (λ (h : Stamped). DoesNotRepeat h.event event.Make) (λ h. other_once h.event me task.Make refl refl) hs

once_more : (hs : List Stamped) (h : Stamped) → HappenOnce (history_events hs) → Each (λ g. DoesNotRepeat g.event h.event) hs → HappenOnce (history_events (hs ++ h ∷ []))
once_more [] h once new = (tt, tt)
once_more (g ∷ hs) h once new = (all hs once.0, once_more hs h once.1 new.1)
  where
    all : (ks : List Stamped) → Each (DoesNotRepeat g.event) (history_events ks) → Each (DoesNotRepeat g.event) (history_events (ks ++ h ∷ []))
    all [] e = (new.0, tt)
    all (k ∷ ks) e = (e.0, all ks e.1)

no_stop : (me : NodeId) (t : Task) → is_stop t ≡ false → IsNoStop (event_of me t)
no_stop me (task.Take from index packet) e = tt
no_stop me task.Work e = tt
no_stop me task.Make e = tt
no_stop me task.Kill e = cc
no_stop me task.AskStop e = cc
no_stop me task.AskBack e = tt

no_recall : (me : NodeId) (t : Task) → is_recall t ≡ false → IsNoRecall (event_of me t)
no_recall me (task.Take from index packet) e = tt
no_recall me task.Work e = tt
no_recall me task.Make e = tt
no_recall me task.Kill e = tt
no_recall me task.AskStop e = tt
no_recall me task.AskBack e = cc

neither : (a b : Bool) → (a || b) ≡ false → (a ≡ false) × (b ≡ false)
neither true b e = cc
neither false b e = (refl, e)

noted_more : (fired : Fired) (me : NodeId) (t : Task) (hs : List Stamped) (h : Stamped) → h.event ≡ event_of me t → IsNoted fired hs → IsNoted (fired_after fired t) (hs ++ h ∷ [])
noted_more fired me t hs h same n = record {
  stopped = λ e. let both = neither fired.stopped (is_stop t) e in each_append (λ (g : Stamped). IsNoStop g.event) hs (h ∷ []) (n.stopped both.0) (subst IsNoStop (sym same) (no_stop me t both.1), tt);
  recalled = λ e. let both = neither fired.recalled (is_recall t) e in each_append (λ (g : Stamped). IsNoRecall g.event) hs (h ∷ []) (n.recalled both.0) (subst IsNoRecall (sym same) (no_recall me t both.1), tt);
}

-- ---- one event

module _ {A : Type 0} (id : A → NodeId) (of_plan : PlanView → A → Type 0) (stands : PlanView → List Input → A → Node → Type 0) (plan : PlanView) (inputs : List Input) (script : List Order)
    (state : A) (ins : List InLink) (outs : List OutLink) (clock : ℕ) (fired : Fired) (history : List Stamped)
    (s : IsSoundNode id of_plan stands plan inputs script state ins outs clock fired history) where
  pub sound_after : (t : Task) (new : A) (packets : List (NodeId × Body)) (c : ℕ) →
      ((arrived : Arrivals) → Fit arrived ins → CameFor arrived t) → clock < c → clock_of t < c → c < 2 ^ 62 → repeats fired t ≡ false →
      id new ≡ id state → of_plan plan new → at_node (event_of (id state) t) ≡ id state → DoesStep id stands t state new packets → GoOverLinks plan (id state) packets →
      ((x : Node) → stands plan inputs state x → IsAllowedAt script (event_of (id state) t) x) →
      IsSoundNode id of_plan stands plan inputs script new ins (with_all_sent c packets outs) c (fired_after fired t) (history ++ record { clock = c; event = event_of (id state) t } ∷ [])
  sound_after t new packets c came later after small fresh same named here does over allowed =
      let f = flow_of plan inputs in
      let S = BodyStands plan inputs in
      let me = id state in
      let h : Stamped = record { clock = c; event = event_of me t } in
      let before : Each (λ (g : Stamped). g.clock < c) history = each_map (λ (g : Stamped). g.clock ≤ clock) (λ (g : Stamped). g.clock < c) (λ g k. omega arith) history s.past in
      let leads : Each (λ (x : NodeId × Body). leads_to outs x.0 ≡ true) packets = each_map (λ (x : NodeId × Body). IsTrue (has_link plan (link me x.0))) (λ (x : NodeId × Body). leads_to outs x.0 ≡ true) (λ x k. s.linked x.0 k) packets over in
      let emitted : (to : NodeId) → emitted_to outs to ++ packets_to c to packets ≡ emitted_to (with_all_sent c packets outs) to = λ to. sym (emitted-with_all_sent c to packets outs leads) in
      let sent : NodeId → List Packet = λ to. emitted_to outs to ++ packets_to c to packets in
      let step : (arrived : Arrivals) → Fit arrived ins → IsStep f S (Asks f) me (stands plan inputs state) (stands plan inputs new) (event_of me t) (taken_at arrived (event_of me t)) (λ to. packets_to c to packets) =
      λ arrived fit. subst (λ o. IsStep f S (Asks f) me (stands plan inputs state) (stands plan inputs new) (event_of me t) o (λ to. packets_to c to packets)) (sym (taken_is arrived me t (came arrived fit))) (does plan inputs s.planned s.timely c) in
      let took : (arrived : Arrivals) → Fit arrived ins → TookBefore c (event_of me t) (taken_at arrived (event_of me t)) =
      λ arrived fit. subst (TookBefore c (event_of me t)) (sym (taken_is arrived me t (came arrived fit))) (took_before me t c after) in
      let course : (arrived : Arrivals) → Fit arrived ins → IsTrueNode f S (Asks f) me (stands plan inputs new) arrived sent (history ++ h ∷ []) = λ arrived fit.
      one_more f S (Asks f) me (stands plan inputs state) (stands plan inputs new) arrived arrived (λ from k p e. e) (emitted_to outs) (λ to. packets_to c to packets) history h
      (s.course arrived fit).course before here (is_there f me t s.there) (took arrived fit) (λ to. stamped_to c to packets) (step arrived fit) in
      let met : (arrived : Arrivals) → Fit arrived ins → MeetsBeforeEach f S (Asks f) (IsAllowedAt script) me arrived sent (history ++ h ∷ []) = λ arrived fit.
      one_more_met f S (Asks f) me (stands plan inputs state) (stands plan inputs new) arrived arrived (λ from k p e. e) (emitted_to outs) (λ to. packets_to c to packets) history h
      (s.course arrived fit).course before here (is_there f me t s.there) (took arrived fit) (λ to. stamped_to c to packets) (step arrived fit)
      (IsAllowedAt script) (s.course arrived fit).within.allowed allowed in
      let once : (arrived : Arrivals) → Fit arrived ins → HappenOnce (history_events (history ++ h ∷ [])) = λ arrived fit.
      once_more history h (s.course arrived fit).within.once (not_repeated fired me t history fresh s.noted) in
      record {
        planned = s.planned;
        timely = s.timely;
        named = named;
        there = subst (HasNode f) (sym same) s.there;
        linked = λ to k. leads-with_all_sent c to packets outs ∙ s.linked to (subst (λ n. IsTrue (has_link plan (link n to))) same k);
        small = small;
        past = each_append (λ (g : Stamped). g.clock ≤ c) history (h ∷ []) (each_map (λ (g : Stamped). g.clock < c) (λ (g : Stamped). g.clock ≤ c) (λ g k. omega arith) history before) (omega arith, tt);
        rises = rises_more history h s.rises before;
        noted = noted_more fired me t history h refl s.noted;
        course = λ arrived fit. record {
          course = subst (λ (n : NodeId). IsTrueNode f S (Asks f) n (stands plan inputs new) arrived (emitted_to (with_all_sent c packets outs)) (history ++ h ∷ [])) (sym same)
              (subst (λ (out : NodeId → List Packet). IsTrueNode f S (Asks f) me (stands plan inputs new) arrived out (history ++ h ∷ [])) (λ i to. emitted to i) (course arrived fit));
          within = record {
            allowed = subst (λ (n : NodeId). MeetsBeforeEach f S (Asks f) (IsAllowedAt script) n arrived (emitted_to (with_all_sent c packets outs)) (history ++ h ∷ [])) (sym same)
                (subst (λ (out : NodeId → List Packet). MeetsBeforeEach f S (Asks f) (IsAllowedAt script) me arrived out (history ++ h ∷ [])) (λ i to. emitted to i) (met arrived fit));
            once = once arrived fit;
          };
        };
      }

  -- it stands for the same numbers after no event
  still_there : (new : A) → id new ≡ id state → of_plan plan new → ((x : Node) → stands plan inputs state x → stands plan inputs new x) → IsSoundNode id of_plan stands plan inputs script new ins outs clock fired history
  still_there new same named stays = record {
    planned = s.planned;
    timely = s.timely;
    named = named;
    there = subst (HasNode (flow_of plan inputs)) (sym same) s.there;
    linked = λ to k. s.linked to (subst (λ n. IsTrue (has_link plan (link n to))) same k);
    small = s.small;
    past = s.past;
    rises = s.rises;
    noted = s.noted;
    course = λ arrived fit. record {
      course = subst (λ (n : NodeId). IsTrueNode (flow_of plan inputs) (BodyStands plan inputs) (Asks (flow_of plan inputs)) n (stands plan inputs new) arrived (emitted_to outs) history) (sym same) (record {
        kept = (s.course arrived fit).course.kept;
        stands = λ before e acts af aa. stays_at (replay (flow_of plan inputs) (id state) acts) ((s.course arrived fit).course.stands before e acts af aa);
      });
      within = subst (λ (n : NodeId). IsWithinScript plan inputs script n arrived (emitted_to outs) history) (sym same) (s.course arrived fit).within;
    };
  }
    where
      stays_at : (r : Result (Node × List Envelope) Refusal) → StandsAt (flow_of plan inputs) (BodyStands plan inputs) (Asks (flow_of plan inputs)) (stands plan inputs state) r → StandsAt (flow_of plan inputs) (BodyStands plan inputs) (Asks (flow_of plan inputs)) (stands plan inputs new) r
      stays_at (Ok d) h = stays d.0 h
      stays_at (Err e) h = h

  pub sound_still : (new : A) (outs_after : List OutLink) (history_after : List Stamped) → outs_after ≡ outs → history_after ≡ history → id new ≡ id state → of_plan plan new → ((x : Node) → stands plan inputs state x → stands plan inputs new x) →
      IsSoundNode id of_plan stands plan inputs script new ins outs_after clock fired history_after
  sound_still new outs_after history_after same_outs same_history same named stays =
      subst (λ l. IsSoundNode id of_plan stands plan inputs script new ins l clock fired history_after) (sym same_outs)
      (subst (λ h. IsSoundNode id of_plan stands plan inputs script new ins outs clock fired h) (sym same_history) (still_there new same named stays))

  -- more came, and fits
  pub sound_received : (ins_after : List InLink) → ((arrived : Arrivals) → Fit arrived ins_after → Fit arrived ins) → IsSoundNode id of_plan stands plan inputs script state ins_after outs clock fired history
  sound_received ins_after fits = record {
    planned = s.planned;
    timely = s.timely;
    named = s.named;
    there = s.there;
    linked = s.linked;
    small = s.small;
    past = s.past;
    rises = s.rises;
    noted = s.noted;
    course = λ arrived fit. s.course arrived (fits arrived fit);
  }

none_emitted : (ls : List OutLink) (n : NodeId) → Each (λ l. l.emitted ≡ []) ls → emitted_to ls n ≡ []
none_emitted [] n h = refl
none_emitted (l ∷ ls) n h = go (is_node l.to n) h.0 (none_emitted ls n h.1)
  where
    go : (b : Bool) → l.emitted ≡ [] → emitted_to ls n ≡ [] → (if b then l.emitted else emitted_to ls n) ≡ []
    go true e old = e
    go false e old = old

-- a cut of nothing has nothing behind it
pub some_left : (pre : List Moment) (m : Moment) (post : List Moment) → onto pre (m ∷ post) ≡ [] → ⊥
some_left [] m post e = cc
some_left (x ∷ pre) m post e = some_left pre x (m ∷ post) e

-- a node before its first event, whatever is to come
module _ (f : Flow) (S : LinkId → Body → Message → Type 0) (Asks : NodeId → Node → Act → Type 0) (n : NodeId) (P : Node → Type 0) (arrived : Arrivals) where
  pub fresh_true : P (new_node n) → IsTrueNode f S Asks n P arrived (λ k. []) []
  fresh_true p = record { kept = record { here = tt; there = tt; before = tt; whole = λ to. refl; right = right }; stands = stands }
    where
      right : (pre post : List Moment) → onto pre post ≡ [] → (acts : List Act) → ActsFor f S Asks n pre acts → AllAsked f S Asks n acts → Replayed f S Asks n pre (replay f n acts)
      right [] post e [] af aa = λ to. tt
      right [] post e (a ∷ acts) af aa = absurd af
      right (m ∷ pre) post e acts af aa = absurd (some_left pre m post e)

      stands : (pre : List Moment) → onto pre [] ≡ [] → (acts : List Act) → ActsFor f S Asks n pre acts → AllAsked f S Asks n acts → StandsAt f S Asks P (replay f n acts)
      stands [] e [] af aa = p
      stands [] e (a ∷ acts) af aa = absurd af
      stands (m ∷ pre) e acts af aa = absurd (some_left pre m [] e)

pub sound_new : {A : Type 0} (id : A → NodeId) (of_plan : PlanView → A → Type 0) (stands : PlanView → List Input → A → Node → Type 0) (plan : PlanView) (inputs : List Input) (script : List Order) (state : A) (ins : List InLink) (outs : List OutLink) (fired : Fired) →
    IsPlan plan → AreTimely inputs → of_plan plan state → HasNode (flow_of plan inputs) (id state) → stands plan inputs state (new_node (id state)) →
    ((to : NodeId) → IsTrue (has_link plan (link (id state) to)) → leads_to outs to ≡ true) → Each (λ l. l.emitted ≡ []) outs →
    IsSoundNode id of_plan stands plan inputs script state ins outs 0 fired []
sound_new id of_plan stands plan inputs script state ins outs fired planned timely named there opening linked fresh = record {
  planned = planned;
  timely = timely;
  named = named;
  there = there;
  linked = linked;
  small = omega arith;
  past = tt;
  rises = tt;
  noted = record { stopped = λ e. tt; recalled = λ e. tt };
  course = λ arrived fit. record {
    course = subst (λ (sent : NodeId → List Packet). IsTrueNode (flow_of plan inputs) (BodyStands plan inputs) (Asks (flow_of plan inputs)) (id state) (stands plan inputs state) arrived sent [])
        (λ i to. sym (none_emitted outs to fresh) i) (fresh_true (flow_of plan inputs) (BodyStands plan inputs) (Asks (flow_of plan inputs)) (id state) (stands plan inputs state) arrived opening);
    within = record { allowed = λ pre m post e acts af aa. absurd (some_left pre m post e); once = tt };
  };
}

-- with more rows, of which none was handed on, what the tap gave on still fits
pub tap_later : {A T : Type 0} (lets_go : Bool) (given : T → List Row) (rows gone : A → List Row) (tap : Option T) (state new : A) → IsPrefix (rows state) (rows new) → gone new ≡ gone state →
    TapFits lets_go given rows gone tap state → TapFits lets_go given rows gone tap new
tap_later lets_go given rows gone None state new more same h = same ∙ h
tap_later true given rows gone (Some t) state new more same h = (h.0 ∙ sym same, subst (λ l. IsPrefix l (rows new)) (sym same) (grows_on (gone state) (rows state) (rows new) h.1 more))
tap_later false given rows gone (Some t) state new more same h = (same ∙ h.0, grows_on (given t) (rows state) (rows new) h.1 more)
