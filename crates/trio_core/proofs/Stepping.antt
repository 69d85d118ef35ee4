-- Where the station of a node did what an event asks, the core stands for the machine's next state.
use Rattle.std.proofs.Common.{◌≡◌, ◌≢◌, ◌∙◌, List, ◌++◌, Ok, Bool, true, false, Option, None, Some, refl, sym, ap, subst, true≢false, if◌then◌else◌}
use Rattle.tuple_edge.specs.Input.{Input}
use Rattle.plan_reader.specs.PlanView.{PlanView}
use Rattle.pair_machine.specs.Courses.{Pairwise}
use Rattle.pair_machine.specs.Flow.{Flow}
use Rattle.pair_machine.proofs.Lists.{each_at}
use Rattle.trio_machine.specs.Acknowledged.{acked_of}
use Rattle.trio_machine.specs.Asked.{ActAsks, Asks}
use Rattle.trio_machine.specs.Flow.{IsTrioPlan, trio_flow}
use Rattle.trio_machine.specs.Links as links
use Rattle.trio_machine.specs.Links.{HasNode}
use Rattle.trio_machine.specs.Machine.{State, act_of, acted, after, at_node, does, messages_to, put, step}
use Rattle.trio_machine.specs.Messages.{Act, Dies, Envelope, Makes, Pulls, Takes, Works}
use Rattle.trio_machine.specs.Numbers.{Node, is_node}
use Rattle.trio_machine.specs.Reports.{replicas_of}
use Rattle.trio_machine.specs.Sound.{IsSound, IsSoundMessage}
use Rattle.trio_machine.specs.declared.event.TrioEvent.{TrioEvent}
use Rattle.trio_machine.specs.declared.event.TrioEvent.TheVariants as event
use Rattle.trio_machine.specs.declared.node.TrioNode.{TrioNode}
use Rattle.trio_machine.proofs.Names.{is_node-true, node_self}
use Rattle.trio_machine.proofs.Steps.{ActSent, WasSent, act_sent, at_there}
use Rattle.trio_nodes.specs.Contents.{ArePacketsFor, BodyStands}
use Rattle.trio_core.specs.Acts.{IsActOf, IsAsked, IsDone}
use Rattle.trio_core.specs.CoreView.{CoreView, StationView, flow_in, found, inputs_of, name_of}
use Rattle.trio_core.specs.Sent.{bodies_to}
use Rattle.trio_core.specs.Stands.{AreTimely, IsThere, MemberStands, StandsFor, StationStands}
use Rattle.trio_core.specs.Steps.{GoesOn, HasActed, IsNamed, IsTaskOf}
use Rattle.trio_core.specs.declared.task.TrioTask.{TrioTask}
use Rattle.trio_core.proofs.Placing.{inputs_same}
use Rattle.trio_core.proofs.Sending.{sent_more}
use Rattle.trio_core.proofs.Changes.{HasChanged}

-- ---- what is asked

pub named_there : (f : Flow) (e : TrioEvent) → IsNamed f e → links.IsThere f e
named_there f (event.Take from to k) h = h.1
named_there f (event.Work n) h = h
named_there f event.Make h = h
named_there f (event.Kill n) h = h
named_there f (event.Pull from to) h = h

sent_asks : (f : Flow) (s : State) (n : TrioNode) (a : Act) → IsSound f s → WasSent f s n a → ActAsks f n a
sent_asks f s n (Takes from m) sound h = let z = each_at (IsSoundMessage f (acked_of f s) (replicas_of s) from n) m (s.sent from n) h (sound.sent from n) in record { carried = z.carried; bound = z.bound }
sent_asks f s n Works sound h = tt
sent_asks f s n Makes sound h = tt
sent_asks f s n Dies sound h = tt
sent_asks f s n (Pulls q) sound h = tt

-- a sound state gives what is asked of the node of an event
pub asks_of : (f : Flow) (s : State) (e : TrioEvent) (a : Act) → links.IsThere f e → IsSound f s → act_of f s e ≡ Ok a → Asks f (at_node e) (s.nodes (at_node e)) a
asks_of f s e a there sound done = ((sound.nodes (at_node e)).bound, sent_asks f s (at_node e) a sound (subst (ActSent f s (at_node e)) done (act_sent f s e there)))

-- what stands under a name
pub there_at : (plan : PlanView) (inputs : List Input) (n : TrioNode) (o : Option StationView) (s : State) → IsThere plan inputs n o s → (at : StationView) × (o ≡ Some at) × StationStands plan inputs n at s
there_at plan inputs n None s h = absurd h
there_at plan inputs n (Some at) s h = (at, refl, h)

-- the station of an event's node may be asked what the event asks
pub asked_at : (core : CoreView) (e : TrioEvent) (t : TrioTask) (at : StationView) → IsTrioPlan core.plan → AreTimely (inputs_of core) → IsNamed (flow_in core) e → found (at_node e) core.stations ≡ Some at
    → (s : State) → StandsFor core s → IsSound (flow_in core) s → (a : Act) → act_of (flow_in core) s e ≡ Ok a → IsActOf core.plan (inputs_of core) (at_node e) t (s.nodes (at_node e)) a
    → IsAsked core.plan (inputs_of core) t at.member (s.nodes (at_node e)) a
asked_at core e t at is times named here s stands sound a done act =
    let f = flow_in core in
    let n = at_node e in
    let there = named_there f e named in
    let h : StationStands core.plan (inputs_of core) n at s = subst (λ o. IsThere core.plan (inputs_of core) n o s) here (stands n (at_there f e there)) in
    record {
      plan_is = is;
      times = times;
      act = subst (λ k. IsActOf core.plan (inputs_of core) k t (s.nodes n) a) (sym h.name) act;
      stands = h.member;
      asks = subst (λ k. Asks f k (s.nodes n) a) (sym h.name) (asks_of f s e a there sound done);
    }

-- ---- the next state

-- the node itself stands for its numbers and messages after the act
here_after : (plan : PlanView) (inputs : List Input) (n : TrioNode) (s : State) (x : Node) (out : List Envelope) (t : TrioTask) (old new : StationView) (h : HasActed t old new) → StationStands plan inputs n old s
    → MemberStands plan inputs new.member x → ArePacketsFor plan inputs h.sent out → StationStands plan inputs n new (put n s x out)
here_after plan inputs n s x out t old new h stood member packets = record {
  name = h.member ∙ stood.name;
  member = subst (λ (b : Bool). MemberStands plan inputs new.member (if b then x else s.nodes n)) (sym (node_self n)) member;
  sent = λ to. subst (λ (b : Bool). Pairwise (BodyStands plan inputs) (bodies_to to new.sent) (if b then s.sent n to ++ messages_to to out else s.sent n to)) (sym (node_self n))
      (sent_more plan inputs old.sent new.sent h.sent (s.sent n) out h.noted stood.sent packets to);
}

-- and each other one for what it did
elsewhere_after : (plan : PlanView) (inputs : List Input) (m n : TrioNode) (s : State) (x : Node) (out : List Envelope) (o : Option StationView) → is_node m n ≡ false → IsThere plan inputs m o s
    → IsThere plan inputs m o (put n s x out)
elsewhere_after plan inputs m n s x out None apart h = h
elsewhere_after plan inputs m n s x out (Some at) apart h = record {
  name = h.name;
  member = subst (λ (b : Bool). MemberStands plan inputs at.member (if b then x else s.nodes m)) (sym apart) h.member;
  sent = λ to. subst (λ (b : Bool). Pairwise (BodyStands plan inputs) (bodies_to to at.sent) (if b then s.sent m to ++ messages_to to out else s.sent m to)) (sym apart) (h.sent to);
}

-- the core goes on as the machine does
pub goes_on : (old new : CoreView) (t : TrioTask) (e : TrioEvent) → IsTrioPlan old.plan → AreTimely (inputs_of old) → IsNamed (flow_in old) e → HasChanged (at_node e) t old new → IsTaskOf old e t → GoesOn old new e
unfolding step
goes_on old new t e is times named h task s stands sound =
    let n = at_node e in
    let plan = old.plan in
    let inputs = inputs_of old in
    let f = flow_in old in
    let z = task s stands in
    let has = at_there f e (named_there f e named) in
    let stood : StationStands plan inputs n h.before s = subst (λ o. IsThere plan inputs n o s) h.was (stands n has) in
    let asked = asked_at old e t h.before is times named h.was s stands sound z.0 z.1 z.2 in
    let d : IsDone plan inputs h.after.member h.acted.sent (s.nodes n) z.0 (name_of h.before.member) = h.acted.acts plan inputs (s.nodes n) z.0 asked in
    let u : State = put n s d.done.0 d.done.1 in
    let does_so : does f n z.0 (s.nodes n) ≡ Ok d.done = subst (λ k. does f k z.0 (s.nodes n) ≡ Ok d.done) stood.name d.does in
    let done : step f s e ≡ Ok u = ap (acted f n s) z.1 ∙ ap (after n s) does_so in
    let Good : PlanView → List Input → Type 0 = λ P I. (m : TrioNode) → HasNode (trio_flow P I) m → IsThere P I m (found m new.stations) u in
    let good : Good plan inputs = λ m has_m. by m has_m (is_node m n) refl u d.done.0 d.done.1 refl (here_after plan inputs n s d.done.0 d.done.1 t h.before h.after h.acted stood d.stands d.packets) in
    (u, done, subst (λ P. Good P (inputs_of new)) (sym h.plan) (subst (λ I. Good plan I) (sym (inputs_same n t old new h)) good))
  where
    by : (m : TrioNode) → HasNode (flow_in old) m → (b : Bool) → is_node m (at_node e) ≡ b → (u : State) (x : Node) (out : List Envelope) → put (at_node e) s x out ≡ u
        → StationStands old.plan (inputs_of old) (at_node e) h.after (put (at_node e) s x out) → IsThere old.plan (inputs_of old) m (found m new.stations) u
    by m has_m true b u x out is_u good =
        let same : m ≡ at_node e = is_node-true m (at_node e) b in
        subst (λ v. IsThere old.plan (inputs_of old) m (found m new.stations) v) is_u
        (subst (λ k. IsThere old.plan (inputs_of old) k (found k new.stations) (put (at_node e) s x out)) (sym same)
        (subst (λ o. IsThere old.plan (inputs_of old) (at_node e) o (put (at_node e) s x out)) (sym h.now) good))
    by m has_m false b u x out is_u good =
        let apart : m ≢ at_node e = λ same. let z : true ≡ false = sym (ap (λ k. is_node k (at_node e)) same ∙ node_self (at_node e)) ∙ b in absurd (true≢false z) in
        subst (λ v. IsThere old.plan (inputs_of old) m (found m new.stations) v) is_u
        (subst (λ o. IsThere old.plan (inputs_of old) m o (put (at_node e) s x out)) (sym (h.others m apart))
        (elsewhere_after old.plan (inputs_of old) m (at_node e) s x out (found m old.stations) b (stands m has_m)))
