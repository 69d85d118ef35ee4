-- The law for a run: where each node's history is true and each link gives packets under their indexes, the log of all events is legal, and each node stands for its numbers in the state that it reaches.
use Rattle.std.proofs.Common.{◌≡◌, ◌≤◌, Bool, true, false, List, [], ◌∷◌, ◌++◌, None, refl, sym, ap, ◌∙◌, subst}
use Rattle.std.specs.Prelude.{if◌then◌else◌}
use Rattle.std.proofs.lemmas.List.{append-nil}
use Rattle.tuple_edge.specs.Input.{Input}
use Rattle.plan_reader.specs.PlanView.{IsPlan, PlanView}
use Rattle.pair_machine.specs.Asked.{Asks}
use Rattle.pair_machine.specs.Contents.{BodyStands}
use Rattle.pair_machine.specs.Counts.{flow_of}
use Rattle.pair_machine.specs.Courses.{ActsFor, AllAsked, Arrivals, IsSentAtItsIndex, IsTrueHistory, IsTrueNode, Moment, Replayed, StandsAt, course_of, moment_of, onto, replay}
use Rattle.pair_machine.specs.Flow.{Flow}
use Rattle.pair_machine.specs.Joint.{AreInOrder, ClocksRise, IsJoint, IsLegalLog, IsLog, IsReplayedTo, Logged, Stored, events_of, log_of, logged_events, of_node}
use Rattle.pair_machine.specs.Legal.{IsLegal}
use Rattle.pair_machine.specs.Lists.{Each}
use Rattle.pair_machine.specs.MachineLaws.{LogsAreLegal, NodesStand}
use Rattle.pair_machine.specs.Machine.{State, new_node, opening}
use Rattle.pair_machine.specs.Messages.{Act, Message}
use Rattle.pair_machine.specs.Numbers.{Node, is_node}
use Rattle.tuple_edge.specs.declared.event.Stamped.{Stamped}
use Rattle.tuple_edge.specs.declared.node.LinkId.{LinkId}
use Rattle.tuple_edge.specs.declared.node.NodeId.{NodeId}
use Rattle.tuple_edge.specs.declared.packet.Body.{Body}
use Rattle.tuple_edge.specs.declared.packet.Packet.{Packet}
use Rattle.pair_machine.proofs.CourseKept.{true_course, courses, all_agree}
use Rattle.pair_machine.proofs.MachineLaws.{plan_courses}
use Rattle.pair_machine.proofs.Legal.{leads_one}
use Rattle.pair_machine.proofs.Names.{is_node-true}

some_left : (pre : List Moment) (m : Moment) (post : List Moment) → onto pre (m ∷ post) ≡ [] → ⊥
some_left [] m post e = cc
some_left (x ∷ pre) m post e = some_left pre x (m ∷ post) e

-- a node before its first event
pub new_true : (f : Flow) (Stands : LinkId → Body → Message → Type 0) (Asks : NodeId → Node → Act → Type 0) (n : NodeId) (P : Node → Type 0) → P (new_node n) → IsTrueNode f Stands Asks n P (λ k j. None) (λ k. []) []
new_true f Stands Asks n P p = record { kept = record { here = tt; there = tt; before = tt; whole = λ to. refl; right = right }; stands = stands }
  where
    right : (pre post : List Moment) → onto pre post ≡ [] → (acts : List Act) → ActsFor f Stands Asks n pre acts → AllAsked f Stands Asks n acts → Replayed f Stands Asks n pre (replay f n acts)
    right [] post e [] af aa = λ to. tt
    right [] post e (a ∷ acts) af aa = absurd af
    right (m ∷ pre) post e acts af aa = absurd (some_left pre m post e)

    stands : (pre : List Moment) → onto pre [] ≡ [] → (acts : List Act) → ActsFor f Stands Asks n pre acts → AllAsked f Stands Asks n acts → StandsAt f Stands Asks P (replay f n acts)
    stands [] e [] af aa = p
    stands [] e (a ∷ acts) af aa = absurd af
    stands (m ∷ pre) e acts af aa = absurd (some_left pre m [] e)

module _ (plan : PlanView) (inputs : List Input) (arrived : NodeId → Arrivals) (sent : NodeId → NodeId → List Packet) (history : NodeId → List Stamped) where
  stored : List Logged → List Stored
  stored [] = []
  stored (j ∷ js) = record { at = j.at; moment = moment_of (arrived j.at) (sent j.at) j.stamped } ∷ stored js

  stored_of : (n : NodeId) (js : List Logged) → of_node n (stored js) ≡ course_of (arrived n) (sent n) (log_of n js)
  unfolding stored
  stored_of n [] = refl
  stored_of n (j ∷ js) = go (is_node j.at n) (is_node-true j.at n) (stored_of n js)
    where
      go : (c : Bool) → (c ≡ true → j.at ≡ n) → of_node n (stored js) ≡ course_of (arrived n) (sent n) (log_of n js) →
          (if c then moment_of (arrived j.at) (sent j.at) j.stamped ∷ of_node n (stored js) else of_node n (stored js)) ≡ course_of (arrived n) (sent n) (if c then j.stamped ∷ log_of n js else log_of n js)
      go true e old = let at = e refl in (λ i. moment_of (arrived (at i)) (sent (at i)) j.stamped ∷ old i)
      go false e old = old

  stored_order : (js : List Logged) → ClocksRise js → AreInOrder (stored js)
  unfolding stored
  stored_order [] h = tt
  stored_order (j ∷ js) h = (later js h.0, stored_order js h.1)
    where
      later : (ks : List Logged) → Each (λ k. j.stamped.clock ≤ k.stamped.clock) ks → Each (λ (t : Stored). j.stamped.clock ≤ t.moment.clock) (stored ks)
      later [] h = tt
      later (k ∷ ks) h = (h.0, later ks h.1)

  stored_append : (js ks : List Logged) → stored (js ++ ks) ≡ stored js ++ stored ks
  unfolding stored
  stored_append [] ks = refl
  stored_append (j ∷ js) ks = ap (λ ss. record { at = j.at; moment = moment_of (arrived j.at) (sent j.at) j.stamped } ∷ ss) (stored_append js ks)

  stored_events : (js : List Logged) → events_of (stored js) ≡ logged_events js
  unfolding stored
  stored_events [] = refl
  stored_events (j ∷ js) = ap (λ es. j.stamped.event ∷ es) (stored_events js)

  pub run_law : IsPlan plan → ((n : NodeId) → IsTrueHistory (flow_of plan inputs) (BodyStands plan inputs) (Asks (flow_of plan inputs)) n (arrived n) (sent n) (history n)) →
      ((from to : NodeId) → IsSentAtItsIndex (arrived to from) (sent from to)) → (log : List Logged) → IsLog history log → (front rest : List Logged) → front ++ rest ≡ log →
      IsLegalLog plan inputs arrived sent history front rest
  run_law h truth links log l front rest e =
      let f = flow_of plan inputs in
      let S = BodyStands plan inputs in
      let all = courses f S (Asks f) arrived sent history truth links in
      let joint : IsJoint all (stored log) = record { in_order = stored_order log l.in_order; whole = λ n. stored_of n log ∙ ap (course_of (arrived n) (sent n)) (l.whole n) } in
      let r = plan_courses plan inputs h all (λ n. true_course f S (Asks f) n (arrived n) (sent n) (history n) (truth n)) (all_agree f S (Asks f) arrived sent history truth links) (stored log) joint (stored front) (stored rest) (sym (stored_append front rest) ∙ ap stored e) in
      record {
        reached = r.reached;
        legal = subst (λ es. IsLegal f es r.reached) (stored_events front) r.legal;
        sound = r.sound;
        replayed = λ n. subst (λ ms. IsReplayedTo plan inputs n (all n) ms r.reached) (stored_of n rest) (r.replayed n);
      }

-- where a node is replayed to its numbers in a state, it stands for them
pub stands_there : (plan : PlanView) (inputs : List Input) (n : NodeId) (P : Node → Type 0) (arrived : Arrivals) (sent : NodeId → List Packet) (history : List Stamped) (t : State) →
    IsTrueNode (flow_of plan inputs) (BodyStands plan inputs) (Asks (flow_of plan inputs)) n P arrived sent history → IsReplayedTo plan inputs n (course_of arrived sent history) [] t → P (t.nodes n)
stands_there plan inputs n P arrived sent history t truth x =
    let f = flow_of plan inputs in
    subst (StandsAt f (BodyStands plan inputs) (Asks f) P) x.replayed (truth.stands x.before x.whole x.acts x.acts_for x.asked)

pub logs_legal : LogsAreLegal
logs_legal plan inputs h arrived sent history truth links log l front rest e = run_law plan inputs arrived sent history h truth links log l front rest e

pub nodes_stand : {X : Type 0} (stands : PlanView → List Input → X → Node → Type 0) → NodesStand stands
nodes_stand stands plan inputs h arrived sent history truth links log l t legal n x own =
    let r = run_law plan inputs arrived sent history h truth links log l log [] (append-nil log) in
    let same = leads_one (flow_of plan inputs) opening r.reached t (logged_events log) r.legal.leads legal.leads in
    subst (λ s. stands plan inputs x (s.nodes n)) same (stands_there plan inputs n (stands plan inputs x) (arrived n) (sent n) (history n) r.reached own (r.replayed n))
