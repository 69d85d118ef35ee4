-- The log of nodes whose histories are within a script is within it. Each front of the log gives every node's numbers there by its own replay,
-- so what a node knows of its numbers before an event holds of the state before it.
use Rattle.std.proofs.Common.{◌≡◌, Bool, true, false, List, [], ◌∷◌, ◌++◌, Result, Ok, Err, refl, sym, ap, ◌∙◌, subst, append_assoc}
use Rattle.std.specs.Prelude.{if◌then◌else◌}
use Rattle.tuple_edge.specs.Input.{Input}
use Rattle.tuple_edge.specs.declared.event.Event.{Event}
use Rattle.tuple_edge.specs.declared.event.Event.TheVariants as event
use Rattle.tuple_edge.specs.declared.event.Stamped.{Stamped}
use Rattle.tuple_edge.specs.declared.node.NodeId.{NodeId}
use Rattle.tuple_edge.specs.declared.packet.Packet.{Packet}
use Rattle.plan_reader.specs.PlanView.{PlanView}
use Rattle.pair_machine.specs.Asked.{Asks}
use Rattle.pair_machine.specs.Contents.{BodyStands}
use Rattle.pair_machine.specs.Counts.{flow_of}
use Rattle.pair_machine.specs.Courses.{Arrivals, MeetsBeforeEach, StandsAt, course_of, moment_of}
use Rattle.pair_machine.specs.Flow.{Flow}
use Rattle.pair_machine.specs.Joint.{IsLegalLog, IsReplayedTo, Logged, log_of, logged_events}
use Rattle.pair_machine.specs.Lists.{Each}
use Rattle.pair_machine.specs.Machine.{Leads, State, at_node, opening, step}
use Rattle.pair_machine.specs.MachineLaws.{LogsAreWithin}
use Rattle.pair_machine.specs.Messages.{Refusal}
use Rattle.pair_machine.specs.Numbers.{Node, is_node}
use Rattle.pair_machine.specs.Scripts.{AreAllowed, DoesNotRepeat, HappenOnce, IsAllowedAt}
use Rattle.pair_machine.specs.Within.{history_events}
use Rattle.pair_machine.proofs.Legal.{leads_join, leads_one}
use Rattle.pair_machine.proofs.Names.{node_self}
use Rattle.pair_machine.proofs.RunLaw.{run_law}

logged_append : (js ks : List Logged) → logged_events (js ++ ks) ≡ logged_events js ++ logged_events ks
logged_append [] ks = refl
logged_append (j ∷ js) ks = ap (λ es. j.stamped.event ∷ es) (logged_append js ks)

-- ---- no event happens again

-- what holds of each event of a node's own part of a log holds of each of the log that is at the node
node_each : (P : Event → Type 0) (n : NodeId) (js : List Logged) → Each (λ j. at_node j.stamped.event ≡ j.at) js → ((e : Event) → (at_node e ≡ n → ⊥) → P e) → Each P (history_events (log_of n js)) → Each P (logged_events js)
node_each P n [] at other h = tt
node_each P n (j ∷ js) at other h = go (is_node j.at n) refl h (node_each P n js at.1 other)
  where
    go : (c : Bool) → is_node j.at n ≡ c → Each P (history_events (if c then j.stamped ∷ log_of n js else log_of n js)) → (Each P (history_events (log_of n js)) → Each P (logged_events js)) → Each P (logged_events (j ∷ js))
    go true e h next = (h.0, next h.1)
    go false e h next = (other j.stamped.event (λ z. (let same : j.at ≡ n = sym at.0 ∙ z in let y : is_node n n ≡ false = subst (λ k. is_node k n ≡ false) same e in let x : true ≡ false = sym (node_self n) ∙ y in let w : ⊥ = cc x in w)), next h)

-- an event at another node is another event
other_event : (e : Event) (n : NodeId) → at_node e ≡ n → (k : Event) → (at_node k ≡ n → ⊥) → DoesNotRepeat e k
other_event (event.Kill m) n at k h = λ e. h (ap at_node e ∙ at)
other_event (event.AskStop m) n at k h = λ e. h (ap at_node e ∙ at)
other_event (event.AskBack m) n at k h = λ e. h (ap at_node e ∙ at)
other_event (event.Take l i) n at k h = tt
other_event (event.Work m) n at k h = tt
other_event event.Make n at k h = tt
other_event (event.Pull from to) n at k h = tt

once_front : (n : NodeId) (j : Logged) (js : List Logged) → HappenOnce (history_events (log_of n (j ∷ js))) → HappenOnce (history_events (log_of n js))
once_front n j js h = go (is_node j.at n) h
  where
    go : (c : Bool) → HappenOnce (history_events (if c then j.stamped ∷ log_of n js else log_of n js)) → HappenOnce (history_events (log_of n js))
    go true h = h.1
    go false h = h

happen_once : (js : List Logged) → Each (λ j. at_node j.stamped.event ≡ j.at) js → ((n : NodeId) → HappenOnce (history_events (log_of n js))) → HappenOnce (logged_events js)
happen_once [] at h = tt
happen_once (j ∷ js) at h =
    let own : HappenOnce (history_events (log_of j.at (j ∷ js))) = h j.at in
    let mine : HappenOnce (j.stamped.event ∷ history_events (log_of j.at js)) = simp node_self at own in
    (node_each (DoesNotRepeat j.stamped.event) j.at js at.1 (other_event j.stamped.event j.at at.0) mine.0, happen_once js at.1 (λ n. once_front n j js (h n)))

-- each event of a log is at its node
at_their_nodes : (js : List Logged) → ((n : NodeId) → Each (λ h. at_node h.event ≡ n) (log_of n js)) → Each (λ j. at_node j.stamped.event ≡ j.at) js
at_their_nodes [] h = tt
at_their_nodes (j ∷ js) h =
    let own : Each (λ h. at_node h.event ≡ j.at) (log_of j.at (j ∷ js)) = h j.at in
    let mine : Each (λ h. at_node h.event ≡ j.at) (j.stamped ∷ log_of j.at js) = simp node_self at own in
    (mine.0, at_their_nodes js (λ n. later n (is_node j.at n) (h n)))
  where
    later : (n : NodeId) (c : Bool) → Each (λ h. at_node h.event ≡ n) (if c then j.stamped ∷ log_of n js else log_of n js) → Each (λ h. at_node h.event ≡ n) (log_of n js)
    later n true h = h.1
    later n false h = h

-- ---- each event is allowed

module _ (plan : PlanView) (inputs : List Input) (N : Event → Node → Type 0) (arrived : NodeId → Arrivals) (sent : NodeId → NodeId → List Packet) (history : NodeId → List Stamped) where
  -- what a node knows of its numbers before its next event holds in the state that the front before it reaches
  next_met : ((n : NodeId) → MeetsBeforeEach (flow_of plan inputs) (BodyStands plan inputs) (Asks (flow_of plan inputs)) N n (arrived n) (sent n) (history n)) → (j : Logged) (front rest : List Logged) → at_node j.stamped.event ≡ j.at →
      (r : IsLegalLog plan inputs arrived sent history front (j ∷ rest)) → N j.stamped.event (r.reached.nodes (at_node j.stamped.event))
  next_met met j front rest at r =
      let n = j.at in
      let f = flow_of plan inputs in
      let x : IsReplayedTo plan inputs n (course_of (arrived n) (sent n) (history n)) (course_of (arrived n) (sent n) (j.stamped ∷ log_of n rest)) r.reached =
      subst (λ hs. IsReplayedTo plan inputs n (course_of (arrived n) (sent n) (history n)) (course_of (arrived n) (sent n) hs) r.reached) (mine (is_node n n) (node_self n)) (r.replayed n) in
      let z = met n x.before (moment_of (arrived n) (sent n) j.stamped) (course_of (arrived n) (sent n) (log_of n rest)) x.whole x.acts x.acts_for x.asked in
      subst (λ k. N j.stamped.event (r.reached.nodes k)) (sym at) (subst (StandsAt f (BodyStands plan inputs) (Asks f) (N j.stamped.event)) x.replayed z)
    where
      mine : (c : Bool) → c ≡ true → (if c then j.stamped ∷ log_of j.at rest else log_of j.at rest) ≡ j.stamped ∷ log_of j.at rest
      mine true e = refl
      mine false e = let z : ⊥ = cc e in absurd z

pub logs_within : LogsAreWithin
logs_within plan inputs h script arrived sent history truth within links log l = record {
  allowed = walk [] log refl opening refl;
  once = happen_once log here (λ n. subst (λ hs. HappenOnce (history_events hs)) (sym (l.whole n)) (within n).once);
}
  where
    f : Flow
    f = flow_of plan inputs

    here : Each (λ j. at_node j.stamped.event ≡ j.at) log
    here = at_their_nodes log (λ n. subst (Each (λ h. at_node h.event ≡ n)) (sym (l.whole n)) (truth n).here)

    walk : (front rest : List Logged) → front ++ rest ≡ log → (s : State) → Leads (flow_of plan inputs) opening (logged_events front) s → AreAllowed (flow_of plan inputs) script (logged_events rest) (Ok s)
    walk front [] e s leads = tt
    walk front (j ∷ rest) e s leads = (
      allowed,
      go (step (flow_of plan inputs) s j.stamped.event) refl (λ t q. walk (front ++ j ∷ []) rest (append_assoc front (j ∷ []) rest ∙ e) t
          (subst (λ es. Leads (flow_of plan inputs) opening es t) (sym (logged_append front (j ∷ []))) (leads_join (flow_of plan inputs) opening s t (logged_events front) (j.stamped.event ∷ []) leads q))),
    )
      where
        r : IsLegalLog plan inputs arrived sent history front (j ∷ rest)
        r = run_law plan inputs arrived sent history h truth links log l front (j ∷ rest) e

        at_j : at_node j.stamped.event ≡ j.at
        at_j = (each_after front (subst (Each (λ j. at_node j.stamped.event ≡ j.at)) (sym e) here)).0
          where
            each_after : (xs : List Logged) → Each (λ j. at_node j.stamped.event ≡ j.at) (xs ++ j ∷ rest) → Each (λ j. at_node j.stamped.event ≡ j.at) (j ∷ rest)
            each_after [] h = h
            each_after (x ∷ xs) h = each_after xs h.1

        allowed : IsAllowedAt script j.stamped.event (s.nodes (at_node j.stamped.event))
        allowed = subst (λ t. IsAllowedAt script j.stamped.event (t.nodes (at_node j.stamped.event))) (leads_one (flow_of plan inputs) opening r.reached s (logged_events front) r.legal.leads leads)
            (next_met plan inputs (IsAllowedAt script) arrived sent history (λ n. (within n).allowed) j front rest at_j r)

        go : (q : Result State Refusal) → step (flow_of plan inputs) s j.stamped.event ≡ q → ((t : State) → step (flow_of plan inputs) s j.stamped.event ≡ Ok t → AreAllowed (flow_of plan inputs) script (logged_events rest) (Ok t)) →
            AreAllowed (flow_of plan inputs) script (logged_events rest) q
        go (Ok t) q next = next t q
        go (Err x) q next = none rest
          where
            none : (js : List Logged) → AreAllowed (flow_of plan inputs) script (logged_events js) (Err x)
            none [] = tt
            none (j ∷ js) = tt
