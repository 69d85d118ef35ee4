-- What holds of the pair machine, for every plan within its limits, all inputs and every list of events.
use Rattle.std.specs.Prelude.{◌≡◌, ◌++◌, List, Ok}
use Rattle.tuple_edge.specs.declared.event.Event.{Event}
use Rattle.tuple_edge.specs.declared.event.Stamped.{Stamped}
use Rattle.tuple_edge.specs.declared.node.NodeId.{NodeId}
use Rattle.tuple_edge.specs.declared.packet.Packet.{Packet}
use Rattle.tuple_edge.specs.Input.{Input}
use Rattle.plan_reader.specs.PlanView.{IsPlan, PlanView}
use Rattle.pair_machine.specs.Asked.{Asks, TakenAsks}
use Rattle.pair_machine.specs.Contents.{BodyStands}
use Rattle.pair_machine.specs.Counts.{flow_of}
use Rattle.pair_machine.specs.Courses.{Agree, Arrivals, IsSentAtItsIndex, IsTrueCourse, IsTrueHistory, IsTrueNode, Moment}
use Rattle.pair_machine.specs.Joint.{AreHistories, IsJoint, IsLegalJoint, IsLegalLog, IsLog, Logged, Stored, log_by_clocks, logged_events}
use Rattle.pair_machine.specs.Legal.{AreServedThroughout, IsLegal, IsOwedThroughout}
use Rattle.pair_machine.specs.Lengths.{NodeBound}
use Rattle.pair_machine.specs.Links.{HasNode, IsThere, link}
use Rattle.pair_machine.specs.Lists.{Among}
use Rattle.pair_machine.specs.Machine.{State, opening, step}
use Rattle.pair_machine.specs.Messages.{Message}
use Rattle.pair_machine.specs.Numbers.{Node}
use Rattle.pair_machine.specs.Scripts.{AreWithin, IsSafe}
use Rattle.pair_machine.specs.Sound.{IsOwed, IsSound}
use Rattle.pair_machine.specs.Within.{IsWithinScript}
use Rattle.pair_machine.specs.declared.order.Order.{Order}

-- ---- soundness

-- the state before the first event is sound, whatever the inputs are
abbrev pub TheOpeningIsSound : Type 0
TheOpeningIsSound = (plan : PlanView) (inputs : List Input) → IsPlan plan → IsSound (flow_of plan inputs) opening

-- every step keeps Sound, from any sound state, whether pairs are lost or not
abbrev pub StepsKeepSound : Type 0
StepsKeepSound = (plan : PlanView) (inputs : List Input) → IsPlan plan → (s t : State) (e : Event) → IsThere (flow_of plan inputs) e → IsSound (flow_of plan inputs) s
    → step (flow_of plan inputs) s e ≡ Ok t → IsSound (flow_of plan inputs) t

-- in a sound state the buffers hold what takeover owes
abbrev pub SoundStatesOwe : Type 0
SoundStatesOwe = (plan : PlanView) (inputs : List Input) → IsPlan plan → (s : State) → IsSound (flow_of plan inputs) s → IsOwed (flow_of plan inputs) s

-- so they hold it in every state along a legal list of events
abbrev pub TakeoverIsOwed : Type 0
TakeoverIsOwed = (plan : PlanView) (inputs : List Input) → IsPlan plan → (es : List Event) (t : State) → IsLegal (flow_of plan inputs) es t → IsOwedThroughout (flow_of plan inputs) es

-- a sound state gives what a node's step asks of the node's numbers, and of each message that was sent to it
pub record GivesWhatIsAsked (plan : PlanView) (inputs : List Input) (s : State) : Type 0 where
  pub nodes : (n : NodeId) → NodeBound (flow_of plan inputs) n (s.nodes n)
  pub messages : (n from : NodeId) (m : Message) → HasNode (flow_of plan inputs) n → Among m (s.sent (link from n)) → TakenAsks (flow_of plan inputs) n (s.nodes n) from m

-- every sound state, also one to which no events lead, gives each node what its step asks
abbrev pub SoundStatesGiveWhatIsAsked : Type 0
SoundStatesGiveWhatIsAsked = (plan : PlanView) (inputs : List Input) → IsPlan plan → (s : State) → IsSound (flow_of plan inputs) s → GivesWhatIsAsked plan inputs s

-- ---- scripts

-- in every state along a legal list of events within a safe script a counted replica of each pair runs
abbrev pub NoPairIsLost : Type 0
NoPairIsLost = (plan : PlanView) (inputs : List Input) → IsPlan plan → (script : List Order) → IsSafe script → (es : List Event) (t : State) → IsLegal (flow_of plan inputs) es t
    → AreWithin (flow_of plan inputs) script es → AreServedThroughout (flow_of plan inputs) es

-- ---- courses

-- where all courses are true and agree, each front of the joint course is legal, and every node's replay up to there gives its numbers in the state that the front reaches
abbrev pub CoursesAreLegal : Type 0
CoursesAreLegal = (plan : PlanView) (inputs : List Input) → IsPlan plan → (courses : NodeId → List Moment)
    → ((n : NodeId) → IsTrueCourse (flow_of plan inputs) (BodyStands plan inputs) (Asks (flow_of plan inputs)) n (courses n)) → Agree courses
    → (joint : List Stored) → IsJoint courses joint → (front rest : List Stored) → front ++ rest ≡ joint → IsLegalJoint plan inputs courses front rest

-- the same of what nodes keep: where all histories are true, and what came under an index was sent at that place, each front of the log of
-- all events is legal, and every node's replay up to there gives its numbers in the state that the front reaches
abbrev pub LogsAreLegal : Type 0
LogsAreLegal = (plan : PlanView) (inputs : List Input) → IsPlan plan → (arrived : NodeId → Arrivals) (sent : NodeId → NodeId → List Packet) (history : NodeId → List Stamped)
    → ((n : NodeId) → IsTrueHistory (flow_of plan inputs) (BodyStands plan inputs) (Asks (flow_of plan inputs)) n (arrived n) (sent n) (history n))
    → ((from to : NodeId) → IsSentAtItsIndex (arrived to from) (sent from to))
    → (log : List Logged) → IsLog history log → (front rest : List Logged) → front ++ rest ≡ log → IsLegalLog plan inputs arrived sent history front rest

-- where moreover each node's history is within a script, so is the log of all events
abbrev pub LogsAreWithin : Type 0
LogsAreWithin = (plan : PlanView) (inputs : List Input) → IsPlan plan → (script : List Order) (arrived : NodeId → Arrivals) (sent : NodeId → NodeId → List Packet) (history : NodeId → List Stamped)
    → ((n : NodeId) → IsTrueHistory (flow_of plan inputs) (BodyStands plan inputs) (Asks (flow_of plan inputs)) n (arrived n) (sent n) (history n))
    → ((n : NodeId) → IsWithinScript plan inputs script n (arrived n) (sent n) (history n))
    → ((from to : NodeId) → IsSentAtItsIndex (arrived to from) (sent from to))
    → (log : List Logged) → IsLog history log → AreWithin (flow_of plan inputs) script (logged_events log)

-- And a node stands for its numbers in the state that the log reaches: so does each value whose type says for which numbers of a node its values
-- stand, and which keeps that after its history it stands for the numbers of every replay.
abbrev pub NodesStand : {X : Type 0} → (PlanView → List Input → X → Node → Type 0) → Type 0
NodesStand {X} stands = (plan : PlanView) (inputs : List Input) → IsPlan plan → (arrived : NodeId → Arrivals) (sent : NodeId → NodeId → List Packet) (history : NodeId → List Stamped)
    → ((n : NodeId) → IsTrueHistory (flow_of plan inputs) (BodyStands plan inputs) (Asks (flow_of plan inputs)) n (arrived n) (sent n) (history n))
    → ((from to : NodeId) → IsSentAtItsIndex (arrived to from) (sent from to))
    → (log : List Logged) → IsLog history log → (t : State) → IsLegal (flow_of plan inputs) (logged_events log) t
    → (n : NodeId) (x : X) → IsTrueNode (flow_of plan inputs) (BodyStands plan inputs) (Asks (flow_of plan inputs)) n (stands plan inputs x) (arrived n) (sent n) (history n)
    → stands plan inputs x (t.nodes n)

-- there is a log of the histories of nodes that differ, where the clocks of each rise: their entries, by clock and node
abbrev pub LogsAreThere : Type 0
LogsAreThere = (nodes : List NodeId) (history : NodeId → List Stamped) → AreHistories nodes history → IsLog history (log_by_clocks history nodes)
