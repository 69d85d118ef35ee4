-- The joint course: the events of all nodes in one list, in the order of their clocks. Where all courses are true and agree, it is
-- legal, and every node stands for its numbers in the state that it reaches.
use Rattle.std.specs.Prelude.{◌≡◌, ◌<◌, ◌≤◌, ◌==◌, Bool, true, false, List, [], ◌∷◌, Ok, if◌then◌else◌, nat_lt}
use Rattle.std.specs.Ordering.{is_le}
use Rattle.tuple_edge.specs.Node.{node_cmp}
use Rattle.tuple_edge.specs.declared.event.Event.{Event}
use Rattle.tuple_edge.specs.declared.event.History.{History}
use Rattle.tuple_edge.specs.declared.event.Stamped.{Stamped}
use Rattle.tuple_edge.specs.declared.node.NodeId.{NodeId}
use Rattle.tuple_edge.specs.declared.packet.Packet.{Packet}
use Rattle.tuple_edge.specs.Input.{Input}
use Rattle.plan_reader.specs.PlanView.{PlanView}
use Rattle.pair_machine.specs.Asked.{Asks}
use Rattle.pair_machine.specs.Contents.{BodyStands}
use Rattle.pair_machine.specs.Counts.{flow_of}
use Rattle.pair_machine.specs.Courses.{ActsFor, AllAsked, Arrivals, Moment, course_of, onto, replay}
use Rattle.pair_machine.specs.Lists.{Among, Each}
use Rattle.pair_machine.specs.Legal.{IsLegal}
use Rattle.pair_machine.specs.Machine.{State}
use Rattle.pair_machine.specs.Messages.{Act, Envelope}
use Rattle.pair_machine.specs.Numbers.{is_node}
use Rattle.pair_machine.specs.Sound.{IsSound}

-- ---- of courses

-- a moment with its node
pub record Stored : Type 0 where
  pub at : NodeId
  pub moment : Moment

-- the moments of one node
abbrev pub of_node : NodeId → List Stored → List Moment
of_node n [] = []
of_node n (s ∷ ss) = if is_node s.at n then s.moment ∷ of_node n ss else of_node n ss

-- clocks rise or stay
abbrev pub AreInOrder : List Stored → Type 0
AreInOrder [] = Unit {0}
AreInOrder (s ∷ ss) = Each (λ t. s.moment.clock ≤ t.moment.clock) ss × AreInOrder ss

-- the events of stored moments alone, as a list that may be legal
abbrev pub events_of : List Stored → List Event
events_of [] = []
events_of (s ∷ ss) = s.moment.event ∷ events_of ss

-- a joint course of all nodes: in the order of clocks, and for each node its course
pub record IsJoint (courses : NodeId → List Moment) (joint : List Stored) : Type 0 where
  pub in_order : AreInOrder joint
  pub whole : (n : NodeId) → of_node n joint ≡ courses n

-- ---- of histories

-- an entry of a history with its node
pub record Logged : Type 0 where
  pub at : NodeId
  pub stamped : Stamped

-- the entries of one node, in the order of the log
abbrev pub log_of : NodeId → List Logged → List Stamped
log_of n [] = []
log_of n (j ∷ js) = if is_node j.at n then j.stamped ∷ log_of n js else log_of n js

-- the events of a log alone, as a list that may be legal
abbrev pub logged_events : List Logged → List Event
logged_events [] = []
logged_events (j ∷ js) = j.stamped.event ∷ logged_events js

-- the clocks in a log rise or stay
abbrev pub ClocksRise : List Logged → Type 0
ClocksRise [] = Unit {0}
ClocksRise (j ∷ js) = Each (λ k. j.stamped.clock ≤ k.stamped.clock) js × ClocksRise js

-- the log of all nodes: in the order of clocks, and for each node its history
pub record IsLog (history : NodeId → List Stamped) (log : List Logged) : Type 0 where
  pub in_order : ClocksRise log
  pub whole : (n : NodeId) → log_of n log ≡ history n

-- ---- the log of given histories

-- whether an entry comes before another: by their clocks, and of one clock by the order of nodes
abbrev pub comes_before : Logged → Logged → Bool
comes_before j k =
    if nat_lt j.stamped.clock k.stamped.clock then true
    else if j.stamped.clock == k.stamped.clock then is_le (node_cmp j.at k.at) else false

-- an entry put into a log, where it comes before the next one
abbrev pub put_in : Logged → List Logged → List Logged
put_in j [] = j ∷ []
put_in j (k ∷ ks) = if comes_before j k then j ∷ k ∷ ks else k ∷ put_in j ks

-- a node's history put into a log
abbrev pub put_history : NodeId → List Stamped → List Logged → List Logged
put_history n [] log = log
put_history n (h ∷ hs) log = put_in (record { at = n; stamped = h }) (put_history n hs log)

-- the histories of some nodes, in one log
abbrev pub log_by_clocks : (NodeId → List Stamped) → List NodeId → List Logged
log_by_clocks history [] = []
log_by_clocks history (n ∷ ns) = put_history n (history n) (log_by_clocks history ns)

-- a node's clocks rise
abbrev pub AreRising : List Stamped → Type 0
AreRising [] = Unit {0}
AreRising (h ∷ hs) = Each (λ k. h.clock < k.clock) hs × AreRising hs

-- no node stands twice among these
abbrev pub AreDistinct : List NodeId → Type 0
AreDistinct [] = Unit {0}
AreDistinct (n ∷ ns) = (Among n ns → ⊥) × AreDistinct ns

-- nodes that differ, whose clocks rise; all other nodes have no history
pub record AreHistories (nodes : List NodeId) (history : NodeId → List Stamped) : Type 0 where
  pub distinct : AreDistinct nodes
  pub rising : (n : NodeId) → AreRising (history n)
  pub others : (n : NodeId) → (Among n nodes → ⊥) → history n ≡ []

-- the history of a node among these; of a node that has none there, nothing happened
abbrev pub history_of : List History → NodeId → List Stamped
history_of [] n = []
history_of (h ∷ histories) n = if is_node h.node n then h.entries.items else history_of histories n

-- ---- what the law says

-- a node's replay up to what comes later of its course, of messages for which the packets that it took stand, gives its numbers in the state
pub record IsReplayedTo (plan : PlanView) (inputs : List Input) (n : NodeId) (course later : List Moment) (t : State) : Type 0 where
  pub before : List Moment
  pub acts : List Act
  pub sent : List Envelope
  pub whole : onto before later ≡ course
  pub acts_for : ActsFor (flow_of plan inputs) (BodyStands plan inputs) (Asks (flow_of plan inputs)) n before acts
  pub asked : AllAsked (flow_of plan inputs) (BodyStands plan inputs) (Asks (flow_of plan inputs)) n acts
  pub replayed : replay (flow_of plan inputs) n acts ≡ Ok (t.nodes n, sent)

-- A front of the joint course, before the rest of it, is legal, and each node's replay up to there gives its numbers in the state that the
-- front reaches, which is sound.
pub record IsLegalJoint (plan : PlanView) (inputs : List Input) (courses : NodeId → List Moment) (front rest : List Stored) : Type 0 where
  pub reached : State
  pub legal : IsLegal (flow_of plan inputs) (events_of front) reached
  pub sound : IsSound (flow_of plan inputs) reached
  pub replayed : (n : NodeId) → IsReplayedTo plan inputs n (courses n) (of_node n rest) reached

-- the same of a front of the log of all nodes
pub record IsLegalLog (plan : PlanView) (inputs : List Input) (arrived : NodeId → Arrivals) (sent : NodeId → NodeId → List Packet) (history : NodeId → List Stamped) (front rest : List Logged) : Type 0 where
  pub reached : State
  pub legal : IsLegal (flow_of plan inputs) (logged_events front) reached
  pub sound : IsSound (flow_of plan inputs) reached
  pub replayed : (n : NodeId) → IsReplayedTo plan inputs n (course_of (arrived n) (sent n) (history n)) (course_of (arrived n) (sent n) (log_of n rest)) reached
