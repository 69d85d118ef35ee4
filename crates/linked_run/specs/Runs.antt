-- What nodes leave that are linked: the joint course of their histories is legal and within the script, and each of them stands for its
-- numbers in the state that it reaches.
use Rattle.std.specs.Prelude.{◌≡◌, ◌<◌, ◌||◌, ℕ, Bool, false, length, map, slice_get, List, [], ◌∷◌, Option, None, Some, if◌then◌else◌, is_some}
use Rattle.std.specs.Option.{option_or}
use mathlib.Core.List.{IsPrefix}
use Rattle.flux_link.specs.Arrivals.{WasSent}
use Rattle.tuple_edge.specs.Input.{Input}
use Rattle.tuple_edge.specs.declared.event.Stamped.{Stamped}
use Rattle.tuple_edge.specs.declared.node.NodeId.{NodeId}
use Rattle.tuple_edge.specs.declared.row.Row.{Row}
use Rattle.event_log.specs.Views.{LogView}
use Rattle.plan_reader.specs.PlanView.{PlanView}
use Rattle.pair_machine.specs.Counts.{flow_of}
use Rattle.pair_machine.specs.Courses.{Pairwise}
use Rattle.pair_machine.specs.Joint.{AreRising, IsLog, Logged, logged_events}
use Rattle.pair_machine.specs.Legal.{IsLegal}
use Rattle.pair_machine.specs.Lists.{Among, Each}
use Rattle.pair_machine.specs.Machine.{State}
use Rattle.pair_machine.specs.Numbers.{Node, is_node}
use Rattle.pair_machine.specs.Scripts.{AreWithin}
use Rattle.pair_machine.specs.Sound.{IsSound}
use Rattle.pair_machine.specs.declared.order.Order.{Order}
use Rattle.run_node.specs.Ends.{InLink, emitted_to}
use Rattle.run_node.specs.NodeView.{NodeName, NodeView}
use Rattle.run_node.specs.declared.part.Part.{Part}

-- ---- what is left of nodes: their own parts, each with its history

-- the history of the first node with an id; of a node that isn't there nothing happened
abbrev pub history_in : {A : Type 0} → (A → NodeId) → List (A × List Stamped) → NodeId → List Stamped
history_in id [] n = []
history_in id (p ∷ ps) n = if is_node (id p.0) n then p.1 else history_in id ps n

-- the ids of these parts, in order
abbrev pub ids_in : {A : Type 0} → (A → NodeId) → List (A × List Stamped) → List NodeId
ids_in id parts = map (λ p. id p.0) parts

-- these may be the inputs, as far as each of these parts knows
abbrev pub AllAdmit : {A : Type 0} → (A → List Input → Type 0) → List Input → List (A × List Stamped) → Type 0
AllAdmit admits inputs parts = Each (λ p. admits p.0 inputs) parts

module _ {A : Type 0} (id : A → NodeId) (stands : PlanView → List Input → A → Node → Type 0) (plan : PlanView) (inputs : List Input) (script : List Order) where
  -- the events of all histories, in the order of their clocks, are legal and within the script, and lead to a sound state in which each node
  -- stands for its numbers
  pub record IsReached (parts : List (A × List Stamped)) (log : List Logged) : Type 0 where
    pub reached : State
    pub legal : IsLegal (flow_of plan inputs) (logged_events log) reached
    pub within : AreWithin (flow_of plan inputs) script (logged_events log)
    pub sound : IsSound (flow_of plan inputs) reached
    pub stand : Each (λ p. stands plan inputs p.0 (reached.nodes (id p.0))) parts

  -- every log of these histories reaches a state in which each node stands for its numbers
  abbrev pub IsJointCourse : List (A × List Stamped) → Type 0
  IsJointCourse parts = (log : List Logged) → IsLog (history_in id parts) log → IsReached parts log

  -- these nodes are left, in this order, with rising clocks; their joint course is legal, and they stand for the numbers after it
  pub record IsRun (ids : List NodeId) (parts : List (A × List Stamped)) : Type 0 where
    pub nodes : ids_in id parts ≡ ids
    pub rising : Each (λ p. AreRising p.1) parts
    pub joint : IsJointCourse parts

-- the parts that a run leaves
abbrev pub parts_in : {A K : Type 0} → (K → LogView) → List (Part A K) → List (A × List Stamped)
parts_in kept [] = []
parts_in kept (p ∷ ps) = (p.state, (kept p.history).entries) ∷ parts_in kept ps

-- a tap gave on the first of the rows that one of these parts emitted
abbrev pub TapOfSome : {A T : Type 0} → (T → List Row) → (A → List Row) → Option T → List (A × List Stamped) → Type 0
TapOfSome given rows None parts = Unit {0}
TapOfSome given rows (Some t) parts = (p : _) × Among p parts × IsPrefix (given t) (rows p.0)

-- the last of the taps that nodes have
abbrev pub last_tap : {T : Type 0} → List (Option T) → Option T
last_tap [] = None
last_tap (o ∷ os) = option_or (last_tap os) o

-- Each of these parts fits the tap that its node has, of which the last one is left.
pub record FitTheirTaps {A T : Type 0} (Fits : Option T → A → Type 0) (tapped : List Bool) (left : Option T) (parts : List (A × List Stamped)) : Type 0 where
  pub taps : List (Option T)
  pub whose : map is_some taps ≡ tapped
  pub last : left ≡ last_tap taps
  pub fit : Pairwise (λ tap p. Fits tap p.0) taps parts

-- which of these nodes have a tap
abbrev pub taps_of : List NodeName → List Bool
taps_of names = map (λ n. n.tapped) names

-- whether one of these nodes has a tap
abbrev pub any_tapped : List NodeName → Bool
any_tapped [] = false
any_tapped (n ∷ ns) = n.tapped || any_tapped ns

-- ---- nodes in one hand

module _ {A T : Type 0} (id : A → NodeId) where
  -- the first node with an id
  abbrev pub view_at : List (NodeView A T) → NodeId → Option (NodeView A T)
  view_at [] n = None
  view_at (v ∷ vs) n = if is_node (id v.state) n then Some v else view_at vs n

  -- all that this in-link of a node gave was sent to it on its link
  pub record IsSettled (views : List (NodeView A T)) (me : NodeId) (l : InLink) : Type 0 where
    pub sender : NodeView A T
    pub there : view_at views l.from ≡ Some sender
    pub sent : Each (WasSent (emitted_to sender.outs me)) l.given

  -- what all nodes took was sent
  abbrev pub AreSettled : List (NodeView A T) → List (NodeView A T) → Type 0
  AreSettled all views = Each (λ v. Each (IsSettled all (id v.state)) v.ins) views

  -- the own part of each node, with its history
  abbrev pub parts_of : List (NodeView A T) → List (A × List Stamped)
  parts_of [] = []
  parts_of (v ∷ vs) = (v.state, v.history) ∷ parts_of vs

  -- the first node with an id stands at this place
  pub record IsFirstWith (views : List (NodeView A T)) (n : NodeId) (place : ℕ) : Type 0 where
    pub within : place < length views
    pub found : (v : NodeView A T) → slice_get views place ≡ Some v → view_at views n ≡ Some v
