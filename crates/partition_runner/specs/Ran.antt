-- What a run gives.
use Rattle.std.specs.Prelude.{◌≡◌, List, [], ◌∷◌, if◌then◌else◌, map}
use Rattle.tuple_edge.specs.Input.{Input}
use Rattle.tuple_edge.specs.declared.event.History.{History}
use Rattle.tuple_edge.specs.declared.event.Stamped.{Stamped}
use Rattle.tuple_edge.specs.declared.node.NodeId.{NodeId}
use Rattle.tuple_edge.specs.declared.node.NodeId.TheVariants as node
use Rattle.tuple_edge.specs.declared.row.Row.{Row}
use Rattle.event_log.specs.Views.{LogView, named_histories, named_logs}
use Rattle.plan_reader.specs.PlanView.{PlanView}
use Rattle.pair_machine.specs.Counts.{flow_of}
use Rattle.pair_machine.specs.Joint.{AreDistinct, AreRising, IsLog, Logged, logged_events}
use Rattle.pair_machine.specs.Legal.{IsLegal}
use Rattle.pair_machine.specs.Lists.{Each}
use Rattle.pair_machine.specs.Machine.{State}
use Rattle.pair_machine.specs.Numbers.{is_node}
use Rattle.pair_machine.specs.Scripts.{AreWithin}
use Rattle.pair_machine.specs.declared.order.Order.{Order}
use Rattle.plan_nodes.specs.NodeOrder.{nodes_of}
use Rattle.plan_nodes.specs.States.{AllCame, StandsFor, gone_of, id_of, rows_of}
use Rattle.plan_nodes.specs.declared.state.NodeState.{NodeState}
use Rattle.partition_runner.specs.declared.ran.Left.{Left}
use Rattle.partition_runner.specs.declared.ran.Ran.{Ran}

-- the rows that egress emitted, as it is among these nodes
abbrev pub emitted_in : List NodeState → List Row
emitted_in [] = []
emitted_in (n ∷ nodes) = if is_node (id_of n) node.Egress then rows_of n else emitted_in nodes

-- the history of a node among some, each with its node; of a node that has none there, nothing happened
abbrev pub history_among : {H : Type 0} → (H → NodeId) → (H → List Stamped) → List H → NodeId → List Stamped
history_among node_in entries_in [] n = []
history_among node_in entries_in (h ∷ hs) n = if is_node (node_in h) n then entries_in h else history_among node_in entries_in hs n

-- the same run, with the history of each node as a list
pub record IsToldOf (left : Left LogView) (ran : Ran) : Type 0 where
  pub nodes : ran.nodes.items ≡ left.nodes.items
  pub histories : named_histories ran.histories.items ≡ named_logs left.logs.items

module _ (plan : PlanView) (inputs : List Input) (script : List Order) where
  -- each of the nodes stands for its numbers in a state of the machine
  abbrev pub AllStand : List NodeState → State → Type 0
  AllStand nodes s = Each (λ n. StandsFor plan inputs n (s.nodes (id_of n))) nodes

  -- These events, from the opening on, are legal and within the script, and each node stands for its numbers in the state that they reach.
  pub record ReachesNodes (nodes : List NodeState) (log : List Logged) : Type 0 where
    pub reached : State
    pub legal : IsLegal (flow_of plan inputs) (logged_events log) reached
    pub within : AreWithin (flow_of plan inputs) script (logged_events log)
    pub stand : AllStand nodes reached

  -- What a run leaves, and what happened at each of its nodes, however that is kept. The nodes are those of the plan in their order, and there is
  -- one history for each, with rising clocks. All events in the order of their clocks are legal and within the script, and each node stands for its
  -- numbers in the state that they reach.
  pub record IsLegalCourse {H : Type 0} (node_in : H → NodeId) (entries_in : H → List Stamped) (nodes : List NodeState) (kept : List H) : Type 0 where
    pub histories : map node_in kept ≡ nodes_of plan
    pub distinct : AreDistinct (map node_in kept)
    pub rising : Each (λ h. AreRising (entries_in h)) kept
    pub nodes_are : map id_of nodes ≡ nodes_of plan
    pub joint : (log : List Logged) → IsLog (history_among node_in entries_in kept) log → ReachesNodes nodes log

  -- What a run promises whose inputs came before it began. No more come to its nodes, and each holds all rows that it emitted.
  pub record IsLegalWith {H : Type 0} (node_in : H → NodeId) (entries_in : H → List Stamped) (nodes : List NodeState) (kept : List H) : Type 0 where
    pub course : IsLegalCourse node_in entries_in nodes kept
    pub came : Each AllCame nodes
    pub held : Each (λ n. gone_of n ≡ []) nodes

  -- what is promised of a run whose histories are logs
  abbrev pub IsLegalLeft : Left LogView → Type 0
  IsLegalLeft left = IsLegalWith (λ (l : LogView). l.node) (λ (l : LogView). l.entries) left.nodes.items left.logs.items

  -- what is promised of a run whose histories are lists
  abbrev pub IsLegalRun : Ran → Type 0
  IsLegalRun ran = IsLegalWith (λ (h : History). h.node) (λ (h : History). h.entries.items) ran.nodes.items ran.histories.items

-- what is promised of a run whose histories are kept in some way, as it is where they are logs
abbrev pub IsLegalKept : {K : Type 0} → (K → LogView) → PlanView → List Input → List Order → Left K → Type 0
IsLegalKept {K = K} kept plan inputs script left = IsLegalWith plan inputs script (λ (l : K). (kept l).node) (λ (l : K). (kept l).entries) left.nodes.items left.logs.items
