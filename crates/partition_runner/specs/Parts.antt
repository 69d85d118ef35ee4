-- What a run leaves of its nodes, as it comes off the board: each with its history.
use Rattle.std.specs.Prelude.{◌≡◌, ◌+◌, ◌≤◌, ℕ, List, map, vec_capacity, vec_len}
use Rattle.tuple_edge.specs.declared.event.Stamped.{Stamped}
use Rattle.tuple_edge.specs.declared.node.NodeId.{NodeId}
use Rattle.event_log.specs.Views.{LogView}
use Rattle.plan_nodes.specs.States.{id_of}
use Rattle.plan_nodes.specs.declared.state.NodeState.{NodeState}
use Rattle.partition_runner.specs.declared.ran.Left.{Left}

-- the nodes of parts, in their order
abbrev pub nodes_in : List (NodeState × List Stamped) → List NodeState
nodes_in parts = map (λ (p : NodeState × List Stamped). p.0) parts

-- the histories of parts, each under its node's name, in their order
abbrev pub named_parts : List (NodeState × List Stamped) → List (NodeId × List Stamped)
named_parts parts = map (λ (p : NodeState × List Stamped). (id_of p.0, p.1)) parts

-- histories that are kept in some way, with their names
abbrev pub named_kept : {K : Type 0} → (K → LogView) → List K → List (NodeId × List Stamped)
named_kept {K = K} kept logs = map (λ (l : K). ((kept l).node, (kept l).entries)) logs

-- this is what is left of these parts
pub record IsLeftOf {K : Type 0} (kept : K → LogView) (parts : List (NodeState × List Stamped)) (left : Left K) : Type 0 where
  pub nodes : left.nodes.items ≡ nodes_in parts
  pub logs : named_kept kept left.logs.items ≡ named_parts parts

-- there is room for so many further nodes with their logs
pub record HasRoom {K : Type 0} (more : ℕ) (left : Left K) : Type 0 where
  pub nodes : vec_len left.nodes + more ≤ vec_capacity left.nodes
  pub logs : vec_len left.logs + more ≤ vec_capacity left.logs
