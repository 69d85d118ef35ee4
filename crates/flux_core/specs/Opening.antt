-- How a core opens: its nodes in their numbers at the start, and nothing sent.
use Rattle.std.specs.Prelude.{◌≡◌, false, List, [], map}
use Rattle.tuple_edge.specs.Input.{Input}
use Rattle.plan_reader.specs.PlanView.{PlanView}
use Rattle.pair_machine.specs.Lists.{Each}
use Rattle.pair_machine.specs.Machine.{new_node}
use Rattle.plan_nodes.specs.States.{AllCame, StandsFor, contents_of, gone_of, id_of}
use Rattle.plan_nodes.specs.declared.state.NodeState.{NodeState}
use Rattle.flux_core.specs.CoreView.{CoreView, StationView, core_of}

-- the station of a node that has sent nothing
abbrev pub new_station : NodeState → StationView
new_station s = record { node = contents_of s; sent = [] }

-- these nodes, with no packet ever sent
abbrev pub bare_core : PlanView → List NodeState → CoreView
bare_core plan nodes = core_of plan false (map new_station nodes)

-- a node stands for its numbers at the start, all its inputs came to it, and it handed no row on
pub record OpensSo (plan : PlanView) (inputs : List Input) (s : NodeState) : Type 0 where
  pub stands : StandsFor plan inputs s (new_node (id_of s))
  pub came : AllCame s
  pub gone : gone_of s ≡ []

-- so does each of these
abbrev pub AreOpen : PlanView → List Input → List NodeState → Type 0
AreOpen plan inputs nodes = Each (OpensSo plan inputs) nodes
