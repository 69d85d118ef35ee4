-- How a core opens: each node of the plan in its numbers at the start, under its name, and nothing sent.
use Rattle.std.specs.Prelude.{◌≡◌, ◌<◌, ℕ, IsTrue, List, [], Some, slice_get}
use Rattle.tuple_edge.specs.Input.{Input}
use Rattle.plan_reader.specs.Nodes.{has_pair}
use Rattle.plan_reader.specs.PlanView.{PlanView}
use Rattle.pair_machine.specs.Lists.{Each}
use Rattle.trio_machine.specs.Machine.{new_node}
use Rattle.trio_machine.specs.Numbers.{group_size}
use Rattle.trio_machine.specs.declared.node.TrioNode.{TrioNode}
use Rattle.trio_machine.specs.declared.node.TrioNode.TheVariants as node
use Rattle.trio_core.specs.CoreView.{StationView, contents_of, name_of}
use Rattle.trio_core.specs.Stands.{MemberStands}
use Rattle.trio_core.specs.declared.member.Member.{Member}

-- the station of a node under a name, which has sent nothing
abbrev pub new_station : TrioNode → Member → StationView
new_station name m = record { name = name; member = contents_of m; sent = [] }

-- a node stands under its own name for its numbers at the start, and has sent nothing
pub record IsOpen (plan : PlanView) (inputs : List Input) (at : StationView) : Type 0 where
  pub name : name_of at.member ≡ at.name
  pub member : MemberStands plan inputs at.member (new_node at.name)
  pub sent : at.sent ≡ []

-- each of these stations is as it opens, over these inputs
abbrev pub AreOpen : PlanView → List Input → List StationView → Type 0
AreOpen plan inputs stations = Each (IsOpen plan inputs) stations

-- one of the stations is that of a node
pub record HasStation (n : TrioNode) (stations : List StationView) : Type 0 where
  pub place : ℕ
  pub at : StationView
  pub there : slice_get stations place ≡ Some at
  pub name : at.name ≡ n

-- the three replicas and the controller of a group are there
pub record HasGroup (stations : List StationView) (stage part : ℕ) : Type 0 where
  pub replica : (c : ℕ) → c < group_size → HasStation (node.Replica stage part c) stations
  pub control : HasStation (node.Control stage part) stations

-- every node of a plan is there
pub record HasAll (plan : PlanView) (stations : List StationView) : Type 0 where
  pub ingress : HasStation node.Ingress stations
  pub groups : (stage part : ℕ) → IsTrue (has_pair plan stage part) → HasGroup stations stage part
  pub egress : HasStation node.Egress stations

-- stations as they open joined others, which stay
pub record HaveMore (plan : PlanView) (before after : List StationView) : Type 0 where
  pub opens : (inputs : List Input) → AreOpen plan inputs before → AreOpen plan inputs after
  pub stays : (n : TrioNode) → HasStation n before → HasStation n after
