-- To whom a node sends: over links of its plan alone.
use Rattle.std.specs.Prelude.{List, IsTrue, drop, length}
use Rattle.tuple_edge.specs.declared.node.NodeId.{NodeId}
use Rattle.tuple_edge.specs.declared.packet.Body.{Body}
use Rattle.plan_reader.specs.Nodes.{has_link}
use Rattle.plan_reader.specs.PlanView.{PlanView}
use Rattle.pair_machine.specs.Links.{link}
use Rattle.pair_machine.specs.Lists.{Each}

-- the packets that a call appended to these
abbrev pub appended : List (NodeId × Body) → List (NodeId × Body) → List (NodeId × Body)
appended before after = drop (length before) after

-- each packet goes from this node over a link of the plan
abbrev pub GoOverLinks : PlanView → NodeId → List (NodeId × Body) → Type 0
GoOverLinks plan from packets = Each (λ (p : NodeId × Body). IsTrue (has_link plan (link from p.0))) packets
