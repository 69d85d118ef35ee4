-- The machine's nodes are those of the plan, and its messages stand on the plan's links.
use Rattle.std.specs.Prelude.{◌≡◌, true, List}
use Rattle.tuple_edge.specs.Input.{Input}
use Rattle.tuple_edge.specs.declared.node.LinkId.{LinkId}
use Rattle.tuple_edge.specs.declared.node.NodeId.{NodeId}
use Rattle.plan_reader.specs.Nodes.{has_link, has_node}
use Rattle.plan_reader.specs.PlanView.{IsPlan, PlanView}
use Rattle.pair_machine.specs.Counts.{flow_of}
use Rattle.pair_machine.specs.Links.{Carries, HasNode}
use Rattle.pair_machine.specs.Messages.{Message}

-- a node is one of the machine just where the plan has it
pub record IsNamed (plan : PlanView) (inputs : List Input) (n : NodeId) : Type 0 where
  pub there : has_node plan n ≡ true → HasNode (flow_of plan inputs) n
  pub named : HasNode (flow_of plan inputs) n → has_node plan n ≡ true

-- the machine has the plan's nodes and no others, even where the plan isn't within its limits
abbrev pub NodesAreThePlans : Type 0
NodesAreThePlans = (plan : PlanView) (inputs : List Input) (n : NodeId) → IsNamed plan inputs n

-- a message that a link between nodes of the plan carries stands on a link of the plan
abbrev pub LinksAreThePlans : Type 0
LinksAreThePlans = (plan : PlanView) (inputs : List Input) (l : LinkId) (m : Message) → HasNode (flow_of plan inputs) l.from → HasNode (flow_of plan inputs) l.to
    → Carries (flow_of plan inputs) l m → has_link plan l ≡ true

-- and no link of a plan is there for nothing: each carries some message
abbrev pub LinksCarryMessages : Type 0
LinksCarryMessages = (plan : PlanView) (inputs : List Input) → IsPlan plan → (l : LinkId) → has_link plan l ≡ true → (m : Message) × Carries (flow_of plan inputs) l m
