-- What a plan has for groups is what their machine knows: its nodes, the links that its messages stand on, and the events that are there.
use Rattle.std.specs.Prelude.{◌≡◌, true, List}
use Rattle.tuple_edge.specs.Input.{Input}
use Rattle.plan_reader.specs.PlanView.{PlanView}
use Rattle.trio_machine.specs.Flow.{trio_flow}
use Rattle.trio_machine.specs.Links.{Carries, HasNode, IsThere}
use Rattle.trio_machine.specs.Messages.{Message}
use Rattle.trio_machine.specs.declared.event.TrioEvent.{TrioEvent}
use Rattle.trio_machine.specs.declared.node.TrioNode.{TrioNode}
use Rattle.trio_text.specs.Nodes.{has_trio_link, has_trio_node}
use Rattle.trio_text.specs.Text.{IsNamed}

-- a node is one of the machine just where the plan has it
pub record IsKnown (plan : PlanView) (inputs : List Input) (n : TrioNode) : Type 0 where
  pub there : has_trio_node plan n ≡ true → HasNode (trio_flow plan inputs) n
  pub named : HasNode (trio_flow plan inputs) n → has_trio_node plan n ≡ true

-- the nodes of the machine are the plan's
abbrev pub NodesAreThePlans : Type 0
NodesAreThePlans = (plan : PlanView) (inputs : List Input) (n : TrioNode) → IsKnown plan inputs n

-- a message that a link between nodes of the plan carries stands on a link of the plan
abbrev pub LinksAreThePlans : Type 0
LinksAreThePlans = (plan : PlanView) (inputs : List Input) (from to : TrioNode) (m : Message) → HasNode (trio_flow plan inputs) from → HasNode (trio_flow plan inputs) to
    → Carries (trio_flow plan inputs) from to m → has_trio_link plan from to ≡ true

-- and no link of a plan is there for nothing: each carries some message
abbrev pub LinksCarryMessages : Type 0
LinksCarryMessages = (plan : PlanView) (inputs : List Input) (from to : TrioNode) → has_trio_link plan from to ≡ true → (m : Message) × Carries (trio_flow plan inputs) from to m

-- an event that names what a plan has is there for the machine
abbrev pub NamedEventsAreThere : Type 0
NamedEventsAreThere = (plan : PlanView) (inputs : List Input) (e : TrioEvent) → IsNamed plan e → IsThere (trio_flow plan inputs) e
