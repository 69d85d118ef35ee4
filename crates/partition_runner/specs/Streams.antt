-- What a run gives to which inputs come while it goes on, and from which rows go.
use Rattle.std.specs.Prelude.{◌≡◌, Bool, List, Some}
use mathlib.Core.List.{IsPrefix}
use Rattle.tuple_edge.specs.Input.{Input}
use Rattle.tuple_edge.specs.declared.node.NodeId.TheVariants as node
use Rattle.tuple_edge.specs.declared.row.Row.{Row}
use Rattle.event_log.specs.Views.{LogView}
use Rattle.ingress_egress.specs.EgressView.{EgressView}
use Rattle.ingress_egress.specs.IngressView.{IngressView}
use Rattle.plan_reader.specs.PlanView.{PlanView}
use Rattle.pair_machine.specs.Output.{output}
use Rattle.pair_machine.specs.declared.order.Order.{Order}
use Rattle.plan_nodes.specs.declared.state.NodeState.{NodeState}
use Rattle.plan_nodes.specs.declared.state.NodeState.TheVariants as state
use Rattle.partition_runner.specs.Feeds.{CameIn, IsGivenBy, MayBeInputs, came_to, node_among}
use Rattle.partition_runner.specs.Ran.{IsLegalCourse}
use Rattle.partition_runner.specs.declared.streams.StreamLeft.{StreamLeft}

-- What is promised of a run to whose ingress a source gave these inputs, and whether it said that they are all. What came to ingress is what the source gave, but for
-- what is held. Whatever the inputs are with which those that came begin, the nodes and their histories are what a run leaves whose inputs these are.
pub record IsLegalStream (plan : PlanView) (script : List Order) (gave : List Input) (ended : Bool) (l : StreamLeft) : Type 0 where
  pub ingress : IngressView
  pub there : node_among l.left.nodes.items node.Ingress ≡ Some (state.Ingress ingress)
  pub came : IsGivenBy gave ended (came_to ingress l.held)
  pub told : l.ended ≡ ingress.ended
  pub legal : (inputs : List Input) → MayBeInputs (came_to ingress l.held) inputs
      → IsLegalCourse plan inputs script (λ (log : LogView). log.node) (λ (log : LogView). log.entries) l.left.nodes.items l.left.logs.items

-- these rows were handed on by egress, as it is among these nodes: they are the first that it emitted, and it holds the others
pub record AreHandedOn (rows : List Row) (nodes : List NodeState) : Type 0 where
  pub egress : EgressView
  pub there : node_among nodes node.Egress ≡ Some (state.Egress egress)
  pub gone : rows ≡ egress.gone
  pub front : IsPrefix egress.gone egress.emitted

-- these rows begin the output of each list of inputs that may be those of a run to which a source gave these, whether or not it said that they are all
pub record BeginOutput (plan : PlanView) (gave : List Input) (ended : Bool) (rows : List Row) : Type 0 where
  pub came : CameIn
  pub given : IsGivenBy gave ended came
  pub front : (inputs : List Input) → MayBeInputs came inputs → IsPrefix rows (output plan inputs)
