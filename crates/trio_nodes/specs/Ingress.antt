-- What ingress stands for in the machine of groups.
use Rattle.std.specs.Prelude.{◌≡◌, List, [], Some, slice_get}
use Rattle.tuple_edge.specs.Input.{Input}
use Rattle.tuple_edge.specs.declared.event.Worked.{Worked}
use Rattle.tuple_edge.specs.declared.event.Worked.TheVariants as worked
use Rattle.plan_reader.specs.PlanView.{PlanView}
use Rattle.pair_machine.specs.Boundary.{ingress_source}
use Rattle.pair_machine.specs.Counts.{items_on}
use Rattle.node_edges.specs.OutEdges.{ProducerStands}
use Rattle.trio_machine.specs.Boundary.{source_made}
use Rattle.trio_machine.specs.Flow.{trio_flow}
use Rattle.trio_machine.specs.Machine.{ingress_in}
use Rattle.trio_machine.specs.Messages.{Makes, NoMoreRows, NothingDue, Works}
use Rattle.trio_machine.specs.Numbers.{Node}
use Rattle.trio_machine.specs.declared.body.TrioBody.{TrioBody}
use Rattle.trio_machine.specs.declared.node.TrioNode.{TrioNode}
use Rattle.trio_machine.specs.declared.node.TrioNode.TheVariants as node
use Rattle.trio_nodes.specs.IngressView.{IngressView}
use Rattle.trio_nodes.specs.Steps.{IsRefused, IsStep}

-- ingress stands for a node's numbers: it has the plan's inputs, first stage and mark, and its producer stands for its numbers, where so
-- many items were made as the first makes give
pub record StandsFor (plan : PlanView) (inputs : List Input) (i : IngressView) (x : Node) : Type 0 where
  pub inputs_are : i.inputs ≡ inputs
  pub first : slice_get plan.stages 0 ≡ Some i.first
  pub mark : i.mark ≡ plan.mark
  pub makes : i.makes ≡ (ingress_in x).makes
  pub producer : ProducerStands (trio_flow plan inputs) (items_on plan inputs) (ingress_source 0) (source_made (trio_flow plan inputs) (ingress_in x))
      (ingress_in x).producer i.producer

-- it is ingress of a plan: it has the plan's first stage
abbrev pub IsOfPlan : PlanView → IngressView → Type 0
IsOfPlan plan i = slice_get plan.stages 0 ≡ Some i.first

-- a piece of work; where there was none, nothing was due
abbrev pub IsWorked : PlanView → List Input → IngressView → IngressView → List (TrioNode × TrioBody) → Worked → Type 0
IsWorked plan inputs old new sent worked.Did = IsStep plan inputs node.Ingress (StandsFor plan inputs old) (StandsFor plan inputs new) Works sent
IsWorked plan inputs old new sent worked.Idle = IsRefused plan inputs node.Ingress (StandsFor plan inputs old) Works NothingDue

-- a make; where there was none, all was made
abbrev pub IsMadeIn : PlanView → List Input → IngressView → IngressView → Worked → Type 0
IsMadeIn plan inputs old new worked.Did = IsStep plan inputs node.Ingress (StandsFor plan inputs old) (StandsFor plan inputs new) Makes []
IsMadeIn plan inputs old new worked.Idle = IsRefused plan inputs node.Ingress (StandsFor plan inputs old) Makes NoMoreRows
