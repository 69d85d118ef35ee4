use Rattle.std.proofs.Common.{◌≡◌, None, List}
use Rattle.tuple_edge.specs.Input.{Input}
use Rattle.ingress_egress.specs.IngressStands.{AreCome, IsOfPlan, StandsFor}
use Rattle.pair_machine.specs.Numbers.{Node}
use Rattle.plan_reader.specs.PlanView.{PlanView}
use Rattle.partition_runner.specs.Feeds.{IsSupplied}
use Rattle.partition_runner.proofs.supply.OptionSupplyFeed.refill.Given as goal

abbrev pub invariant-loop : goal.invariant-loop
invariant-loop g l = record {
  supplied : IsSupplied g.S.Source.gave g.S.Source.ended l.supply l.node;
  none : l.supply.held ≡ None;
  inputs : (inputs : List Input) → AreCome l.node.ended l.node.inputs inputs → AreCome l.initial.node.ended l.initial.node.inputs inputs;
  stands : (plan : PlanView) (inputs : List Input) (x : Node) → AreCome l.node.ended l.node.inputs inputs → StandsFor plan inputs l.initial.node x → StandsFor plan inputs l.node x;
  of_plan : (plan : PlanView) → IsOfPlan plan l.initial.node → IsOfPlan plan l.node;
}
