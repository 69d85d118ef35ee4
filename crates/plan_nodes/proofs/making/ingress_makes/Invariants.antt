use Rattle.std.proofs.Common.{List}
use Rattle.std.specs.Prelude.{◌↔◌}
use Rattle.tuple_edge.specs.Input.{Input}
use Rattle.plan_reader.specs.PlanView.{PlanView}
use Rattle.plan_nodes.specs.States.{Admits, HasMade, IsOfPlan}
use Rattle.plan_nodes.specs.declared.state.NodeState.TheVariants as state
use Rattle.plan_nodes.proofs.making.ingress_makes.Given as goal

abbrev pub invariant-loop-done : goal.invariant-loop-done
invariant-loop-done l = record {
  made : HasMade l.fn.plan (state.Ingress l.fn.node) (state.Ingress l.node) l.done;
  came : (inputs : List Input) → Admits (state.Ingress l.node) inputs ↔ Admits (state.Ingress l.fn.node) inputs;
  of_plan : (plan : PlanView) → IsOfPlan plan (state.Ingress l.fn.node) → IsOfPlan plan (state.Ingress l.node);
}
