use Rattle.std.proofs.Common.{◌≡◌, ◌∙◌, ◌≤◌, ℕ, List, Result, Ok, Err, sym, subst}
use Rattle.std.specs.Prelude.{IfOk}
use Rattle.tuple_edge.specs.Input.{Input}
use Rattle.tuple_edge.specs.declared.memory.OutOfMemory.{OutOfMemory}
use Rattle.plan_reader.specs.PlanView.{PlanView}
use Rattle.plan_reader.specs.Nodes.{sources_of}
use Rattle.pair_control.specs.ControllerView.{ControllerView}
use Rattle.pair_control.specs.StandsFor.{StandsFor}
use Rattle.pair_machine.specs.Counts.{flow_of}
use Rattle.pair_machine.specs.Flow.{Flow}
use Rattle.pair_machine.specs.Numbers.{Node}
use Rattle.plan_nodes.proofs.Sources.{few_sources, some_sources, sources_at}
use Rattle.replica_node.proofs.Roles.{there_is}
use Rattle.plan_nodes.proofs.opening.control_of.Goals as goal

pub new-requires-clause-some : goal.new-requires-clause-some
new-requires-clause-some c =
    let there = there_is c.args.plan.now c.args.stage c.args.part c.requires in
    subst (λ n. 1 ≤ n) (sym c.sources-edges.ensures) (some_sources c.args.plan.now c.stages-stages.ensures.limits c.args.stage there.0 there.1)

pub new-requires-clause-few : goal.new-requires-clause-few
new-requires-clause-few c =
    let there = there_is c.args.plan.now c.args.stage c.args.part c.requires in
    subst (λ n. n ≤ 8) (sym c.sources-edges.ensures) (few_sources c.args.plan.now c.stages-stages.ensures.limits c.args.stage there.0 there.1)

in_each_plan : (plan : PlanView) (stage edges : ℕ) (x : Node) → edges ≡ sources_of plan stage → (r : Result ControllerView OutOfMemory) → IfOk r (λ c. (f : Flow) → edges ≡ f.sources stage → StandsFor f c x) →
    IfOk r (λ c. (inputs : List Input) → StandsFor (flow_of plan inputs) c x)
in_each_plan plan stage edges x e (Ok c) h = λ inputs. h (flow_of plan inputs) (e ∙ sources_at plan inputs stage)
in_each_plan plan stage edges x e (Err w) h = h

pub returns-clause-stands : goal.returns-clause-stands
returns-clause-stands c = in_each_plan c.args.plan.now c.args.stage c.sources-edges.result _ c.sources-edges.ensures c.new.result c.new.ensures.stands
