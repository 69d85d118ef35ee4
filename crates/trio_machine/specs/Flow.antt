-- What a plan and its inputs say in numbers where each partition has three replicas: the flow of pairs with another number of replicas.
-- Ingress has one source.
use Rattle.std.specs.Prelude.{◌≡◌, ℕ, List}
use Rattle.tuple_edge.specs.Input.{Input}
use Rattle.plan_reader.specs.PlanView.{IsPlan, PlanView}
use Rattle.pair_machine.specs.Counts.{flow_of}
use Rattle.pair_machine.specs.Flow.{Flow, IsFlow}
use Rattle.trio_machine.specs.Numbers.{group_size}

-- a flow where each partition has so many replicas
abbrev pub with_replicas : ℕ → Flow → Flow
with_replicas n f = record f { replicas = n }

-- a plan and its inputs in numbers, where its partitions are groups of three
abbrev pub trio_flow : PlanView → List Input → Flow
trio_flow plan inputs = with_replicas group_size (flow_of plan inputs)

-- a plan within its limits, of one source
pub record IsTrioPlan (plan : PlanView) : Type 0 where
  pub within : IsPlan plan
  pub one_source : plan.version ≡ 1

-- what holds of the numbers of every such plan, whatever the inputs
pub record IsTrioFlow (f : Flow) : Type 0 where
  pub flow : IsFlow f
  pub three : f.replicas ≡ group_size
  pub one_source : f.sources 1 ≡ 1
