-- What came of a task at a node.
use Rattle.std.specs.Prelude.{◌≡◌, ◌≤◌, ◌↔◌, [], List, Result, Ok, OnErr, length}
use mathlib.Core.List.{IsPrefix}
use Rattle.tuple_edge.specs.Input.{Input}
use Rattle.tuple_edge.specs.Limits.{most_packets}
use Rattle.tuple_edge.specs.declared.event.Worked.{Worked}
use Rattle.tuple_edge.specs.declared.event.Worked.TheVariants.{Did, Idle}
use Rattle.tuple_edge.specs.declared.memory.OutOfMemory.{OutOfMemory}
use Rattle.tuple_edge.specs.declared.node.NodeId.{NodeId}
use Rattle.tuple_edge.specs.declared.packet.Body.{Body}
use Rattle.tuple_edge.specs.declared.row.Row.{Row}
use Rattle.plan_reader.specs.PlanView.{PlanView}
use Rattle.pair_machine.specs.Machine.{at_node}
use Rattle.pair_machine.specs.Numbers.{Node}
use Rattle.pair_machine.specs.Receivers.{GoOverLinks}
use Rattle.node_tasks.specs.Tasks.{DoesStep, event_of}
use Rattle.node_tasks.specs.declared.task.Task.{Task}

-- What came of a task of a node: it was done, or there was nothing to do, or no memory for it. These packets were sent.
pub record HasActed {A : Type 0} (id_of : A → NodeId) (is_of_plan : PlanView → A → Type 0) (stands : PlanView → List Input → A → Node → Type 0) (rows_of gone_of : A → List Row) (admits : A → List Input → Type 0)
    (old new : A) (t : Task) (result : Result Worked OutOfMemory) (packets : List (NodeId × Body)) : Type 0 where
  -- it is a step of the machine at this node, in each plan, and sends a few packets over links of its plan alone
  pub here : result ≡ Ok Did → at_node (event_of (id_of old) t) ≡ id_of old
  pub step : result ≡ Ok Did → DoesStep id_of stands t old new packets
  pub few : result ≡ Ok Did → length packets ≤ most_packets
  pub linked : result ≡ Ok Did → (plan : PlanView) → is_of_plan plan old → GoOverLinks plan (id_of old) packets
  -- where there was nothing to do, or no memory, it stands for the same numbers, and nothing is sent
  pub idle : result ≡ Ok Idle → (new ≡ old) × (packets ≡ [])
  pub unsent : OnErr result (packets ≡ [])
  pub unchanged : OnErr result ((plan : PlanView) (inputs : List Input) (x : Node) → stands plan inputs old x → stands plan inputs new x)
  -- it stays the same node of the same plans, the rows that it emitted stay, and it hands none on
  pub id : id_of new ≡ id_of old
  pub of_plan : (plan : PlanView) → is_of_plan plan old → is_of_plan plan new
  pub rows : IsPrefix (rows_of old) (rows_of new)
  pub gone : gone_of new ≡ gone_of old
  -- what came to it stays, and no more came
  pub inputs : (inputs : List Input) → admits new inputs ↔ admits old inputs
