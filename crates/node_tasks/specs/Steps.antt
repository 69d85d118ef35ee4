-- What a node does several times, one after another.
use Rattle.std.specs.Prelude.{◌≡◌, ℕ, zero, suc, List, [], ◌∷◌, take, drop}
use Rattle.tuple_edge.specs.Input.{Input}
use Rattle.tuple_edge.specs.declared.node.NodeId.{NodeId}
use Rattle.tuple_edge.specs.declared.packet.Body.{Body}
use Rattle.plan_reader.specs.PlanView.{PlanView}
use Rattle.pair_machine.specs.Machine.{at_node}
use Rattle.pair_machine.specs.Numbers.{Node}
use Rattle.pair_machine.specs.Receivers.{GoOverLinks}
use Rattle.node_tasks.specs.Tasks.{DoesStep, event_of}
use Rattle.node_tasks.specs.declared.task.Task.{Task}
use Rattle.node_tasks.specs.declared.task.Task.TheVariants as task

-- steps, each of which gives something, lead from one state to another: none, and it is the same; or one, and from where it ends the others
abbrev pub StepByStep : {A G : Type 0} → (A → A → G → Type 0) → A → A → List G → Type 0
StepByStep Step old new [] = new ≡ old
StepByStep {A = A} Step old new (g ∷ gs) = (between : A) × Step old between g × StepByStep Step between new gs

-- a node does a task, and sends these packets: a step of the machine at this node, over links of its plan alone, and it stays the same node of the same plans
pub record DoesTask {A : Type 0} (id : A → NodeId) (of_plan : PlanView → A → Type 0) (stands : PlanView → List Input → A → Node → Type 0) (t : Task) (old new : A) (packets : List (NodeId × Body)) : Type 0 where
  pub here : at_node (event_of (id old) t) ≡ id old
  pub step : DoesStep id stands t old new packets
  pub linked : (plan : PlanView) → of_plan plan old → GoOverLinks plan (id old) packets
  pub same : id new ≡ id old
  pub planned : (plan : PlanView) → of_plan plan old → of_plan plan new

-- a node that wanted to makes the next input into items, and sends these packets
pub record DoesMake {A : Type 0} (id : A → NodeId) (of_plan : PlanView → A → Type 0) (stands : PlanView → List Input → A → Node → Type 0) (Wants : A → Type 0) (old new : A) (packets : List (NodeId × Body)) : Type 0 where
  pub wanted : Wants old
  pub does : DoesTask id of_plan stands task.Make old new packets

-- so many pieces of a list, each of so many elements, from the front on
abbrev pub pieces : {X : Type 0} → ℕ → ℕ → List X → List (List X)
pieces zero each xs = []
pieces (suc count) each xs = take each xs ∷ pieces count each (drop each xs)
