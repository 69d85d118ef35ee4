-- What an event asks of its node, and what it comes to there.
use Rattle.std.specs.Prelude.{◌≡◌, ◌+◌, ◌++◌, ℕ, List, Option, None, Some, Result, Ok, Err, IfErr, OnErr, OnOk}
use Rattle.tuple_edge.specs.declared.event.Worked.{Worked}
use Rattle.tuple_edge.specs.declared.event.Worked.TheVariants.{Did, Idle}
use Rattle.tuple_edge.specs.declared.item.Item.{Item}
use Rattle.tuple_edge.specs.declared.memory.OutOfMemory.{OutOfMemory}
use Rattle.tuple_edge.specs.declared.node.NodeId.{NodeId}
use Rattle.tuple_edge.specs.declared.node.NodeId.TheVariants as node
use Rattle.tuple_edge.specs.Input.{Input}
use Rattle.merge_order.specs.Edges.{item_at}
use Rattle.plan_reader.specs.PlanView.{IsPlan, PlanView}
use Rattle.stream_ops.specs.Times.{IsTimely}
use Rattle.pair_machine.specs.Asked.{Asks}
use Rattle.pair_machine.specs.Boundary.{egress_partition}
use Rattle.pair_machine.specs.Contents.{BodyStands}
use Rattle.pair_machine.specs.Counts.{flow_of, items_on}
use Rattle.pair_machine.specs.Courses.{ActFor}
use Rattle.pair_machine.specs.Machine.{does, mark_of, messages_to}
use Rattle.pair_machine.specs.Messages.{Act, Envelope, Pulls}
use Rattle.pair_machine.specs.Numbers.{Node, Partition, in_edge}
use Rattle.pair_machine.specs.Receivers.{appended}
use Rattle.replica_node.specs.Course.{AreTimely}
use Rattle.node_tasks.specs.Tasks.{event_of, packet_of}
use Rattle.node_tasks.specs.declared.task.Task.{Task}
use Rattle.node_tasks.specs.declared.task.Task.TheVariants as task
use Rattle.plan_nodes.specs.States.{AllCame, StandsFor, contents_of, gone_of, has_ended, id_of, inputs_in}
use Rattle.plan_nodes.specs.declared.state.NodeState.{NodeState}
use Rattle.flux_core.specs.CoreView.{Log}
use Rattle.flux_core.specs.Refusals.{IsRefusal}
use Rattle.flux_core.specs.Stands.{PacketsStand}
use Rattle.flux_core.specs.declared.error.ApplyError.{ApplyError}
use Rattle.flux_core.specs.declared.error.ApplyError.TheVariants as error
use Rattle.flux_core.specs.declared.asked.Asked.{Asked}
use Rattle.flux_core.specs.declared.asked.Asked.TheVariants as asked

-- the partition of a node that merges
abbrev pub merges_at : PlanView → List Input → NodeId → Partition
merges_at plan inputs node.Ingress = record { stage = 0; part = 0 }
merges_at plan inputs (node.Replica s p w) = record { stage = s; part = p }
merges_at plan inputs (node.Control s p) = record { stage = 0; part = 0 }
merges_at plan inputs node.Egress = egress_partition (flow_of plan inputs)

-- an item is the one after the node's mark on its in-edge from a source
abbrev pub IsNextAt : PlanView → List Input → NodeId → ℕ → Item → Option ℕ → Type 0
IsNextAt plan inputs n q i None = ⊥
IsNextAt plan inputs n q i (Some mark) = item_at (items_on plan inputs (in_edge (merges_at plan inputs n) q)) (mark + 1) ≡ Some i

-- the machine's act that is asked for, at a node of these numbers
abbrev pub IsActOf : PlanView → List Input → NodeId → Asked → Node → Act → Type 0
IsActOf plan inputs n (asked.Task t) x a = ActFor (flow_of plan inputs) (BodyStands plan inputs) (Asks (flow_of plan inputs)) n (event_of n t) (packet_of t) a
IsActOf plan inputs n (asked.Pull q i) x a = (a ≡ Pulls q) × IsNextAt plan inputs n q i (mark_of q n x)

-- the row of an item that is pulled has a time within the limits
abbrev pub IsTimelyTask : Asked → Type 0
IsTimelyTask (asked.Pull q i) = IsTimely i
IsTimelyTask (asked.Task t) = Unit {0}

-- The node did its part of the machine's step: whatever numbers it stood for, and whatever message the packet that it took stands for, it
-- stands for the numbers after the act, and what it sent stands for the machine's messages.
abbrev pub ActsSo : PlanView → Asked → NodeState → NodeState → Log → Type 0
ActsSo plan t old new sent = (inputs : List Input) → IsPlan plan → AreTimely inputs → (x : Node) (a : Act) → IsActOf plan inputs (id_of old) t x a → StandsFor plan inputs old x → Asks (flow_of plan inputs) (id_of old) x a
    → (d : Node × List Envelope) × (does (flow_of plan inputs) (id_of old) a x ≡ Ok d) × StandsFor plan inputs new d.0 × PacketsStand plan inputs (id_of old) sent (λ to. messages_to to d.1)

-- the machine refuses the act of a node to which all its inputs came, for this reason
abbrev pub IsRefusedSo : PlanView → Asked → NodeState → ApplyError → Type 0
IsRefusedSo plan t old e = AllCame old → (inputs : List Input) → IsPlan plan → (x : Node) (a : Act) → IsActOf plan inputs (id_of old) t x a → StandsFor plan inputs old x → IsRefusal (does (flow_of plan inputs) (id_of old) a x) e

-- What came of what was asked of a node, where packets may lie in its outbox: they stay, and what it sent lies behind them.
pub record HasAnswered (old new : NodeState) (t : Asked) (result : Result (Unit {0}) ApplyError) (before after : Log) : Type 0 where
  pub acts : OnOk result ((plan : PlanView) → ActsSo plan t old new (appended before after))
  pub packets : after ≡ before ++ appended before after
  pub refused : IfErr result (λ e. (plan : PlanView) → IsRefusedSo plan t old e)
  pub unchanged : OnErr result ((contents_of new ≡ contents_of old) × (after ≡ before))
  pub id : id_of new ≡ id_of old
  pub inputs : inputs_in new ≡ inputs_in old
  pub ended : has_ended new ≡ has_ended old
  pub gone : gone_of new ≡ gone_of old

-- ---- answers

-- why a node makes no more: ingress has made all inputs, and no other node has any
abbrev pub no_inputs_at : NodeId → ApplyError
no_inputs_at node.Ingress = error.NoMoreRows
no_inputs_at n = error.NothingDue

-- why a node that did nothing at a task gives no more: what the machine says there, but of a packet that it may not be given
abbrev pub reason_at : NodeId → Task → ApplyError
reason_at n (task.Take from index packet) = error.OutOfMemory
reason_at n task.Work = error.NothingDue
reason_at n task.Make = no_inputs_at n
reason_at n task.Kill = error.NotRunning
reason_at n task.AskStop = error.NotRunning
reason_at n task.AskBack = error.NotRunning

-- what came of a task at a node, as an answer of the core
abbrev pub answer_at : NodeId → Task → Result Worked OutOfMemory → Result (Unit {0}) ApplyError
answer_at n t (Ok Did) = Ok tt
answer_at n t (Ok Idle) = Err (reason_at n t)
answer_at n t (Err lack) = Err error.OutOfMemory
