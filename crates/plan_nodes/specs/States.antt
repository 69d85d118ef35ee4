-- A node's own part, of any of the four kinds: its name, the plans that it is of, the numbers that it stands for, and what it may do.
use Rattle.std.specs.Prelude.{◌≡◌, ◌≤◌, ◌<◌, ◌-◌, ◌&&◌, ℕ, Bool, true, false, List, [], ◌++◌, Option, None, Some, Result, Ok, Err, OnErr, length, replicate}
use Rattle.tuple_edge.specs.Input.{Input}
use Rattle.tuple_edge.specs.declared.event.Worked.{Worked}
use Rattle.tuple_edge.specs.declared.event.Worked.TheVariants.{Did}
use Rattle.tuple_edge.specs.declared.item.Item.{Item}
use Rattle.tuple_edge.specs.declared.node.NodeId.{NodeId}
use Rattle.tuple_edge.specs.declared.node.NodeId.TheVariants as node
use Rattle.tuple_edge.specs.declared.packet.Body.{Body}
use Rattle.tuple_edge.specs.declared.packet.Packet.{Packet}
use Rattle.tuple_edge.specs.declared.row.Row.{Row}
use Rattle.tuple_edge.specs.declared.memory.OutOfMemory.{OutOfMemory}
use Rattle.merge_order.specs.MergeView.{item_of, least}
use Rattle.flux_producer.specs.ProducerView.{ProducerView, buffer_at}
use Rattle.plan_reader.specs.PlanView.{IsPlan, PlanView}
use Rattle.pair_machine.specs.Controllers.{is_down}
use Rattle.pair_machine.specs.Counts.{flow_of}
use Rattle.pair_machine.specs.Machine.{does}
use Rattle.pair_machine.specs.Messages.{Act, AsksBack, AsksStop, Dies, Makes, NoMoreRows, NotRunning, NothingDue, Refusal, Works}
use Rattle.pair_machine.specs.Numbers.{Node}
use Rattle.pair_machine.specs.Receivers.{appended}
use Rattle.ingress_egress.specs.EgressStands as egress
use Rattle.ingress_egress.specs.EgressView.{EgressView, MayWork}
use Rattle.ingress_egress.specs.IngressStands as ingress
use Rattle.ingress_egress.specs.IngressView.{IngressView, contents_in as ingress_contents, ended_at as ingress_ended, producer_at}
use Rattle.pair_control.specs.Admitted as control_admitted
use Rattle.pair_control.specs.ControllerView.{ControllerView}
use Rattle.pair_control.specs.StandsFor as control
use Rattle.replica_node.specs.Admitted as replica_admitted
use Rattle.replica_node.specs.ReplicaView.{ReplicaView, node_of}
use Rattle.replica_node.specs.Rules as rules
use Rattle.replica_node.specs.Rules.{contents_in as replica_contents}
use Rattle.replica_node.specs.StandsFor as replica
use Rattle.node_tasks.specs.Acted.{HasActed}
use Rattle.node_tasks.specs.Steps.{DoesMake, StepByStep}
use Rattle.node_tasks.specs.declared.task.Task.{Task}
use Rattle.node_tasks.specs.declared.task.Task.TheVariants as task
use Rattle.plan_nodes.specs.declared.state.NodeState.{NodeState}
use Rattle.plan_nodes.specs.declared.state.NodeState.TheVariants as state

-- its name in the plan
abbrev pub id_of : NodeState → NodeId
id_of (state.Ingress i) = node.Ingress
id_of (state.Replica r) = node_of r.role
id_of (state.Control c) = control.node_of c
id_of (state.Egress e) = node.Egress

-- it is a node of the plan
abbrev pub IsOfPlan : PlanView → NodeState → Type 0
IsOfPlan plan (state.Ingress i) = ingress.IsOfPlan plan i
IsOfPlan plan (state.Replica r) = replica.IsOfPlan plan r.role
IsOfPlan plan (state.Control c) = control.IsOfPlan plan c
IsOfPlan plan (state.Egress e) = egress.IsOfPlan plan e

-- it stands for a node's numbers
abbrev pub StandsFor : PlanView → List Input → NodeState → Node → Type 0
StandsFor plan inputs (state.Ingress i) x = ingress.StandsFor plan inputs i x
StandsFor plan inputs (state.Replica r) x = replica.StandsFor plan inputs r x
StandsFor plan inputs (state.Control c) x = control.StandsFor (flow_of plan inputs) c x
StandsFor plan inputs (state.Egress e) x = egress.StandsFor plan inputs e x

-- another stands for all numbers for which one stands, under each plan and its inputs
abbrev pub StandsLike : NodeState → NodeState → Type 0
StandsLike old new = (plan : PlanView) (inputs : List Input) (x : Node) → StandsFor plan inputs old x → StandsFor plan inputs new x

-- the rows that it emitted: only egress emits rows
abbrev pub rows_of : NodeState → List Row
rows_of (state.Ingress i) = []
rows_of (state.Replica r) = []
rows_of (state.Control c) = []
rows_of (state.Egress e) = e.emitted

-- the first of these rows, which it handed on
abbrev pub gone_of : NodeState → List Row
gone_of (state.Ingress i) = []
gone_of (state.Replica r) = []
gone_of (state.Control c) = []
gone_of (state.Egress e) = e.gone

-- the inputs that came to it: only ingress has any
abbrev pub inputs_in : NodeState → List Input
inputs_in (state.Ingress i) = i.inputs
inputs_in (state.Replica r) = []
inputs_in (state.Control c) = []
inputs_in (state.Egress e) = []

-- whether it was said that no more come: only ingress is told
abbrev pub has_ended : NodeState → Bool
has_ended (state.Ingress i) = i.ended
has_ended (state.Replica r) = false
has_ended (state.Control c) = false
has_ended (state.Egress e) = false

-- these may be the inputs of its plan: what came to it is the first of them, and all of them where no more come
abbrev pub Admits : NodeState → List Input → Type 0
Admits s inputs = ingress.AreCome (has_ended s) (inputs_in s) inputs

-- it, where no more inputs come
abbrev pub ended_at : NodeState → NodeState
ended_at (state.Ingress i) = state.Ingress (ingress_ended i)
ended_at (state.Replica r) = state.Replica r
ended_at (state.Control c) = state.Control c
ended_at (state.Egress e) = state.Egress e

-- it, with the room of its edges left aside
abbrev pub contents_of : NodeState → NodeState
contents_of (state.Ingress i) = state.Ingress (ingress_contents i)
contents_of (state.Replica r) = state.Replica (replica_contents r)
contents_of (state.Control c) = state.Control c
contents_of (state.Egress e) = state.Egress e

-- whether it has merged the end of its input: only egress is asked
abbrev pub has_merged_end : NodeState → Bool
has_merged_end (state.Ingress i) = false
has_merged_end (state.Replica r) = false
has_merged_end (state.Control c) = false
has_merged_end (state.Egress e) = e.done

-- whether it tells that its pair is lost for good: a controller does, once it holds both replicas down, since no partner is left of which either could be brought back
abbrev pub tells_loss : NodeState → Bool
tells_loss (state.Ingress i) = false
tells_loss (state.Replica r) = false
tells_loss (state.Control c) = is_down c.a.status && is_down c.b.status
tells_loss (state.Egress e) = false

-- each edge of a producer holds fewer items than this
abbrev pub HoldsFew : ℕ → ProducerView → Type 0
HoldsFew hold y = (t : ℕ) → t < length y.edges → (buffer_at y t).produced - (buffer_at y t).low < hold

-- each edge of each source of ingress holds fewer items than this
abbrev pub EachHoldsFew : ℕ → IngressView → Type 0
EachHoldsFew hold i = (q : ℕ) → q < length i.producers → HoldsFew hold (producer_at i q)

-- whether rows are to be made of further inputs: by ingress, while each of its edges holds fewer items than the plan says
abbrev pub WantsRows : PlanView → NodeState → Type 0
WantsRows plan (state.Ingress i) = EachHoldsFew plan.hold i
WantsRows plan (state.Replica r) = ⊥
WantsRows plan (state.Control c) = ⊥
WantsRows plan (state.Egress e) = ⊥

-- so many makes, one after another, before each of which rows were wanted under this plan; they send nothing
abbrev pub HasMade : PlanView → NodeState → NodeState → ℕ → Type 0
HasMade plan old new count = StepByStep (DoesMake id_of IsOfPlan StandsFor (WantsRows plan)) old new (replicate count [])

-- ---- what it may do

-- ingress may take a packet that it admits, work and make, and nothing else
abbrev pub IngressMay : IngressView → Task → Type 0
IngressMay i (task.Take from index packet) = ingress.IsAdmitted i from packet.body
IngressMay i task.Work = Unit {0}
IngressMay i task.Make = Unit {0}
IngressMay i t = ⊥

-- a replica may take a packet that it admits, and work where its phase lets it; whatever else it is asked is free
abbrev pub ReplicaMay : ReplicaView → Task → Type 0
ReplicaMay r (task.Take from index packet) = replica_admitted.IsAdmitted r from packet.body
ReplicaMay r task.Work = replica_admitted.MayWorkIn r.phase
ReplicaMay r t = Unit {0}

-- a controller may take a packet that it admits, and nothing else
abbrev pub ControlMay : ControllerView → Task → Type 0
ControlMay c (task.Take from index packet) = control_admitted.IsAdmitted c from packet.body
ControlMay c t = ⊥

-- egress may take a packet that it admits, and work while its count stays within its limit; whatever else it is asked is free
abbrev pub EgressMay : EgressView → Task → Type 0
EgressMay e (task.Take from index packet) = egress.IsAdmitted e from packet.body
EgressMay e task.Work = MayWork e
EgressMay e t = Unit {0}

-- a node may do a task, by its kind
abbrev pub MayDo : NodeState → Task → Type 0
MayDo (state.Ingress i) t = IngressMay i t
MayDo (state.Replica r) t = ReplicaMay r t
MayDo (state.Control c) t = ControlMay c t
MayDo (state.Egress e) t = EgressMay e t

-- ---- what it does

-- What came of a task, as the trait says. Where memory lacked only the room of its edges may differ, and the inputs stay.
pub record HasDone (old new : NodeState) (t : Task) (result : Result Worked OutOfMemory) (packets : List (NodeId × Body)) : Type 0 where
  pub acted : HasActed id_of IsOfPlan StandsFor rows_of gone_of Admits old new t result packets
  pub contents : OnErr result (contents_of new ≡ contents_of old)
  pub inputs : inputs_in new ≡ inputs_in old
  pub ended : has_ended new ≡ has_ended old

-- What came of a task where packets may lie in the outbox already: they stay, and what the node sent lies behind them.
pub record HasActedBehind (old new : NodeState) (t : Task) (result : Result Worked OutOfMemory) (before after : List (NodeId × Body)) : Type 0 where
  pub done : HasDone old new t result (appended before after)
  pub packets : after ≡ before ++ appended before after

-- The same of a packet that a node sent to this one, under whatever index: it was taken, or left where it may not be given.
pub record HasTaken (old new : NodeState) (from : NodeId) (packet : Packet) (result : Result Worked OutOfMemory) (before after : List (NodeId × Body)) : Type 0 where
  pub done : (index : ℕ) → HasDone old new (task.Take from index packet) result (appended before after)
  pub packets : after ≡ before ++ appended before after

-- ---- where it did nothing

-- it may not be given this packet, under whatever index it was sent
abbrev pub MayNotTake : NodeState → NodeId → Packet → Type 0
MayNotTake s from packet = (index : ℕ) → MayDo s (task.Take from index packet) → ⊥

-- the machine refuses an act of a node, whatever numbers it stands for, for this reason
abbrev pub Refuses : NodeState → Act → Refusal → Type 0
Refuses s a reason = (plan : PlanView) (inputs : List Input) → IsPlan plan → (x : Node) → StandsFor plan inputs s x → does (flow_of plan inputs) (id_of s) a x ≡ Err reason

-- why the machine refuses to make of a node: ingress made all inputs, and no other node has any
abbrev pub no_inputs_at : NodeId → Refusal
no_inputs_at node.Ingress = NoMoreRows
no_inputs_at n = NothingDue

-- no more inputs come to it
abbrev pub AllCame : NodeState → Type 0
AllCame (state.Ingress i) = i.ended ≡ true
AllCame s = Unit {0}

-- Where a node did nothing: a packet is one that it may not be given, and any other task the machine refuses too, but for work where marks were
-- left for later.
abbrev pub IsIdle : ℕ → NodeState → Task → Type 0
IsIdle rise s (task.Take from index packet) = MayDo s (task.Take from index packet) → ⊥
IsIdle rise s task.Work = rise ≤ 1 → Refuses s Works NothingDue
IsIdle rise s task.Make = AllCame s → Refuses s Makes (no_inputs_at (id_of s))
IsIdle rise s task.Kill = Refuses s Dies NotRunning
IsIdle rise s task.AskStop = Refuses s AsksStop NotRunning
IsIdle rise s task.AskBack = Refuses s AsksBack NotRunning

-- ---- pieces of work

-- how many packets egress sends: a merge sends none, an acknowledgement goes to both replicas
abbrev pub acks_unless_merged : Option Item → ℕ
acks_unless_merged None = 2
acks_unless_merged (Some i) = 0

-- how many packets the next piece of work sends, where there is one
abbrev pub packets_of_work : NodeState → ℕ
packets_of_work (state.Ingress i) = 1
packets_of_work (state.Replica r) = rules.packets_of_work r.phase
packets_of_work (state.Control c) = 1
packets_of_work (state.Egress e) = acks_unless_merged (item_of (least e.consumer.merge.waiting))

-- What came of a piece of work: a step of the machine, whose packets were appended and are as many as such a piece sends; or nothing.
pub record HasWorkedOnce (old new : NodeState) (result : Result Worked OutOfMemory) (before after : List (NodeId × Body)) : Type 0 where
  pub done : HasDone old new task.Work result (appended before after)
  pub packets : after ≡ before ++ appended before after
  pub as_many : result ≡ Ok Did → length (appended before after) ≡ packets_of_work old
