-- What egress and its packets stand for in the machine.
use Rattle.std.specs.Prelude.{◌≡◌, ◌<◌, ◌+◌, ℕ, List, [], Some, None, Err, length}
use Rattle.tuple_edge.specs.declared.event.Event.TheVariants as event
use Rattle.tuple_edge.specs.declared.event.Worked.{Worked}
use Rattle.tuple_edge.specs.declared.event.Worked.TheVariants as worked
use Rattle.tuple_edge.specs.declared.node.NodeId.{NodeId}
use Rattle.tuple_edge.specs.declared.node.NodeId.TheVariants as node
use Rattle.tuple_edge.specs.declared.packet.Body.{Body}
use Rattle.tuple_edge.specs.declared.packet.Body.TheVariants as body
use Rattle.tuple_edge.specs.Input.{Input}
use Rattle.tuple_edge.specs.Limits.{number_limit}
use Rattle.stream_ops.specs.Times.{IsTimely}
use Rattle.plan_reader.specs.Nodes.{sources_of}
use Rattle.plan_reader.specs.PlanView.{PlanView}
use Rattle.pair_machine.specs.Asked.{Asks}
use Rattle.pair_machine.specs.Boundary.{egress_partition}
use Rattle.pair_machine.specs.Contents.{BodyStands}
use Rattle.pair_machine.specs.CountLaws.{output_first}
use Rattle.pair_machine.specs.Counts.{flow_of, merged_first}
use Rattle.pair_machine.specs.Courses.{IsStep, packets_to}
use Rattle.pair_machine.specs.Links.{link}
use Rattle.pair_machine.specs.Machine.{does, egress_in}
use Rattle.pair_machine.specs.Messages.{Works, NothingDue}
use Rattle.pair_machine.specs.Numbers.{Node}
use Rattle.node_edges.specs.InEdges.{ConsumerStands}
use Rattle.ingress_egress.specs.EgressView.{EgressView, has_end}

-- egress stands for a node's numbers: its consumer does, and its rows are those of the items that it merged first
pub record StandsFor (plan : PlanView) (inputs : List Input) (e : EgressView) (n : Node) : Type 0 where
  pub stages : e.stages ≡ length plan.stages
  pub consumer : ConsumerStands plan inputs (egress_partition (flow_of plan inputs)) (egress_in n) e.consumer
  pub emitted : e.emitted ≡ output_first plan inputs (egress_in n).count
  pub done : e.done ≡ has_end (merged_first plan inputs (egress_partition (flow_of plan inputs)) (egress_in n).count)

-- it is egress of a plan: it merges an edge from each partition of the last stage
pub record IsOfPlan (plan : PlanView) (e : EgressView) : Type 0 where
  pub stages : e.stages ≡ length plan.stages
  pub edges : length e.consumer.merge.marks ≡ sources_of plan (e.stages + 1)

-- ---- steps of a course: whatever message a packet stands for, and whatever clock and place on the link it has

-- to take this packet from a node; nothing is sent
abbrev pub IsTaken : PlanView → List Input → EgressView → EgressView → NodeId → Body → Type 0
IsTaken plan inputs old new from b =
    (at index : ℕ) → IsStep (flow_of plan inputs) (BodyStands plan inputs) (Asks (flow_of plan inputs)) node.Egress (StandsFor plan inputs old) (StandsFor plan inputs new)
    (event.Take (link from node.Egress) index) (Some (record { at = at; body = b })) (λ to. [])

-- a piece of work; where there was none, nothing was due
abbrev pub IsWorked : PlanView → List Input → EgressView → EgressView → List (NodeId × Body) → Worked → Type 0
IsWorked plan inputs old new sent worked.Did =
    (clock : ℕ) → IsStep (flow_of plan inputs) (BodyStands plan inputs) (Asks (flow_of plan inputs)) node.Egress (StandsFor plan inputs old) (StandsFor plan inputs new)
    (event.Work node.Egress) None (λ to. packets_to clock to sent)
IsWorked plan inputs old new sent worked.Idle = (n : Node) → StandsFor plan inputs old n → does (flow_of plan inputs) node.Egress Works n ≡ Err NothingDue

-- ---- which packets it may be given

-- the sender is a replica of the last stage
abbrev pub IsFromLast : EgressView → NodeId → Type 0
IsFromLast e (node.Replica stage part which) = (stage ≡ e.stages) × (part < length e.consumer.merge.marks)
IsFromLast e sender = ⊥

-- a tuple goes along an edge from its sender
abbrev pub IsCarried : EgressView → NodeId → Body → Type 0
IsCarried e (node.Replica stage part which) (body.Tuple edge number i) = (edge.stage ≡ e.stages) × (edge.from ≡ part) × (edge.to ≡ 0) × (number < number_limit) × IsTimely i
IsCarried e sender b = ⊥

-- all that is asked of a packet and its sender
pub record IsAdmitted (e : EgressView) (from : NodeId) (b : Body) : Type 0 where
  pub sender : IsFromLast e from
  pub carried : IsCarried e from b
