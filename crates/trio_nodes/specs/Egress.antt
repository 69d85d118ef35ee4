-- What each event makes of egress, and what egress stands for in the machine of groups. What it has is as where partitions are pairs.
use Rattle.std.specs.Prelude.{◌≡◌, ◌<◌, ℕ, List, [], Option, None, Some, length}
use Rattle.tuple_edge.specs.Input.{Input}
use Rattle.tuple_edge.specs.declared.event.Worked.{Worked}
use Rattle.tuple_edge.specs.declared.event.Worked.TheVariants as worked
use Rattle.tuple_edge.specs.declared.item.Item.{Item}
use Rattle.merge_order.specs.MergeView.{item_of, least}
use Rattle.flux_consumer.specs.ConsumerView.{report_of, telling}
use Rattle.plan_reader.specs.PlanView.{PlanView}
use Rattle.pair_machine.specs.Numbers as pairs
use Rattle.ingress_egress.specs.EgressStands as pairs_egress
use Rattle.ingress_egress.specs.EgressView.{EgressView, after_tuple, merging}
use Rattle.trio_machine.specs.Machine.{egress_in}
use Rattle.trio_machine.specs.Messages.{NothingDue, Works}
use Rattle.trio_machine.specs.Numbers.{Node}
use Rattle.trio_machine.specs.declared.body.TrioBody.{TrioBody}
use Rattle.trio_machine.specs.declared.body.TrioBody.TheVariants as body
use Rattle.trio_machine.specs.declared.node.TrioNode.{TrioNode}
use Rattle.trio_machine.specs.declared.node.TrioNode.TheVariants as node
use Rattle.trio_nodes.specs.Group.{to_three}
use Rattle.trio_nodes.specs.Steps.{IsRefused, IsStep}
use Rattle.trio_nodes.specs.Work.{WorkDone}

-- ---- packets

-- a tuple goes along an edge from a replica of the last stage
abbrev pub IsAdmitted : EgressView → TrioNode → TrioBody → Type 0
IsAdmitted e (node.Replica stage part copy) (body.Tuple edge number i) =
    (stage ≡ e.stages) × (part < length e.consumer.merge.marks) × (edge.stage ≡ e.stages) × (edge.from ≡ part) × (edge.to ≡ 0)
IsAdmitted e from b = ⊥

-- a packet that is no tuple has no effect
abbrev pub taking : EgressView → TrioBody → EgressView
taking e (body.Tuple edge number i) = after_tuple e edge.from number i
taking e b = e

-- ---- work

-- what was taken of an edge is acknowledged to the three replicas of its partition
abbrev pub reporting : EgressView → Option (ℕ × ℕ) → WorkDone EgressView
reporting e None = record { after = e; sent = []; worked = worked.Idle }
reporting e (Some report) = record {
  after = record e { consumer = telling e.consumer report.0 };
  sent = to_three e.stages report.0 (body.Ack (record { stage = e.stages; from = report.0; to = 0 }) report.1);
  worked = worked.Did;
}

-- the next item is merged, if there is one; else the first mark that is above what was acknowledged is, if there is one
abbrev pub merging_or_reporting : EgressView → Option Item → WorkDone EgressView
merging_or_reporting e None = reporting e (report_of e.consumer)
merging_or_reporting e (Some i) = record { after = merging e i; sent = []; worked = worked.Did }

-- the next item is merged, where the merge is ready; else the first mark that is above what was acknowledged is
abbrev pub working : EgressView → WorkDone EgressView
working e = merging_or_reporting e (item_of (least e.consumer.merge.waiting))

-- ---- what it stands for

-- egress stands for a node's numbers just where it does where partitions are pairs
abbrev pub StandsFor : PlanView → List Input → EgressView → Node → Type 0
StandsFor plan inputs e x = pairs_egress.StandsFor plan inputs e (pairs.EgressNode (egress_in x))

-- a piece of work; where there was none, nothing was due
abbrev pub IsWorked : PlanView → List Input → EgressView → EgressView → List (TrioNode × TrioBody) → Worked → Type 0
IsWorked plan inputs old new sent worked.Did = IsStep plan inputs node.Egress (StandsFor plan inputs old) (StandsFor plan inputs new) Works sent
IsWorked plan inputs old new sent worked.Idle = IsRefused plan inputs node.Egress (StandsFor plan inputs old) Works NothingDue
