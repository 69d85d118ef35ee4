-- What contracts see of a replica, and what each event makes of it.
use Rattle.std.specs.Prelude.{◌≡◌, ◌==◌, ◌<◌, ◌+◌, ℕ, IsTrue, List, [], ◌∷◌, Option, None, Some, length}
use Rattle.std.specs.List.{All}
use Rattle.tuple_edge.specs.Limits.{number_limit}
use Rattle.tuple_edge.specs.declared.event.Worked.{Worked}
use Rattle.tuple_edge.specs.declared.event.Worked.TheVariants as worked
use Rattle.tuple_edge.specs.declared.item.Item.{Item}
use Rattle.tuple_edge.specs.declared.node.EdgeId.{EdgeId}
use Rattle.ack_buffer.specs.Buffer.{item_at}
use Rattle.merge_order.specs.MergeView.{after_offer, all_wait, item_of, least, mark_of}
use Rattle.merge_order.specs.MergeView as merge
use Rattle.flux_consumer.specs.ConsumerView.{over, report_of, telling, with_merge}
use Rattle.flux_producer.specs.Due.{due_of}
use Rattle.flux_producer.specs.ProducerView.{acked, buffer_at, contents_of, leading, sent_on}
use Rattle.flux_producer.specs.ProducerView as producer
use Rattle.flux_producer.specs.declared.due.Due.{Due}
use Rattle.op_spec.specs.Times.{IsTimely}
use Rattle.stream_ops.specs.State.{unseen}
use Rattle.plan_reader.specs.declared.stage.Stage.{Stage}
use Rattle.pair_machine.specs.Drain.{partition}
use Rattle.pair_machine.specs.Numbers.{Partition, in_edge, out_edge}
use Rattle.partition_step.specs.Answering.{targets_of}
use Rattle.partition_step.specs.Merging.{Merges, Parts}
use Rattle.trio_machine.specs.Numbers.{control_at, group_size}
use Rattle.trio_machine.specs.declared.body.TrioBody.{TrioBody}
use Rattle.trio_machine.specs.declared.body.TrioBody.TheVariants as body
use Rattle.trio_machine.specs.declared.node.TrioNode.{TrioNode}
use Rattle.trio_machine.specs.declared.node.TrioNode.TheVariants as node
use Rattle.trio_nodes.specs.Work.{WorkDone}
use Rattle.trio_nodes.specs.declared.role.TrioRole.{TrioRole}
use Rattle.trio_nodes.specs.declared.running.TrioRunning.{TrioRunning}

-- which replica of which partition it is, and what it has where it runs; one that failed has nothing
pub record ReplicaView : Type 0 where
  pub role : TrioRole
  pub running : Option TrioRunning

-- ---- names

-- the partition of which it is a replica
abbrev pub partition_of : TrioRole → Partition
partition_of role = partition role.stage role.part

-- the name of a replica's node
abbrev pub node_of : TrioRole → TrioNode
node_of role = node.Replica role.stage role.part role.copy

-- how many replicas there are at the other end of an out-edge; egress counts as one
abbrev pub copies_of : Option Stage → ℕ
copies_of None = 1
copies_of (Some next) = group_size

-- ---- what is always true of a replica

-- what a running replica has of its partition
abbrev pub parts_of_run : TrioRunning → Parts
parts_of_run r = record { consumer = r.consumer; state = r.state; producer = r.producer }

-- what runs has the edges and the operator of its partition, and all items that wait have times within their limits
pub record IsRunning (role : TrioRole) (r : TrioRunning) : Type 0 where
  pub sources : length r.consumer.merge.marks ≡ role.sources
  pub copies : r.producer.copies ≡ copies_of role.task.next
  pub targets : length r.producer.edges ≡ targets_of role.task.next
  pub op : r.state.spec ≡ role.task.op
  pub timely : All (All IsTimely) r.consumer.merge.waiting

-- what a replica has, if it runs, is that of its partition
abbrev pub IsRunningIf : TrioRole → Option TrioRunning → Type 0
IsRunningIf role None = Unit {0}
IsRunningIf role (Some r) = IsRunning role r

-- one that has taken nothing; replica 0 leads
abbrev pub opening : TrioRole → TrioRunning
opening role = record {
  consumer = over (merge.opening role.sources);
  producer = producer.opening role.stage role.part (targets_of role.task.next) (copies_of role.task.next) (role.copy == 0);
  state = unseen role.task.op;
}

-- ---- packets

-- an edge leads into the replica's partition
abbrev pub IsIntoHere : TrioRole → EdgeId → Type 0
IsIntoHere role e = (e.stage + 1 ≡ role.stage) × (e.to ≡ role.part) × (e.from < role.sources)

-- an edge leads from the replica's partition
abbrev pub IsFromHere : TrioRole → EdgeId → Type 0
IsFromHere role e = (e.stage ≡ role.stage) × (e.from ≡ role.part) × (e.to < targets_of role.task.next)

-- a tuple comes along an in-edge, and the time of its row is within its limits; an acknowledgement is of an out-edge
abbrev pub IsAdmitted : TrioRole → TrioBody → Type 0
IsAdmitted role (body.Tuple e number i) = IsIntoHere role e × IsTimely i
IsAdmitted role (body.Ack e upto) = IsFromHere role e × (upto < number_limit)
IsAdmitted role (body.Lead term) = Unit {0}
IsAdmitted role b = ⊥

-- what a packet makes of one that runs; one that no line names has no effect
abbrev pub taken_by : TrioBody → TrioRunning → TrioRunning
taken_by (body.Tuple e number i) r = record r { consumer = with_merge r.consumer (after_offer r.consumer.merge e.from number i) }
taken_by (body.Ack e upto) r = record r { producer = acked r.producer e.to upto }
taken_by (body.Lead term) r = record r { producer = leading r.producer term }
taken_by b r = r

-- only one that runs takes anything
abbrev pub taking : TrioBody → Option TrioRunning → Option TrioRunning
taking b None = None
taking b (Some r) = Some (taken_by b r)

-- ---- work: the first that is due of a merge, an item to send, and a mark to report

-- the replica at the other end of an edge, or egress
abbrev pub receiver_of : TrioRole → Option Stage → Due → TrioNode
receiver_of role None d = node.Egress
receiver_of role (Some next) d = node.Replica (role.stage + 1) d.to d.copy

-- the packet of an item that is due, to the node that it is due to
abbrev pub tuples_of : TrioRole → Due → Option Item → List (TrioNode × TrioBody)
tuples_of role d None = []
tuples_of role d (Some i) = (receiver_of role role.task.next d, body.Tuple (out_edge (partition_of role) d.to) d.number i) ∷ []

-- the report of a mark, to the replica's controller
abbrev pub report_packet : TrioRole → (q upto : ℕ) → (TrioNode × TrioBody)
report_packet role q upto = (control_at (partition_of role), body.Report (in_edge (partition_of role) q) upto)

-- it reports a mark that is above what was told, if there is one
abbrev pub reporting : TrioRole → TrioRunning → Option (ℕ × ℕ) → WorkDone TrioRunning
reporting role r None = record { after = r; sent = []; worked = worked.Idle }
reporting role r (Some report) = record {
  after = record r { consumer = telling r.consumer report.0 };
  sent = report_packet role report.0 report.1 ∷ [];
  worked = worked.Did;
}

-- it sends what is due; where nothing is, it may report
abbrev pub sending : TrioRole → TrioRunning → Option Due → WorkDone TrioRunning
sending role r None = reporting role r (report_of r.consumer)
sending role r (Some d) = record {
  after = record r { producer = sent_on r.producer d.to d.copy };
  sent = tuples_of role d (item_at (buffer_at r.producer d.to) d.number);
  worked = worked.Did;
}

-- it sends what is due, or reports the first mark that is above what was told
abbrev pub sending_or_reporting : TrioRole → TrioRunning → WorkDone TrioRunning
sending_or_reporting role r = sending role r (due_of r.producer)

-- where an item is ready it merges that; what the merge sends goes on its edges alone
abbrev pub MergesOrSends : TrioRole → TrioRunning → Option Item → TrioRunning → List (TrioNode × TrioBody) → Worked → Type 0
MergesOrSends role r None after sent did =
    (after ≡ (sending_or_reporting role r).after) × (sent ≡ (sending_or_reporting role r).sent) × (did ≡ (sending_or_reporting role r).worked)
MergesOrSends role r (Some i) after sent did = Merges role.task.next i (parts_of_run r) (parts_of_run after) × (sent ≡ []) × (did ≡ worked.Did)

-- one that runs merges the next item; where there is none, it may send or report
abbrev pub RunWorks : TrioRole → TrioRunning → TrioRunning → List (TrioNode × TrioBody) → Worked → Type 0
RunWorks role r after sent did = MergesOrSends role r (item_of (least r.consumer.merge.waiting)) after sent did

-- only one that runs has work
abbrev pub Works : TrioRole → Option TrioRunning → Option TrioRunning → List (TrioNode × TrioBody) → Worked → Type 0
Works role (Some r) (Some after) sent did = RunWorks role r after sent did
Works role None after sent did = (after ≡ None) × (sent ≡ []) × (did ≡ worked.Idle)
Works role (Some r) None sent did = ⊥

-- a piece of work may be done: where an item is merged, the count stays within its limit
abbrev pub MayWork : Option TrioRunning → Type 0
MayWork None = Unit {0}
MayWork (Some r) = IsTrue (all_wait r.consumer.merge.waiting) → r.consumer.merge.count + 1 < number_limit

-- ---- other events

-- a replica runs, and the next item of an edge may be pulled: its number is within the limit
abbrev pub MayPull : ℕ → Option TrioRunning → Type 0
MayPull q None = ⊥
MayPull q (Some r) = mark_of r.consumer.merge q + 1 < number_limit

-- one that runs pulls the next item of an edge
abbrev pub pulled_by : ℕ → Item → TrioRunning → TrioRunning
pulled_by q i r = record r { consumer = with_merge r.consumer (after_offer r.consumer.merge q (mark_of r.consumer.merge q + 1) i) }

-- only one that runs pulls an item
abbrev pub pulling : ℕ → Item → Option TrioRunning → Option TrioRunning
pulling q i None = None
pulling q i (Some r) = Some (pulled_by q i r)

-- what a replica has that runs, with the room of its edges left aside
abbrev pub contents_of_run : TrioRunning → TrioRunning
contents_of_run r = record r { producer = contents_of r.producer }

-- what a replica has, if it runs, with the room of its edges left aside
abbrev pub contents_if : Option TrioRunning → Option TrioRunning
contents_if None = None
contents_if (Some r) = Some (contents_of_run r)

-- how many items it has merged; where it doesn't run, none
abbrev pub count_if : Option TrioRunning → ℕ
count_if None = 0
count_if (Some r) = r.consumer.merge.count

-- it fails, and tells its controller
abbrev pub down_sent : TrioRole → List (TrioNode × TrioBody)
down_sent role = (control_at (partition_of role), body.Down) ∷ []
