-- The rules of a replica: what each packet, each piece of work and each failure makes of it, and what it sends.
use Rattle.std.specs.Prelude.{◌≡◌, ◌<◌, ◌≤◌, ◌+◌, ℕ, List, [], ◌∷◌, ◌++◌, Option, None, Some, false, length, max}
use Rattle.tuple_edge.specs.declared.event.Worked.{Worked}
use Rattle.tuple_edge.specs.declared.event.Worked.TheVariants as worked
use Rattle.tuple_edge.specs.declared.item.Item.{Item}
use Rattle.tuple_edge.specs.declared.node.NodeId.{NodeId}
use Rattle.tuple_edge.specs.declared.node.NodeId.TheVariants as node
use Rattle.tuple_edge.specs.declared.packet.Body.{Body}
use Rattle.tuple_edge.specs.declared.packet.Body.TheVariants as body
use Rattle.tuple_edge.specs.declared.packet.Entry.{Entry}
use Rattle.tuple_edge.specs.declared.row.Row.{Row}
use Rattle.tuple_edge.specs.Item.{stamp_of}
use Rattle.ack_buffer.specs.Buffer.{item_at}
use Rattle.merge_order.specs.MergeView.{after_next, item_of, least, mark_of}
use Rattle.flux_consumer.specs.ConsumerView.{ConsumerView, over, report_of, telling, told_of, with_merge}
use Rattle.flux_producer.specs.Due.{due_of}
use Rattle.flux_producer.specs.ProducerView.{buffer_at, contents_of, over_buffers, sent_on}
use Rattle.flux_producer.specs.declared.due.Due.{Due}
use Rattle.stream_ops.specs.Answers.{IsOpen, answer}
use Rattle.stream_ops.specs.State.{StandsFor}
use Rattle.plan_reader.specs.declared.stage.Stage.{Stage}
use Rattle.pair_machine.specs.Edges.{edge_to, passed, stamped}
use Rattle.pair_machine.specs.Numbers.{control_at, in_edge, out_edge}
use Rattle.pair_machine.specs.Replicas.{which_of}
use Rattle.node_edges.specs.OutEdges.{HasMade, copy_of, which_at}
use Rattle.state_mover.specs.MoverView.{MoverView, after_next as after_chunk, moved_at}
use Rattle.state_mover.specs.declared.mover.Moved.{Moved}
use Rattle.state_mover.specs.declared.mover.Moved.TheVariants as moved
use Rattle.catch_up.specs.Caught.{CatchesUp}
use Rattle.catch_up.specs.NewcomerView.{NewcomerView, is_held}
use Rattle.catch_up.specs.Rebuild.{buffers_in, folded, merge_in}
use Rattle.replica_node.specs.Phases.{ack_taken, begin_taken, chunk_taken, inc_in, lead_taken, serve_taken, stop_taken, tuple_taken, want_taken, wants_in}
use Rattle.replica_node.specs.ReplicaView.{ReplicaView, copies_of, partition_of, partner_of, with_phase}
use Rattle.replica_node.specs.declared.phase.Phase.{Phase}
use Rattle.replica_node.specs.declared.phase.Phase.TheVariants as phase
use Rattle.replica_node.specs.declared.phase.Running.{Running}
use Rattle.replica_node.specs.declared.role.Role.{Role}

-- ---- a newcomer's end

-- It runs with what the newcomer has caught up to; it serves nobody and moves nothing. Whatever entries were taken, it has the edges and the
-- operator of its partition.
pub record HasCaughtUp (role : Role) (g : NewcomerView) (r : Running) : Type 0 where
  pub inc : r.inc ≡ g.inc
  pub caught : CatchesUp g role.op role.stage role.part (copies_of role.next) (record { consumer = r.consumer; producer = r.producer; state = r.state })
  pub merges : r.consumer ≡ over (folded (merge_in (length g.held) g.taken) g.held)
  pub sends : contents_of r.producer ≡ contents_of (over_buffers role.stage role.part (copies_of role.next) (buffers_in g.taken))
  pub spec : r.state.spec ≡ role.op
  pub unwatched : r.state.old ≡ None
  pub served : r.served ≡ 0
  pub move : r.mover ≡ None

-- it has caught up and tells its controller, exactly where the end is of its incarnation and counts what it took
pub record EndsGathering (role : Role) (inc count : ℕ) (g : NewcomerView) (after : Phase) (sent : List (NodeId × Body)) : Type 0 where
  pub ended : inc ≡ g.inc → count ≡ length g.taken
      → (r : Running) × (after ≡ phase.Running r) × HasCaughtUp role g r × (sent ≡ (control_at (partition_of role), body.Caught g.inc) ∷ [])
  pub refused : ((inc ≡ g.inc) × (count ≡ length g.taken) → ⊥) → (after ≡ phase.Gathering g) × (sent ≡ [])

-- what the end of a move makes of a replica, and what it sends: it counts only for one that gathers
abbrev pub IsEnded : Role → ℕ → ℕ → Phase → Phase → List (NodeId × Body) → Type 0
IsEnded role inc count (phase.Running r) after sent = (after ≡ phase.Running r) × (sent ≡ [])
IsEnded role inc count (phase.Gathering g) after sent = EndsGathering role inc count g after sent
IsEnded role inc count (phase.Gone own) after sent = (after ≡ phase.Gone own) × (sent ≡ [])

-- ---- packets

-- what a packet from a node makes of a phase, and what is sent; a packet that no rule names has no effect
abbrev pub IsTakenAs : Role → NodeId → Body → Phase → Phase → List (NodeId × Body) → Type 0
IsTakenAs role from (body.Tuple edge number i) p after sent = (after ≡ tuple_taken edge.from number i p) × (sent ≡ [])
IsTakenAs role from (body.Ack edge upto) p after sent = (after ≡ ack_taken edge.to upto p) × (sent ≡ [])
IsTakenAs role from (body.Want edge number) p after sent = (after ≡ want_taken edge.to (copy_of (which_of from)) number p) × (sent ≡ [])
IsTakenAs role from (body.Lead inc term) p after sent = (after ≡ lead_taken inc term p) × (sent ≡ [])
IsTakenAs role from (body.Serve inc target) p after sent = (after ≡ serve_taken inc target p) × (sent ≡ [])
IsTakenAs role from (body.Begin inc) p after sent = (after ≡ begin_taken role.sources inc p) × (sent ≡ [])
IsTakenAs role from (body.Stop inc) p after sent = (after ≡ stop_taken inc p) × (sent ≡ [])
IsTakenAs role from (body.Chunk inc number e) p after sent = (after ≡ chunk_taken inc number e p) × (sent ≡ wants_in (partition_of role) inc number e p)
IsTakenAs role from (body.ChunkEnd inc count) p after sent = IsEnded role inc count p after sent
IsTakenAs role from (body.Report inc edge upto) p after sent = (after ≡ p) × (sent ≡ [])
IsTakenAs role from (body.Caught inc) p after sent = (after ≡ p) × (sent ≡ [])
IsTakenAs role from (body.Down inc) p after sent = (after ≡ p) × (sent ≡ [])
IsTakenAs role from (body.AskStop inc) p after sent = (after ≡ p) × (sent ≡ [])
IsTakenAs role from body.AskBack p after sent = (after ≡ p) × (sent ≡ [])

-- the item is the next one that its merge is to have, or one that it holds not yet
abbrev pub IsNewItem : ℕ → ℕ → Phase → Type 0
IsNewItem q number (phase.Running r) = number ≡ mark_of r.consumer.merge q + 1
IsNewItem q number (phase.Gathering g) = is_held g q number ≡ false
IsNewItem q number (phase.Gone inc) = ⊥

-- a move begins: it runs in this incarnation, and has served no such target
abbrev pub IsNewTarget : ℕ → ℕ → Phase → Type 0
IsNewTarget inc target (phase.Running r) = (inc ≡ r.inc) × (r.served < target)
IsNewTarget inc target (phase.Gathering g) = ⊥
IsNewTarget inc target (phase.Gone own) = ⊥

-- what packets take memory for: a new item, a move or a newcomer that begins, and the parts of a move
abbrev pub TakesMemory : Body → Phase → Type 0
TakesMemory (body.Tuple edge number i) p = IsNewItem edge.from number p
TakesMemory (body.Serve inc target) p = IsNewTarget inc target p
TakesMemory (body.Begin inc) p = inc_in p < inc
TakesMemory (body.Chunk inc number e) p = Unit {0}
TakesMemory (body.ChunkEnd inc count) p = Unit {0}
TakesMemory b p = ⊥

-- the same of a whole replica
pub record IsTakenBy (from : NodeId) (b : Body) (old new : ReplicaView) (sent : List (NodeId × Body)) : Type 0 where
  pub role : new.role ≡ old.role
  pub taken : IsTakenAs old.role from b old.phase new.phase sent

-- ---- work: the first that is due of a merge, a part of a move, an item to send, and a mark to report

-- It merges the next item: the operator's answer goes on the edges that routing names, with the item's stamp, and then a mark or the end
-- on every edge.
pub record Merges (role : Role) (i : Item) (r after : Running) : Type 0 where
  pub inc : after.inc ≡ r.inc
  pub consumer : after.consumer ≡ with_merge r.consumer (after_next r.consumer.merge)
  pub rows : List Row
  pub made : HasMade (λ t. edge_to role.next t (stamped (stamp_of i) rows ++ passed i)) r.producer after.producer
  pub answers : (before : List Item) → IsOpen before → StandsFor r.state before → rows ≡ answer r.state.spec before i
  pub stands : (before : List Item) → IsOpen before → StandsFor r.state before → StandsFor after.state (before ++ i ∷ [])
  pub spec : after.state.spec ≡ r.state.spec
  pub old : after.state.old ≡ r.state.old
  pub served : after.served ≡ r.served
  pub move : after.mover ≡ r.mover

-- the packet of a part of a move goes to the partner
abbrev pub part_sent : Role → MoverView → Moved → List (NodeId × Body)
part_sent role m (moved.Chunk number e) = (partner_of role, body.Chunk m.target number e) ∷ []
part_sent role m (moved.End count) = (partner_of role, body.ChunkEnd m.target count) ∷ []

-- what is left of a move after a part: after the end it is over, and the operator is watched no longer
abbrev pub part_given : MoverView → Moved → Running → Running
part_given after (moved.Chunk number e) r = record r { mover = Some after }
part_given after (moved.End count) r = record r { mover = None; state = record r.state { old = None } }

-- it gives the next part of its move
pub record Moves (role : Role) (m : MoverView) (r after : Running) (sent : List (NodeId × Body)) : Type 0 where
  pub part : Moved
  pub next : (old : List Entry) → r.state.old ≡ Some old → Some part ≡ moved_at (m.fixed ++ old) m.sent
  pub given : (old : List Entry) → r.state.old ≡ Some old → after ≡ part_given (after_chunk m old) part r
  pub sent_is : sent ≡ part_sent role m part

-- the replica at the other end of an edge, or egress
abbrev pub receiver_of : Role → Option Stage → Due → NodeId
receiver_of role None d = node.Egress
receiver_of role (Some next) d = node.Replica (role.stage + 1) d.to (which_at d.copy)

-- the packet of an item that is due, to the node that it is due to
abbrev pub tuples_of : Role → Due → Option Item → List (NodeId × Body)
tuples_of role d None = []
tuples_of role d (Some i) = (receiver_of role role.next d, body.Tuple (out_edge (partition_of role) d.to) d.number i) ∷ []

-- it sends what is due
abbrev pub sent_due : Due → Running → Running
sent_due d r = record r { producer = sent_on r.producer d.to d.copy }

-- it reports the first mark that is above what was told
abbrev pub told_one : ℕ × ℕ → Running → Running
told_one report r = record r { consumer = telling r.consumer report.0 }

-- the report of a mark, to the replica's controller
abbrev pub report_packet : Role → (inc q upto : ℕ) → (NodeId × Body)
report_packet role inc q upto = (control_at (partition_of role), body.Report inc (in_edge (partition_of role) q) upto)

-- the one packet of a report: of an edge with its mark, in the replica's own incarnation
abbrev pub report_sent : Role → Running → ℕ × ℕ → List (NodeId × Body)
report_sent role r report = report_packet role r.inc report.0 report.1 ∷ []

-- it reports a mark that is above what was told; where none is, nothing is left to do
abbrev pub Reports : Role → Running → Option (ℕ × ℕ) → Phase → List (NodeId × Body) → Worked → Type 0
Reports role r None after sent did = (after ≡ phase.Running r) × (sent ≡ []) × (did ≡ worked.Idle)
Reports role r (Some report) after sent did = (after ≡ phase.Running (told_one report r)) × (sent ≡ report_sent role r report) × (did ≡ worked.Did)

-- it sends what is due; where nothing is, it may report
abbrev pub SendsOrReports : Role → Running → Option Due → Phase → List (NodeId × Body) → Worked → Type 0
SendsOrReports role r None after sent did = Reports role r (report_of r.consumer) after sent did
SendsOrReports role r (Some d) after sent did =
    (after ≡ phase.Running (sent_due d r)) × (sent ≡ tuples_of role d (item_at (buffer_at r.producer d.to) d.number)) × (did ≡ worked.Did)

-- it gives the next part of its move; where it makes none, it may send
abbrev pub MovesOrSends : Role → Running → Option MoverView → Phase → List (NodeId × Body) → Worked → Type 0
MovesOrSends role r None after sent did = SendsOrReports role r (due_of r.producer) after sent did
MovesOrSends role r (Some m) after sent did = (s : Running) × (after ≡ phase.Running s) × Moves role m r s sent × (did ≡ worked.Did)

-- it merges the next item; where there is none, it may go on with its move
abbrev pub MergesOrMoves : Role → Running → Option Item → Phase → List (NodeId × Body) → Worked → Type 0
MergesOrMoves role r None after sent did = MovesOrSends role r r.mover after sent did
MergesOrMoves role r (Some i) after sent did = (s : Running) × (after ≡ phase.Running s) × Merges role i r s × (sent ≡ []) × (did ≡ worked.Did)

-- only one that runs has work
abbrev pub Works : Role → Phase → Phase → List (NodeId × Body) → Worked → Type 0
Works role (phase.Running r) after sent did = MergesOrMoves role r (item_of (least r.consumer.merge.waiting)) after sent did
Works role (phase.Gathering g) after sent did = (after ≡ phase.Gathering g) × (sent ≡ []) × (did ≡ worked.Idle)
Works role (phase.Gone inc) after sent did = (after ≡ phase.Gone inc) × (sent ≡ []) × (did ≡ worked.Idle)

-- no packet where this item is merged, else one
abbrev pub sent_unless_merged : Option Item → ℕ
sent_unless_merged None = 1
sent_unless_merged (Some i) = 0

-- how many packets a piece of work sends, where it does anything: a merge sends none, each other piece one
abbrev pub packets_of_work : Phase → ℕ
packets_of_work (phase.Running r) = sent_unless_merged (item_of (least r.consumer.merge.waiting))
packets_of_work p = 1

-- one piece of work of a whole replica, which stays in its role
pub record IsWorkOf (old new : ReplicaView) (sent : List (NodeId × Body)) (did : Worked) : Type 0 where
  pub role : new.role ≡ old.role
  pub works : Works old.role old.phase new.phase sent did

-- ---- work that leaves marks for later

-- every mark rose, since it was told, by less than `rise`, and not at all where `rise` is 0
abbrev pub NoneRose : ℕ → ConsumerView → Type 0
NoneRose rise c = (q : ℕ) → q < length c.merge.marks → mark_of c.merge q < told_of c q + max rise 1

-- nothing is due but to report marks of which none rose by so much
pub record IsRunningWaiting (rise : ℕ) (r : Running) : Type 0 where
  pub merge : item_of (least r.consumer.merge.waiting) ≡ None
  pub move : r.mover ≡ None
  pub send : due_of r.producer ≡ None
  pub report : NoneRose rise r.consumer

-- the same of a replica, which has nothing to report where it doesn't run
abbrev pub IsWaiting : ℕ → Phase → Type 0
IsWaiting rise (phase.Running r) = IsRunningWaiting rise r
IsWaiting rise p = Unit {0}

-- where a call did nothing, that says that nothing is due only if it waited for no rise
abbrev pub IsSure : ℕ → Worked → Type 0
IsSure rise worked.Did = Unit {0}
IsSure rise worked.Idle = rise ≤ 1

-- ---- the room of its edges left aside

-- what runs, with the room of its edges left aside
abbrev pub contents_in_running : Running → Running
contents_in_running r = record r { producer = contents_of r.producer }

-- a phase, with the room of its edges left aside
abbrev pub contents_in_phase : Phase → Phase
contents_in_phase (phase.Running r) = phase.Running (contents_in_running r)
contents_in_phase (phase.Gathering g) = phase.Gathering g
contents_in_phase (phase.Gone inc) = phase.Gone inc

-- a replica, with the room of its edges left aside
abbrev pub contents_in : ReplicaView → ReplicaView
contents_in v = with_phase v (contents_in_phase v.phase)

-- ---- failures and requests

-- what a replica sends that fails: it tells its controller
abbrev pub down_sent : ReplicaView → List (NodeId × Body)
down_sent v = (control_at (partition_of v.role), body.Down (inc_in v.phase)) ∷ []

-- a replica that has failed: it is gone, in the incarnation that it was in
abbrev pub dying : ReplicaView → ReplicaView
dying v = with_phase v (phase.Gone (inc_in v.phase))

-- what a replica sends that asks to be stopped
abbrev pub stop_asked : ReplicaView → List (NodeId × Body)
stop_asked v = (control_at (partition_of v.role), body.AskStop (inc_in v.phase)) ∷ []

-- what a replica sends that asks for its partner to be brought back
abbrev pub back_asked : ReplicaView → List (NodeId × Body)
back_asked v = (control_at (partition_of v.role), body.AskBack) ∷ []
