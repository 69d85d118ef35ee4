-- What a packet makes of a replica's phase, rule by rule; where no rule names it, nothing.
use Rattle.std.specs.Prelude.{ℕ, List, [], ◌∷◌, Option, None, Some, ◌+◌, ◌-◌, ◌==◌, ◌&&◌, if◌then◌else◌, nat_lt, length}
use Rattle.tuple_edge.specs.declared.item.Item.{Item}
use Rattle.tuple_edge.specs.declared.node.NodeId.{NodeId}
use Rattle.tuple_edge.specs.declared.node.NodeId.TheVariants as node
use Rattle.tuple_edge.specs.declared.node.Which.TheVariants.{A, B}
use Rattle.tuple_edge.specs.declared.packet.Body.{Body}
use Rattle.tuple_edge.specs.declared.packet.Body.TheVariants as body
use Rattle.tuple_edge.specs.declared.packet.Entry.{Entry}
use Rattle.tuple_edge.specs.declared.packet.Entry.TheVariants as entry
use Rattle.merge_order.specs.MergeView.{after_offer, mark_of}
use Rattle.merge_order.specs.MergeView as merge
use Rattle.flux_consumer.specs.ConsumerView.{over, with_merge}
use Rattle.flux_producer.specs.ProducerView.{acked, leading, wanted_from}
use Rattle.flux_producer.specs.ProducerView as producer
use Rattle.stream_ops.specs.State.{unseen}
use Rattle.pair_machine.specs.Machine.{leads_first}
use Rattle.pair_machine.specs.Numbers.{Partition, in_edge}
use Rattle.move_list.specs.MoveList.{fixed_part}
use Rattle.state_mover.specs.MoverView as mover
use Rattle.catch_up.specs.NewcomerView.{NewcomerView, after_chunk, after_hold, begun, took_of}
use Rattle.catch_up.specs.declared.newcomer.Took.{Took}
use Rattle.catch_up.specs.declared.newcomer.Took.TheVariants as took
use Rattle.replica_node.specs.declared.phase.Mode.{Mode}
use Rattle.replica_node.specs.declared.phase.Mode.TheVariants as mode
use Rattle.replica_node.specs.declared.phase.Phase.{Phase}
use Rattle.replica_node.specs.declared.phase.Phase.TheVariants as phase
use Rattle.replica_node.specs.ReplicaView.{copies_of, targets_of}
use Rattle.replica_node.specs.declared.phase.Running.{Running}
use Rattle.replica_node.specs.declared.role.Role.{Role}

-- the incarnation that a replica is in
abbrev pub inc_in : Phase → ℕ
inc_in (phase.Running r) = r.inc
inc_in (phase.Gathering g) = g.inc
inc_in (phase.Gone inc) = inc

-- the mode that it is in
abbrev pub mode_in : Phase → Mode
mode_in (phase.Running r) = mode.Running
mode_in (phase.Gathering g) = mode.Gathering
mode_in (phase.Gone inc) = mode.Gone

-- what a replica has that runs
abbrev pub running_in : Phase → Option Running
running_in (phase.Running r) = Some r
running_in (phase.Gathering g) = None
running_in (phase.Gone inc) = None

-- the newcomer of a replica that gathers
abbrev pub newcomer_in : Phase → Option NewcomerView
newcomer_in (phase.Running r) = None
newcomer_in (phase.Gathering g) = Some g
newcomer_in (phase.Gone inc) = None

-- how many items a replica has merged; where it doesn't run, none
abbrev pub count_in : Phase → ℕ
count_in (phase.Running r) = r.consumer.merge.count
count_in (phase.Gathering g) = 0
count_in (phase.Gone inc) = 0

-- the greatest incarnation of its partner that a replica has served; where it doesn't run, 0
abbrev pub served_in : Phase → ℕ
served_in (phase.Running r) = r.served
served_in (phase.Gathering g) = 0
served_in (phase.Gone inc) = 0

-- one that has taken nothing: it runs in its first incarnation, and replica A leads
abbrev pub opening : Role → Running
opening role = record {
  inc = 1;
  consumer = over (merge.opening role.sources);
  producer = producer.opening role.stage role.part (targets_of role.next) (copies_of role.next) (leads_first role.which);
  state = unseen role.op;
  served = 0;
  mover = None;
}

-- ---- items

-- it takes a tuple: one that runs offers it to its merge, and one that gathers holds it
abbrev pub tuple_taken : ℕ → ℕ → Item → Phase → Phase
tuple_taken q number i (phase.Running r) = phase.Running (record r { consumer = with_merge r.consumer (after_offer r.consumer.merge q number i) })
tuple_taken q number i (phase.Gathering g) = phase.Gathering (after_hold g q number i)
tuple_taken q number i (phase.Gone inc) = phase.Gone inc

-- it takes the next item of an edge, straight from its producer
abbrev pub item_pulled : ℕ → Item → Phase → Phase
item_pulled q i (phase.Running r) = phase.Running (record r { consumer = with_merge r.consumer (after_offer r.consumer.merge q (mark_of r.consumer.merge q + 1) i) })
item_pulled q i (phase.Gathering g) = phase.Gathering g
item_pulled q i (phase.Gone inc) = phase.Gone inc

-- ---- what a producer is told

-- it forgets what is acknowledged
abbrev pub ack_taken : ℕ → ℕ → Phase → Phase
ack_taken t upto (phase.Running r) = phase.Running (record r { producer = acked r.producer t upto })
ack_taken t upto (phase.Gathering g) = phase.Gathering g
ack_taken t upto (phase.Gone inc) = phase.Gone inc

-- it goes back for a newcomer
abbrev pub want_taken : ℕ → ℕ → ℕ → Phase → Phase
want_taken t copy number (phase.Running r) = phase.Running (record r { producer = wanted_from r.producer t copy number })
want_taken t copy number (phase.Gathering g) = phase.Gathering g
want_taken t copy number (phase.Gone inc) = phase.Gone inc

-- it leads, where it is told so in its own incarnation
abbrev pub lead_taken : ℕ → ℕ → Phase → Phase
lead_taken inc term (phase.Running r) = if inc == r.inc then phase.Running (record r { producer = leading r.producer term }) else phase.Running r
lead_taken inc term (phase.Gathering g) = phase.Gathering g
lead_taken inc term (phase.Gone own) = phase.Gone own

-- ---- moves

-- a move for a target begins now: what the operator keeps now is what the move will give of it
abbrev pub serving : ℕ → Running → Running
serving target r = record r {
  served = target;
  mover = Some (mover.begun target (fixed_part r.consumer.merge r.producer) (length r.state.entries));
  state = record r.state { old = Some r.state.entries };
}

-- it serves its partner, in place of any other move
abbrev pub serve_taken : ℕ → ℕ → Phase → Phase
serve_taken inc target (phase.Running r) = if (inc == r.inc) && nat_lt r.served target then phase.Running (serving target r) else phase.Running r
serve_taken inc target (phase.Gathering g) = phase.Gathering g
serve_taken inc target (phase.Gone own) = phase.Gone own

-- it begins anew, in a later incarnation
abbrev pub begin_taken : (sources inc : ℕ) → Phase → Phase
begin_taken sources inc p = if nat_lt (inc_in p) inc then phase.Gathering (begun inc sources) else p

-- it takes a chunk
abbrev pub chunk_taken : ℕ → ℕ → Entry → Phase → Phase
chunk_taken inc number e (phase.Running r) = phase.Running r
chunk_taken inc number e (phase.Gathering g) = phase.Gathering (after_chunk g inc number e)
chunk_taken inc number e (phase.Gone own) = phase.Gone own

-- it wants the items of an in-edge from a number on: of both producers of the edge, or of ingress
abbrev pub wants_of : Partition → ℕ → ℕ → List (NodeId × Body)
wants_of p q from =
    if p.stage == 1 then (node.Ingress, body.Want (in_edge p q) from) ∷ []
    else (node.Replica (p.stage - 1) q A, body.Want (in_edge p q) from) ∷ (node.Replica (p.stage - 1) q B, body.Want (in_edge p q) from) ∷ []

-- an entry that was taken tells where it wants the items of an in-edge from: those above its mark
abbrev pub wants_by : Partition → Took → Entry → List (NodeId × Body)
wants_by p took.Taken (entry.Mark q upto) = wants_of p q (upto + 1)
wants_by p took e = []

-- what a replica that gathers wants for a chunk: where it is the next of its move, and has a mark, the items above that mark
abbrev pub wants_in : Partition → ℕ → ℕ → Entry → Phase → List (NodeId × Body)
wants_in p inc number e (phase.Running r) = []
wants_in p inc number e (phase.Gathering g) = wants_by p (took_of g inc number) e
wants_in p inc number e (phase.Gone own) = []

-- ---- failures

-- it is stopped, in the incarnation that it is in
abbrev pub stop_taken : ℕ → Phase → Phase
stop_taken inc p = if inc == inc_in p then phase.Gone (inc_in p) else p
