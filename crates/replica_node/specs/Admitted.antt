-- Which packets a replica may be given.
use Rattle.std.specs.Prelude.{◌≡◌, ◌<◌, ◌+◌, ℕ, IsTrue, None, length}
use Rattle.std.specs.List.{range_with_len}
use Rattle.std.specs.Option.{IsSome}
use Rattle.tuple_edge.specs.declared.node.EdgeId.{EdgeId}
use Rattle.tuple_edge.specs.declared.node.NodeId.{NodeId}
use Rattle.tuple_edge.specs.declared.node.NodeId.TheVariants as node
use Rattle.tuple_edge.specs.declared.packet.Body.{Body}
use Rattle.tuple_edge.specs.declared.packet.Body.TheVariants as body
use Rattle.tuple_edge.specs.declared.packet.Entry.{Entry}
use Rattle.tuple_edge.specs.declared.packet.Entry.TheVariants as entry
use Rattle.tuple_edge.specs.Limits.{number_limit}
use Rattle.op_spec.specs.Times.{IsTimely}
use Rattle.catch_up.specs.Rebuild.{lows_in}
use Rattle.merge_order.specs.MergeView.{all_wait, mark_of}
use Rattle.pair_machine.specs.Numbers.{other}
use Rattle.replica_node.specs.ReplicaView.{ReplicaView, targets_of}
use Rattle.replica_node.specs.declared.phase.Phase.{Phase}
use Rattle.replica_node.specs.declared.phase.Phase.TheVariants as phase
use Rattle.replica_node.specs.declared.role.Role.{Role}

-- ---- edges

-- the edge leads into the replica's partition, from one of its sources
abbrev pub IsIntoHere : Role → EdgeId → Type 0
IsIntoHere role e = (e.stage + 1 ≡ role.stage) × (e.to ≡ role.part) × (e.from < role.sources)

-- the edge leads from the replica's partition to one of its targets
abbrev pub IsFromHere : Role → EdgeId → Type 0
IsFromHere role e = (e.stage ≡ role.stage) × (e.from ≡ role.part) × (e.to < targets_of role.next)

-- ---- who sends what

-- ingress, or a replica of the edge's source, sends its items
abbrev pub SendsItems : EdgeId → NodeId → Type 0
SendsItems e node.Ingress = e.stage ≡ 0
SendsItems e (node.Replica stage part which) = (e.stage ≡ stage) × (e.from ≡ part)
SendsItems e from = ⊥

-- the controller of the edge's target, or egress, acknowledges its items
abbrev pub SendsAcks : Role → EdgeId → NodeId → Type 0
SendsAcks role e (node.Control stage part) = (e.stage + 1 ≡ stage) × (e.to ≡ part)
SendsAcks role e node.Egress = role.next ≡ None
SendsAcks role e from = ⊥

-- a replica of the edge's target, which is no egress, wants its items
abbrev pub SendsWants : Role → EdgeId → NodeId → Type 0
SendsWants role e (node.Replica stage part which) = IsSome role.next × (e.stage + 1 ≡ stage) × (e.to ≡ part)
SendsWants role e from = ⊥

-- the controller of its pair
abbrev pub IsController : Role → NodeId → Type 0
IsController role (node.Control stage part) = (stage ≡ role.stage) × (part ≡ role.part)
IsController role from = ⊥

-- its partner
abbrev pub IsPartner : Role → NodeId → Type 0
IsPartner role (node.Replica stage part which) = (stage ≡ role.stage) × (part ≡ role.part) × (which ≡ other role.which)
IsPartner role from = ⊥

-- ---- entries of a move

-- a mark or a waiting item is of an in-edge, a low or a kept item of an out-edge; the count, each mark, each low, the number of an item that
-- waits and the time of an item are within their limits
abbrev pub IsEntryHere : Role → Entry → Type 0
IsEntryHere role (entry.Mark q upto) = (q < role.sources) × (upto < number_limit)
IsEntryHere role (entry.Count count) = count < number_limit
IsEntryHere role (entry.Head q number i) = (q < role.sources) × (number < number_limit) × IsTimely i
IsEntryHere role (entry.Low t low produced) = (t < targets_of role.next) × (low < number_limit)
IsEntryHere role (entry.Kept t number i) = (t < targets_of role.next) × IsTimely i
IsEntryHere role (entry.Keyed k slot a b c) = Unit {0}

-- where the move ends, the lows taken are those of the out-edges, each once and in their order
abbrev pub IsWholeAt : Role → Phase → (inc count : ℕ) → Type 0
IsWholeAt role (phase.Running r) inc count = Unit {0}
IsWholeAt role (phase.Gathering g) inc count = inc ≡ g.inc → count ≡ length g.taken → lows_in g.taken ≡ range_with_len 0 (targets_of role.next)
IsWholeAt role (phase.Gone own) inc count = Unit {0}

-- ---- packets

-- all that is asked of a packet and its sender; each number that it may raise is within the limit
abbrev pub IsAdmitted : ReplicaView → NodeId → Body → Type 0
IsAdmitted v from (body.Tuple e number i) = SendsItems e from × IsIntoHere v.role e × (number < number_limit) × IsTimely i
IsAdmitted v from (body.Ack e upto) = SendsAcks v.role e from × IsFromHere v.role e × (upto < number_limit)
IsAdmitted v from (body.Want e number) = SendsWants v.role e from × IsFromHere v.role e
IsAdmitted v from (body.Lead inc term) = IsController v.role from × (term < number_limit)
IsAdmitted v from (body.Serve inc target) = IsController v.role from × (target < number_limit)
IsAdmitted v from (body.Begin inc) = IsController v.role from × (inc < number_limit)
IsAdmitted v from (body.Stop inc) = IsController v.role from
IsAdmitted v from (body.Chunk inc number e) = IsPartner v.role from × IsEntryHere v.role e
IsAdmitted v from (body.ChunkEnd inc count) = IsPartner v.role from × IsWholeAt v.role v.phase inc count
IsAdmitted v from b = ⊥

-- ---- work and pulls

-- a piece of work may be done: where an item is merged, the count stays within its limit
abbrev pub MayWorkIn : Phase → Type 0
MayWorkIn (phase.Running r) = IsTrue (all_wait r.consumer.merge.waiting) → r.consumer.merge.count + 1 < number_limit
MayWorkIn (phase.Gathering g) = Unit {0}
MayWorkIn (phase.Gone inc) = Unit {0}

-- it runs, and the next item of an edge may be pulled: its number is within the limit
abbrev pub MayPullIn : ℕ → Phase → Type 0
MayPullIn q (phase.Running r) = mark_of r.consumer.merge q + 1 < number_limit
MayPullIn q (phase.Gathering g) = ⊥
MayPullIn q (phase.Gone inc) = ⊥
