-- What the numbers stand for: the contents of a node and of a packet, as parts of the plan's edges. Each is a function of the plan, the
-- inputs and numbers alone, whatever the machine has done.
use Rattle.std.specs.Prelude.{◌≡◌, ℕ, List, [], ◌∷◌, ◌++◌, Some, ◌+◌, ◌-◌, drop, take}
use Rattle.tuple_edge.specs.declared.item.Item.{Item}
use Rattle.tuple_edge.specs.declared.node.LinkId.{LinkId}
use Rattle.tuple_edge.specs.declared.node.NodeId.{NodeId}
use Rattle.tuple_edge.specs.declared.node.NodeId.TheVariants as node
use Rattle.tuple_edge.specs.declared.packet.Body.{Body}
use Rattle.tuple_edge.specs.declared.packet.Body.TheVariants as body
use Rattle.tuple_edge.specs.declared.packet.Entry.{Entry}
use Rattle.tuple_edge.specs.declared.packet.Entry.TheVariants as entry
pub use Rattle.tuple_edge.specs.Entries.{each_below, numbered}
use Rattle.tuple_edge.specs.Input.{Input}
use Rattle.merge_order.specs.Edges.{item_at}
use Rattle.plan_reader.specs.Nodes.{parts_of, sources_of}
use Rattle.plan_reader.specs.PlanView.{PlanView}
use Rattle.pair_machine.specs.Counts.{entries_after, items_on, made_on, used_of}
use Rattle.pair_machine.specs.Machine.{nth_from_one}
use Rattle.pair_machine.specs.Messages.{Message, Tuple, Ack, Report, Lead, Serve, Begin, Chunk, ChunkEnd, Caught, Want, Down, Stop, AskStop, AskBack}
use Rattle.pair_machine.specs.Numbers.{MoveNumbers, Partition, in_edge, out_edge}

-- ---- the contents of a node

-- the items numbered above low up to produced
abbrev pub between : ℕ → ℕ → List Item → List Item
between low upto xs = take (upto - low) (drop low xs)

-- what waits on in-edge q of a partition that has merged so many items and has that mark
abbrev pub waiting : PlanView → List Input → Partition → ℕ → ℕ → ℕ → List Item
waiting plan inputs p count q mark = between (used_of plan inputs p q count) mark (items_on plan inputs (in_edge p q))

-- what is kept for out-edge t of a partition that has merged so many items and has that low
abbrev pub kept : PlanView → List Input → Partition → ℕ → ℕ → ℕ → List Item
kept plan inputs p count t low = between low (made_on plan inputs (out_edge p t) count) (items_on plan inputs (out_edge p t))

-- ---- the list of a move

-- the list of a move, by its numbers: marks, the count, what waits, lows, what is kept, and what the operator keeps
abbrev pub move_list : PlanView → List Input → Partition → MoveNumbers → List Entry
move_list plan inputs p m =
    each_below (sources_of plan p.stage) (λ q. entry.Mark q (m.marks q) ∷ [])
    ++ (entry.Count m.count ∷ [])
    ++ each_below (sources_of plan p.stage) (λ q. numbered (λ n x. entry.Head q n x) (used_of plan inputs p q m.count) (waiting plan inputs p m.count q (m.marks q)))
    ++ each_below (parts_of plan (p.stage + 1)) (λ t. entry.Low t (m.lows t) (made_on plan inputs (out_edge p t) m.count) ∷ [])
    ++ each_below (parts_of plan (p.stage + 1)) (λ t. numbered (λ n x. entry.Kept t n x) (m.lows t) (kept plan inputs p m.count t (m.lows t)))
    ++ entries_after plan inputs p m.count

-- ---- what a packet carries

-- the partition of a replica or a controller; the other nodes send no chunk
abbrev pub partition_of : NodeId → Partition
partition_of node.Ingress = record { stage = 0; part = 0 }
partition_of (node.Replica s p w) = record { stage = s; part = p }
partition_of (node.Control s p) = record { stage = s; part = p }
partition_of node.Egress = record { stage = 0; part = 0 }

-- A packet's body stands for a message on a link: it has its numbers, a tuple carries the item of its number, and a chunk the entry at
-- its place in the list of its move.
abbrev pub BodyStands : PlanView → List Input → LinkId → Body → Message → Type 0
BodyStands plan inputs l (body.Tuple e n item) (Tuple edge number) = (e ≡ edge) × (n ≡ number) × (item_at (items_on plan inputs edge) number ≡ Some item)
BodyStands plan inputs l (body.Chunk i n entry) (Chunk inc number m) = (i ≡ inc) × (n ≡ number) × (nth_from_one (move_list plan inputs (partition_of l.from) m) number ≡ Some entry)
BodyStands plan inputs l (body.ChunkEnd i c) (ChunkEnd inc count m) = (i ≡ inc) × (c ≡ count)
BodyStands plan inputs l (body.Ack e k) (Ack edge upto) = (e ≡ edge) × (k ≡ upto)
BodyStands plan inputs l (body.Report i e k) (Report inc edge upto) = (i ≡ inc) × (e ≡ edge) × (k ≡ upto)
BodyStands plan inputs l (body.Lead i t) (Lead inc term) = (i ≡ inc) × (t ≡ term)
BodyStands plan inputs l (body.Serve i t) (Serve inc target) = (i ≡ inc) × (t ≡ target)
BodyStands plan inputs l (body.Begin i) (Begin inc) = i ≡ inc
BodyStands plan inputs l (body.Caught i) (Caught inc) = i ≡ inc
BodyStands plan inputs l (body.Want e n) (Want edge from) = (e ≡ edge) × (n ≡ from)
BodyStands plan inputs l (body.Down i) (Down inc) = i ≡ inc
BodyStands plan inputs l (body.Stop i) (Stop inc) = i ≡ inc
BodyStands plan inputs l (body.AskStop i) (AskStop inc) = i ≡ inc
BodyStands plan inputs l body.AskBack AskBack = Unit {0}
BodyStands plan inputs l b m = ⊥
