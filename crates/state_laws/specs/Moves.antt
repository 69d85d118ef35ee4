-- A move over any order of calls: beginnings, calls of `next`, and steps of the operator's state among them.
use Rattle.std.specs.Prelude.{◌≡◌, ◌≤◌, ◌+◌, ℕ, List, [], ◌∷◌, ◌++◌, Option, None, Some, length, take}
use Rattle.std.specs.Option.{IfSome, option_to_list}
use Rattle.tuple_edge.specs.declared.item.Item.{Item}
use Rattle.tuple_edge.specs.declared.packet.Entry.{Entry}
use Rattle.op_spec.specs.declared.spec.OpSpec.{OpSpec}
use Rattle.merge_order.specs.MergeView.{MergeView}
use Rattle.stream_ops.specs.Entries.{entries}
use Rattle.flux_producer.specs.ProducerView.{ProducerView}
use Rattle.move_list.specs.MoveList.{fixed_part, move_list}
use Rattle.state_mover.specs.MoverView.{IsMidway, MoverView, after_next, begun, moved_at}
use Rattle.state_mover.specs.declared.mover.Moved.{Moved}
use Rattle.state_mover.specs.declared.mover.Moved.TheVariants as moved

-- entries as chunks, numbered above n
abbrev pub chunks_above : ℕ → List Entry → List Moved
chunks_above n [] = []
chunks_above n (e ∷ es) = moved.Chunk (n + 1) e ∷ chunks_above (n + 1) es

-- the parts of a move: a chunk for each entry of its list, and then the end, which tells how many there were
abbrev pub parts_of : List Entry → List Moved
parts_of es = chunks_above 0 es ++ moved.End (length es) ∷ []

-- ---- calls

-- The beginning of a move for a target, of what a consumer and a producer hold, where the operator's state is watched, and its entries
-- counted, with no step between; a call of `next`; a step of the state.
pub data Call : Type 0 where
  Begins : (target : ℕ) → (merge : MergeView) → (producer : ProducerView) → Call
  Nexts : Call
  Steps : (i : Item) → Call

-- the items that an operator's state was given, its entries when it was watched last, and the mover that was begun last
pub record Moving : Type 0 where
  pub items : List Item
  pub old : Option (List Entry)
  pub mover : Option MoverView

-- a state that was given nothing, and no move
abbrev pub opening : Moving
opening = record { items = []; old = None; mover = None }

-- what a mover gives next of the old entries
abbrev pub next_of : Option MoverView → Option (List Entry) → Option Moved
next_of None old = None
next_of (Some m) None = None
next_of (Some m) (Some old) = moved_at (m.fixed ++ old) m.sent

-- what a mover is after it gave the next part of the old entries
abbrev pub mover_after : Option MoverView → Option (List Entry) → Option MoverView
mover_after None old = None
mover_after (Some m) None = Some m
mover_after (Some m) (Some old) = Some (after_next m old)

-- an operator's state and its move after a call: the state has the entries of its items at each moment, and a watch keeps those
-- of its beginning
abbrev pub after_call : OpSpec → Moving → Call → Moving
after_call spec x (Begins target merge producer) =
    record { items = x.items; old = Some (entries spec x.items); mover = Some (begun target (fixed_part merge producer) (length (entries spec x.items))) }
after_call spec x Nexts = record { items = x.items; old = x.old; mover = mover_after x.mover x.old }
after_call spec x (Steps i) = record { items = x.items ++ i ∷ []; old = x.old; mover = x.mover }

-- an operator's state and its move after all these calls, one after another
abbrev pub after_calls : OpSpec → Moving → List Call → Moving
after_calls spec x [] = x
after_calls spec x (call ∷ calls) = after_calls spec (after_call spec x call) calls

-- the part that a call gives, if it gives one
abbrev pub given_by : Moving → Call → List Moved
given_by x (Begins target merge producer) = []
given_by x Nexts = option_to_list (next_of x.mover x.old)
given_by x (Steps i) = []

-- the parts that calls give, in order
abbrev pub given : OpSpec → Moving → List Call → List Moved
given spec x [] = []
given spec x (call ∷ calls) = given_by x call ++ given spec (after_call spec x call) calls

-- the items of the steps among calls
abbrev pub stepped : List Call → List Item
stepped [] = []
stepped (Begins target merge producer ∷ calls) = stepped calls
stepped (Nexts ∷ calls) = stepped calls
stepped (Steps i ∷ calls) = i ∷ stepped calls

-- how many calls of `next` are among these
abbrev pub nexts : List Call → ℕ
nexts [] = 0
nexts (Begins target merge producer ∷ calls) = nexts calls
nexts (Nexts ∷ calls) = nexts calls + 1
nexts (Steps i ∷ calls) = nexts calls

-- no move begins among these calls
abbrev pub NoneBegins : List Call → Type 0
NoneBegins [] = Unit {0}
NoneBegins (Begins target merge producer ∷ calls) = ⊥
NoneBegins (Nexts ∷ calls) = NoneBegins calls
NoneBegins (Steps i ∷ calls) = NoneBegins calls

-- ---- the law

-- a move that begins after calls
abbrev pub beginning : OpSpec → List Call → (target : ℕ) → MergeView → ProducerView → Moving
beginning spec before target merge producer = after_call spec (after_calls spec opening before) (Begins target merge producer)

-- the list of a move that begins after calls: what the consumer and the producer hold, and the entries after the items of the
-- steps before
abbrev pub list_of : OpSpec → List Call → MergeView → ProducerView → List Entry
list_of spec before merge producer = move_list merge producer (entries spec (stepped before))

-- what a move gives after calls since its beginning: the steps among them don't change its list
pub record GivesItsList (spec : OpSpec) (before : List Call) (target : ℕ) (merge : MergeView) (producer : ProducerView) (since : List Call) : Type 0 where
  -- the parts given are the first ones, as many as `next` was called
  pub front : given spec (beginning spec before target merge producer) since ≡ take (nexts since) (parts_of (list_of spec before merge producer))
  -- once it was called for each of them they are the whole list and then the end, once
  pub whole : length (parts_of (list_of spec before merge producer)) ≤ nexts since
      → given spec (beginning spec before target merge producer) since ≡ parts_of (list_of spec before merge producer)
  -- and what `next` asks holds: the state is watched with the entries of the beginning, and the mover is in the midst of them
  pub watched : (after_calls spec (beginning spec before target merge producer) since).old ≡ Some (entries spec (stepped before))
  pub midway : IfSome (after_calls spec (beginning spec before target merge producer) since).mover (λ m. IsMidway m (entries spec (stepped before)))

-- so it is in any order of calls, after the last beginning among them
abbrev pub AnyOrderMoves : Type 0
AnyOrderMoves = (spec : OpSpec) (before : List Call) (target : ℕ) (merge : MergeView) (producer : ProducerView) (since : List Call) → NoneBegins since
    → GivesItsList spec before target merge producer since
