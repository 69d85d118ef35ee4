-- What the entries of a move make, one after another; and the fold-in of the tuples that are held.
use Rattle.std.specs.Prelude.{ℕ, ◌-◌, List, [], ◌∷◌, ◌++◌, fold, length, min, replicate, slice_index_or, slice_set, zero, suc}
use Rattle.tuple_edge.specs.declared.item.Item.{Item}
use Rattle.tuple_edge.specs.declared.packet.Entry.{Entry}
use Rattle.tuple_edge.specs.declared.packet.Entry.TheVariants as entry
use Rattle.ack_buffer.specs.Buffer.{BufferView, produced_on, starting_at}
use Rattle.op_spec.specs.declared.spec.OpSpec.{OpSpec}
use Rattle.stream_ops.specs.State.{IsNextEntry}
use Rattle.merge_order.specs.MergeView.{MergeView, after_offer, starting}

-- ---- the merge

-- the marks of the in-edges after an entry, each less by the items that wait: those are offered again; an entry of an edge that
-- isn't there changes nothing
abbrev pub marks_step : List ℕ → Entry → List ℕ
marks_step marks (entry.Mark q upto) = slice_set marks q upto
marks_step marks (entry.Count count) = marks
marks_step marks (entry.Head q number item) = slice_set marks q (slice_index_or marks q 0 - 1)
marks_step marks (entry.Low t low produced) = marks
marks_step marks (entry.Kept t number item) = marks
marks_step marks (entry.Keyed k slot a b c) = marks

-- the marks of so many in-edges that entries make, each less by the items that wait
abbrev pub marks_in : ℕ → List Entry → List ℕ
marks_in edges es = fold marks_step (replicate edges 0) es

-- how many items were merged, after an entry
abbrev pub count_step : ℕ → Entry → ℕ
count_step n (entry.Mark q upto) = n
count_step n (entry.Count count) = count
count_step n (entry.Head q number item) = n
count_step n (entry.Low t low produced) = n
count_step n (entry.Kept t number item) = n
count_step n (entry.Keyed k slot a b c) = n

-- how many items were merged, as the last entry of a count says
abbrev pub count_in : List Entry → ℕ
count_in es = fold count_step 0 es

-- a merge after an entry: an item that waits is offered
abbrev pub heads_step : MergeView → Entry → MergeView
heads_step m (entry.Mark q upto) = m
heads_step m (entry.Count count) = m
heads_step m (entry.Head q number item) = after_offer m q number item
heads_step m (entry.Low t low produced) = m
heads_step m (entry.Kept t number item) = m
heads_step m (entry.Keyed k slot a b c) = m

-- the merge of so many in-edges that entries make: it has their marks and their count, and is offered the items that wait
abbrev pub merge_in : ℕ → List Entry → MergeView
merge_in edges es = fold heads_step (starting (marks_in edges es) (count_in es)) es

-- ---- the buffers, their room left aside

-- a buffer with no room to spare
abbrev pub without_spare : BufferView → BufferView
without_spare b = record b { spare = 0 }

-- the buffer of an out-edge, or an empty one where there is none
abbrev pub buffer_of : List BufferView → ℕ → BufferView
buffer_of bs t = slice_index_or bs t (starting_at 0 0)

-- a buffer begins with low as moved and nothing above it produced, and produces again what is kept; an item of a buffer that isn't there changes nothing
abbrev pub buffers_step : List BufferView → Entry → List BufferView
buffers_step bs (entry.Mark q upto) = bs
buffers_step bs (entry.Count count) = bs
buffers_step bs (entry.Head q number item) = bs
buffers_step bs (entry.Low t low produced) = bs ++ starting_at low (min low produced) ∷ []
buffers_step bs (entry.Kept t number item) = slice_set bs t (without_spare (produced_on (buffer_of bs t) item))
buffers_step bs (entry.Keyed k slot a b c) = bs

-- the buffers of the out-edges that entries make
abbrev pub buffers_in : List Entry → List BufferView
buffers_in es = fold buffers_step [] es

-- the edges whose lows were moved, in order: each begins the next buffer
abbrev pub lows_in : List Entry → List ℕ
lows_in [] = []
lows_in (entry.Mark q upto ∷ es) = lows_in es
lows_in (entry.Count count ∷ es) = lows_in es
lows_in (entry.Head q number item ∷ es) = lows_in es
lows_in (entry.Low t low produced ∷ es) = t ∷ lows_in es
lows_in (entry.Kept t number item ∷ es) = lows_in es
lows_in (entry.Keyed k slot a b c ∷ es) = lows_in es

-- ---- the operator's state

-- the entries of an operator, with a further entry if it is the operator's
abbrev pub keyed_step : List Entry → Entry → List Entry
keyed_step es (entry.Mark q upto) = es
keyed_step es (entry.Count count) = es
keyed_step es (entry.Head q number item) = es
keyed_step es (entry.Low t low produced) = es
keyed_step es (entry.Kept t number item) = es
keyed_step es (entry.Keyed k slot a b c) = es ++ entry.Keyed k slot a b c ∷ []

-- those of these entries that are the operator's
abbrev pub keyed_in : List Entry → List Entry
keyed_in es = fold keyed_step [] es

-- the entry, where it is the operator's, is the next one of a state of these settings
abbrev pub IsNextOf : OpSpec → List Entry → Entry → Type 0
IsNextOf spec es (entry.Mark q upto) = Unit {0}
IsNextOf spec es (entry.Count count) = Unit {0}
IsNextOf spec es (entry.Head q number item) = Unit {0}
IsNextOf spec es (entry.Low t low produced) = Unit {0}
IsNextOf spec es (entry.Kept t number item) = Unit {0}
IsNextOf spec es (entry.Keyed k slot a b c) = IsNextEntry spec es (entry.Keyed k slot a b c)

-- each of these entries that is the operator's is the next one of a state with those before it
abbrev pub AllNext : OpSpec → List Entry → List Entry → Type 0
AllNext spec es [] = Unit {0}
AllNext spec es (f ∷ fs) = IsNextOf spec es f × AllNext spec (keyed_step es f) fs

-- ---- the fold-in

-- an item of an in-edge is offered under its number: it is taken if it follows the mark, and else given up
abbrev pub offered : ℕ → MergeView → ℕ × Item → MergeView
offered q m e = after_offer m q e.0 e.1

-- items of an in-edge are offered by rising number: those that follow the mark without a gap are taken, and the others given up
abbrev pub all_offered : ℕ → MergeView → List (ℕ × Item) → MergeView
all_offered q m held = fold (offered q) m held

-- the items that are held of the first n in-edges are offered, edge by edge
abbrev pub folded_below : ℕ → MergeView → List (List (ℕ × Item)) → MergeView
folded_below zero m held = m
folded_below (suc n) m held = all_offered n (folded_below n m held) (slice_index_or held n [])

-- a merge after the fold-in: the items that are held of all in-edges are offered to it
abbrev pub folded : MergeView → List (List (ℕ × Item)) → MergeView
folded m held = folded_below (length held) m held
