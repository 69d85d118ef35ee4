-- The list of a move: what a consumer, a producer and an operator hold at one moment, as entries.
use Rattle.std.specs.Prelude.{ℕ, ◌+◌, ◌-◌, List, [], ◌∷◌, ◌++◌, length}
use Rattle.tuple_edge.specs.Entries.{each_below, numbered}
use Rattle.tuple_edge.specs.declared.packet.Entry.{Entry}
use Rattle.tuple_edge.specs.declared.packet.Entry.TheVariants as entry
use Rattle.merge_order.specs.MergeView.{MergeView, mark_of, waiting_of}
use Rattle.flux_producer.specs.ProducerView.{ProducerView, buffer_at}

-- the number of the last item of an in-edge that was merged: those after it wait
abbrev pub used_of : MergeView → ℕ → ℕ
used_of m q = mark_of m q - length (waiting_of m q)

-- the mark of an in-edge, as an entry
abbrev pub mark_entry : MergeView → ℕ → List Entry
mark_entry m q = entry.Mark q (mark_of m q) ∷ []

-- what waits on an in-edge, as entries
abbrev pub head_entries : MergeView → ℕ → List Entry
head_entries m q = numbered (entry.Head q) (used_of m q) (waiting_of m q)

-- the numbers of an out-edge, as an entry
abbrev pub low_entry : ProducerView → ℕ → List Entry
low_entry p t = entry.Low t (buffer_at p t).low (buffer_at p t).produced ∷ []

-- what is kept for an out-edge, as entries
abbrev pub kept_entries : ProducerView → ℕ → List Entry
kept_entries p t = numbered (entry.Kept t) (buffer_at p t).low (buffer_at p t).items

-- what a move tells of a consumer and a producer: marks, the count, what waits, lows, and what is kept
abbrev pub fixed_part : MergeView → ProducerView → List Entry
fixed_part m p =
    each_below (length m.marks) (mark_entry m)
    ++ (entry.Count m.count ∷ [])
    ++ each_below (length m.marks) (head_entries m)
    ++ each_below (length p.edges) (low_entry p)
    ++ each_below (length p.edges) (kept_entries p)

-- the list of a move: after these, what the operator keeps
abbrev pub move_list : MergeView → ProducerView → List Entry → List Entry
move_list m p entries = fixed_part m p ++ entries
