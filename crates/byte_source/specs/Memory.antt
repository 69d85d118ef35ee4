-- A source in memory, as contracts see it.
use Rattle.std.specs.Prelude.{ℕ, ◌+◌, ◌||◌, Bool, List, length, take, drop, min, max, get_or, Some, Result, Ok, Err, if◌then◌else◌}
use Rattle.flux_outside.specs.Memory.{has_number}
use Rattle.flux_outside.specs.Outside.{counted}
use Rattle.byte_source.specs.Told.{SourceTold, is_none_of}
use Rattle.byte_source.specs.declared.source.ReadFailed.{ReadFailed}

-- the text, how many bytes of it were given, the sizes of the pieces, the numbers of the reads that fail, the reads so far, whether one found the end,
-- and the faults
pub record MemSourceView : Type 0 where
  pub text : List ℕ
  pub at : ℕ
  pub sizes : List ℕ
  pub fails : List ℕ
  pub reads : ℕ
  pub ended : Bool
  pub faults : ℕ

-- it tells all
abbrev pub source_told : MemSourceView → SourceTold
source_told s = record { given = take s.at s.text; left = Some (drop s.at s.text); ended = s.ended; faults = s.faults }

-- whether the next read is one of those that fail
abbrev pub read_fails : MemSourceView → Bool
read_fails s = has_number s.fails (counted s.reads)

-- at most how many bytes the next read gives: the size that stands in its place, and at least one; behind the list of sizes as many as there is room for
abbrev pub next_size : MemSourceView → ℕ → ℕ
next_size s room = max (get_or s.sizes s.reads room) 1

-- how many bytes the next read gives into so much room, where it doesn't fail
abbrev pub next_count : MemSourceView → ℕ → ℕ
next_count s room = min (min (next_size s room) room) (length (drop s.at s.text))

-- what a read into so much room answers
abbrev pub read_answer : MemSourceView → ℕ → Result ℕ ReadFailed
read_answer s room = if read_fails s then Err (record {}) else Ok (next_count s room)

-- the source after a read into so much room
abbrev pub after_read : MemSourceView → ℕ → MemSourceView
after_read s room =
    if read_fails s then record s { reads = counted s.reads; faults = counted s.faults }
    else record s { reads = counted s.reads; at = s.at + next_count s room; ended = s.ended || is_none_of (take (next_count s room) (drop s.at s.text)) }
