-- A mover: what it has still to give, and what it gives next.
use Rattle.std.specs.Prelude.{◌≡◌, ℕ, ◌+◌, ◌-◌, ◌<◌, ◌≤◌, ◌^◌, ◌==◌, List, length, min, nat_lt, if◌then◌else◌, Option, None, Some, slice_get}
use Rattle.tuple_edge.specs.declared.packet.Entry.{Entry}
use Rattle.tuple_edge.specs.declared.row.Key.{Key}
use Rattle.stream_ops.specs.Entries.{last_place, place_of}
use Rattle.state_mover.specs.declared.mover.Moved.{Moved}
use Rattle.state_mover.specs.declared.mover.Moved.TheVariants as moved

-- whom it is for, the entries that were fixed at its beginning, how many operator's entries follow them, how many chunks were given
-- (the end counted), and the place of the last operator's entry that was given
pub record MoverView : Type 0 where
  pub target : ℕ
  pub fixed : List Entry
  pub entries : ℕ
  pub sent : ℕ
  pub last : Option (Key × ℕ)

-- a mover that has given nothing
abbrev pub begun : ℕ → List Entry → ℕ → MoverView
begun target fixed entries = record { target = target; fixed = fixed; entries = entries; sent = 0; last = None }

-- how many operator's entries are among the first so many chunks
abbrev pub keyed_among : MoverView → ℕ → ℕ
keyed_among m sent = min (sent - length m.fixed) m.entries

-- how many operator's entries were given
abbrev pub keyed_given : MoverView → ℕ
keyed_given m = keyed_among m m.sent

-- how many chunks there are, the end counted
abbrev pub total_of : MoverView → ℕ
total_of m = length m.fixed + m.entries + 1

-- what is true of each mover: before the first operator's entry there is no place
pub record IsMover (fixed : List Entry) (entries sent : ℕ) (last : Option (Key × ℕ)) : Type 0 where
  pub within : sent ≤ length fixed + entries + 1
  pub fits : length fixed + entries + 1 < 2 ^ 64
  pub unplaced : min (sent - length fixed) entries ≡ 0 → last ≡ None

-- what is true of each mover, as contracts see it
abbrev pub IsSound : MoverView → Type 0
IsSound m = IsMover m.fixed m.entries m.sent m.last

-- A mover gives these operator's entries: they are as many as it was told at its beginning, and where it gave some of them, it has the
-- place of the last one.
pub record IsMidway (m : MoverView) (old : List Entry) : Type 0 where
  pub count : length old ≡ m.entries
  pub place : 0 < keyed_given m → m.last ≡ last_place (keyed_given m) old

-- the place that a mover has once it has given this entry: of the fixed part there is none
abbrev pub place_next : MoverView → Entry → Option (Key × ℕ)
place_next m e = if nat_lt m.sent (length m.fixed) then None else place_of e

-- the chunk of an entry, or, past the last one, the end, once
abbrev pub moved_from : ℕ → ℕ → Option Entry → Option Moved
moved_from sent count (Some e) = Some (moved.Chunk (sent + 1) e)
moved_from sent count None = if sent == count then Some (moved.End count) else None

-- what is given of a list once so many were
abbrev pub moved_at : List Entry → ℕ → Option Moved
moved_at es sent = moved_from sent (length es) (slice_get es sent)

-- a mover of these operator's entries after one more chunk, where there is one
abbrev pub after_next : MoverView → List Entry → MoverView
after_next m old =
    if nat_lt m.sent (total_of m)
    then record m { sent = m.sent + 1; last = last_place (keyed_among m (m.sent + 1)) old }
    else m
