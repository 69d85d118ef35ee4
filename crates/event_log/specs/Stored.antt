-- What a log's memory stands for: its entries in order, where one that comes again takes no memory of its own.
use Rattle.std.specs.Prelude.{◌≡◌, ℕ, ◌+◌, List, [], ◌∷◌, ◌++◌, replicate}
use Rattle.event_log.specs.declared.entry.Entry.{Entry}
use Rattle.event_log.specs.declared.entry.Entry.TheVariants as entry
use Rattle.event_log.specs.declared.stored.Stored.{Stored}
use Rattle.event_log.specs.declared.stored.Stored.TheVariants as stored

-- the entry of the same again: with the next clock, and of a sender the next packet
abbrev pub again_of : Entry → Entry
again_of (entry.Work rise) = entry.Work 1
again_of (entry.Make rise) = entry.Make 1
again_of (entry.Take sender rise) = entry.Take sender 1
again_of (entry.Jump sender) = entry.Take sender 1
again_of entry.Whole = entry.Whole

-- the first entry of what is stored, where the one before would come again as this one
abbrev pub first_entry : Entry → Stored → Entry
first_entry again (stored.Work rise) = entry.Work rise
first_entry again (stored.Make rise) = entry.Make rise
first_entry again (stored.Take sender rise) = entry.Take sender rise
first_entry again (stored.Jump sender) = entry.Jump sender
first_entry again stored.Whole = entry.Whole
first_entry again (stored.Again further) = again

-- how many times that one comes again
abbrev pub further_of : Stored → ℕ
further_of (stored.Work rise) = 0
further_of (stored.Make rise) = 0
further_of (stored.Take sender rise) = 0
further_of (stored.Jump sender) = 0
further_of stored.Whole = 0
further_of (stored.Again further) = further

-- what would come again behind it
abbrev pub again_behind : Entry → Stored → Entry
again_behind again s = again_of (first_entry again s)

-- what is stored, written out: of each its first entry, and that one again so many times
abbrev pub written_out : Entry → List Stored → List Entry
written_out again [] = []
written_out again (s ∷ ss) = first_entry again s ∷ (replicate (further_of s) (again_behind again s) ++ written_out (again_behind again s) ss)

-- what would come again behind all of it
abbrev pub again_after : Entry → List Stored → Entry
again_after again [] = again
again_after again (s ∷ ss) = again_after (again_behind again s) ss

-- the entries of a log, from the first on; before the first stands as if a whole event
abbrev pub entries_of : List Stored → List Entry
entries_of ss = written_out entry.Whole ss

-- what comes where the last of them comes again
abbrev pub again_at : List Stored → Entry
again_at ss = again_after entry.Whole ss

-- an `Again`, and one that says so many times more
pub record IsLonger (before : Stored) (by : ℕ) (after : Stored) : Type 0 where
  pub further : ℕ
  pub was : before ≡ stored.Again further
  pub now : after ≡ stored.Again (further + by)

-- what is stored, after the last of its entries came again so many times
pub record CameAgain (before : List Stored) (times : ℕ) (after : List Stored) : Type 0 where
  pub entries : entries_of after ≡ entries_of before ++ replicate times (again_at before)
  pub again : again_at after ≡ again_at before
