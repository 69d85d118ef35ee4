-- A consumer: a merge, and for each in-edge the mark that was told last.
use Rattle.std.specs.Prelude.{◌≡◌, ℕ, zero, suc, ◌<◌, ◌≤◌, List, length, Option, None, Some, nat_lt, if◌then◌else◌, slice_index, slice_set, replicate}
use Rattle.std.specs.Option.{option_or}
use Rattle.merge_order.specs.MergeView.{MergeView, mark_of}

-- a merge, and for each in-edge the mark that was told last
pub record ConsumerView : Type 0 where
  pub merge : MergeView
  pub told : List ℕ

-- the mark of an in-edge that was told last
abbrev pub told_of : ConsumerView → ℕ → ℕ
told_of c edge = slice_index c.told edge

-- a consumer of a merge that has told nothing
abbrev pub over : MergeView → ConsumerView
over m = record { merge = m; told = replicate (length m.marks) 0 }

-- a consumer that told the same, with this merge
abbrev pub with_merge : ConsumerView → MergeView → ConsumerView
with_merge c m = record c { merge = m }

-- a consumer after the mark of an edge was told
abbrev pub telling : ConsumerView → ℕ → ConsumerView
telling c edge = record c { told = slice_set c.told edge (mark_of c.merge edge) }

-- no mark of the first n edges is above what was told of it
abbrev pub AllTold : ConsumerView → ℕ → Type 0
AllTold c n = (edge : ℕ) → edge < n → mark_of c.merge edge ≤ told_of c edge

-- this is the first edge whose mark is above what was told, and that mark
pub record IsFirstUntold (c : ConsumerView) (edge mark : ℕ) : Type 0 where
  pub inside : edge < length c.merge.marks
  pub mark_is : mark ≡ mark_of c.merge edge
  pub untold : told_of c edge < mark
  pub before : AllTold c edge

-- the same as a function: -----------------------------------------------------

-- what is to be told of an edge
abbrev pub report_at : ConsumerView → ℕ → Option (ℕ × ℕ)
report_at c edge = if nat_lt (told_of c edge) (mark_of c.merge edge) then Some (edge, mark_of c.merge edge) else None

-- what is to be told of the first n edges: of the first of them of which there is anything
abbrev pub report_below : ConsumerView → ℕ → Option (ℕ × ℕ)
report_below c zero = None
report_below c (suc n) = option_or (report_below c n) (report_at c n)

-- what is to be told: an edge with its mark
abbrev pub report_of : ConsumerView → Option (ℕ × ℕ)
report_of c = report_below c (length c.merge.marks)
