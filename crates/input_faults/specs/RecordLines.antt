-- Where a reader of a text's records stands that is asked for one after the other.
use Rattle.std.specs.Prelude.{ℕ, ◌≡◌, ◌≤◌, ◌+◌, ◌-◌, List, drop, length}
use Rattle.input_faults.specs.Records.{Left, at_start, before, behind_records, line_behind}

-- Of a text this is left behind the records before the one of this number: each later record stands as far behind it.
abbrev pub IsBehind : List ℕ → ℕ → Left → Type 0
IsBehind text number left = (later : ℕ) → number ≤ later → behind_records (later - number) left ≡ behind_records (later - 1) (at_start text)

-- The lines of a text are counted up to what is left of it here, which begins in this line.
pub record AreCounted (text : List ℕ) (here : List ℕ) (line : ℕ) : Type 0 where
  pub rest : here ≡ drop (length text - length here) text
  pub within : length here ≤ length text
  pub count : line ≡ line_behind (before here text)
  pub room : line + length here ≤ length text + 1
