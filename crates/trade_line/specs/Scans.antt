-- The records of a file, byte by byte, by csv's own machine: a record begins with a byte that ends no line, where none has begun.
use Rattle.std.specs.Prelude.{ℕ, ◌+◌, ◌==◌, ◌&&◌, ◌||◌, not, Bool, List, [], ◌∷◌, length, if◌then◌else◌}
use Rattle.csv.specs.Machine.{ends_at_end, step}
use Rattle.csv.specs.Reading.{default_config}
use Rattle.csv.specs.declared.parser.State.{State}
use Rattle.text_words.specs.Lines.{ends_line, is_end_byte}

-- whether a record begins with this byte
abbrev pub begins : State → ℕ → Bool
begins s byte = not (ends_at_end s) && not (is_end_byte byte)

-- the state of the byte behind this one
abbrev pub behind : State → ℕ → State
behind s byte = (step default_config s byte).0

-- one more, where it is so
abbrev pub counted : Bool → ℕ → ℕ
counted more count = if more then count + 1 else count

-- how many lines a text has: the last one may have no end
abbrev pub lines_in : List ℕ → ℕ
lines_in [] = 0
lines_in (byte ∷ rest) = counted (ends_line byte rest || (length rest == 0)) (lines_in rest)
