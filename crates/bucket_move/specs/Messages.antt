-- What is said of refused moves.
use Rattle.std.specs.Prelude.{ℕ, List, codes}
use Rattle.text_words.specs.Messages.{at_line}
use Rattle.bucket_move.specs.declared.error.Fault.{Fault}
use Rattle.bucket_move.specs.declared.error.Fault.TheVariants as fault
use Rattle.bucket_move.specs.declared.error.MovesError.{MovesError}
use Rattle.bucket_move.specs.declared.error.MovesError.TheVariants as error

-- a fault of a line, with the line's number
abbrev pub fault_at : ℕ → Fault → MovesError
fault_at line fault.Grammar = error.Grammar line
fault_at line fault.Range = error.Range line
fault_at line fault.NotRising = error.NotRising line

-- the text that says why moves are refused
abbrev pub moves_fault : MovesError → List ℕ
moves_fault error.Header = codes "header"
moves_fault (error.Grammar line) = at_line line (codes "grammar")
moves_fault (error.Range line) = at_line line (codes "range")
moves_fault (error.NotRising line) = at_line line (codes "not rising")
moves_fault (error.TooLong bytes) = codes "too long"
moves_fault error.OutOfMemory = codes "out of memory"
