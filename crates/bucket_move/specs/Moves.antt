-- The moves that a text says.
use Rattle.std.specs.Prelude.{ℕ, ◌≡◌, nat_le, nat_lt, List, [], ◌∷◌, ◌++◌, length, Result, Ok, Err, if◌then◌else◌}
use Rattle.text_words.specs.Lines.{LineView, Word, counting_lines}
use Rattle.text_words.specs.Reading.{◌>>=◌, Read, at_line}
use Rattle.plan_reader.specs.PlanView.{PlanView}
use Rattle.bucket_move.specs.Grammar.{is_opening, shift_at}
use Rattle.bucket_move.specs.Limits.{max_moves_bytes}
use Rattle.bucket_move.specs.Messages.{fault_at}
use Rattle.bucket_move.specs.Shifts.{last_at}
use Rattle.bucket_move.specs.declared.error.Fault.{Fault}
use Rattle.bucket_move.specs.declared.error.Fault.TheVariants as fault
use Rattle.bucket_move.specs.declared.error.MovesError.{MovesError}
use Rattle.bucket_move.specs.declared.error.MovesError.TheVariants as error
use Rattle.bucket_move.specs.declared.moves.Shift.{Shift}

-- the move that a line says, no sooner than those of the lines before it
unfoldable pub next_shift : PlanView → List Shift → List Word → Read Shift Fault
next_shift plan before words = do
  shift ← shift_at plan words
  if nat_le (last_at before) shift.0.at then Ok shift else Err fault.NotRising

-- these moves with that of a further line
unfoldable pub with_line : PlanView → List Shift → LineView → Result (List Shift) MovesError
with_line plan before line = do
  next ← at_line fault_at line.number (next_shift plan before line.words)
  Ok (before ++ next ∷ [])

-- these moves and those of further lines, up to the first line that is refused
unfoldable pub shifts_after : PlanView → List Shift → List LineView → Result (List Shift) MovesError
shifts_after plan before [] = Ok before
shifts_after plan before (line ∷ lines) = do
  more ← with_line plan before line
  shifts_after plan more lines

-- the lines after the first one that counts, which is fixed
abbrev pub body_of : List LineView → Result (List LineView) MovesError
body_of [] = Err error.Header
body_of (line ∷ lines) = if is_opening line.words then Ok lines else Err error.Header

-- the moves that lines say, for a plan
unfoldable pub moves_of_lines : PlanView → List LineView → Result (List Shift) MovesError
moves_of_lines plan lines = do
  body ← body_of lines
  shifts_after plan [] body

-- the moves that a text says, for a plan
unfoldable pub moves_of : PlanView → List ℕ → Result (List Shift) MovesError
moves_of plan bytes =
    if nat_lt max_moves_bytes (length bytes) then Err (error.TooLong (length bytes)) else moves_of_lines plan (counting_lines bytes)

-- ---- what a call that reads answers

-- this fault is the first one, unless memory ran out
abbrev pub Fails : {A : Type 0} → MovesError → Result A MovesError → Type 0
Fails error.Header read = read ≡ Err error.Header
Fails (error.Grammar line) read = read ≡ Err (error.Grammar line)
Fails (error.Range line) read = read ≡ Err (error.Range line)
Fails (error.NotRising line) read = read ≡ Err (error.NotRising line)
Fails (error.TooLong bytes) read = read ≡ Err (error.TooLong bytes)
Fails error.OutOfMemory read = Unit {0}

-- what a call gave, seen by view, is what reading gives, unless memory ran out
abbrev pub Gives : {X A : Type 0} → (X → A) → Result X MovesError → Result A MovesError → Type 0
Gives view (Ok x) read = read ≡ Ok (view x)
Gives view (Err e) read = Fails e read
