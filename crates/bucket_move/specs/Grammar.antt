-- The words of the lines of moves, from the left: each gives a value or a fault, whose line isn't known here.
use Rattle.std.specs.Prelude.{ℕ, Bool, false, ◌&&◌, ◌%◌, ◌==◌, nat_le, nat_lt, List, [], ◌∷◌, Ok, Err, codes, if◌then◌else◌}
use Rattle.std.specs.Option.{ok_or}
use Rattle.std.specs.Str.{bytes_eq}
use Rattle.text_words.specs.Lines.{Word}
use Rattle.text_words.specs.Numbers.{number_of}
use Rattle.text_words.specs.Reading.{◌>>=◌, Read, end_or, fixed_or, word_or}
use Rattle.plan_reader.specs.PlanView.{PlanView}
use Rattle.plan_reader.specs.declared.stage.Stage.{Stage}
use Rattle.bucket_move.specs.Limits.{buckets, max_stamp}
use Rattle.bucket_move.specs.declared.error.Fault.{Fault}
use Rattle.bucket_move.specs.declared.error.Fault.TheVariants as fault
use Rattle.bucket_move.specs.declared.moves.Shift.{Shift}

-- whether these are the words of the first line: `moves 1`
abbrev pub is_opening : List Word → Bool
is_opening [] = false
is_opening (name ∷ []) = false
is_opening (name ∷ version ∷ []) = bytes_eq name (codes "moves") && bytes_eq version (codes "1")
is_opening (name ∷ version ∷ word ∷ words) = false

-- ---- numbers

-- a number
unfoldable pub number_at : List Word → Read ℕ Fault
number_at words = do
  w ← word_or fault.Grammar words
  n ← ok_or (number_of w.0) fault.Grammar
  Ok (n, w.1)

-- a number below a limit
unfoldable pub number_below : ℕ → List Word → Read ℕ Fault
number_below limit words = do
  n ← number_at words
  if nat_lt n.0 limit then Ok n else Err fault.Range

-- whether a plan has a mark after so many rows, up to the greatest stamp of a move
abbrev pub is_mark : ℕ → ℕ → Bool
is_mark mark n = nat_le 1 n && nat_le n max_stamp && (n % mark == 0)

-- after how many rows a bucket moves
unfoldable pub mark_at : ℕ → List Word → Read ℕ Fault
mark_at mark words = do
  n ← number_at words
  if is_mark mark n.0 then Ok n else Err fault.Range

-- ---- a line

-- in how many partitions the first stage runs
abbrev pub parts_of : List Stage → ℕ
parts_of [] = 0
parts_of (s ∷ stages) = s.parts

-- a move within the limits of a plan
unfoldable pub shift_at : PlanView → List Word → Read Shift Fault
shift_at plan words = do
  at_word ← fixed_or fault.Grammar (codes "at") words
  at ← mark_at plan.mark at_word.1
  bucket_word ← fixed_or fault.Grammar (codes "bucket") at.1
  bucket ← number_below buckets bucket_word.1
  to_word ← fixed_or fault.Grammar (codes "to") bucket.1
  to ← number_below (parts_of plan.stages) to_word.1
  end ← end_or fault.Grammar to.1
  Ok (record { at = at.0; bucket = bucket.0; to = to.0 }, end.1)
