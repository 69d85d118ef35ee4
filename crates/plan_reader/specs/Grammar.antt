-- The words of a plan's lines, from the left: each gives a value or a fault, whose line isn't known here.
use Rattle.std.specs.Prelude.{ℕ, ℤ, ◌&&◌, nat_le, List, Option, Some, None, Ok, Err, codes, unsigned_abs, if◌then◌else◌}
use Rattle.std.specs.Str.{bytes_eq}
use Rattle.tuple_edge.specs.Sum.{big}
use Rattle.tuple_edge.specs.declared.row.Column.{Column}
use Rattle.tuple_edge.specs.declared.row.Column.TheVariants as column
use Rattle.op_spec.specs.declared.spec.By.{By}
use Rattle.op_spec.specs.declared.spec.By.TheVariants as by
use Rattle.op_spec.specs.declared.spec.Compare.{Compare}
use Rattle.op_spec.specs.declared.spec.Compare.TheVariants as compare
use Rattle.text_words.specs.Lines.{Word}
use Rattle.text_words.specs.Numbers.{number_of, signed_number_of}
use Rattle.text_words.specs.Reading.{◌>>=◌, Read, word_or}
use Rattle.plan_reader.specs.declared.error.Fault.{Fault}
use Rattle.plan_reader.specs.declared.error.Fault.TheVariants as fault

-- ---- numbers

-- the value of a word in a number's place
abbrev pub valued : {A : Type 0} → Option A → List Word → Read A Fault
valued None words = Err fault.Number
valued (Some n) words = Ok (n, words)

-- the number that the next word says
unfoldable pub number_at : List Word → Read ℕ Fault
number_at words = do
  w ← word_or fault.Grammar words
  valued (number_of w.0) w.1

-- a number from low to high
unfoldable pub number_within : ℕ → ℕ → List Word → Read ℕ Fault
number_within low high words = do
  n ← number_at words
  if nat_le low n.0 && nat_le n.0 high then Ok n else Err fault.Range

-- a number within the bounds of a field, with a minus where it is negative
unfoldable pub limit_at : List Word → Read ℤ Fault
limit_at words = do
  w ← word_or fault.Grammar words
  z ← valued (signed_number_of w.0) w.1
  if nat_le (unsigned_abs z.0) big then Ok z else Err fault.Range

-- ---- names

-- what a word of a list of names stands for
abbrev pub listed : {A : Type 0} → Option A → List Word → Read A Fault
listed None words = Err fault.UnknownWord
listed (Some x) words = Ok (x, words)

-- the column that a word names
abbrev pub column_named : Word → Option Column
column_named w =
    if bytes_eq w (codes "time") then Some column.Time
    else if bytes_eq w (codes "account") then Some column.Account
    else if bytes_eq w (codes "symbol") then Some column.Symbol
    else if bytes_eq w (codes "qty") then Some column.Qty
    else if bytes_eq w (codes "value") then Some column.Value
    else None

-- the column that the next word names
unfoldable pub column_at : List Word → Read Column Fault
column_at words = do
  w ← word_or fault.Grammar words
  listed (column_named w.0) w.1

-- what a key is made of, by its name: the account, the symbol, or both
abbrev pub by_named : Word → Option By
by_named w =
    if bytes_eq w (codes "account") then Some by.Account
    else if bytes_eq w (codes "symbol") then Some by.Symbol
    else if bytes_eq w (codes "both") then Some by.Both
    else None

-- what the next word says that a key is made of
unfoldable pub by_at : List Word → Read By Fault
by_at words = do
  w ← word_or fault.Grammar words
  listed (by_named w.0) w.1

-- the comparison that a sign stands for
abbrev pub compare_named : Word → Option Compare
compare_named w =
    if bytes_eq w (codes "<") then Some compare.Less
    else if bytes_eq w (codes "<=") then Some compare.AtMost
    else if bytes_eq w (codes "=") then Some compare.Equal
    else if bytes_eq w (codes "!=") then Some compare.Unequal
    else if bytes_eq w (codes ">=") then Some compare.AtLeast
    else if bytes_eq w (codes ">") then Some compare.Greater
    else None

-- the comparison whose sign is the next word
unfoldable pub compare_at : List Word → Read Compare Fault
compare_at words = do
  w ← word_or fault.Grammar words
  listed (compare_named w.0) w.1

-- ---- settings

-- a key, and a number from low to high
unfoldable pub key_and_number_at : ℕ → ℕ → List Word → Read (By × ℕ) Fault
key_and_number_at low high words = do
  by ← by_at words
  n ← number_within low high by.1
  Ok ((by.0, n.0), n.1)

-- a comparison: a column, how it compares, and with which limit
unfoldable pub comparison_at : List Word → Read (Column × Compare × ℤ) Fault
comparison_at words = do
  column ← column_at words
  compare ← compare_at column.1
  limit ← limit_at compare.1
  Ok ((column.0, compare.0, limit.0), limit.1)
