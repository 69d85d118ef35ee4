-- The operators of a plan's text: the word that names each, and the settings that follow it.
use Rattle.std.specs.Prelude.{pos, List, Ok, Err, codes, unsigned_abs, if◌then◌else◌}
use Rattle.std.specs.Str.{bytes_eq}
use Rattle.tuple_edge.specs.Sum.{big}
use Rattle.op_spec.specs.Limits.{max_join_rows, max_last_rows, max_window_seconds}
use Rattle.op_spec.specs.declared.spec.OpSpec.{OpSpec}
use Rattle.op_spec.specs.declared.spec.OpSpec.TheVariants as op
use Rattle.text_words.specs.Lines.{Word}
use Rattle.text_words.specs.Reading.{◌>>=◌, Read, word_or}
use Rattle.plan_reader.specs.Grammar.{by_at, comparison_at, key_and_number_at, number_within}
use Rattle.plan_reader.specs.declared.error.Fault.{Fault}
use Rattle.plan_reader.specs.declared.error.Fault.TheVariants as fault

-- the settings of a `keep`: the comparison that rows have to pass
unfoldable pub keep_at : List Word → Read OpSpec Fault
keep_at words = do
  test ← comparison_at words
  Ok (op.Keep test.0.0 test.0.1 test.0.2, test.1)

-- the settings of a `total`: its key
unfoldable pub total_at : List Word → Read OpSpec Fault
total_at words = do
  by ← by_at words
  Ok (op.Total by.0, by.1)

-- the settings of a `last`: its key, and how many rows of each key it sums
unfoldable pub last_at : List Word → Read OpSpec Fault
last_at words = do
  rows ← key_and_number_at 1 max_last_rows words
  Ok (op.Last rows.0.0 rows.0.1, rows.1)

-- the settings of a `window`: its key, and its width in seconds
unfoldable pub window_at : List Word → Read OpSpec Fault
window_at words = do
  width ← key_and_number_at 1 (unsigned_abs max_window_seconds) words
  Ok (op.Window width.0.0 (pos width.0.1), width.1)

-- the settings of a `crossing`: its key, and its limit in cents
unfoldable pub crossing_at : List Word → Read OpSpec Fault
crossing_at words = do
  limit ← key_and_number_at 0 big words
  Ok (op.Crossing limit.0.0 (pos limit.0.1), limit.1)

-- the settings of a `join`: its key, its width in seconds, how many rows of each side it keeps, and which rows are left
unfoldable pub join_at : List Word → Read OpSpec Fault
join_at words = do
  width ← key_and_number_at 1 (unsigned_abs max_window_seconds) words
  rows ← number_within 1 max_join_rows width.1
  test ← comparison_at rows.1
  Ok (op.Join width.0.0 (pos width.0.1) rows.0 test.0.0 test.0.1 test.0.2, test.1)

-- an operator and its settings
unfoldable pub op_at : List Word → Read OpSpec Fault
op_at words = do
  w ← word_or fault.Grammar words
  if bytes_eq w.0 (codes "keep") then keep_at w.1
      else if bytes_eq w.0 (codes "total") then total_at w.1
      else if bytes_eq w.0 (codes "last") then last_at w.1
      else if bytes_eq w.0 (codes "window") then window_at w.1
      else if bytes_eq w.0 (codes "crossing") then crossing_at w.1
      else if bytes_eq w.0 (codes "join") then join_at w.1
      else Err fault.UnknownWord
