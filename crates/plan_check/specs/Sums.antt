-- What the rows of a stage are sums of.
use Rattle.std.specs.Prelude.{◌&&◌, nat_lt, not, Bool, true, false, Option, Some, None}
use Rattle.tuple_edge.specs.declared.row.Column.{Column}
use Rattle.op_spec.specs.declared.spec.By.{By}
use Rattle.op_spec.specs.declared.spec.OpSpec.{OpSpec}
use Rattle.op_spec.specs.declared.spec.OpSpec.TheVariants as op
use Rattle.plan_reader.specs.declared.stage.Stage.{Stage}
use Rattle.bucket_move.specs.ByKey.{holds_column}

-- the key by which an operator keeps rows; a `keep` has none
abbrev pub key_in : OpSpec → Option By
key_in (op.Keep column compare limit) = None
key_in (op.Total by) = Some by
key_in (op.Last by rows) = Some by
key_in (op.Window by width) = Some by
key_in (op.Crossing by limit) = Some by
key_in (op.Join by width rows column compare limit) = Some by

-- whether an operator adds up rows: a `keep` passes rows on, and a `last` of one row answers each row with its own amounts
abbrev pub adds_up : OpSpec → Bool
adds_up (op.Keep column compare limit) = false
adds_up (op.Total by) = true
adds_up (op.Last by rows) = nat_lt 1 rows
adds_up (op.Window by width) = true
adds_up (op.Crossing by limit) = true
adds_up (op.Join by width rows column compare limit) = true

-- Whether a row that comes in may count in several of the rows that answer. Of an operator that adds up only a `window` counts each row once.
abbrev pub counts_again : OpSpec → Bool
counts_again (op.Keep column compare limit) = false
counts_again (op.Total by) = true
counts_again (op.Last by rows) = nat_lt 1 rows
counts_again (op.Window by width) = false
counts_again (op.Crossing by limit) = true
counts_again (op.Join by width rows column compare limit) = true

-- whether rows that agree in the key agree in a column
abbrev pub key_holds : Option By → Column → Bool
key_holds None column = false
key_holds (Some by) column = holds_column by column

-- whether a stage splits keys: it adds up rows in several partitions, and its key doesn't hold the column that routes to it
abbrev pub splits_keys : Stage → Bool
splits_keys s = adds_up s.op && (nat_lt 1 s.parts && not (key_holds (key_in s.op) s.by))
