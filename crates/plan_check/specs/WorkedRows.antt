-- Rows worked by hand where a stage splits keys: in its partition a row is answered otherwise than in one partition. And plans and scripts, with their warnings.
use Rattle.std.specs.Prelude.{◌≡◌, ℕ, pos, true, false, List, [], ◌∷◌, Option, None, Some}
use Rattle.tuple_edge.specs.declared.node.NodeId.{NodeId}
use Rattle.tuple_edge.specs.declared.node.NodeId.TheVariants as node
use Rattle.tuple_edge.specs.declared.node.Which.{Which}
use Rattle.tuple_edge.specs.declared.node.Which.TheVariants.{A, B}
use Rattle.tuple_edge.specs.declared.row.Column.{Column}
use Rattle.tuple_edge.specs.declared.row.Column.TheVariants as column
use Rattle.tuple_edge.specs.declared.row.Row.{Row}
use Rattle.op_spec.specs.declared.spec.By.{By}
use Rattle.op_spec.specs.declared.spec.By.TheVariants as by
use Rattle.op_spec.specs.declared.spec.Compare.TheVariants as compare
use Rattle.op_spec.specs.declared.spec.OpSpec.{OpSpec}
use Rattle.op_spec.specs.declared.spec.OpSpec.TheVariants as op
use Rattle.stream_ops.specs.Answers.{row_answer}
use Rattle.plan_reader.specs.PlanView.{PlanView}
use Rattle.plan_reader.specs.declared.stage.Stage.{Stage}
use Rattle.pair_machine.specs.declared.order.Order.{Order}
use Rattle.bucket_move.specs.Rows.{items_of}
use Rattle.plan_check.specs.Laws.{rows_beside}
use Rattle.plan_check.specs.Sums.{splits_keys}
use Rattle.plan_check.specs.Stages.{numbered}
use Rattle.plan_check.specs.Warnings.{plan_warnings, script_warnings}
use Rattle.plan_check.specs.declared.warning.Warning.{Warning}
use Rattle.plan_check.specs.declared.warning.Warning.TheVariants as warning

-- ---- two trades

-- a row of account 7
abbrev pub row : ℕ → ℕ → ℕ → ℕ → Row
row time symbol qty value = record { time = pos time; account = pos 7; symbol = pos symbol; qty = pos qty; value = pos value }

-- a trade of symbol 1
abbrev pub first : Row
first = row 34200 1 100 100000

-- one of symbol 2, a minute later
abbrev pub second : Row
second = row 34260 2 50 100000

-- a stage of two partitions, to which rows go by a column
abbrev pub stage : Column → OpSpec → Stage
stage column op = record { parts = 2; by = column; op = op }

-- what the second one is answered with in its partition, where rows go by symbol
abbrev pub alone : OpSpec → List Row
alone op = row_answer op (items_of (rows_beside (stage column.Symbol op) second (first ∷ []))) second

-- what it is answered with in one partition
abbrev pub together : OpSpec → List Row
together op = row_answer op (items_of (first ∷ [])) second

-- a stage of this operator splits keys where rows go by symbol, and answers so alone and so together
pub record Differs (op : OpSpec) (apart whole : List Row) : Type 0 where
  pub splits : splits_keys (stage column.Symbol op) ≡ true
  pub alone : alone op ≡ apart
  pub together : together op ≡ whole

-- each operator that adds up answers the second trade otherwise
pub record RowsDiffer : Type 0 where
  pub total : Differs (op.Total by.Account) (row 34260 0 50 100000 ∷ []) (row 34260 0 150 200000 ∷ [])
  pub last : Differs (op.Last by.Account 2) (row 34260 0 50 100000 ∷ []) (row 34260 0 150 200000 ∷ [])
  pub window : Differs (op.Window by.Account (pos 60)) [] (row 34200 0 100 100000 ∷ [])
  pub crossing : Differs (op.Crossing by.Account (pos 150000)) [] (row 34260 0 150 200000 ∷ [])
  pub join : Differs (op.Join by.Account (pos 600) 1 column.Symbol compare.Equal (pos 1)) [] (row 34260 0 150 200000 ∷ [])

-- ---- plans

-- each account's position
abbrev pub total : Column → Stage
total column = stage column (op.Total by.Account)

-- each account's minutes
abbrev pub minutes : Column → Stage
minutes column = stage column (op.Window by.Account (pos 60))

-- a plan of version 1
abbrev pub plan : ℕ → ℕ → List Stage → PlanView
plan mark hold stages = record { version = 1; stages = stages; mark = mark; hold = hold }

-- what these plans are warned of
pub record PlansWarned : Type 0 where
  -- each key stays together, and minutes count each trade once
  pub none : plan_warnings (plan 64 1024 (minutes column.Account ∷ total column.Account ∷ [])) ≡ []
  -- a `last` of one row adds up nothing
  pub plain : plan_warnings (plan 64 1024 (stage column.Symbol (op.Last by.Account 1) ∷ total column.Account ∷ [])) ≡ []
  -- the second of two stages splits keys
  pub splits : plan_warnings (plan 64 1024 (minutes column.Account ∷ total column.Symbol ∷ [])) ≡ warning.SplitKeys (numbered 2 (total column.Symbol)) ∷ []
  -- sums of sums, also behind a stage that isn't a sum so far
  pub sums : plan_warnings (plan 64 1024 (total column.Account ∷ minutes column.Account ∷ total column.Account ∷ []))
      ≡ warning.SumsOfSums (numbered 2 (minutes column.Account)) (numbered 1 (total column.Account))
      ∷ warning.SumsOfSums (numbered 3 (total column.Account)) (numbered 1 (total column.Account))
      ∷ []
  -- a long mark and a short hold, and the greatest mark and the least hold that aren't warned of
  pub settings : plan_warnings (plan 513 511 (total column.Account ∷ [])) ≡ warning.LongMark 513 ∷ warning.ShortHold 511 ∷ []
  pub bounds : plan_warnings (plan 512 512 (total column.Account ∷ [])) ≡ []

-- ---- the order of rows behind a `window`

-- minutes of this key
abbrev pub minutes_of : By → Column → Stage
minutes_of key column = stage column (op.Window key (pos 60))

-- the last row of each key
abbrev pub last_of : By → Column → Stage
last_of key column = stage column (op.Last key 1)

-- rows of a quantity
abbrev pub keep : Column → Stage
keep routing = stage routing (op.Keep column.Qty compare.Greater (pos 0))

-- the warnings of these stages, with a mark and a hold that aren't warned of
abbrev pub stages_warned : List Stage → List Warning
stages_warned stages = plan_warnings (plan 64 1024 stages)

-- what these stages are warned of, for the order in which their rows come
pub record OrdersWarned : Type 0 where
  -- an account's minutes of several symbols, each of which closes once its own symbol is traded again
  pub times : stages_warned (minutes_of by.Both column.Account ∷ total column.Account ∷ [])
      ≡ warning.TimeOrder (numbered 2 (total column.Account)) (numbered 1 (minutes_of by.Both column.Account)) ∷ []
  -- an account's minutes have no symbol, and so they are of one key also for a stage by both
  pub one_key : stages_warned (minutes_of by.Account column.Account ∷ stage column.Account (op.Total by.Both) ∷ []) ≡ []
  -- nor has a window by both, where an account's positions come to it
  pub lost_before : stages_warned (last_of by.Account column.Account ∷ minutes_of by.Both column.Account ∷ total column.Account ∷ []) ≡ []
  -- at any distance, and where the symbol is lost on the way
  pub far : stages_warned (minutes_of by.Both column.Account ∷ keep column.Account ∷ last_of by.Account column.Account ∷ total column.Account ∷ [])
      ≡ warning.TimeOrder (numbered 4 (total column.Account)) (numbered 1 (minutes_of by.Both column.Account)) ∷ []
  -- a second window puts its rows in the order of times again
  pub again : stages_warned (minutes_of by.Both column.Account ∷ minutes_of by.Account column.Account ∷ total column.Account ∷ [])
      ≡ warning.TimeOrder (numbered 2 (minutes_of by.Account column.Account)) (numbered 1 (minutes_of by.Both column.Account)) ∷ []
  -- minutes of an account in two partitions by symbol: a sum, and the output, have them partition by partition
  pub parts : stages_warned (minutes_of by.Both column.Symbol ∷ total column.Account ∷ [])
      ≡ warning.TimeOrder (numbered 2 (total column.Account)) (numbered 1 (minutes_of by.Both column.Symbol))
      ∷ warning.PartOrder (numbered 2 (total column.Account)) (numbered 1 (minutes_of by.Both column.Symbol))
      ∷ warning.LeavingOrder (numbered 1 (minutes_of by.Both column.Symbol))
      ∷ []
  -- the account that routes is lost, and so the output has rows of a symbol partition by partition
  pub leaving : stages_warned (minutes_of by.Both column.Account ∷ last_of by.Symbol column.Symbol ∷ keep column.Symbol ∷ [])
      ≡ warning.LeavingOrder (numbered 1 (minutes_of by.Both column.Account)) ∷ []
  -- before a window rows come in the order of trades, whatever routes them
  pub before : stages_warned (last_of by.Account column.Symbol ∷ total column.Account ∷ []) ≡ []
  -- a stage that splits keys isn't named again
  pub split : stages_warned (minutes column.Account ∷ total column.Symbol ∷ total column.Account ∷ [])
      ≡ warning.SplitKeys (numbered 2 (total column.Symbol)) ∷ warning.SumsOfSums (numbered 3 (total column.Account)) (numbered 2 (total column.Symbol)) ∷ []

-- ---- scripts

-- a replica of the first stage
abbrev pub replica : Which → NodeId
replica which = node.Replica 1 0 which

-- it fails
abbrev pub kill : Which → ℕ → Option ℕ → Order
kill which at back = record { node = replica which; kill = true; at = at; back = back }

-- it asks to be stopped
abbrev pub stop : Which → ℕ → Option ℕ → Order
stop which at back = record { node = replica which; kill = false; at = at; back = back }

-- what these scripts are warned of
pub record ScriptsWarned : Type 0 where
  pub none : script_warnings (kill A 40 (Some 80) ∷ []) ≡ []
  -- two stops one after the other
  pub in_turn : script_warnings (stop A 40 (Some 80) ∷ stop B 80 (Some 120) ∷ []) ≡ []
  -- two stops at once: the second waits until the first replica is back
  pub at_once : script_warnings (stop A 40 (Some 80) ∷ stop B 60 (Some 120) ∷ []) ≡ warning.Alone (stop B 60 (Some 120)) false 60 (stop A 40 (Some 80)) ∷ []
  -- a failure beside a replica that is stopped, and is to be asked back by the one that failed
  pub not_safe : script_warnings (stop A 40 (Some 80) ∷ kill B 60 None ∷ [])
      ≡ warning.Unsafe (stop A 40 (Some 80)) (kill B 60 None) ∷ warning.Alone (stop A 40 (Some 80)) true 80 (kill B 60 None) ∷ []

-- all of these
pub record WorkedRows : Type 0 where
  pub rows : RowsDiffer
  pub plans : PlansWarned
  pub orders : OrdersWarned
  pub scripts : ScriptsWarned
