-- Trades worked by hand: times that fall, symbols that are kept, and counts of orders to which replicas don't come.
use Rattle.std.specs.Prelude.{ℕ, pos, ◌≡◌, true, false, List, [], ◌∷◌, Option, None, Some}
use Rattle.tuple_edge.specs.Input.{Input}
use Rattle.tuple_edge.specs.declared.node.NodeId.{NodeId}
use Rattle.tuple_edge.specs.declared.node.NodeId.TheVariants as node
use Rattle.tuple_edge.specs.declared.node.Which.TheVariants as which
use Rattle.tuple_edge.specs.declared.row.Column.TheVariants as column
use Rattle.tuple_edge.specs.declared.row.Row.{Row}
use Rattle.op_spec.specs.declared.spec.By.TheVariants as by
use Rattle.op_spec.specs.declared.spec.Compare.TheVariants as compare
use Rattle.op_spec.specs.declared.spec.OpSpec.{OpSpec}
use Rattle.op_spec.specs.declared.spec.OpSpec.TheVariants as op
use Rattle.plan_reader.specs.PlanView.{PlanView}
use Rattle.pair_machine.specs.declared.order.Order.{Order}
use Rattle.trade_text.specs.TradesView.{TradesView, inputs_in, only_trades}
use Rattle.trade_check.specs.Counts.{items_of, known_inputs, order_warnings}
use Rattle.trade_check.specs.Symbols.{before_symbol, has_symbol, kept_symbol, symbol_count}
use Rattle.trade_check.specs.Times.{fall, is_over_midnight, told_falls}
use Rattle.trade_check.specs.declared.warning.CountWarning.{CountWarning}

-- a trade of account 7
abbrev pub trade : ℕ → ℕ → Row
trade time symbol = record { time = pos time; account = pos 7; symbol = pos symbol; qty = pos 100; value = pos 100000 }

-- a plan of one stage, in one partition
abbrev pub plan : ℕ → OpSpec → PlanView
plan version operator = record { version = version; stages = record { parts = 1; by = column.Account; op = operator } ∷ []; mark = 64; hold = 1024 }

-- the minutes of an account
abbrev pub minutes : OpSpec
minutes = op.Window by.Account (pos 60)

-- the position of an account
abbrev pub total : OpSpec
total = op.Total by.Account

-- trades of which the third is earlier than the second, and earlier than none before it
abbrev pub late : List Row
late = trade 34200 1 ∷ trade 34260 2 ∷ trade 34230 1 ∷ trade 34260 1 ∷ []

-- trades by times of day, the second one behind midnight
abbrev pub night : List Row
night = trade 86399 1 ∷ trade 5 1 ∷ []

-- which times fall under a plan
pub record TimesWorked : Type 0 where
  -- a window in a plan of version 1
  pub windows : told_falls (plan 1 minutes) late ≡ fall 4 (pos 34260) (pos 34230) ∷ []
  -- without one no sum asks for times, and where rows come in by their times a file may have any order
  pub sums : told_falls (plan 1 total) late ≡ []
  pub by_times : told_falls (plan 2 minutes) late ≡ []
  -- midnight is told of each plan that goes by times
  pub midnight : told_falls (plan 1 minutes) night ≡ fall 3 (pos 86399) (pos 5) ∷ []
  pub midnight_by_times : told_falls (plan 2 total) night ≡ fall 3 (pos 86399) (pos 5) ∷ []
  pub midnight_of_sums : told_falls (plan 1 total) night ≡ []
  -- equal times don't fall, nor do seconds that run on
  pub runs_on : told_falls (plan 1 minutes) (trade 86399 1 ∷ trade 86399 1 ∷ trade 86405 1 ∷ []) ≡ []
  -- over midnight a time falls by half a day at least, from the second half of a day
  pub over : is_over_midnight (fall 3 (pos 43200) (pos 0)) ≡ true
  pub too_near : is_over_midnight (fall 3 (pos 86399) (pos 43200)) ≡ false
  pub too_early : is_over_midnight (fall 3 (pos 43199) (pos 0)) ≡ false
  pub too_late : is_over_midnight (fall 3 (pos 86400) (pos 0)) ≡ false

-- which symbol is kept, and where it stands
pub record SymbolsWorked : Type 0 where
  pub kept : kept_symbol (op.Keep column.Symbol compare.Equal (pos 2)) ≡ Some (pos 2)
  pub no_symbol : kept_symbol (op.Keep column.Symbol compare.Equal (pos 0)) ≡ None
  pub several : kept_symbol (op.Keep column.Symbol compare.AtMost (pos 2)) ≡ None
  pub other_column : kept_symbol (op.Keep column.Account compare.Equal (pos 2)) ≡ None
  pub place : before_symbol (pos 2) late ≡ 1
  pub there : has_symbol late (pos 2) ≡ true
  pub lacks : has_symbol late (pos 3) ≡ false
  pub count : symbol_count late ≡ pos 2

-- two partitions by account, and a mark after each second input
abbrev pub halves : PlanView
halves = record { version = 1; stages = record { parts = 2; by = column.Account; op = total } ∷ []; mark = 2; hold = 1024 }

-- the late trades, alone
abbrev pub late_trades : TradesView
late_trades = only_trades late []

-- the inputs of the late trades
abbrev pub late_inputs : List Input
late_inputs = inputs_in late_trades

-- the first replica of a partition of the first stage
abbrev pub first_of : ℕ → NodeId
first_of part = node.Replica 1 part which.A

-- the second replica of a partition of the first stage
abbrev pub second_of : ℕ → NodeId
second_of part = node.Replica 1 part which.B

-- that a replica fails, and is asked back
abbrev pub order : ℕ → Option ℕ → Order
order at back = record { node = first_of 1; kill = true; at = at; back = back }

-- that a replica which merges 69 items doesn't come to a count of an order in time
abbrev pub told_count : Order → NodeId → ℕ → CountWarning
told_count o replica count = record { order = o; replica = replica; count = count; items = 69 }

-- how many items replicas merge, and which counts are told
pub record CountsWorked : Type 0 where
  -- the four trades of account 7 go to partition 1; both partitions merge two marks and the end
  pub with_rows : items_of halves late_inputs (second_of 1) ≡ 7
  pub without_rows : items_of halves late_inputs (first_of 0) ≡ 3
  -- a controller merges nothing, nor does a replica that the plan doesn't have
  pub controller : items_of halves late_inputs (node.Control 1 1) ≡ 0
  pub no_stage : items_of halves late_inputs (node.Replica 2 0 which.A) ≡ 0
  -- the trades are all inputs of a plan of version 1; of version 2 movements are, too, and come in by their times
  pub trades_alone : known_inputs halves late_trades None ≡ Some late_inputs
  pub unknown : known_inputs (plan 2 total) late_trades None ≡ None
  pub with_movements : known_inputs (plan 2 total) (only_trades (trade 34200 1 ∷ []) []) (Some (trade 34100 0 ∷ []))
      ≡ Some (record { source = 1; row = trade 34100 0 } ∷ record { source = 0; row = trade 34200 1 } ∷ [])
  -- a turn has 64 items: a count with so many behind it is in time, and one with fewer isn't
  pub in_time : order_warnings (order 5 None) 69 ≡ []
  pub in_last_turn : order_warnings (order 6 None) 69 ≡ told_count (order 6 None) (first_of 1) 6 ∷ []
  -- the way back is the partner's, and nothing is said of it where the order's own count is never reached
  pub back_in_time : order_warnings (order 5 (Some 5)) 69 ≡ []
  pub never_back : order_warnings (order 5 (Some 70)) 69 ≡ told_count (order 5 (Some 70)) (second_of 1) 70 ∷ []
  pub never : order_warnings (order 70 (Some 71)) 69 ≡ told_count (order 70 (Some 71)) (first_of 1) 70 ∷ []

-- all of these
pub record WorkedRows : Type 0 where
  pub times : TimesWorked
  pub symbols : SymbolsWorked
  pub counts : CountsWorked
