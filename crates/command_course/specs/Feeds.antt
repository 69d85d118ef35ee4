-- The inputs of a command, read one after the other.
use Rattle.std.specs.Prelude.{ℕ, ◌≡◌, ◌↔◌, ◌-◌, ◌==◌, true, List, [], length, Option, Some, None, if◌then◌else◌}
use Rattle.tuple_edge.specs.declared.row.Row.{Row}
use Rattle.plan_reader.specs.Limits.{max_plan_bytes}
use Rattle.plan_reader.specs.PlanView.{PlanView}
use Rattle.trade_text.specs.Inputs.{inputs_of}
use Rattle.trade_text.specs.Limits.{max_input_bytes, max_inputs}
use Rattle.trade_text.specs.TradesView.{TradesView, inputs_in}
use Rattle.command_course.specs.Course.{Refuses, Way, reads}
use Rattle.command_course.specs.FeedView.{FeedView}
use Rattle.command_course.specs.Inputs.{cash_from, plan_from, trades_from}
use Rattle.command_course.specs.Lines.{not_in_plan_line}
use Rattle.command_course.specs.declared.feed.Feed.{Feed}

-- a plan fed with trades and movements
abbrev pub fed : PlanView → TradesView → List Row → FeedView
fed plan trades movements = record { plan = plan; inputs = inputs_of plan.version trades.rows movements; symbols = trades.symbols }

-- A plan of version 1 has no cash movements: where they are given with one, they are refused before anything else is read.
abbrev pub for_plan : Option (List ℕ) → PlanView → Way PlanView
for_plan None plan next = next plan
for_plan (Some cash) plan next = if plan.version == 1 then Refuses (not_in_plan_line cash) else next plan

-- the plan is read first
abbrev pub with_plan : List ℕ → Option (List ℕ) → Way PlanView
with_plan plan cash next = reads max_plan_bytes plan_from plan (λ it. for_plan cash it next)

-- The movements are read once the trades are there, which leave room for so many. Where no file is given there are none.
abbrev pub with_movements : Option (List ℕ) → PlanView → TradesView → Way FeedView
with_movements None plan trades next = next (fed plan trades [])
with_movements (Some name) plan trades next = reads max_input_bytes (cash_from (max_inputs - length trades.rows)) name (λ movements. next (fed plan trades movements))

-- the trades of a file and the movements, once the plan was accepted
abbrev pub with_trades : List ℕ → Option (List ℕ) → PlanView → Way FeedView
with_trades trades cash plan next = reads max_input_bytes trades_from trades (λ them. with_movements cash plan them next)

-- plan, trades and movements, each read and checked before the next one
abbrev pub with_feed : (plan trades : List ℕ) → Option (List ℕ) → Way FeedView
with_feed plan trades cash next = with_plan plan cash (λ it. with_trades trades cash it next)

-- ---- as the code holds it

-- the plan, the inputs and the symbols that code has read
abbrev pub feed_of : Feed → FeedView
feed_of feed = record { plan = feed.plan; inputs = inputs_in feed.trades; symbols = feed.trades.symbols }

-- movements are merged with the trades for a plan of version 2, and for no other
abbrev pub IsFed : Feed → Type 0
IsFed feed = (feed.trades.merged ≡ true) ↔ (feed.plan.version ≡ 2)
