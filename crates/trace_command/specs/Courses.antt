-- The course of `trace`: the plan, the trades with the one that stands in a line, and the movements are read, and what became of that trade is written.
use Rattle.std.specs.Prelude.{ℕ, List, [], Option, None, Some, Ok, Err, length, map}
use Rattle.tuple_edge.specs.Input.{Input}
use Rattle.csv.specs.Reading.{strip_bom}
use Rattle.trade_text.specs.Limits.{max_input_bytes}
use Rattle.trade_text.specs.TradesView.{TradesView}
use Rattle.command_course.specs.Course.{Reading, Way, reads}
use Rattle.command_course.specs.FeedView.{FeedView}
use Rattle.command_course.specs.Feeds.{with_movements, with_plan}
use Rattle.command_course.specs.Inputs.{trades_from}
use Rattle.command_course.specs.Lines.{or_line}
use Rattle.command_course.specs.Answers.{AnswerView, answer}
use Rattle.command_course.specs.declared.answer.Ending.TheVariants.{Done}
use Rattle.plan_reader.specs.PlanView.{PlanView}
use Rattle.row_origin.specs.Origins.{only}
use Rattle.row_reach.specs.Reach.{passages}
use Rattle.reach_text.specs.Trace.{trace_text}
use Rattle.trade_line.specs.Lines.{line_fault, trade_in}
use Rattle.trade_line.specs.Order.{place_behind, spot_at}
use Rattle.trade_line.specs.declared.order.Spot.{Spot}
use Rattle.trace_command.specs.declared.lined.LinedTrades.{LinedTrades}

-- ---- the trades, and the one that is asked about

-- trades with the place of one of them
abbrev pub lined : TradesView → ℕ → LinedTrades
lined trades place = record { trades = trades; place = place }

-- trades with the one that stands there, if it was found
abbrev pub with_place : TradesView → Reading ℕ → Reading LinedTrades
with_place trades (Ok place) = Ok (lined trades place)
with_place trades (Err said) = Err said

-- the same of trades that were accepted
abbrev pub with_line : (line : ℕ) → (name bytes : List ℕ) → Reading TradesView → Reading LinedTrades
with_line line name bytes (Ok trades) = with_place trades (or_line line_fault name (trade_in (strip_bom bytes) line))
with_line line name bytes (Err said) = Err said

-- the trades of a file with these bytes, and the one that stands in a line; or the line by which the file, or then the line, is refused
abbrev pub lined_from : (line : ℕ) → List ℕ → List ℕ → Reading LinedTrades
lined_from line name bytes = with_line line name bytes (trades_from name bytes)

-- ---- the answer

-- where a trade stands among the inputs
abbrev pub place_in : Option Spot → List Input → ℕ
place_in None inputs = length inputs
place_in (Some spot) inputs = place_behind spot.time spot.before inputs

-- what became of the trade, of a file of this name, that stands in this line
abbrev pub traced : (name : List ℕ) → (line : ℕ) → Option Spot → FeedView → List ℕ
traced name line spot feed =
    trace_text (record { line = line; file = name; stages = feed.plan.stages; symbols = feed.symbols })
    (passages feed.plan.stages (map (λ (x : Input). x.row) feed.inputs) [] (only (place_in spot feed.inputs) (length feed.inputs)))

-- ---- the course

-- the movements are read behind the trades
abbrev pub lined_way : (name : List ℕ) → (line : ℕ) → Option (List ℕ) → PlanView → LinedTrades → Way AnswerView
lined_way name line cash plan it next = with_movements cash plan it.trades (λ feed. next (answer Done (traced name line (spot_at it.trades.rows it.place) feed)))

-- the trades are read behind the plan, and that of the line is looked for among them
abbrev pub behind_plan : (trades : List ℕ) → (line : ℕ) → Option (List ℕ) → PlanView → Way AnswerView
behind_plan trades line cash plan next = reads max_input_bytes (lined_from line) trades (λ them. lined_way trades line cash plan them next)

-- `trace`: the plan is read first
abbrev pub trace_way : (plan trades : List ℕ) → (line : ℕ) → Option (List ℕ) → Way AnswerView
trace_way plan trades line cash next = with_plan plan cash (λ it. behind_plan trades line cash it next)
