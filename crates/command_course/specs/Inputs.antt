-- What the files of plans, trades and cash movements say, or the lines by which they are refused.
use Rattle.std.specs.Prelude.{ℕ, List}
use Rattle.plan_reader.specs.Messages.{plan_fault}
use Rattle.plan_reader.specs.Plan.{plan_of}
use Rattle.plan_reader.specs.PlanView.{PlanView}
use Rattle.tuple_edge.specs.declared.row.Row.{Row}
use Rattle.trade_text.specs.Cash.{cash_of}
use Rattle.trade_text.specs.Kinds.{cash_kind, trades_kind}
use Rattle.trade_text.specs.Messages.{fault_of}
use Rattle.trade_text.specs.Trades.{trades_of}
use Rattle.trade_text.specs.TradesView.{TradesView}
use Rattle.command_course.specs.Course.{Reading}
use Rattle.command_course.specs.Lines.{or_line}

-- the plan of a file with these bytes
abbrev pub plan_from : List ℕ → List ℕ → Reading PlanView
plan_from name bytes = or_line plan_fault name (plan_of bytes)

-- the trades of a file with these bytes
abbrev pub trades_from : List ℕ → List ℕ → Reading TradesView
trades_from name bytes = or_line (fault_of trades_kind) name (trades_of bytes)

-- the cash movements of a file with these bytes, of which so many have room
abbrev pub cash_from : ℕ → List ℕ → List ℕ → Reading (List Row)
cash_from room name bytes = or_line (fault_of cash_kind) name (cash_of bytes room)
