-- The courses of the commands `run` and `trial`.
use Rattle.std.specs.Prelude.{ℕ, Bool, false, true, List, []}
use Rattle.command_line.specs.Forms.{Options}
use Rattle.plan_reader.specs.PlanView.{PlanView}
use Rattle.trade_text.specs.Kinds.{trades_kind}
use Rattle.trade_text.specs.Messages.{fault_of}
use Rattle.trade_text.specs.Trades.{trades_of}
use Rattle.trade_text.specs.TradesView.{TradesView}
use Rattle.trade_maker.specs.MadeText.{made_text}
use Rattle.pair_machine.specs.declared.order.Order.{Order}
use Rattle.command_course.specs.Course.{Course, Run, Runs, Way, ◌>>=◌}
use Rattle.command_course.specs.FeedView.{FeedView}
use Rattle.command_course.specs.Feeds.{with_feed, with_movements, with_plan}
use Rattle.command_course.specs.Lines.{or_line}
use Rattle.run_command.specs.Scripts.{with_script}

-- the run of a plan that is fed, with these options and under these orders
abbrev pub run_of : Options → Bool → FeedView → List Order → Run
run_of options is_summary feed script = record { feed = feed; script = script; journal = options.journal; summary = is_summary }

-- the script is read last, and then the plan is run
abbrev pub runs : Options → Bool → FeedView → Course
runs options is_summary feed = with_script options.script feed.plan (λ script. Runs (run_of options is_summary feed script))

-- plan, trades, movements and script are read, and the rows are written
abbrev pub run_course : (plan trades : List ℕ) → Options → Course
run_course plan trades options = with_feed plan trades options.cash (runs options false)

-- The trades that are made from a number, read as those of a file. None of them is refused.
abbrev pub with_made : (start count : ℕ) → Way TradesView
with_made start count next = or_line (fault_of trades_kind) [] (trades_of (made_text start count)) >>= next

-- once the plan was read
abbrev pub trial_with : (start count : ℕ) → Options → PlanView → Course
trial_with start count options plan = with_made start count (λ trades. with_movements options.cash plan trades (runs options true))

-- plan, movements and script are read, and the summary is written
abbrev pub trial_course : List ℕ → (start count : ℕ) → Options → Course
trial_course plan start count options = with_plan plan options.cash (trial_with start count options)
