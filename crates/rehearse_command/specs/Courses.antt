-- The course of the command `rehearse`.
use Rattle.std.specs.Prelude.{ℕ, false, List, Option, None, Some}
use Rattle.pair_machine.specs.declared.order.Order.{Order}
use Rattle.command_course.specs.Course.{Course, Run, Runs}
use Rattle.command_course.specs.FeedView.{FeedView}
use Rattle.command_course.specs.Feeds.{with_feed}
use Rattle.run_command.specs.Scripts.{with_script}

-- the run of a plan that is fed, under these orders
abbrev pub run_under : FeedView → List Order → Run
run_under feed script = record { feed = feed; script = script; journal = None; summary = false }

-- the script is read last, and then the plan is run
abbrev pub rehearses : (script : List ℕ) → FeedView → Course
rehearses script feed = with_script (Some script) feed.plan (λ orders. Runs (run_under feed orders))

-- `rehearse`: plan, trades, movements and script, each read and checked before the next one, and then the plan is run
abbrev pub rehearse_course : (plan trades script : List ℕ) → (cash : Option (List ℕ)) → Course
rehearse_course plan trades script cash = with_feed plan trades cash (rehearses script)
