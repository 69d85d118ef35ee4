-- How a live run ends, from the words on: which inputs were read, and what was put.
use Rattle.std.specs.Prelude.{ℕ, false, List, None}
use Rattle.pair_machine.specs.declared.order.Order.{Order}
use Rattle.command_course.specs.Course.{Came, Run, Runs}
use Rattle.command_course.specs.FeedView.{FeedView}
use Rattle.command_course.specs.Feeds.{feed_of}
use Rattle.flux_outside.specs.Told.{FilesTold, SinkTold}
use Rattle.flux_top.specs.Outcome.{AsksFor}
use Rattle.live_feed.specs.Lives.{LivesSo}
use Rattle.live_feed.specs.declared.answer.Live.{Live}
use Rattle.live_top.specs.Words.{as_run}
use Rattle.live_top.specs.declared.given.Given.{Given}

-- a run of what a plan is fed with, under these orders: its rows are written, and no journal is saved
abbrev pub run_with : FeedView → List Order → Run
run_with feed script = record { feed = feed; script = script; journal = None; summary = false }

-- the words' inputs were read by just the calls that were added, and what they say is that run
abbrev pub ComesToRun : FilesTold → FilesTold → List (List ℕ) → FeedView → List Order → Type 0
ComesToRun before after words feed script = AsksFor (as_run words) (λ course. Came before after course (Runs (run_with feed script)))

-- a run ended so: this was put of the text of its output
abbrev pub RunLives : FeedView → List Order → SinkTold → SinkTold → Live → Type 0
RunLives feed script old new answer = LivesSo feed.plan feed.inputs script feed.symbols old new answer

-- the words came to a run, and it ended so
pub record Lived (before after : FilesTold) (words : List (List ℕ)) (old new : SinkTold) (answer : Live) : Type 0 where
  pub feed : FeedView
  pub script : List Order
  pub comes : ComesToRun before after words feed script
  pub lives : RunLives feed script old new answer

-- ---- as the code holds it

-- the run of what was read
abbrev pub run_in : Given → Run
run_in given = run_with (feed_of given.feed) given.script
