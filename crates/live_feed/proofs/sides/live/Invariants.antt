use Rattle.trade_text.specs.TradesView.{inputs_in}
use Rattle.live_feed.proofs.sides.live.Given as goal

abbrev pub ghosts-live_named-N-RunNames : goal.ghosts-live_named-N-RunNames
ghosts-live_named-N-RunNames g a = record { plan = a.job.now.plan.now; script = a.job.now.script.now }

abbrev pub ghosts-live_named-N-FedNames : goal.ghosts-live_named-N-FedNames
ghosts-live_named-N-FedNames g a = record { inputs = inputs_in a.job.now.trades.now }
