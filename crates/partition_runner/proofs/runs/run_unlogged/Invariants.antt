use Rattle.trade_text.specs.TradesView.{inputs_in}
use Rattle.partition_runner.proofs.runs.run_unlogged.Given as goal

abbrev pub ghosts-run_with-N-RunNames : goal.ghosts-run_with-N-RunNames
ghosts-run_with-N-RunNames g a = record { plan = a.job.now.plan.now; script = a.job.now.script.now }

abbrev pub ghosts-run_with-N-FedNames : goal.ghosts-run_with-N-FedNames
ghosts-run_with-N-FedNames g a = record { inputs = inputs_in a.job.now.trades.now }
