use Rattle.trade_text.specs.TradesView.{inputs_in}
use Rattle.test_runner.proofs.taps.run_kept.Given as goal

abbrev pub ghosts-run_named-N-RunNames : goal.ghosts-run_named-N-RunNames
ghosts-run_named-N-RunNames g a = record { plan = a.story.now.plan; script = a.story.now.script }

abbrev pub ghosts-run_named-N-FedNames : goal.ghosts-run_named-N-FedNames
ghosts-run_named-N-FedNames g a = record { inputs = inputs_in a.story.now.trades }
