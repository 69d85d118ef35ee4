use Rattle.trade_text.specs.TradesView.{inputs_in}
use Rattle.flux_core.proofs.Opened.{AreOpenedTo}
use Rattle.flux_core.proofs.opening.open_nodes.Given as goal

abbrev pub invariant-loop-place : goal.invariant-loop-place
invariant-loop-place l = AreOpenedTo l.plan (inputs_in l.trades) l.ids.items l.nodes.items l.place
