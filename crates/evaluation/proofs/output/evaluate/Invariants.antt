use Rattle.std.proofs.Common.{suc}
use Rattle.trade_text.specs.TradesView.{inputs_in}
use Rattle.evaluation.proofs.output.evaluate.Given as goal
use Rattle.evaluation.proofs.ComingRows.{ComesTo}

abbrev pub invariant-loop-stage : goal.invariant-loop-stage
invariant-loop-stage l = ComesTo l.plan (inputs_in l.trades) (suc l.stage-index) l.rows.early.items l.rows.late.items
