use Rattle.std.proofs.Common.{◌≡◌, ◌++◌, take}
use Rattle.trade_text.specs.Inputs.{rows_from}
use Rattle.trade_text.proofs.merging.push_rows.Given as goal

abbrev pub invariant-loop-row : goal.invariant-loop-row
invariant-loop-row l = l.inputs.items ≡ l.fn.inputs.items ++ rows_from l.source (take l.row-index l.rows)
