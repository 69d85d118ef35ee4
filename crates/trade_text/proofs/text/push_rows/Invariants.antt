use Rattle.std.proofs.Common.{◌≡◌, ◌++◌, take}
use Rattle.std.specs.List.{flat_map}
use Rattle.trade_text.specs.Text.{row_line}
use Rattle.trade_text.proofs.text.push_rows.Given as goal

abbrev pub invariant-loop-row : goal.invariant-loop-row
invariant-loop-row g l = l.out.items ≡ l.fn.out.items ++ flat_map (row_line (g.N.HasSymbols.symbols l.names)) (take l.row-index l.rows)
