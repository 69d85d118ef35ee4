use Rattle.std.proofs.Common.{◌≡◌, ◌+◌, ◌-◌, ◌++◌}
use Rattle.trade_maker.specs.Generator.{trades_from}
use Rattle.trade_maker.specs.MadeText.{trade_lines, made_text}
use Rattle.trade_maker.proofs.made_text.make_trades.Given as goal

abbrev pub invariant-loop-index : goal.invariant-loop-index
invariant-loop-index l = l.out.items ++ trade_lines (trades_from (l.index + 1) (l.count - l.index) l.generator.state) ≡ made_text l.start l.count
