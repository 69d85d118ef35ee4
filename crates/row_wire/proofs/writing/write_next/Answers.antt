use Rattle.std.proofs.Common.{List, ◌++◌, ap, sym, subst, ◌∙◌}
use Rattle.trade_text.specs.Text.{part_text}
use Rattle.tuple_edge.specs.declared.row.Row.{Row}
use Rattle.ordered_channel.specs.Ends.{values_got}
use Rattle.row_wire.specs.Written.{IsWritten}
use Rattle.row_wire.proofs.Writings.{part-append}
use Rattle.row_wire.proofs.writing.write_next.Goals as goal

pub returns-clause-written : goal.returns-clause-written
returns-clause-written g c start w =
    let before = values_got c.args.receiver.now in
    subst (λ text. IsWritten start (g.W.Wire.told c.write_lines.new.wire) text c.write_lines.result)
    (part-append c.args.trades.now.symbols before c.batch.result.now ∙ ap (part_text c.args.trades.now.symbols) (ap (λ (rows : List Row). before ++ rows) c.batch.ensures ∙ sym c.take-more.ensures.got))
    (c.write_lines.ensures start (part_text c.args.trades.now.symbols before) w)
