use Rattle.std.proofs.Common.{◌∙◌}
use Rattle.trade_text.specs.Text.{count_line}
use Rattle.row_wire.proofs.Writings.{count_is_line, stays}
use Rattle.row_wire.proofs.writing.write_count.Goals as goal

pub returns-in_default : goal.returns-in_default
returns-in_default g c = stays (g.W.Wire.told c.args.wire.now) (count_line c.args.count) c.args.written c.in_default.not-Whole

pub put_on-requires : goal.put_on-requires
put_on-requires g c = count_is_line c.args.count c.as_bytes.result.now (c.as_bytes.ensures.value ∙ c.in-Ok.ensures)
