use Rattle.std.proofs.Common.{◌∙◌}
use Rattle.row_wire.specs.Lines.{lines_of}
use Rattle.row_wire.proofs.Writings.{behind_names, stays}
use Rattle.row_wire.proofs.writing.write_lines.Goals as goal

pub returns-in_default : goal.returns-in_default
returns-in_default g c = stays (g.W.Wire.told c.args.wire.now) (lines_of c.args.trades.now.symbols c.args.rows.now) c.args.written c.in_default.not-Whole

pub put_on-requires : goal.put_on-requires
put_on-requires g c = behind_names c.args.trades.now.symbols c.args.rows.now c.deref.result.now (c.deref.ensures.value ∙ c.in-Ok.ensures)
