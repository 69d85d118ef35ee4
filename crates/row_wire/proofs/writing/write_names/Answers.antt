use Rattle.std.proofs.Common.{◌∙◌}
use Rattle.row_wire.proofs.Writings.{names_are_lines}
use Rattle.row_wire.proofs.writing.write_names.Goals as goal

pub put_on-requires : goal.put_on-requires
put_on-requires g c = names_are_lines c.args.trades.now.symbols c.deref.result.now (c.deref.ensures.value ∙ c.in-Ok.ensures)
