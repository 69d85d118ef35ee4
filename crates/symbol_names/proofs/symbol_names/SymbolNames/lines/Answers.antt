use Rattle.std.proofs.Common.{◌∙◌}
use Rattle.std.proofs.lemmas.Result.{IfOk-weaker}
use Rattle.symbol_names.proofs.Naming.{same_lines}
use Rattle.symbol_names.specs.Names.{names_of}
use Rattle.symbol_names.proofs.symbol_names.SymbolNames.lines.Goals as goal

pub returns : goal.returns
returns c = IfOk-weaker c.write_lines.result _ _ (λ bytes is names first. is ∙ same_lines (names_of c.args.self.now) names c.args.rows.now c.requires first) c.write_lines.ensures
