use Rattle.std.proofs.Common.{None, arith, ap, sym}
use Rattle.std.proofs.lemmas.Str.Pattern.{split_parts}
use Rattle.clap.proofs.LexerLemmas.{name_and_value-without}
use Rattle.command_line.proofs.word.value_in.Goals as goal

pub returns-in-None : goal.returns-in-None
returns-in-None c = sym (ap (λ cut. cut.1) (name_and_value-without c.args.text.now (split_parts 61 c.args.text.now None c.in-None.ensures.cases (omega arith))))
