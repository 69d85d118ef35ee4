use Rattle.std.proofs.Common.{None, arith, sym}
use Rattle.std.proofs.lemmas.Str.Pattern.{split_parts}
use Rattle.clap.proofs.LexerLemmas.{name_and_value-without}
use Rattle.look_words.proofs.option.named_in.Goals as goal

pub returns-in-None : goal.returns-in-None
returns-in-None c = sym (name_and_value-without c.args.text.now (split_parts 61 c.args.text.now None c.in-None.ensures.cases (omega arith)))
