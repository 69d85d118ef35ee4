use Rattle.std.proofs.Common.{◌∷◌, [], ◌∙◌, ap, arith, List, ℕ}
use Rattle.std.proofs.lemmas.Int.{ints}
use Rattle.stream_reader.proofs.Telling.{name_next}
use Rattle.stream_reader.proofs.stream_reader.StreamReader.trade.Goals as goal

pub returns-clause-name : goal.returns-clause-name
returns-clause-name g c =
    ap (λ (name : List ℕ). name ∷ []) (c.new-name.ensures ∙ c.symbol.ensures.symbol)
    ∙ name_next c.args.self.now.parser.at.form.symbols c.args.known _ (omega (arith, ints, c.symbols.ensures.count, c.symbols.ensures.few, c.if-symbols-known.false))
    (omega (arith, c.symbols.ensures.count, c.if-symbols-known.false))
