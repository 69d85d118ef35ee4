use Rattle.std.proofs.Common.{None, Some, sym}
use Rattle.trade_text.proofs.SymbolFacts.{known_is_symbol, number_in-texts}
use Rattle.trade_text.proofs.symbols.Symbols.known.Goals as goal

pub returns-in-None-clause-number : goal.returns-in-None-clause-number
returns-in-None-clause-number c = rw (← c.self.view_is) (sym (number_in-texts c.self.inside.names.keys c.args.name.now None (sym c.in-None.ensures.index)))

pub returns-in-Some-clause-number : goal.returns-in-Some-clause-number
returns-in-Some-clause-number c = rw (← c.self.view_is) (sym (number_in-texts c.self.inside.names.keys c.args.name.now (Some c.in-Some.place) (sym c.in-Some.ensures.index)))

pub returns-in-Some-clause-symbol : goal.returns-in-Some-clause-symbol
returns-in-Some-clause-symbol c = λ _. known_is_symbol c.self.inside.names.keys c.args.name.now c.self.invariant.1 (sym c.in-Some.ensures.found)
