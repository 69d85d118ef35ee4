use Rattle.std.proofs.Common.{◌≡◌, ◌∙◌, ◌-◌, ◌+◌, List, ℕ, ap, sym, arith, pos, w64, to_z, of_z}
use Rattle.std.specs.Prelude.{nat_abs}
use Rattle.std.proofs.lemmas.Int.{ints}
use Rattle.trade_text.specs.Symbols.{symbol_at}
use Rattle.trade_text.proofs.SymbolFacts.{symbol_at-known, symbol_is_short}
use Rattle.trade_text.proofs.symbols.Symbols.name.Goals as goal

pub returns-in-Some-clause-symbol : goal.returns-in-Some-clause-symbol
returns-in-Some-clause-symbol c =
    let n = nat_abs (to_z w64 (of_z w64 c.args.number)) - 1 in
    let number_is : c.args.number ≡ pos (n + 1) = omega (arith, ints) in
    c.as_slice.ensures.value
    ∙ sym (ap (λ (known : List (List ℕ)). symbol_at known c.args.number) (sym c.self.view_is) ∙ symbol_at-known c.self.inside.names.keys c.args.number n c.in-Some.name.now number_is c.in-Some.ensures.key)

pub returns-in-Some-clause-short : goal.returns-in-Some-clause-short
returns-in-Some-clause-short c =
    let short = symbol_is_short c.self.inside.names.keys _ c.in-Some.name.now c.self.invariant.1 c.in-Some.ensures.key in
    rw c.as_slice.ensures.value short
