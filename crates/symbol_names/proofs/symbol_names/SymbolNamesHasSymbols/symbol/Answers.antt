use Rattle.std.proofs.Common.{List, slice_get, ◌≡◌, ◌+◌, ◌-◌, ◌<◌, ◌∙◌, sym, refl, subst, length, Some, arith, pos, w64, to_z, of_z}
use Rattle.std.specs.Prelude.{nat_abs}
use Rattle.std.proofs.lemmas.Int.{ints}
use Rattle.std.proofs.lemmas.Option.{slice_get_read}
use Rattle.std.proofs.lemmas.Bool.Decides.{nat_tests}
use Rattle.symbol_names.specs.declared.symbol_name.SymbolName.{SymbolName}
use Rattle.symbol_names.proofs.Naming.{symbol_of_name}
use Rattle.symbol_names.proofs.symbol_names.SymbolNamesHasSymbols.symbol.Goals as goal

pub returns-in-Some-clause-symbol : goal.returns-in-Some-clause-symbol
returns-in-Some-clause-symbol c =
    let n = nat_abs (to_z w64 (of_z w64 c.args.number)) - 1 in
    let number_is : c.args.number ≡ pos (n + 1) = omega (arith, ints) in
    let there = c.in-Some.ensures.lookup in
    let within : n < length c.deref.result.now = grind (arith, nat_tests, there.0) in
    c.as_bytes.ensures.name
    ∙ sym (symbol_of_name c.args.self.now.names.items c.args.number n (Some c.in-Some.name.now) number_is
    (subst (λ (names : List SymbolName). slice_get names n ≡ Some c.in-Some.name.now) c.deref.ensures.value (slice_get_read c.deref.result.now (length c.deref.result.now) n c.in-Some.name.now refl within there.1)))
