-- Rows under names that go on from those that are known.
use Rattle.std.proofs.Common.{ℕ, ℤ, zero, suc, pos, negsuc, ◌≡◌, ◌+◌, ◌≤◌, ◌≤ℤ◌, List, [], ◌∷◌, ◌++◌, codes, length, map, Option, option_map, slice_get, unwrap_or, refl, ap, ◌∙◌, arith}
use Rattle.std.proofs.lemmas.Int.{ints}
use Rattle.std.proofs.lemmas.List.Elements.{All-head, All-tail}
use Rattle.std.proofs.lemmas.Option.{slice_get-map}
use Rattle.std.specs.List.{All, flat_map}
use mathlib.Core.List.{IsPrefix}
use Rattle.tuple_edge.specs.declared.row.Row.{Row}
use Rattle.trade_text.specs.Symbols.{symbol_at}
use Rattle.trade_text.specs.Text.{row_line}
use Rattle.symbol_names.specs.Names.{IsKnown, name_of}
use Rattle.symbol_names.specs.declared.symbol_name.SymbolName.{SymbolName}

-- a place within a list holds the same where the list goes on
get_goes_on : (known more : List (List ℕ)) (n : ℕ) → suc n ≤ length known → slice_get known n ≡ slice_get (known ++ more) n
get_goes_on [] more n few = absurd (omega (arith, few))
get_goes_on (name ∷ known) more zero few = refl
get_goes_on (name ∷ known) more (suc n) few = get_goes_on known more n (omega (arith, few))

-- the symbol of a number that is known, or of none
symbol_goes_on : (known more : List (List ℕ)) (number : ℤ) → number ≤ℤ pos (length known) → symbol_at known number ≡ symbol_at (known ++ more) number
symbol_goes_on known more (pos zero) few = refl
symbol_goes_on known more (pos (suc n)) few = ap (λ at. unwrap_or at (codes "-")) (get_goes_on known more n (omega (arith, ints, few)))
symbol_goes_on known more (negsuc n) few = refl

line_goes_on : (known more : List (List ℕ)) (row : Row) → IsKnown known row → row_line known row ≡ row_line (known ++ more) row
line_goes_on known more row few = rw (symbol_goes_on known more row.symbol few) refl

lines_go_on : (known more : List (List ℕ)) (rows : List Row) → All (IsKnown known) rows → flat_map (row_line known) rows ≡ flat_map (row_line (known ++ more)) rows
lines_go_on known more [] all = refl
lines_go_on known more (row ∷ rows) all =
    ap (λ line. line ++ flat_map (row_line known) rows) (line_goes_on known more row (All-head (IsKnown known) row rows all))
    ∙ ap (λ lines. row_line (known ++ more) row ++ lines) (lines_go_on known more rows (All-tail (IsKnown known) row rows all))

-- the lines of rows whose symbols are known
pub same_lines : (known names : List (List ℕ)) (rows : List Row) → All (IsKnown known) rows → IsPrefix known names → flat_map (row_line known) rows ≡ flat_map (row_line names) rows
same_lines known names rows all first = lines_go_on known first.0 rows all ∙ ap (λ names. flat_map (row_line names) rows) first.1

suc_is : (n : ℕ) → n + 1 ≡ suc n
suc_is n = omega arith

-- the name of a number
pub symbol_of_name : (names : List SymbolName) (number : ℤ) (n : ℕ) (at : Option SymbolName) → number ≡ pos (n + 1) → slice_get names n ≡ at → symbol_at (map name_of names) number ≡ unwrap_or (option_map name_of at) (codes "-")
symbol_of_name names number n at is found = rw (is, suc_is n, slice_get-map name_of names n, found) refl
