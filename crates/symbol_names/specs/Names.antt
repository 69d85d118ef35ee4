-- The names of symbols, and whether the symbol of a row is among them.
use Rattle.std.specs.Prelude.{ℕ, pos, ◌≡◌, ◌≤ℤ◌, List, Some, length, map, min, slice_get, take}
use Rattle.trade_text.specs.Limits.{max_symbol_bytes}
use Rattle.tuple_edge.specs.declared.row.Row.{Row}
use Rattle.symbol_names.specs.declared.symbol_name.SymbolName.{SymbolName}
use Rattle.symbol_names.specs.declared.symbol_names.SymbolNames.{SymbolNames}

-- the bytes of a name
abbrev pub name_of : SymbolName → List ℕ
name_of name = take (min name.len max_symbol_bytes) name.bytes

-- the names that were learnt, in order
abbrev pub names_of : SymbolNames → List (List ℕ)
names_of known = map name_of known.names.items

-- the symbol of a row is one of so many, or none
abbrev pub IsKnown : List (List ℕ) → Row → Type 0
IsKnown names row = row.symbol ≤ℤ pos (length names)

-- the row at a place, if there is one, has a symbol that isn't known
abbrev pub IsUnknownAt : List (List ℕ) → List Row → ℕ → Type 0
IsUnknownAt names rows place = (row : Row) → slice_get rows place ≡ Some row → IsKnown names row → ⊥
