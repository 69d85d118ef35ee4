-- Symbols and their numbers.
use Rattle.std.specs.Prelude.{ℕ, ℤ, zero, suc, pos, negsuc, ◌≡◌, ◌+◌, true, All, option_map, nat_lt, List, [], ◌∷◌, ◌++◌, length, map, codes, Option, Some, None, unwrap_or, if◌then◌else◌, position, slice_get, Vec}
use Rattle.std.specs.Str.{bytes_eq}
use Rattle.std.specs.declared.alloc.Global.{Global}
use Rattle.trade_text.specs.Fields.{is_symbol}
use Rattle.trade_text.specs.Limits.{max_symbols}

-- the bytes of each text
abbrev pub texts : List (Vec ℕ Global) → List (List ℕ)
texts vs = map (λ v. v.items) vs

-- each of them is a symbol
abbrev pub AreSymbols : List (Vec ℕ Global) → Type 0
AreSymbols vs = All (λ v. is_symbol v.items ≡ true) vs

-- the number of a symbol that is known, from 1 by first appearance
abbrev pub number_in : List (List ℕ) → List ℕ → Option ℕ
number_in known name = option_map (λ place. place + 1) (position (bytes_eq name) known)

-- the number of a symbol and the symbols that are known then, by the place where it is known already, if it is
abbrev pub numbered_at : Option ℕ → List (List ℕ) → List ℕ → Option (ℕ × List (List ℕ))
numbered_at (Some place) known name = Some (place + 1, known)
numbered_at None known name = if nat_lt (length known) max_symbols then Some (length known + 1, known ++ name ∷ []) else None

-- the number of a symbol, from 1 by first appearance, and the symbols that are known then; none where it is new and no more fit
abbrev pub numbered : List (List ℕ) → List ℕ → Option (ℕ × List (List ℕ))
numbered known name = numbered_at (position (bytes_eq name) known) known name

-- the symbol of a number: `-` where it is that of none
abbrev pub symbol_at : List (List ℕ) → ℤ → List ℕ
symbol_at known (pos zero) = codes "-"
symbol_at known (pos (suc n)) = unwrap_or (slice_get known n) (codes "-")
symbol_at known (negsuc n) = codes "-"
