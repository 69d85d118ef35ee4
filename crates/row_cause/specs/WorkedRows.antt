-- Causes that were worked by hand: of trades of two accounts in two minutes.
use Rattle.std.specs.Prelude.{◌≡◌, ℕ, ℤ, pos, negsuc, List, [], ◌∷◌, map}
use Rattle.tuple_edge.specs.declared.row.Column.TheVariants as column
use Rattle.op_spec.specs.declared.spec.By.TheVariants as by
use Rattle.op_spec.specs.declared.spec.Compare.TheVariants as compare
use Rattle.op_spec.specs.declared.spec.OpSpec.{OpSpec}
use Rattle.op_spec.specs.declared.spec.OpSpec.TheVariants as op
use Rattle.row_cause.specs.Causes.{Cause, counted, end_causes, row_causes, spoke}
use Rattle.row_cause.specs.declared.placed.Placed.{Placed}

-- a trade of a symbol, where nothing else is told
abbrev pub trade : (place time account symbol : ℕ) → (qty value : ℤ) → Placed
trade place time account symbol qty value =
    record { place = place; row = record { time = pos time; account = pos account; symbol = pos symbol; qty = qty; value = value } }

-- four trades of account 7, of which the third is late, and one of account 3 between them
abbrev pub trades : List Placed
trades =
    trade 0 34201 7 1 (pos 1) (pos 100)
    ∷ trade 1 34260 7 2 (pos 2) (pos 200)
    ∷ trade 2 34261 3 2 (negsuc 3) (negsuc 49)
    ∷ trade 3 34202 7 1 (pos 5) (pos 50)
    ∷ []

-- one more of account 7, a minute later
abbrev pub last : Placed
last = trade 4 34320 7 1 (pos 6) (pos 600)

-- at which places the rows before stand on which an answer rests, those that count, and the one that spoke
pub record Places : Type 0 where
  pub before : List ℕ
  pub counted : List ℕ
  pub spoke : List ℕ

-- the places of rows
abbrev pub places_of : List Placed → List ℕ
places_of placed = map (λ x. x.place) placed

-- those of a cause
abbrev pub places_in : OpSpec → Cause → Places
places_in op c = record { before = places_of c.before; counted = places_of (counted op c); spoke = places_of (spoke c.speaker) }

-- those of the causes of the answers to the last trade
abbrev pub places : OpSpec → List Places
places op = map (places_in op) (row_causes op trades last)

-- and of those to the end before it
abbrev pub places_at_end : OpSpec → List Places
places_at_end op = map (places_in op) (end_causes op trades)

-- these three
abbrev pub at : List ℕ → List ℕ → List ℕ → Places
at before counted spoke = record { before = before; counted = counted; spoke = spoke }

-- what was worked by hand
pub record WorkedRows : Type 0 where
  pub keep : places (op.Keep column.Qty compare.Greater (pos 3)) ≡ at [] (4 ∷ []) (4 ∷ []) ∷ []
  pub kept_back : places (op.Keep column.Qty compare.Less (pos 3)) ≡ []
  pub total : places (op.Total by.Account) ≡ at (0 ∷ 1 ∷ 3 ∷ []) (0 ∷ 1 ∷ 3 ∷ 4 ∷ []) (4 ∷ []) ∷ []
  pub last : places (op.Last by.Account 2) ≡ at (3 ∷ []) (3 ∷ 4 ∷ []) (4 ∷ []) ∷ []
  -- the late trade counts into the minute that is open, and the last one only closes it
  pub window : places (op.Window by.Account (pos 60)) ≡ at (1 ∷ 3 ∷ []) (1 ∷ 3 ∷ []) (4 ∷ []) ∷ []
  -- in the order of keys: account 3, and then account 7
  pub end : places_at_end (op.Window by.Account (pos 60)) ≡ at (2 ∷ []) (2 ∷ []) [] ∷ at (1 ∷ 3 ∷ []) (1 ∷ 3 ∷ []) [] ∷ []
  -- 350 before, and 950 with it
  pub crossing : places (op.Crossing by.Account (pos 900)) ≡ at (0 ∷ 1 ∷ 3 ∷ []) (0 ∷ 1 ∷ 3 ∷ 4 ∷ []) (4 ∷ []) ∷ []
  pub uncrossed : places (op.Crossing by.Account (pos 1000)) ≡ []
  -- of the last two trades of symbol 1 with that of symbol 2, as one of that is in another span; and of ten minutes
  pub apart : places (op.Join by.Account (pos 60) 2 column.Symbol compare.Equal (pos 1)) ≡ []
  pub join : places (op.Join by.Account (pos 600) 2 column.Symbol compare.Equal (pos 1)) ≡ at (1 ∷ []) (1 ∷ 4 ∷ []) (4 ∷ []) ∷ []
