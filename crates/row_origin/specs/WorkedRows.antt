-- Origins that were worked by hand: of each account's minutes, and their totals.
use Rattle.std.specs.Prelude.{◌≡◌, ℕ, pos, Bool, true, false, List, [], ◌∷◌, map}
use Rattle.tuple_edge.specs.declared.row.Column.TheVariants as column
use Rattle.tuple_edge.specs.declared.row.Row.{Row}
use Rattle.op_spec.specs.declared.spec.By.TheVariants as by
use Rattle.op_spec.specs.declared.spec.OpSpec.TheVariants as op
use Rattle.plan_reader.specs.declared.stage.Stage.{Stage}
use Rattle.row_origin.specs.Marks.{Roles}
use Rattle.row_origin.specs.Origins.{StageOrigin, origins, rests, rows_after}

-- a row of an account
abbrev pub row : (time account qty value : ℕ) → Row
row time account qty value = record { time = pos time; account = pos account; symbol = pos 0; qty = pos qty; value = pos value }

-- three trades of account 7, of which the second one opens a minute, and one of account 8
abbrev pub trades : List Row
trades = row 34201 7 1 100 ∷ row 34202 8 2 200 ∷ row 34260 7 5 50 ∷ row 34261 7 6 600 ∷ []

-- each account's minutes in two partitions, and what they come to
abbrev pub stages : List Stage
stages =
    record { parts = 2; by = column.Account; op = op.Window by.Account (pos 60) }
    ∷ record { parts = 1; by = column.Account; op = op.Total by.Account }
    ∷ []

-- the roles of rows: on which a row rests, and which of these count
abbrev pub roles : List Bool → List Bool → Roles
roles rests counts = record { rests = rests; counts = counts }

-- those that are told for a row of the output: after the last stage, before it, and before the first one
abbrev pub told : ℕ → List Roles
told n = map (λ (o : StageOrigin). o.roles) (origins n stages trades [])

-- what was worked by hand
pub record WorkedRows : Type 0 where
  -- account 7's first minute comes when its second one opens; at the end come that of account 8, from partition 0, and the second one of account 7
  pub passed : rows_after stages trades [] ≡ row 34200 7 1 100 ∷ row 34200 8 2 200 ∷ row 34260 7 12 750 ∷ []
  -- the first row rests on the first trade, and on the third one, which only closed its minute
  pub first : told 0 ≡ roles (true ∷ false ∷ false ∷ []) (true ∷ false ∷ false ∷ []) ∷ roles (true ∷ false ∷ false ∷ []) (true ∷ false ∷ false ∷ [])
      ∷ roles (true ∷ false ∷ true ∷ false ∷ []) (true ∷ false ∷ false ∷ false ∷ []) ∷ []
  -- the third one on both minutes of account 7, and so on all its trades, which count
  pub third : told 2 ≡ roles (false ∷ false ∷ true ∷ []) (false ∷ false ∷ true ∷ []) ∷ roles (true ∷ false ∷ true ∷ []) (true ∷ false ∷ true ∷ [])
      ∷ roles (true ∷ false ∷ true ∷ true ∷ []) (true ∷ false ∷ true ∷ true ∷ []) ∷ []
  -- the second one on the trade of account 8 alone
  pub second : rests 1 stages trades [] ≡ false ∷ true ∷ false ∷ false ∷ []
