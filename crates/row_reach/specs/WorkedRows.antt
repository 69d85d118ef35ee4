-- What was worked by hand: which totals of each account's minutes rest on each of four trades.
use Rattle.std.specs.Prelude.{◌≡◌, ℕ, Bool, true, false, List, [], ◌∷◌, map}
use Rattle.row_origin.specs.Origins.{only}
use Rattle.row_origin.specs.WorkedRows.{stages, trades}
use Rattle.row_reach.specs.Reach.{Passage, passages}

-- the marks of what comes to each stage and leaves the last one, where trade j of the four is marked
abbrev pub told : ℕ → List (List Bool)
told j = map (λ (p : Passage). p.marks) (passages stages trades [] (only j 4))

-- what was worked by hand
pub record WorkedRows : Type 0 where
  -- the first trade of account 7 counts into its first minute, and both of its totals rest on that
  pub first : told 0 ≡ (true ∷ false ∷ false ∷ false ∷ []) ∷ (true ∷ false ∷ false ∷ []) ∷ (true ∷ false ∷ true ∷ []) ∷ []
  -- that of account 8 into its one minute
  pub other : told 1 ≡ (false ∷ true ∷ false ∷ false ∷ []) ∷ (false ∷ true ∷ false ∷ []) ∷ (false ∷ true ∷ false ∷ []) ∷ []
  -- the third one closes the first minute and counts into the second one
  pub closes : told 2 ≡ (false ∷ false ∷ true ∷ false ∷ []) ∷ (true ∷ false ∷ true ∷ []) ∷ (true ∷ false ∷ true ∷ []) ∷ []
  -- the fourth one counts into the second minute alone
  pub last : told 3 ≡ (false ∷ false ∷ false ∷ true ∷ []) ∷ (false ∷ false ∷ true ∷ []) ∷ (false ∷ false ∷ true ∷ []) ∷ []
