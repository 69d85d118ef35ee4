-- Trades with which nothing was merged.
use Rattle.std.proofs.Common.{◌≡◌, ◌∙◌, false, List, [], ◌∷◌, refl, ap}
use Rattle.tuple_edge.specs.Input.{from_first}
use Rattle.tuple_edge.specs.declared.row.Row.{Row}
use Rattle.trade_text.specs.TradesView.{IsTrades, TradesView, inputs_in, paired}

paired_first : (rows : List Row) → paired rows [] ≡ from_first rows
paired_first [] = refl
paired_first (row ∷ rows) = ap (λ inputs. record { source = 0; row = row } ∷ inputs) (paired_first rows)

-- their inputs all come from the first source
pub unmerged_inputs : (trades : TradesView) → IsTrades trades → trades.merged ≡ false → inputs_in trades ≡ from_first trades.rows
unmerged_inputs trades limits unmerged = ap (paired trades.rows) (limits.unmerged unmerged) ∙ paired_first trades.rows
