-- In which order rows come behind a `window`. While rows come in, each window closes once a later row of its own key comes; at the end the open ones close partition by
-- partition. So a sum of windows of several keys goes by neither their times nor anything else that a desk means.
use Rattle.std.specs.Prelude.{ℕ, ◌+◌, ◌&&◌, nat_lt, not, Bool, true, false, List, [], ◌∷◌, Option, None, Some, take, if◌then◌else◌}
use Rattle.std.specs.List.{list_all, list_any}
use Rattle.tuple_edge.specs.declared.row.Column.{Column}
use Rattle.tuple_edge.specs.declared.row.Column.TheVariants as column
use Rattle.op_spec.specs.declared.spec.By.{By}
use Rattle.op_spec.specs.declared.spec.By.TheVariants as by
use Rattle.op_spec.specs.declared.spec.OpSpec.{OpSpec}
use Rattle.op_spec.specs.declared.spec.OpSpec.TheVariants as op
use Rattle.plan_reader.specs.declared.stage.Stage.{Stage}
use Rattle.bucket_move.specs.ByKey.{holds_column}
use Rattle.plan_check.specs.Stages.{numbered}
use Rattle.plan_check.specs.Sums.{splits_keys}
use Rattle.plan_check.specs.declared.warning.Numbered.{Numbered}

-- ---- columns

-- whether an operator is a `window`
abbrev pub is_window : OpSpec → Bool
is_window (op.Keep column compare limit) = false
is_window (op.Total by) = false
is_window (op.Last by rows) = false
is_window (op.Window by width) = true
is_window (op.Crossing by limit) = false
is_window (op.Join by width rows column compare limit) = false

-- what rows that an operator answers with still have of an account and a symbol: its key; of a `keep`, which passes rows on as they are, both
abbrev pub key_behind : OpSpec → By
key_behind (op.Keep column compare limit) = by.Both
key_behind (op.Total by) = by
key_behind (op.Last by rows) = by
key_behind (op.Window by width) = by
key_behind (op.Crossing by limit) = by
key_behind (op.Join by width rows column compare limit) = by

-- whether rows behind these stages still have an account, or a symbol: each of the stages leaves it
abbrev pub has_column : Column → List Stage → Bool
has_column column stages = list_all (λ s. holds_column (key_behind s.op) column) stages

-- ---- the order of times

-- whether rows behind the first n of these stages have a column that is lost behind all of them: so rows of two keys there may be of one key at the last stage
abbrev pub loses : ℕ → List Stage → Column → Bool
loses n stages column = has_column column (take n stages) && not (has_column column stages)

-- whether rows of two keys behind the first n of these stages may be of one key at the last one
abbrev pub joins_keys : ℕ → List Stage → Bool
joins_keys n stages = list_any (loses n stages) (column.Account ∷ column.Symbol ∷ [])

-- ---- the order of partitions

-- Whether rows of one key come to several partitions of the first of these stages, where the key is one behind all of them: the column that routes isn't in the key, or is lost
-- on the way. A stage that splits keys is warned of for that.
abbrev pub deals_out : By → Stage → List Stage → Bool
deals_out key s stages = nat_lt 1 s.parts && (not (splits_keys s) && not (holds_column key s.by && has_column s.by (s ∷ stages)))

-- the first of these stages to whose partitions rows of one key come, where stages are numbered from here on
abbrev pub first_dealing : By → ℕ → List Stage → Option Numbered
first_dealing key number [] = None
first_dealing key number (s ∷ stages) = if deals_out key s stages then Some (numbered number s) else first_dealing key (number + 1) stages

-- the same from the first `window` on: before it no row waits for the end
abbrev pub dealing : By → ℕ → List Stage → Option Numbered
dealing key number [] = None
dealing key number (s ∷ stages) = if is_window s.op then first_dealing key number (s ∷ stages) else dealing key (number + 1) stages
