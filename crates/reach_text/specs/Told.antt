-- The rows that are told: those that are reached, with their numbers, from 1.
use Rattle.std.specs.Prelude.{ℕ, ◌+◌, ◌-◌, ◌==◌, ◌&&◌, Bool, List, [], ◌∷◌, Option, None, Some, count_by, take, if◌then◌else◌}
use Rattle.tuple_edge.specs.Row.{route_of}
use Rattle.tuple_edge.specs.declared.row.Row.{Row}
use Rattle.op_spec.specs.Keys.{is_key, key_of}
use Rattle.op_spec.specs.declared.spec.By.{By}
use Rattle.op_spec.specs.declared.spec.OpSpec.{OpSpec}
use Rattle.op_spec.specs.declared.spec.OpSpec.TheVariants as op
use Rattle.plan_reader.specs.declared.stage.Stage.{Stage}
use Rattle.row_reach.specs.Reach.{Passage}
use Rattle.reach_text.specs.declared.told.ToldRow.{ToldRow}

-- a row with its number
abbrev pub numbered : ℕ → Row → ToldRow
numbered number row = record { number = number; row = row }

-- the marked ones among rows from this number on
abbrev pub told_from : ℕ → List Row → List Bool → List ToldRow
told_from number [] marks = []
told_from number (r ∷ rows) [] = []
told_from number (r ∷ rows) (b ∷ marks) = if b then numbered number r ∷ told_from (number + 1) rows marks else told_from (number + 1) rows marks

-- the rows of a passage that are reached
abbrev pub told_rows : Passage → List ToldRow
told_rows p = told_from 1 p.rows p.marks

-- by what an operator keeps rows together, if it does: a `keep` doesn't
abbrev pub kept_by : OpSpec → Option By
kept_by (op.Keep column compare limit) = None
kept_by (op.Total by) = Some by
kept_by (op.Last by n) = Some by
kept_by (op.Window by width) = Some by
kept_by (op.Crossing by limit) = Some by
kept_by (op.Join by width n column compare limit) = Some by

-- whether a row goes to the partition of another one and has its key
abbrev pub is_with : Stage → By → Row → Row → Bool
is_with stage by r x = (route_of x stage.by stage.parts == route_of r stage.by stage.parts) && is_key (key_of by x) (key_of by r)

-- how many rows of its key its partition took before a row
abbrev pub rows_before : Stage → By → List Row → ToldRow → ℕ
rows_before stage by rows x = count_by (is_with stage by x.row) (take (x.number - 1) rows)
