-- How a row of the output came about: of each stage, from the last one to the first, on which of the rows that came to it the row rests.
use Rattle.std.specs.Prelude.{ℕ, Bool, false, true, List, [], ◌∷◌, ◌++◌, length, replicate, slice_set}
use Rattle.tuple_edge.specs.declared.row.Row.{Row}
use Rattle.plan_reader.specs.declared.stage.Stage.{Stage}
use Rattle.evaluation.specs.StageRows.{early_replies, late_replies}
use Rattle.row_origin.specs.Marks.{Roles, stage_roles}

-- the rows that come to a stage, and their roles
pub record StageOrigin : Type 0 where
  pub rows : List Row
  pub roles : Roles

-- a mark at one place of so many
abbrev pub only : ℕ → ℕ → List Bool
only n count = slice_set (replicate count false) n true

-- the rows that the last of some stages passes on
abbrev pub rows_after : List Stage → List Row → List Row → List Row
rows_after [] early late = early ++ late
rows_after (stage ∷ stages) early late = rows_after stages (early_replies stage [] early) (late_replies stage early late 0 stage.parts)

-- which of the rows that come to the first of some stages row n rests on that the last one passes on: those on which rows rest on which it rests
abbrev pub rests : ℕ → List Stage → List Row → List Row → List Bool
rests n [] early late = only n (length (early ++ late))
rests n (stage ∷ stages) early late =
    (stage_roles stage early late (rests n stages (early_replies stage [] early) (late_replies stage early late 0 stage.parts))).rests

-- what is told of a stage for these rows that it passes on
abbrev pub origin_at : Stage → List Row → List Row → List Bool → StageOrigin
origin_at stage early late asked = record { rows = early ++ late; roles = stage_roles stage early late asked }

-- what is told of the rows after the last stage: the one that is asked about
abbrev pub last_origin : ℕ → List Row → StageOrigin
last_origin n rows = record { rows = rows; roles = record { rests = only n (length rows); counts = only n (length rows) } }

-- what is told of the rows after the last of some stages, and of those that come to each, the last one first
abbrev pub origins : ℕ → List Stage → List Row → List Row → List StageOrigin
origins n [] early late = last_origin n (early ++ late) ∷ []
origins n (stage ∷ stages) early late =
    origins n stages (early_replies stage [] early) (late_replies stage early late 0 stage.parts)
    ++ origin_at stage early late (rests n stages (early_replies stage [] early) (late_replies stage early late 0 stage.parts)) ∷ []
