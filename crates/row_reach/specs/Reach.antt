-- Which of the rows that a stage passes on rest on marked rows that come to it, and so on up to the last stage.
use Rattle.std.specs.Prelude.{Bool, false, List, [], ◌∷◌, ◌++◌, map, slice_index_or}
use Rattle.std.specs.List.{list_any}
use Rattle.tuple_edge.specs.declared.row.Row.{Row}
use Rattle.plan_reader.specs.declared.stage.Stage.{Stage}
use Rattle.row_cause.specs.Causes.{Cause}
use Rattle.row_cause.specs.declared.placed.Placed.{Placed}
use Rattle.evaluation.specs.StageRows.{early_replies, late_replies}
use Rattle.row_origin.specs.Marks.{rested}
use Rattle.row_origin.specs.Stages.{stage_causes}

-- whether the row is marked, by its place
abbrev pub is_marked : List Bool → Placed → Bool
is_marked marks x = slice_index_or marks x.place false

-- whether an answer rests on a marked row
abbrev pub touched : List Bool → Cause → Bool
touched marks c = list_any (is_marked marks) (rested c)

-- which of the rows that a stage passes on rest on a marked row, where the rows that come to it have these marks
abbrev pub reached : Stage → List Row → List Row → List Bool → List Bool
reached stage early late marks = map (touched marks) (stage_causes stage early late)

-- which of the rows that the last of some stages passes on are reached from marked rows that come to the first one
abbrev pub reaches : List Stage → List Row → List Row → List Bool → List Bool
reaches [] early late marks = marks
reaches (stage ∷ stages) early late marks = reaches stages (early_replies stage [] early) (late_replies stage early late 0 stage.parts) (reached stage early late marks)

-- the rows that come to a stage, and which of them are reached
pub record Passage : Type 0 where
  pub rows : List Row
  pub marks : List Bool

-- these rows with these marks
abbrev pub passage : List Row → List Bool → Passage
passage rows marks = record { rows = rows; marks = marks }

-- what comes to each of some stages, the first one first, and at last what the last one passes on
abbrev pub passages : List Stage → List Row → List Row → List Bool → List Passage
passages [] early late marks = passage (early ++ late) marks ∷ []
passages (stage ∷ stages) early late marks =
    passage (early ++ late) marks ∷ passages stages (early_replies stage [] early) (late_replies stage early late 0 stage.parts) (reached stage early late marks)
