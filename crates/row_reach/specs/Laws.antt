-- What holds of the rows that are reached.
use Rattle.std.specs.Prelude.{◌≡◌, ◌<◌, ℕ, false, List, ◌++◌, All, length, slice_index_or}
use Rattle.tuple_edge.specs.declared.row.Row.{Row}
use Rattle.plan_reader.specs.PlanView.{IsStage}
use Rattle.plan_reader.specs.declared.stage.Stage.{Stage}
use Rattle.row_origin.specs.Origins.{only, rests}
use Rattle.row_reach.specs.Reach.{reaches}

-- Row n of what the last of some stages passes on is reached from row j of those that come to the first one exactly where it rests on row j.
abbrev pub ReachedFromWhatTheyRestOn : Type 0
ReachedFromWhatTheyRestOn = (stages : List Stage) (early late : List Row) (n j : ℕ) → All IsStage stages → j < length (early ++ late)
    → slice_index_or (reaches stages early late (only j (length (early ++ late)))) n false ≡ slice_index_or (rests n stages early late) j false
