-- How one partition takes a row.
use Rattle.std.specs.Prelude.{ℕ, ◌≡◌, ◌+◌, List, [], ◌∷◌, ◌++◌, drop, take}
use Rattle.tuple_edge.specs.declared.item.Item.TheVariants as item
use Rattle.tuple_edge.specs.declared.row.Row.{Row}
use Rattle.stream_ops.specs.Answers.{answers}
use Rattle.stream_ops.specs.State.{StateView}
use Rattle.plan_reader.specs.declared.stage.Stage.{Stage}
use Rattle.evaluation.specs.StageRows.{HasTaken, alike, rows_to}
use Rattle.row_cause.specs.Causes.{Cause}
use Rattle.row_origin.specs.Stages.{part_causes, placed_from, placed_to}
use Rattle.origin_finder.specs.Said.{IsLeft}
use Rattle.origin_finder.specs.declared.said.Speaker.{Speaker}

-- a partition's operator, the rows that the stage has passed on, and what made operators give them
pub record Passing : Type 0 where
  pub state : StateView
  pub out : List Row
  pub said : List Speaker

-- the rows that a partition passes on from a place on, up to the end
abbrev pub replies_from : Stage → ℕ → List Row → ℕ → List Row
replies_from stage part rows place = answers stage.op (alike (rows_to stage part (take place rows))) (alike (rows_to stage part (drop place rows)) ++ item.End 0 ∷ [])

-- their causes
abbrev pub causes_from : Stage → ℕ → List Row → ℕ → List Cause
causes_from stage part rows place = part_causes stage.op (placed_to stage part (placed_from 0 (take place rows))) (placed_to stage part (placed_from place (drop place rows)))

-- the answers that come between two places were noted, whatever is left behind
abbrev pub NotesUpTo : Stage → ℕ → List Row → ℕ → ℕ → List Speaker → List Speaker → Type 0
NotesUpTo stage part rows from to old new =
    (left all : List Cause) → IsLeft stage rows old (causes_from stage part rows from ++ left) all → IsLeft stage rows new (causes_from stage part rows to ++ left) all

-- the partition has passed the row of this place, if it is its own: what is still to come is the same
pub record HasPassed (stage : Stage) (part : ℕ) (rows : List Row) (place : ℕ) (old new : Passing) : Type 0 where
  pub took : HasTaken stage.op new.state (rows_to stage part (take (place + 1) rows))
  pub answers : old.out ++ replies_from stage part rows place ≡ new.out ++ replies_from stage part rows (place + 1)
  pub said : NotesUpTo stage part rows place (place + 1) old.said new.said
