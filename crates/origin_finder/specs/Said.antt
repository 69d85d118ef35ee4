-- What made operators give the rows that a stage passes on.
use Rattle.std.specs.Prelude.{ℕ, ◌≡◌, ◌+◌, List, [], ◌∷◌, ◌++◌, Option, None, Some, length, slice_get, take}
use Rattle.tuple_edge.specs.Row.{route_of}
use Rattle.tuple_edge.specs.declared.row.Key.{Key}
use Rattle.tuple_edge.specs.declared.row.Row.{Row}
use Rattle.plan_reader.specs.declared.stage.Stage.{Stage}
use Rattle.row_cause.specs.Causes.{Cause, row_causes}
use Rattle.row_cause.specs.declared.placed.Placed.{Placed}
use Rattle.row_origin.specs.Stages.{placed_from, placed_to}
use Rattle.cause_finder.specs.Trails.{own_among, resting}
use Rattle.origin_finder.specs.declared.said.Speaker.{Speaker}
use Rattle.origin_finder.specs.declared.said.Speaker.TheVariants as speaker

-- the key of which an answer tells
abbrev pub key_in : Row → Key
key_in answer = record { account = answer.account; symbol = answer.symbol }

-- what is noted of the nth answer to what spoke in a partition
abbrev pub speaker_of : ℕ → Option Placed → ℕ → Row → Speaker
speaker_of part None n answer = speaker.End part (key_in answer)
speaker_of part (Some r) n answer = speaker.Row r.place n

-- the same of answers one after the other, of which the first is the nth
abbrev pub speakers_of : ℕ → Option Placed → ℕ → List Row → List Speaker
speakers_of part spoke n [] = []
speakers_of part spoke n (a ∷ answers) = speaker_of part spoke n a ∷ speakers_of part spoke (n + 1) answers

-- the answer that was noted has this cause, where these rows come to the stage
abbrev pub IsCaused : Stage → List Row → Speaker → Cause → Type 0
IsCaused stage rows (speaker.Row place n) c =
    (r : Row) × (slice_get rows place ≡ Some r)
    × (slice_get (row_causes stage.op (placed_to stage (route_of r stage.by stage.parts) (placed_from 0 (take place rows))) (record { place = place; row = r })) n ≡ Some c)
IsCaused stage rows (speaker.End part k) c = (c.speaker ≡ None) × (c.before ≡ resting stage.op (own_among stage rows (length rows) part k))

-- so it is with each of them
abbrev pub AreCaused : Stage → List Row → List Speaker → List Cause → Type 0
AreCaused stage rows [] [] = Unit {0}
AreCaused stage rows [] (c ∷ causes) = ⊥
AreCaused stage rows (s ∷ said) [] = ⊥
AreCaused stage rows (s ∷ said) (c ∷ causes) = IsCaused stage rows s c × AreCaused stage rows said causes

-- of all causes these are left for which no answer was noted yet
pub record IsLeft (stage : Stage) (rows : List Row) (said : List Speaker) (left all : List Cause) : Type 0 where
  pub done : List Cause
  pub caused : AreCaused stage rows said done
  pub whole : done ++ left ≡ all

-- the answers of these causes were noted, whatever is left behind them
abbrev pub HasNoted : Stage → List Row → List Cause → List Speaker → List Speaker → Type 0
HasNoted stage rows causes old new = (left all : List Cause) → IsLeft stage rows old (causes ++ left) all → IsLeft stage rows new left all

-- what a partition is given next, after these rows: the row of a place among all, or the end after all
abbrev pub IsNext : Stage → ℕ → List Row → List Row → Option Placed → Type 0
IsNext stage part rows before None = before ≡ rows
IsNext stage part rows before (Some r) = (before ≡ take r.place rows) × (slice_get rows r.place ≡ Some r.row) × (route_of r.row stage.by stage.parts ≡ part)
