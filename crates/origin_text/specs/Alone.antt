-- Whether the inputs on which a row of the output rests give it again by themselves.
use Rattle.std.specs.Prelude.{ℕ, ◌+◌, ◌-◌, ◌&&◌, Bool, false, List, [], ◌∷◌, Option, None, Some, if◌then◌else◌, length, option_map, slice_get, slice_index_or}
use Rattle.std.specs.List.{Contains, position}
use Rattle.std.specs.Ordering.{int_eq}
use Rattle.tuple_edge.specs.declared.row.Row.{Row}
use Rattle.plan_reader.specs.declared.stage.Stage.{Stage}
use Rattle.row_origin.specs.Origins.{StageOrigin, rows_after}
use Rattle.origin_text.specs.declared.alone.Again.{Again}

-- ---- the inputs on which a row rests

-- those among rows from this place on that have a mark, by the marks of all
abbrev pub marked_from : (place : ℕ) → List Row → List Bool → List Row
marked_from place [] marks = []
marked_from place (r ∷ rows) marks = if slice_index_or marks place false then r ∷ marked_from (place + 1) rows marks else marked_from (place + 1) rows marks

-- those of rows that have a mark
abbrev pub marked_rows : List Row → List Bool → List Row
marked_rows = marked_from 0

-- the marks of the rows on which a row rests, if something is told of a stage
abbrev pub rests_in : Option StageOrigin → List Bool
rests_in None = []
rests_in (Some o) = o.roles.rests

-- The marks of the inputs on which the row of the output rests: what is told of the first stage is told last.
abbrev pub input_marks : List StageOrigin → List Bool
input_marks told = rests_in (slice_get told (length told - 1))

-- ---- what they give

-- the rows that the last of some stages passes on where those of these rows alone come to the first one that have a mark
abbrev pub alone_rows : List Stage → List Row → List Bool → List Row
alone_rows stages rows marks = rows_after stages (marked_rows rows marks) []

-- Those of these rows that have a mark give this row again by themselves: it is among the rows that the stages give for them.
abbrev pub GivesAgain : List Stage → List Row → List Bool → Row → Type 0
GivesAgain stages rows marks r = Contains (alone_rows stages rows marks) r

-- whether two rows are alike in each column
abbrev pub is_same : Row → Row → Bool
is_same a b = int_eq a.time b.time && int_eq a.account b.account && int_eq a.symbol b.symbol && int_eq a.qty b.qty && int_eq a.value b.value

-- the number, from 1, of the first one of rows that is this row, if it is among them
abbrev pub number_among : Row → List Row → Option ℕ
number_among r rows = option_map (λ (place : ℕ). place + 1) (position (is_same r) rows)

-- how many of these rows have a mark, how many rows the stages give for them alone, and the number of this one among those
abbrev pub given_again : List Stage → List Row → List Bool → Row → Again
given_again stages rows marks r = record {
  chosen = length (marked_rows rows marks);
  given = length (alone_rows stages rows marks);
  number = number_among r (alone_rows stages rows marks);
}
