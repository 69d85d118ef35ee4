-- The text that says how a row of the output came about.
use Rattle.std.specs.Prelude.{ℕ, ◌+◌, ◌-◌, ◌==◌, ◌||◌, Bool, false, List, [], ◌∷◌, ◌++◌, Option, None, Some, codes, drop, length, nat_lt, slice_get, take, if◌then◌else◌}
use Rattle.std.specs.Fmt.{decimal}
use Rattle.std.specs.List.{flat_map}
use Rattle.tuple_edge.specs.Row.{route_of}
use Rattle.tuple_edge.specs.declared.row.Row.{Row}
use Rattle.op_spec.specs.declared.spec.OpSpec.{OpSpec}
use Rattle.op_spec.specs.declared.spec.OpSpec.TheVariants as op
use Rattle.text_words.specs.Text.{line_text}
use Rattle.plan_reader.specs.Text.{stage_words}
use Rattle.plan_reader.specs.declared.stage.Stage.{Stage}
use Rattle.trade_text.specs.Text.{row_text}
use Rattle.row_origin.specs.Origins.{StageOrigin}
use Rattle.origin_text.specs.Alone.{given_again, input_marks}
use Rattle.origin_text.specs.Files.{FilesView, files_in, input_text, rows_in}
use Rattle.origin_text.specs.Told.{came_at_end, came_by, counting, told_rows}
use Rattle.origin_text.specs.declared.alone.Again.{Again}
use Rattle.origin_text.specs.declared.told.ToldRow.{ToldRow}
use Rattle.origin_text.specs.declared.why.Question.{Question}

-- what is told of: the stages of a plan, the files that it is fed with, the symbols by their numbers, whether all rows are told, and whether it is told if those
-- inputs alone give the row again on which it rests
pub record Asked : Type 0 where
  pub stages : List Stage
  pub files : FilesView
  pub symbols : List (List ℕ)
  pub all : Bool
  pub check : Bool

-- ---- rows

-- what stands behind the row by which the row of the output came
abbrev pub came_text : OpSpec → List ℕ
came_text (op.Crossing by limit) = codes ", by which the sum crossed"
came_text (op.Keep column compare limit) = codes ", with which it came"
came_text (op.Total by) = codes ", with which it came"
came_text (op.Last by n) = codes ", with which it came"
came_text (op.Window by width) = codes ", with which it came"
came_text (op.Join by width n column compare limit) = codes ", with which it came"

-- whether a number is this one
abbrev pub is_number : Option ℕ → ℕ → Bool
is_number None number = false
is_number (Some n) number = n == number

-- what stands behind a row: that it only closed a window, or that the row of the output came by it
abbrev pub role_text : OpSpec → (came : Option ℕ) → ToldRow → List ℕ
role_text op came t = if t.counts then (if is_number came t.number then came_text op else []) else codes ", which only closed the window"

-- where the row of this number stands of those that come to a stage: an input in its file, and a row of a later stage among them
abbrev pub place_text : FilesView → (stage number : ℕ) → List ℕ
place_text files stage number = if stage == 1 then input_text files (number - 1) (slice_get files.inputs (number - 1)) else codes "row " ++ decimal number

-- to which partition of a stage a row goes
abbrev pub part_text : Stage → Row → List ℕ
part_text stage r = codes " in partition " ++ decimal (route_of r stage.by stage.parts) ++ codes ": "

-- the line of a row of the stage of this number
abbrev pub told_line : Asked → (number : ℕ) → Stage → (came : Option ℕ) → ToldRow → List ℕ
told_line a number stage came t =
    codes "  " ++ place_text a.files number t.number ++ part_text stage t.row ++ row_text a.symbols t.row ++ role_text stage.op came t ++ codes "\n"

-- the lines of some of them
abbrev pub told_lines : Asked → (number : ℕ) → Stage → (came : Option ℕ) → List ToldRow → List ℕ
told_lines a number stage came told = flat_map (told_line a number stage came) told

-- that so many are left out
abbrev pub more_line : ℕ → List ℕ
more_line count = codes "  .. " ++ decimal count ++ codes " more\n"

-- the first three and the last three
abbrev pub some_lines : Asked → (number : ℕ) → Stage → (came : Option ℕ) → List ToldRow → List ℕ
some_lines a number stage came told =
    told_lines a number stage came (take 3 told) ++ more_line (length told - 6) ++ told_lines a number stage came (drop (length told - 3) told)

-- all lines, where they are asked for or are few
abbrev pub shown_lines : Asked → (number : ℕ) → Stage → (came : Option ℕ) → List ToldRow → List ℕ
shown_lines a number stage came told = if a.all || nat_lt (length told) 7 then told_lines a number stage came told else some_lines a number stage came told

-- ---- stages

-- who rests on rows: the row of the output at the last stage, and before it the rows that were told of the stage behind
abbrev pub resting_text : (is_last : Bool) → List ℕ
resting_text is_last = if is_last then codes "It rests on " else codes "They rest on "

-- that the row of the output came at the end
abbrev pub end_text : (at_end : Bool) → List ℕ
end_text at_end = if at_end then codes " It came at the end.\n" else codes "\n"

-- how many rows came in, on how many of them they rest, and how many of these count
abbrev pub sum_line : (is_last : Bool) → OpSpec → (rows : ℕ) → List ToldRow → List ℕ
sum_line is_last op rows told =
    resting_text is_last ++ decimal (length told) ++ codes " of the " ++ decimal rows ++ codes " rows that came in, and " ++ decimal (counting told) ++ codes " count."
    ++ end_text (came_at_end is_last op told)

-- what is told of the rows of a stage
abbrev pub rows_text : Asked → (number : ℕ) → Stage → (rows : ℕ) → List ToldRow → List ℕ
rows_text a number stage rows told =
    sum_line (number == length a.stages) stage.op rows told ++ shown_lines a number stage (came_by (number == length a.stages) stage.op told) told

-- what is told of a stage of this number, if there is one
abbrev pub stage_text : Asked → (number : ℕ) → Option Stage → StageOrigin → List ℕ
stage_text a number None o = []
stage_text a number (Some stage) o = line_text (stage_words number stage) ++ rows_text a number stage (length o.rows) (told_rows o)

-- what is told of stages, from that of this number on to the first
abbrev pub stages_text : Asked → (number : ℕ) → List StageOrigin → List ℕ
stages_text a number [] = []
stages_text a number (o ∷ origins) = stage_text a number (slice_get a.stages (number - 1)) o ++ stages_text a (number - 1) origins

-- ---- the inputs by themselves

-- what came in: trades, and movements where there are any
abbrev pub kinds_text : FilesView → List ℕ
kinds_text files = if length files.movements.rows == 0 then codes "trades" else codes "trades and movements"

-- over how many of the inputs alone, of those that came in
abbrev pub over_text : FilesView → (chosen : ℕ) → List ℕ
over_text files chosen = codes "Over these " ++ kinds_text files ++ codes " alone, " ++ decimal chosen ++ codes " of the " ++ decimal (length files.inputs) ++ codes " that came in, "

-- that the row is one of so many that the plan gives then, or that it isn't
abbrev pub among_text : (given : ℕ) → (number : Option ℕ) → List ℕ
among_text given (Some number) = codes "the plan gives this row again, as row " ++ decimal number ++ codes " of " ++ decimal given ++ codes ".\n"
among_text given None = codes "this row isn't among the " ++ decimal given ++ codes " that the plan gives: without the others a stage passes on other rows.\n"

-- whether the plan gives the row again
abbrev pub again_line : FilesView → Again → List ℕ
again_line files again = over_text files again.chosen ++ among_text again.given again.number

-- that of the row of the output, where it is asked for and the row is there, by the marks of the inputs
abbrev pub check_text : Asked → List Bool → Option Row → List ℕ
check_text a marks None = []
check_text a marks (Some r) = if a.check then again_line a.files (given_again a.stages (rows_in a.files) marks r) else []

-- ---- all of it

-- the row of the output, if it is there: its number, among how many, and what it is
abbrev pub head_line : List (List ℕ) → (number count : ℕ) → Option Row → List ℕ
head_line symbols number count None = []
head_line symbols number count (Some r) = codes "Row " ++ decimal number ++ codes " of " ++ decimal count ++ codes ": " ++ row_text symbols r ++ codes "\n"

-- How the row at a place of the output came about, by what is told of the rows behind the last stage, and of all stages from the last to the first. Last it is told,
-- where that is asked for, whether the inputs on which it rests give it again by themselves.
abbrev pub why_text : Asked → (place : ℕ) → List StageOrigin → List ℕ
why_text a place [] = []
why_text a place (last ∷ origins) =
    head_line a.symbols (place + 1) (length last.rows) (slice_get last.rows place) ++ stages_text a (length a.stages) origins
    ++ check_text a (input_marks (last ∷ origins)) (slice_get last.rows place)

-- ---- as the code holds it

-- what code asks about
abbrev pub asked_in : Question → Asked
asked_in q = record { stages = q.stages.now; files = files_in q.files; symbols = q.files.inputs.now.symbols; all = q.all; check = q.check }
