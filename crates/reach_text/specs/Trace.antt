-- The text that says what became of a trade.
use Rattle.std.specs.Prelude.{ℕ, ◌+◌, ◌-◌, ◌==◌, List, [], ◌∷◌, ◌++◌, Option, None, Some, codes, drop, length, nat_lt, option_map, slice_get, take, if◌then◌else◌}
use Rattle.std.specs.Fmt.{decimal, signed_decimal}
use Rattle.std.specs.List.{flat_map}
use Rattle.tuple_edge.specs.Row.{route_of}
use Rattle.tuple_edge.specs.declared.row.Row.{Row}
use Rattle.op_spec.specs.declared.spec.By.{By}
use Rattle.op_spec.specs.declared.spec.By.TheVariants as by
use Rattle.text_words.specs.Text.{line_text}
use Rattle.plan_reader.specs.Text.{stage_words}
use Rattle.plan_reader.specs.declared.stage.Stage.{Stage}
use Rattle.row_reach.specs.Reach.{Passage}
use Rattle.trade_text.specs.Symbols.{symbol_at}
use Rattle.trade_text.specs.Text.{row_text}
use Rattle.reach_text.specs.Told.{kept_by, rows_before, told_rows}
use Rattle.reach_finder.specs.Traced.{rows_in}
use Rattle.reach_text.specs.declared.told.ToldRow.{ToldRow}
use Rattle.reach_text.specs.declared.rows.StageAt.{StageAt as FoundAt}
use Rattle.reach_text.specs.declared.trace.Question.{Question}

-- what is told of: the line of a trade and the name of its file, the stages of a plan, and the symbols by their numbers
pub record Asked : Type 0 where
  pub line : ℕ
  pub file : List ℕ
  pub stages : List Stage
  pub symbols : List (List ℕ)

-- ---- rows

-- the key of a row in words
abbrev pub key_text : By → List (List ℕ) → Row → List ℕ
key_text by.Account symbols r = codes "account " ++ signed_decimal r.account
key_text by.Symbol symbols r = codes "symbol " ++ symbol_at symbols r.symbol
key_text by.Both symbols r = (codes "account " ++ signed_decimal r.account ++ codes " and symbol ") ++ symbol_at symbols r.symbol

-- behind how many rows of its key a row is taken, where the operator keeps rows by keys
abbrev pub behind_text : Asked → Stage → List Row → Option By → ToldRow → List ℕ
behind_text a stage rows None x = []
behind_text a stage rows (Some by) x = (codes ", behind " ++ decimal (rows_before stage by rows x) ++ codes " rows of ") ++ key_text by a.symbols x.row

-- where a row stands: the trade in its file, and a row of a later stage among those that come to it
abbrev pub place_text : Asked → (number : ℕ) → ToldRow → List ℕ
place_text a number x = if number == 1 then (codes "line " ++ decimal a.line ++ codes " of ") ++ a.file else codes "row " ++ decimal x.number

-- a stage with its number, and the rows that come to it
pub record StageAt : Type 0 where
  pub number : ℕ
  pub stage : Stage
  pub rows : List Row

-- the line of a row: of one that comes to a stage, where it goes and what it is added to; without a stage it is one of the output
abbrev pub line_at : Asked → Option StageAt → ToldRow → List ℕ
line_at a None x = (codes "  row " ++ decimal x.number ++ codes ": ") ++ row_text a.symbols x.row ++ codes "\n"
line_at a (Some at) x =
    codes "  " ++ place_text a at.number x ++ (codes " in partition " ++ decimal (route_of x.row at.stage.by at.stage.parts) ++ codes ": ") ++ row_text a.symbols x.row
    ++ behind_text a at.stage at.rows (kept_by at.stage.op) x ++ codes "\n"

-- the lines of rows
abbrev pub lines_at : Asked → Option StageAt → List ToldRow → List ℕ
lines_at a at told = flat_map (line_at a at) told

-- all lines, where there are at most six, and else the first three, how many are left out, and the last three
abbrev pub shown : Asked → Option StageAt → List ToldRow → List ℕ
shown a at told =
    if nat_lt (length told) 7 then lines_at a at told
    else lines_at a at (take 3 told) ++ (codes "  .. " ++ decimal (length told - 6) ++ codes " more\n") ++ lines_at a at (drop (length told - 3) told)

-- ---- stages

-- how many rows came in, and how many of them rest on the trade
abbrev pub sum_line : (number : ℕ) → (told rows : ℕ) → List ℕ
sum_line number told rows =
    if number == 1 then codes "It is one of the " ++ decimal rows ++ codes " rows that came in.\n"
    else decimal told ++ (codes " of the " ++ decimal rows ++ codes " rows that came in rest on it.\n")

-- what is told of the stage of this number, if its rows are there
abbrev pub stage_text : Asked → (number : ℕ) → Stage → Option Passage → List ℕ
stage_text a number stage None = []
stage_text a number stage (Some p) =
    line_text (stage_words number stage) ++ sum_line number (length (told_rows p)) (length p.rows) ++ shown a (Some (record { number = number; stage = stage; rows = p.rows })) (told_rows p)

-- what is told of stages from this number on
abbrev pub stages_text : Asked → (number : ℕ) → List Stage → List Passage → List ℕ
stages_text a number [] passages = []
stages_text a number (stage ∷ stages) passages = stage_text a number stage (slice_get passages (number - 1)) ++ stages_text a (number + 1) stages passages

-- what is told of the output, if its rows are there
abbrev pub output_text : Asked → Option Passage → List ℕ
output_text a None = []
output_text a (Some p) = decimal (length (told_rows p)) ++ (codes " of the " ++ decimal (length p.rows) ++ codes " rows of the output rest on it.\n") ++ shown a None (told_rows p)

-- ---- all of it

-- the trade, if it is there: its line, its file, and the row that comes in
abbrev pub head_text : Asked → Option ToldRow → List ℕ
head_text a None = []
head_text a (Some x) = (codes "Line " ++ decimal a.line ++ codes " of ") ++ a.file ++ codes ": " ++ row_text a.symbols x.row ++ codes "\n"

-- the rows that are told of a passage, if it is there
abbrev pub told_of : Option Passage → List ToldRow
told_of None = []
told_of (Some p) = told_rows p

-- what became of a trade, by what came to each stage and left the last one
abbrev pub trace_text : Asked → List Passage → List ℕ
trace_text a passages =
    head_text a (slice_get (told_of (slice_get passages 0)) 0) ++ stages_text a 1 a.stages passages ++ output_text a (slice_get passages (length a.stages))

-- ---- as the code holds it

-- a stage that code holds
abbrev pub at_in : Option FoundAt → Option StageAt
at_in at = option_map (λ (s : FoundAt). record { number = s.number; stage = s.stage.now; rows = rows_in s.rows.now }) at

-- what code asks about
abbrev pub asked_in : Question → Asked
asked_in q = record { line = q.line; file = q.file.now; stages = q.stages.now; symbols = q.inputs.now.symbols }
