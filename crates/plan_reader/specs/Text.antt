-- The canonical text of a plan.
use Rattle.std.specs.Prelude.{ℕ, ℤ, ◌+◌, List, [], ◌∷◌, codes}
use Rattle.std.specs.List.{flat_map, join_with_byte}
use Rattle.std.specs.Fmt.{decimal, signed_decimal}
use Rattle.tuple_edge.specs.declared.row.Column.{Column}
use Rattle.tuple_edge.specs.declared.row.Column.TheVariants as column
use Rattle.op_spec.specs.declared.spec.By.{By}
use Rattle.op_spec.specs.declared.spec.By.TheVariants as by
use Rattle.op_spec.specs.declared.spec.Compare.{Compare}
use Rattle.op_spec.specs.declared.spec.Compare.TheVariants as compare
use Rattle.op_spec.specs.declared.spec.OpSpec.{OpSpec}
use Rattle.op_spec.specs.declared.spec.OpSpec.TheVariants as op
use Rattle.text_words.specs.Lines.{Word}
use Rattle.text_words.specs.Text.{line_text}
use Rattle.plan_reader.specs.PlanView.{PlanView}
use Rattle.plan_reader.specs.declared.stage.Stage.{Stage}

-- ---- words

-- the word for a column
abbrev pub column_name : Column → Word
column_name column.Time = codes "time"
column_name column.Account = codes "account"
column_name column.Symbol = codes "symbol"
column_name column.Qty = codes "qty"
column_name column.Value = codes "value"

-- the word for what a key is made of
abbrev pub by_name : By → Word
by_name by.Account = codes "account"
by_name by.Symbol = codes "symbol"
by_name by.Both = codes "both"

-- the sign of a comparison
abbrev pub compare_name : Compare → Word
compare_name compare.Less = codes "<"
compare_name compare.AtMost = codes "<="
compare_name compare.Equal = codes "="
compare_name compare.Unequal = codes "!="
compare_name compare.AtLeast = codes ">="
compare_name compare.Greater = codes ">"

-- the words of an operator: its name, and its settings behind it
abbrev pub op_words : OpSpec → List Word
op_words (op.Keep column compare limit) = codes "keep" ∷ column_name column ∷ compare_name compare ∷ signed_decimal limit ∷ []
op_words (op.Total by) = codes "total" ∷ by_name by ∷ []
op_words (op.Last by rows) = codes "last" ∷ by_name by ∷ decimal rows ∷ []
op_words (op.Window by width) = codes "window" ∷ by_name by ∷ signed_decimal width ∷ []
op_words (op.Crossing by limit) = codes "crossing" ∷ by_name by ∷ signed_decimal limit ∷ []
op_words (op.Join by width rows column compare limit) =
    codes "join" ∷ by_name by ∷ signed_decimal width ∷ decimal rows ∷ column_name column ∷ compare_name compare ∷ signed_decimal limit ∷ []

-- an operator with its settings, as a plan's line has it
abbrev pub op_text : OpSpec → List ℕ
op_text op = join_with_byte 32 (op_words op)

-- a comparison, as a plan's line has it
unfoldable pub test_text : Column → Compare → (limit : ℤ) → List ℕ
test_text column compare limit = join_with_byte 32 (column_name column ∷ compare_name compare ∷ signed_decimal limit ∷ [])

-- ---- lines

-- the words of the line of a stage with its number
abbrev pub stage_words : ℕ → Stage → List Word
stage_words number stage =
    codes "stage" ∷ decimal number ∷ codes "parts" ∷ decimal stage.parts ∷ codes "by" ∷ column_name stage.by ∷ op_words stage.op

-- the lines of stages, numbered from here on
abbrev pub stage_lines : ℕ → List Stage → List (List Word)
stage_lines number [] = []
stage_lines number (stage ∷ stages) = stage_words number stage ∷ stage_lines (number + 1) stages

-- the lines of a plan: the version, both settings, and the stages
abbrev pub plan_lines : PlanView → List (List Word)
plan_lines plan =
    (codes "flux" ∷ decimal plan.version ∷ []) ∷ (codes "mark" ∷ decimal plan.mark ∷ []) ∷ (codes "hold" ∷ decimal plan.hold ∷ []) ∷ stage_lines 1 plan.stages

-- the canonical text of a plan
unfoldable pub plan_text : PlanView → List ℕ
plan_text plan = flat_map line_text (plan_lines plan)
