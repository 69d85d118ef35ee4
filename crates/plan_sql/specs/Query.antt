-- A plan as one SQL query over a table of trades.
use Rattle.std.specs.Prelude.{ℕ, ◌+◌, ◌==◌, List, [], ◌∷◌, ◌++◌, codes, if◌then◌else◌, length}
use Rattle.plan_reader.specs.PlanView.{PlanView}
use Rattle.plan_reader.specs.Text.{stage_words}
use Rattle.plan_reader.specs.declared.stage.Stage.{Stage}
use Rattle.text_words.specs.Text.{line_text}
use Rattle.plan_sql.specs.Forms.{op_sql}
use Rattle.plan_sql.specs.Loading.{intro_text, loading}
use Rattle.plan_sql.specs.Routed.{routed_sql, rows_after}

-- ---- the inputs

-- how rows go from stage to stage
unfoldable pub order_text : List ℕ
order_text =
    codes "--\n-- Each stage takes the rows of the one before by (stamp, source, place): the stamp of the input that a row goes back to, the\n"
    ++ codes "-- partition that it comes from, and its place there. In a stage, routed are these rows with their order n, the partition\n"
    ++ codes "-- part that each goes to, and the account and symbol of its key.\n"

-- the number of a symbol, by which rows are routed, compared and ordered
unfoldable pub symbols_sql : List ℕ
symbols_sql =
    codes "WITH\n"
    ++ codes "-- A symbol's number: its place among the symbols by first appearance in the trades.\n"
    ++ codes "symbols AS (\n"
    ++ codes "  SELECT symbol AS name, ROW_NUMBER() OVER (ORDER BY MIN(n)) AS number FROM trades GROUP BY symbol\n"
    ++ codes ")"

-- the inputs where the trades are the one source
unfoldable pub trades_sql : List ℕ
trades_sql =
    codes ",\n-- The inputs: the trades in their order.\n"
    ++ codes "input AS (\n"
    ++ codes "  SELECT n AS stamp, 0 AS source, 0 AS place, time, account, number AS symbol, qty, value\n"
    ++ codes "  FROM trades JOIN symbols ON symbols.name = trades.symbol\n"
    ++ codes ")"

-- the rows of both sources, each with its source
unfoldable pub sources_sql : List ℕ
sources_sql =
    codes "  WITH sources AS (\n"
    ++ codes "    SELECT 0 AS source, n, time, account, number AS symbol, qty, value\n"
    ++ codes "    FROM trades JOIN symbols ON symbols.name = trades.symbol\n"
    ++ codes "    UNION ALL SELECT 1, n, time, account, 0, 0, amount FROM movements\n"
    ++ codes "  )\n"

-- the inputs where movements come in beside the trades
unfoldable pub merged_sql : List ℕ
merged_sql =
    codes ",\n-- The inputs: trades and movements by their times, of one time trades first.\n"
    ++ codes "input AS (\n"
    ++ sources_sql
    ++ codes "  SELECT ROW_NUMBER() OVER (ORDER BY time, source, n) AS stamp, source, 0 AS place, time, account, symbol, qty, value FROM sources\n"
    ++ codes ")"

-- the inputs of a plan of this version
unfoldable pub input_sql : ℕ → List ℕ
input_sql version = if version == 1 then trades_sql else merged_sql

-- ---- the stages

-- the beginning of the stage with this number: the line of the plan, and the name of its rows
unfoldable pub opened_sql : (number : ℕ) → Stage → List ℕ
opened_sql number stage = codes ",\n-- " ++ line_text (stage_words number stage) ++ rows_after number ++ codes " AS (\n"

-- a stage's rows, after so many stages: the rows that enter, and what the operator answers
unfoldable pub stage_sql : (before : ℕ) → Stage → List ℕ
stage_sql before stage = opened_sql (before + 1) stage ++ routed_sql before stage ++ op_sql stage.op ++ codes ")"

-- stages, one after the other, after so many
abbrev pub stages_sql : (before : ℕ) → List Stage → List ℕ
stages_sql before [] = []
stages_sql before (stage ∷ stages) = stage_sql before stage ++ stages_sql (before + 1) stages

-- the rows after so many stages, with the names of symbols, in their order
unfoldable pub output_sql : (stages : ℕ) → List ℕ
output_sql stages =
    codes "\nSELECT time, account, COALESCE(name, '-') AS symbol, qty, value\n"
    ++ codes "FROM " ++ rows_after stages ++ codes " AS answers LEFT JOIN symbols ON symbols.number = answers.symbol\n"
    ++ codes "ORDER BY stamp, source, place;\n"

-- ---- the query

-- what stands above the stages
unfoldable pub head_sql : (version : ℕ) → List ℕ
head_sql version = intro_text ++ loading version ++ order_text ++ symbols_sql ++ input_sql version

-- a plan as one query
unfoldable pub sql_text : PlanView → List ℕ
sql_text plan = head_sql plan.version ++ stages_sql 0 plan.stages ++ output_sql (length plan.stages)
