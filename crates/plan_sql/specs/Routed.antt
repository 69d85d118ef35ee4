-- The rows that enter a stage.
use Rattle.std.specs.Prelude.{ℕ, ℤ, ◌==◌, List, [], ◌++◌, codes, if◌then◌else◌}
use Rattle.std.specs.Fmt.{decimal}
use Rattle.tuple_edge.specs.declared.row.Column.{Column}
use Rattle.op_spec.specs.declared.spec.By.{By}
use Rattle.op_spec.specs.declared.spec.By.TheVariants as by
use Rattle.op_spec.specs.declared.spec.Compare.{Compare}
use Rattle.op_spec.specs.declared.spec.OpSpec.{OpSpec}
use Rattle.op_spec.specs.declared.spec.OpSpec.TheVariants as op
use Rattle.plan_reader.specs.Text.{column_name, test_text}
use Rattle.plan_reader.specs.declared.stage.Stage.{Stage}

-- the name of the rows after so many stages: after none these are the inputs
unfoldable pub rows_after : ℕ → List ℕ
rows_after stages = if stages == 0 then codes "input" else codes "stage" ++ decimal stages

-- the partition of so many to which a row goes: the column's value modulo their number, which is never below zero
unfoldable pub part_sql : Column → (parts : ℕ) → List ℕ
part_sql column parts =
    if parts == 1 then codes "0"
    else codes "((" ++ column_name column ++ codes " % " ++ decimal parts ++ codes ") + " ++ decimal parts ++ codes ") % " ++ decimal parts

-- the account and the symbol of a row's key: a part that rows aren't kept by is 0
abbrev pub key_sql : By → List ℕ
key_sql by.Account = codes "account, 0 AS symbol"
key_sql by.Symbol = codes "0 AS account, symbol"
key_sql by.Both = codes "account, symbol"

-- the account and the symbol that a stage's rows have: of a filter their own, of any other operator those of the key
abbrev pub row_sql : OpSpec → List ℕ
row_sql (op.Keep column compare limit) = codes "account, symbol"
row_sql (op.Total by) = key_sql by
row_sql (op.Last by rows) = key_sql by
row_sql (op.Window by width) = key_sql by
row_sql (op.Crossing by limit) = key_sql by
row_sql (op.Join by width rows column compare limit) = key_sql by

-- the column that says whether a row of a join is left
unfoldable pub left_sql : Column → Compare → (limit : ℤ) → List ℕ
left_sql column compare limit = codes ", (" ++ test_text column compare limit ++ codes ") AS side"

-- the same for any operator: rows of all but a join have no sides
abbrev pub side_sql : OpSpec → List ℕ
side_sql (op.Keep column compare limit) = []
side_sql (op.Total by) = []
side_sql (op.Last by rows) = []
side_sql (op.Window by width) = []
side_sql (op.Crossing by limit) = []
side_sql (op.Join by width rows column compare limit) = left_sql column compare limit

-- the order n of the rows that enter a stage, and the partition part to which each of them goes
unfoldable pub ordered_sql : Stage → List ℕ
ordered_sql stage =
    codes "  WITH routed AS (\n"
    ++ codes "    SELECT ROW_NUMBER() OVER (ORDER BY stamp, source, place) AS n, " ++ part_sql stage.by stage.parts ++ codes " AS part,\n"

-- their other columns, account and symbol being those of the key
unfoldable pub keyed_sql : Stage → List ℕ
keyed_sql stage = codes "           stamp, time, " ++ row_sql stage.op ++ codes ", qty, value" ++ side_sql stage.op ++ codes "\n"

-- the rows that enter a stage after so many others
unfoldable pub routed_sql : (before : ℕ) → Stage → List ℕ
routed_sql before stage = ordered_sql stage ++ keyed_sql stage ++ codes "    FROM " ++ rows_after before ++ codes "\n"
