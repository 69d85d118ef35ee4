-- Plans that are by key: a row's answer comes of the rows of its bucket alone.
use Rattle.std.specs.Prelude.{◌==◌, ◌&&◌, Bool, true, false, List, [], ◌∷◌}
use Rattle.tuple_edge.specs.declared.row.Column.{Column}
use Rattle.tuple_edge.specs.declared.row.Column.TheVariants as column
use Rattle.op_spec.specs.declared.spec.By.{By}
use Rattle.op_spec.specs.declared.spec.By.TheVariants as by
use Rattle.op_spec.specs.declared.spec.OpSpec.{OpSpec}
use Rattle.op_spec.specs.declared.spec.OpSpec.TheVariants as op
use Rattle.plan_reader.specs.PlanView.{PlanView}
use Rattle.plan_reader.specs.declared.stage.Stage.{Stage}

-- whether rows of one key agree in a column
abbrev pub holds_column : By → Column → Bool
holds_column by.Account column.Account = true
holds_column by.Symbol column.Symbol = true
holds_column by.Both column.Account = true
holds_column by.Both column.Symbol = true
holds_column key column = false

-- Whether an operator is by the key of a column: a row is answered from rows of its key, which agree in the column. A `keep` looks at no other row.
abbrev pub is_keyed : Column → OpSpec → Bool
is_keyed column (op.Keep of compare limit) = true
is_keyed column (op.Total by) = holds_column by column
is_keyed column (op.Last by rows) = holds_column by column
is_keyed column (op.Window by width) = false
is_keyed column (op.Crossing by limit) = holds_column by column
is_keyed column (op.Join by width rows of compare limit) = false

-- whether there is one stage, by the key of the column that routes its rows
abbrev pub is_one_keyed : List Stage → Bool
is_one_keyed [] = false
is_one_keyed (s ∷ []) = is_keyed s.by s.op
is_one_keyed (s ∷ t ∷ stages) = false

-- whether a plan is by key: it is of version 1, and has one stage, which is by key
abbrev pub is_by_key : PlanView → Bool
is_by_key plan = (plan.version == 1) && is_one_keyed plan.stages
