-- What holds of causes.
use Rattle.std.specs.Prelude.{◌≡◌, List, [], ◌∷◌, map}
use Rattle.tuple_edge.specs.declared.row.Row.{Row}
use Rattle.op_spec.specs.Spec.{IsSpec}
use Rattle.op_spec.specs.declared.spec.OpSpec.{OpSpec}
use Rattle.stream_ops.specs.Answers.{end_answer, row_answer}
use Rattle.row_cause.specs.Causes.{alone, end_causes, items_in, row_causes}
use Rattle.row_cause.specs.declared.placed.Placed.{Placed}

-- each row in a list of its own
abbrev pub one_by_one : List Row → List (List Row)
one_by_one rows = map (λ r. r ∷ []) rows

-- The rows that answer a row are, one by one, the answers over the rows of their causes alone.
abbrev pub RowsRestOnCauses : Type 0
RowsRestOnCauses = (op : OpSpec) (before : List Placed) (r : Placed) → IsSpec op
    → one_by_one (row_answer op (items_in before) r.row) ≡ map (alone op) (row_causes op before r)

-- So are those that answer the end.
abbrev pub EndsRestOnCauses : Type 0
EndsRestOnCauses = (op : OpSpec) (before : List Placed) → IsSpec op
    → one_by_one (end_answer op (items_in before)) ≡ map (alone op) (end_causes op before)
