-- The causes of the rows that a stage passes on, one for each row, in the order in which it passes them on.
use Rattle.std.specs.Prelude.{ℕ, zero, suc, ◌+◌, ◌==◌, List, [], ◌∷◌, ◌++◌, Option, None, Some, filter, length}
use Rattle.tuple_edge.specs.Row.{route_of}
use Rattle.tuple_edge.specs.declared.row.Row.{Row}
use Rattle.op_spec.specs.declared.spec.OpSpec.{OpSpec}
use Rattle.plan_reader.specs.declared.stage.Stage.{Stage}
use Rattle.row_cause.specs.Causes.{Cause, end_causes, row_causes}
use Rattle.row_cause.specs.declared.placed.Placed.{Placed}
use Rattle.evaluation.specs.StageRows.{early_replies, late_replies}

-- ---- rows

-- rows with their places, of which the first is n
abbrev pub placed_from : ℕ → List Row → List Placed
placed_from n [] = []
placed_from n (r ∷ rows) = record { place = n; row = r } ∷ placed_from (n + 1) rows

-- those that go to partition q
abbrev pub placed_to : Stage → ℕ → List Placed → List Placed
placed_to stage q placed = filter (λ x. route_of x.row stage.by stage.parts == q) placed

-- the rows that a stage passes on of early and late ones that come to it: early ones, and then late ones
abbrev pub passed_on : Stage → List Row → List Row → List Row
passed_on stage early late = early_replies stage [] early ++ late_replies stage early late 0 stage.parts

-- ---- causes

-- of the answers to what made an operator speak: to a row, or to the end
abbrev pub causes_of : OpSpec → List Placed → Option Placed → List Cause
causes_of op before None = end_causes op before
causes_of op before (Some r) = row_causes op before r

-- of the answers to early rows, after those before: each row looks at those of its partition
abbrev pub early_causes : Stage → List Placed → List Placed → List Cause
early_causes stage before [] = []
early_causes stage before (x ∷ placed) =
    row_causes stage.op (placed_to stage (route_of x.row stage.by stage.parts) before) x ++ early_causes stage (before ++ x ∷ []) placed

-- of what one partition answers to rows, after those before, and then to the end
abbrev pub part_causes : OpSpec → List Placed → List Placed → List Cause
part_causes op before [] = end_causes op before
part_causes op before (x ∷ placed) = row_causes op before x ++ part_causes op (before ++ x ∷ []) placed

-- of what partitions answer to late rows and the end, after the early ones: n partitions from q on, one after the other
abbrev pub late_causes : Stage → List Placed → List Placed → ℕ → ℕ → List Cause
late_causes stage early late q zero = []
late_causes stage early late q (suc n) = part_causes stage.op (placed_to stage q early) (placed_to stage q late) ++ late_causes stage early late (q + 1) n

-- of all rows that a stage passes on
abbrev pub stage_causes : Stage → List Row → List Row → List Cause
stage_causes stage early late =
    early_causes stage [] (placed_from 0 early) ++ late_causes stage (placed_from 0 early) (placed_from (length early) late) 0 stage.parts
