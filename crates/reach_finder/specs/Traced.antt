-- What a stage passes on of rows that are told apart by whether they are reached.
use Rattle.std.specs.Prelude.{ℕ, zero, suc, ◌==◌, ◌+◌, Bool, false, List, [], ◌∷◌, ◌++◌, filter, if◌then◌else◌, map}
use Rattle.tuple_edge.specs.Row.{route_of}
use Rattle.tuple_edge.specs.declared.row.Row.{Row}
use Rattle.op_spec.specs.declared.spec.OpSpec.{OpSpec}
use Rattle.stream_ops.specs.Answers.{end_answer, row_answer}
use Rattle.plan_reader.specs.declared.stage.Stage.{Stage}
use Rattle.evaluation.specs.StageRows.{HasTaken, alike}
use Rattle.reach_finder.specs.Shades.{marking, shaded, traced_by}
use Rattle.reach_finder.specs.declared.shades.Traced.{Traced}
use Rattle.reach_finder.specs.declared.tracer.Tracer.{Tracer}

-- the rows alone
abbrev pub rows_in : List Traced → List Row
rows_in xs = map (λ (x : Traced). x.row) xs

-- whether each is reached
abbrev pub marks_in : List Traced → List Bool
marks_in xs = map (λ (x : Traced). x.reached) xs

-- both runs of an operator were given these rows
pub record HasSeen (op : OpSpec) (tracer : Tracer) (before : List Traced) : Type 0 where
  pub rows : HasTaken op tracer.rows (rows_in before)
  pub marks : HasTaken (marking op) tracer.marks (map (shaded op) before)

-- ---- an operator

-- the answers to a row, after those before
abbrev pub traced_row : OpSpec → List Traced → Traced → List Traced
traced_row op before x =
    traced_by op x.reached (row_answer op (alike (rows_in before)) x.row) (row_answer (marking op) (alike (map (shaded op) before)) (shaded op x))

-- the answers to the end
abbrev pub traced_end : OpSpec → List Traced → List Traced
traced_end op before = traced_by op false (end_answer op (alike (rows_in before))) (end_answer (marking op) (alike (map (shaded op) before)))

-- ---- a stage

-- the rows that go to partition q
abbrev pub traced_to : Stage → ℕ → List Traced → List Traced
traced_to stage q xs = filter (λ (x : Traced). route_of x.row stage.by stage.parts == q) xs

-- each of the partitions of a stage, the first of these being partition q, has seen the rows that go to it
abbrev pub PartsSaw : Stage → ℕ → List Tracer → List Traced → Type 0
PartsSaw stage q [] xs = Unit {0}
PartsSaw stage q (tracer ∷ tracers) xs = HasSeen stage.op tracer (traced_to stage q xs) × PartsSaw stage (q + 1) tracers xs

-- the answers to a row by the partition to which it goes
abbrev pub traced_reply : Stage → List Traced → Traced → List Traced
traced_reply stage before x = traced_row stage.op (traced_to stage (route_of x.row stage.by stage.parts) before) x

-- the answers to early rows, after those before
abbrev pub traced_early : Stage → List Traced → List Traced → List Traced
traced_early stage before [] = []
traced_early stage before (x ∷ xs) = traced_reply stage before x ++ traced_early stage (before ++ x ∷ []) xs

-- the answers of partition q to those of the late rows that go to it, after those before, and to the end
abbrev pub traced_part : Stage → ℕ → List Traced → List Traced → List Traced
traced_part stage q before [] = traced_end stage.op before
traced_part stage q before (x ∷ late) =
    if route_of x.row stage.by stage.parts == q then traced_row stage.op before x ++ traced_part stage q (before ++ x ∷ []) late else traced_part stage q before late

-- the same of partitions from q on, n of them, one after the other
abbrev pub traced_late : Stage → List Traced → List Traced → ℕ → ℕ → List Traced
traced_late stage early late q zero = []
traced_late stage early late q (suc n) = traced_part stage q (traced_to stage q early) late ++ traced_late stage early late (q + 1) n
