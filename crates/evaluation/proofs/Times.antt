-- The rows that a stage passes on have times within their limits where those have that came to it.
use Rattle.std.proofs.Common.{ℕ, zero, suc, ◌+◌, List, [], ◌∷◌, ◌++◌}
use Rattle.std.specs.Prelude.{All, ◌==◌}
use Rattle.std.proofs.lemmas.List.Elements.{All-append, All-filter, All-head, All-map, All-nil, All-push, All-tail}
use Rattle.tuple_edge.specs.Row.{route_of}
use Rattle.tuple_edge.specs.declared.item.Item.{Item}
use Rattle.tuple_edge.specs.declared.item.Item.TheVariants as item
use Rattle.tuple_edge.specs.declared.row.Row.{Row}
use Rattle.op_spec.specs.Spec.{IsSpec}
use Rattle.op_spec.specs.Times.{IsTimely}
use Rattle.op_spec.specs.declared.spec.OpSpec.{OpSpec}
use Rattle.stream_ops.specs.Answers.{answer, answers}
use Rattle.stream_ops.proofs.AnswerLaws.{answer_timely}
use Rattle.plan_reader.specs.declared.stage.Stage.{Stage}
use Rattle.evaluation.specs.StageRows.{HasTime, alike, early_replies, late_replies, part_replies, row_replies, rows_to}

alike_timely : (rows : List Row) → All HasTime rows → All IsTimely (alike rows)
alike_timely rows h = All-map IsTimely (item.Row 0) rows h

to_timely : (stage : Stage) (q : ℕ) (rows : List Row) → All HasTime rows → All IsTimely (alike (rows_to stage q rows))
to_timely stage q rows h = alike_timely (rows_to stage q rows) (All-filter (λ r. route_of r stage.by stage.parts == q) HasTime rows h)

pub early_timely : (stage : Stage) (before rows : List Row) → IsSpec stage.op → All HasTime before → All HasTime rows → All HasTime (early_replies stage before rows)
early_timely stage before [] limits had h = All-nil HasTime
early_timely stage before (r ∷ rows) limits had h =
    All-append HasTime (row_replies stage before r) (early_replies stage (before ++ r ∷ []) rows)
    (answer_timely stage.op (alike (rows_to stage (route_of r stage.by stage.parts) before)) (item.Row 0 r) limits (to_timely stage (route_of r stage.by stage.parts) before had) (All-head HasTime r rows h))
    (early_timely stage (before ++ r ∷ []) rows limits (All-push HasTime before r had (All-head HasTime r rows h)) (All-tail HasTime r rows h))

answers_timely : (op : OpSpec) (before is : List Item) → IsSpec op → All IsTimely before → All IsTimely is → All HasTime (answers op before is)
answers_timely op before [] limits had h = All-nil HasTime
answers_timely op before (i ∷ is) limits had h =
    All-append HasTime (answer op before i) (answers op (before ++ i ∷ []) is) (answer_timely op before i limits had (All-head IsTimely i is h))
    (answers_timely op (before ++ i ∷ []) is limits (All-push IsTimely before i had (All-head IsTimely i is h)) (All-tail IsTimely i is h))

part_timely : (stage : Stage) (early late : List Row) (q : ℕ) → IsSpec stage.op → All HasTime early → All HasTime late → All HasTime (part_replies stage early late q)
part_timely stage early late q limits e l =
    answers_timely stage.op (alike (rows_to stage q early)) (alike (rows_to stage q late) ++ item.End 0 ∷ []) limits (to_timely stage q early e)
    (All-push IsTimely (alike (rows_to stage q late)) (item.End 0) (to_timely stage q late l) tt)

pub late_timely : (stage : Stage) (early late : List Row) (q n : ℕ) → IsSpec stage.op → All HasTime early → All HasTime late → All HasTime (late_replies stage early late q n)
late_timely stage early late q zero limits e l = All-nil HasTime
late_timely stage early late q (suc n) limits e l =
    All-append HasTime (part_replies stage early late q) (late_replies stage early late (q + 1) n) (part_timely stage early late q limits e l) (late_timely stage early late (q + 1) n limits e l)
