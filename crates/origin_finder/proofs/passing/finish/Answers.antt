use Rattle.std.proofs.Common.{◌≡◌, ◌∷◌, ◌++◌, ◌∙◌, [], List, ap, drop, refl, subst, sym, take}
use Rattle.std.proofs.lemmas.List.{append-nil, drop_all, take_all}
use Rattle.tuple_edge.specs.declared.item.Item.TheVariants as item
use Rattle.tuple_edge.specs.declared.row.Row.{Row}
use Rattle.stream_ops.specs.Answers.{answer, answers}
use Rattle.evaluation.specs.StageRows.{HasTaken, alike, rows_to}
use Rattle.row_cause.specs.Causes.{Cause, end_causes}
use Rattle.row_origin.specs.Stages.{part_causes, placed_from, placed_to}
use Rattle.origin_finder.specs.Passing.{causes_from}
use Rattle.origin_finder.specs.Said.{IsLeft}
use Rattle.origin_finder.proofs.Passed.{then}
use Rattle.origin_finder.proofs.passing.finish.Goals as goal

pub loop-place-preserved : goal.loop-place-preserved
loop-place-preserved c had =
    let inv = c.loop-place.invariant had in
    let passed = c.in_ok-take_if.ensures.passed inv.took in
    record { took = passed.took; answers = inv.answers ∙ passed.answers; said = λ left all h. passed.said left all (inv.said left all h) }

pub returns-clause-answers : goal.returns-clause-answers
returns-clause-answers c = then c.take.result (λ gives had.
    let inv = c.loop-place.invariant had in
    let stage = c.args.stage.now in
    let rows = c.args.rows.now in
    let q = c.args.part in
    let k = c.loop-place.place in
    let X = rows_to stage q rows in
    let out = c.loop-place.out.items in
    let whole : take k rows ≡ rows = take_all k rows c.loop-place-test.false in
    let none_left : drop k rows ≡ [] = drop_all k rows c.loop-place-test.false in
    let taken = subst (λ (rs : List Row). HasTaken stage.op c.loop-place.state (rows_to stage q rs)) whole inv.took in
    gives taken
    ∙ (ap (λ (rs : List Row). out ++ rs) (sym (append-nil (answer stage.op (alike X) (item.End 0))))
    ∙ (sym (ap (λ (rs : List Row). out ++ answers stage.op (alike (rows_to stage q rs)) (alike (rows_to stage q (drop k rows)) ++ item.End 0 ∷ [])) whole
    ∙ ap (λ (rs : List Row). out ++ answers stage.op (alike X) (alike (rows_to stage q rs) ++ item.End 0 ∷ [])) none_left)
    ∙ sym inv.answers))) c.take.ensures.answers

pub returns-clause-said : goal.returns-clause-said
returns-clause-said c = then c.take.result (λ noted had.
    let inv = c.loop-place.invariant had in
    let stage = c.args.stage.now in
    let rows = c.args.rows.now in
    let q = c.args.part in
    let k = c.loop-place.place in
    let whole : take k rows ≡ rows = take_all k rows c.loop-place-test.false in
    let none_left : drop k rows ≡ [] = drop_all k rows c.loop-place-test.false in
    let taken = subst (λ (rs : List Row). HasTaken stage.op c.loop-place.state (rows_to stage q rs)) whole inv.took in
    let last : causes_from stage q rows k ≡ end_causes stage.op (placed_to stage q (placed_from 0 rows)) =
    ap (λ (rs : List Row). part_causes stage.op (placed_to stage q (placed_from 0 rs)) (placed_to stage q (placed_from k (drop k rows)))) whole
    ∙ ap (λ (rs : List Row). part_causes stage.op (placed_to stage q (placed_from 0 rows)) (placed_to stage q (placed_from k rs))) none_left in
    λ left all h. noted taken rows refl left all (subst (λ (cs : List Cause). IsLeft stage rows c.loop-place.said.items (cs ++ left) all) last (inv.said left all h))) c.take.ensures.said
