use Rattle.std.proofs.Common.{◌≡◌, ◌<◌, ◌+◌, ◌++◌, ◌∙◌, ℕ, ap, arith, get_or, length, subst, sym}
use Rattle.tuple_edge.specs.Row.{route_of}
use Rattle.tuple_edge.specs.declared.item.Item.TheVariants as item
use Rattle.stream_ops.specs.Answers.{answer}
use Rattle.stream_ops.specs.State.{StandsFor}
use Rattle.evaluation.specs.StageRows.{HasTaken, alike, rows_to}
use Rattle.evaluation.proofs.Taking.{Takes, alike_more, alike_open, part_took, row_took}
use Rattle.row_cause.specs.Causes.{row_causes}
use Rattle.row_origin.specs.Stages.{placed_from, placed_to}
use Rattle.origin_finder.specs.Said.{HasNoted}
use Rattle.origin_finder.proofs.Passed.{then}
use Rattle.origin_finder.proofs.passing.take_early.Goals as goal

none_added : (n : ℕ) → 0 + n ≡ n
none_added n = omega arith

pub returns-clause-answers : goal.returns-clause-answers
returns-clause-answers c = then c.take.result (λ answers took.
    let stage = c.args.stage.now in
    let part = c.route-part.result in
    let rows = c.args.rows.now in
    let state = c.index-states-part.result in
    let within : part < length c.args.states.now = omega (arith, c.route-part.ensures.below, c.requires.parts) in
    let had = subst (λ n. HasTaken stage.op (get_or c.args.states.now part state) (rows_to stage n rows)) (none_added part) (part_took stage 0 part c.args.states.now rows state within took) in
    answers had ∙ ap (λ q. c.args.out.now.items ++ answer stage.op (alike (rows_to stage q rows)) (item.Row 0 c.args.r.now.row)) c.route-part.ensures.value) c.take.ensures.answers

pub returns-clause-took : goal.returns-clause-took
returns-clause-took c = then c.take.result (λ stands took.
    let stage = c.args.stage.now in
    let part = c.route-part.result in
    let r = c.args.r.now.row in
    let state = c.index-states-part.result in
    let within : part < length c.args.states.now = omega (arith, c.route-part.ensures.below, c.requires.parts) in
    let takes : Takes stage r (get_or c.args.states.now part state) c.take.new.state = λ rows had. record {
      spec = c.take.ensures.spec ∙ had.spec;
      stands = subst (StandsFor c.take.new.state) (sym (alike_more rows r)) (stands (alike rows) (alike_open rows) had.stands);
    } in
    let there : route_of r stage.by stage.parts ≡ 0 + part = omega (arith, c.route-part.ensures.value) in
    row_took stage 0 part c.args.states.now c.args.rows.now r c.take.new.state state there within takes took) c.take.ensures.stands

pub returns-clause-said : goal.returns-clause-said
returns-clause-said c = then c.take.result (λ noted took all before row.
    let stage = c.args.stage.now in
    let part = c.route-part.result in
    let rows = c.args.rows.now in
    let r = c.args.r.now in
    let state = c.index-states-part.result in
    let within : part < length c.args.states.now = omega (arith, c.route-part.ensures.below, c.requires.parts) in
    let had = subst (λ n. HasTaken stage.op (get_or c.args.states.now part state) (rows_to stage n rows)) (none_added part) (part_took stage 0 part c.args.states.now rows state within took) in
    subst (λ (q : ℕ). HasNoted stage all (row_causes stage.op (placed_to stage q (placed_from 0 rows)) r) c.args.said.now.items c.take.new.said.items) c.route-part.ensures.value
    (noted had all (before, row, sym c.route-part.ensures.value))) c.take.ensures.said
