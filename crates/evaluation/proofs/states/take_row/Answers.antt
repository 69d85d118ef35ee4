use Rattle.std.proofs.Common.{◌≡◌, ◌<◌, ◌+◌, ◌++◌, ◌∙◌, ℕ, Result, Ok, Err, ap, arith, get_or, length, subst, sym}
use Rattle.std.specs.Prelude.{OnOk}
use Rattle.tuple_edge.specs.Row.{route_of}
use Rattle.tuple_edge.specs.declared.item.Item.TheVariants as item
use Rattle.stream_ops.specs.Answers.{answer}
use Rattle.stream_ops.specs.State.{StandsFor}
use Rattle.evaluation.specs.StageRows.{HasTaken, alike, rows_to}
use Rattle.evaluation.proofs.Taking.{Takes, alike_more, alike_open, part_took, row_took}
use Rattle.evaluation.proofs.states.take_row.Goals as goal

then : {A E : Type 0} {P Q : Type 0} → (r : Result A E) → (P → Q) → OnOk r P → OnOk r Q
then (Ok x) f p = f p
then (Err e) f p = tt

none_added : (n : ℕ) → 0 + n ≡ n
none_added n = omega arith

pub returns-clause-answers : goal.returns-clause-answers
returns-clause-answers c = then c.step.result (λ answers before took.
    let stage = c.args.stage.now in
    let part = c.route-part.result in
    let state = c.index-states-part.result in
    let within : part < length c.args.states.now = omega (arith, c.route-part.ensures.below, c.requires.parts) in
    let had = subst (λ n. HasTaken stage.op (get_or c.args.states.now part state) (rows_to stage n before)) (none_added part) (part_took stage 0 part c.args.states.now before state within took) in
    answers (alike (rows_to stage part before)) (alike_open (rows_to stage part before)) had.stands
    ∙ (ap (λ o. c.args.out.now.items ++ answer o (alike (rows_to stage part before)) (item.Row 0 c.args.row.now)) had.spec
    ∙ ap (λ q. c.args.out.now.items ++ answer stage.op (alike (rows_to stage q before)) (item.Row 0 c.args.row.now)) c.route-part.ensures.value)) c.step.ensures.answers

pub returns-clause-took : goal.returns-clause-took
returns-clause-took c = then c.step.result (λ stands before took.
    let stage = c.args.stage.now in
    let part = c.route-part.result in
    let state = c.index-states-part.result in
    let within : part < length c.args.states.now = omega (arith, c.route-part.ensures.below, c.requires.parts) in
    let takes : Takes stage c.args.row.now (get_or c.args.states.now part state) c.step.new.self = λ rows had. record {
      spec = c.step.ensures.spec ∙ had.spec;
      stands = subst (StandsFor c.step.new.self) (sym (alike_more rows c.args.row.now)) (stands (alike rows) (alike_open rows) had.stands);
    } in
    let there : route_of c.args.row.now stage.by stage.parts ≡ 0 + part = omega (arith, c.route-part.ensures.value) in
    row_took stage 0 part c.args.states.now before c.args.row.now c.step.new.self state there within takes took) c.step.ensures.stands
