use Rattle.std.proofs.Common.{rules, ◌≡◌, ◌∷◌, ◌++◌, ◌∙◌, [], ℕ, List, ap, drop, length, subst, sym}
use Rattle.std.proofs.Math.Seq.{drop-append_seam}
use Rattle.tuple_edge.specs.declared.item.Item.{Item}
use Rattle.tuple_edge.specs.declared.row.Row.{Row}
use Rattle.op_spec.specs.declared.spec.OpSpec.{OpSpec}
use Rattle.stream_ops.specs.Answers.{answer}
use Rattle.stream_ops.specs.State.{StandsFor}
use Rattle.evaluation.specs.StageRows.{alike, rows_to}
use Rattle.evaluation.proofs.Taking.{alike_open}
use Rattle.row_cause.specs.Causes.{spoken}
use Rattle.row_origin.specs.Stages.{placed_from, placed_to}
use Rattle.row_origin.proofs.Placing.{items_placed}
use Rattle.origin_finder.specs.Said.{speakers_of}
use Rattle.origin_finder.proofs.Passed.{on_ok, then}
use Rattle.origin_finder.proofs.Saying.{answers_noted}
use Rattle.cause_finder.proofs.CausesFound.{answers_of}
use Rattle.origin_finder.proofs.passing.take.Goals as goal

pub returns-clause-answers : goal.returns-clause-answers
returns-clause-answers c = on_ok c.note.result (λ had.
    let op = c.args.stage.now.op in
    let X = rows_to c.args.stage.now c.args.part c.args.rows.now in
    let old = c.args.out.now.items in
    c.in_ok-step.ensures.answers (alike X) (alike_open X) had.stands
    ∙ (ap (λ (o : OpSpec). old ++ answer o (alike X) c.spoken.result) had.spec ∙ ap (λ (i : Item). old ++ answer op (alike X) i) c.spoken.ensures))

pub returns-clause-stands : goal.returns-clause-stands
returns-clause-stands c = on_ok c.note.result (λ before plain had. subst (λ (i : Item). StandsFor c.step.new.self (before ++ i ∷ [])) c.spoken.ensures (c.in_ok-step.ensures.stands before plain had))

pub returns-clause-said : goal.returns-clause-said
returns-clause-said c = then c.note.result (λ noted had all next.
    let stage = c.args.stage.now in
    let op = stage.op in
    let q = c.args.part in
    let X = rows_to stage q c.args.rows.now in
    let old = c.args.out.now.items in
    let new = c.step.new.out.items in
    let B = placed_to stage q (placed_from 0 c.args.rows.now) in
    let speaker = c.args.speaker.now in
    let size : c.len-had.result ≡ length old = search rules in
    let gave : new ≡ old ++ answer op (alike X) (spoken speaker) =
    c.in_ok-step.ensures.answers (alike X) (alike_open X) had.stands
    ∙ (ap (λ (o : OpSpec). old ++ answer o (alike X) c.spoken.result) had.spec ∙ ap (λ (i : Item). old ++ answer op (alike X) i) c.spoken.ensures) in
    let left : drop c.len-had.result new ≡ answers_of op B speaker =
    ap (λ (n : ℕ). drop n new) size
    ∙ (ap (drop (length old)) gave ∙ (drop-append_seam old (answer op (alike X) (spoken speaker)) ∙ ap (λ (is : List Item). answer op is (spoken speaker)) (sym (items_placed stage q c.args.rows.now)))) in
    let slice : c.deref.result.now ≡ new = c.deref.ensures.value in
    answers_noted stage q c.args.rows.now all speaker c.args.said.now.items c.note.new.said.items c.requires.stage.op next
    (noted ∙ ap (λ (rs : List Row). c.args.said.now.items ++ speakers_of q speaker 0 rs) (ap (drop c.len-had.result) slice ∙ left))) c.note.ensures
