use Rattle.std.proofs.Common.{ℕ, ◌≡◌, ◌∙◌, [], All, List, Option, ap, subst, sym}
use Rattle.std.specs.Prelude.{is_some}
use Rattle.std.specs.Bool.{Decides}
use Rattle.std.specs.List.{Contains}
use Rattle.std.proofs.lemmas.List.Elements.{All-weaker}
use Rattle.tuple_edge.specs.declared.row.Row.{Row}
use Rattle.trade_text.specs.TradesView.{IsInputRow}
use Rattle.evaluation.specs.StageRows.{HasTime}
use Rattle.row_origin.specs.Origins.{rows_after}
use Rattle.origin_text.specs.Alone.{alone_rows, marked_rows, number_among}
use Rattle.origin_text.proofs.Among.{marked_all, number_decides}
use Rattle.origin_text.proofs.alone.given_again.Goals as goal

pub rows_passed-requires-clause-times : goal.rows_passed-requires-clause-times
rows_passed-requires-clause-times c =
    let rows = c.rows.result.now in
    let timely : All HasTime rows = All-weaker IsInputRow HasTime (λ r is. (is.time.low, is.time.high)) rows (subst (All IsInputRow) (sym c.rows.ensures.rows) c.rows.ensures.limits.rows) in
    subst (All HasTime) (sym c.in_ok-marked.ensures) (marked_all HasTime 0 rows c.args.marks.now timely)

pub returns-clause-exactly : goal.returns-clause-exactly
returns-clause-exactly c =
    let r = c.args.row.now in
    let stages = c.args.stages.now in
    let marks = c.args.marks.now in
    let alone = alone_rows stages c.args.inputs.now.rows marks in
    let chosen : c.in_ok-marked.marked.items ≡ marked_rows c.args.inputs.now.rows marks = c.in_ok-marked.ensures ∙ ap (λ (rows : List Row). marked_rows rows marks) c.rows.ensures.rows in
    let given : c.deref.result.now ≡ alone = c.deref.ensures.value ∙ (c.in_ok-rows.ensures ∙ ap (λ (rows : List Row). rows_after stages rows []) chosen) in
    let is : c.number_among.result ≡ number_among r alone = c.number_among.ensures ∙ ap (number_among r) given in
    subst (λ (o : Option ℕ). Decides (is_some o) (Contains alone r)) (sym is) (number_decides r alone)
