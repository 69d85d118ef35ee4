use Rattle.std.proofs.Common.{rules, ◌≡◌, ◌∙◌, ap, cond, not, refl, take}
use Rattle.std.specs.Prelude.{filter}
use Rattle.std.proofs.lemmas.List.{take_all}
use Rattle.stream_ops.specs.Joins.{is_left}
use Rattle.row_cause.specs.declared.placed.Placed.{Placed}
use Rattle.row_origin.proofs.Placing.{across_is}
use Rattle.cause_finder.proofs.partners.across.Goals as goal

pub returns : goal.returns
returns c =
    let left = is_left c.args.column c.args.compare c.args.limit in
    let r = c.args.r.now in
    let had : c.loop-x.rows.items ≡ filter (λ (x : Placed). cond (left r.row) (not (left x.row)) (left x.row)) (take c.loop-x.x-index c.args.placed.now) = search rules in
    had
    ∙ (ap (filter (λ (x : Placed). cond (left r.row) (not (left x.row)) (left x.row))) (take_all c.loop-x.x-index c.args.placed.now c.loop-x-test.false) ∙ across_is left r c.args.placed.now (left r.row) refl)
