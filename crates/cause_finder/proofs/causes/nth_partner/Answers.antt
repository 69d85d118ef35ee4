use Rattle.std.proofs.Common.{rules, ◌≡◌, ◌∙◌, ℕ, List, ap, slice_get}
use Rattle.tuple_edge.specs.Row.{route_of}
use Rattle.tuple_edge.specs.declared.row.Key.{Key}
use Rattle.op_spec.specs.Keys.{key_of}
use Rattle.stream_ops.specs.Joins.{is_left}
use Rattle.row_cause.specs.Causes.{of_its_key, of_key, partners}
use Rattle.row_cause.specs.declared.placed.Placed.{Placed}
use Rattle.row_origin.specs.Stages.{placed_from, placed_to}
use Rattle.cause_finder.proofs.causes.nth_partner.Goals as goal

pub returns : goal.returns
returns c =
    let stage = c.args.stage.now in
    let by = c.args.by in
    let r = c.args.r.now in
    let placed = placed_from 0 c.args.rows.now in
    let own : c.in_ok-own.own.items ≡ of_its_key by r (placed_to stage (route_of r.row stage.by stage.parts) placed) =
    c.in_ok-own.ensures
    ∙ (ap (λ (k : Key). of_key by k (placed_to stage c.route-part.result placed)) c.key.ensures ∙ ap (λ (q : ℕ). of_key by (key_of by r.row) (placed_to stage q placed)) c.route-part.ensures.value) in
    let found : c.in_ok-others.others.items ≡ partners c.args.width c.args.most (is_left c.args.column c.args.compare c.args.limit) c.deref.result.now r = search rules in
    let all : c.in_ok-others.others.items ≡ partners c.args.width c.args.most (is_left c.args.column c.args.compare c.args.limit) (of_its_key by r (placed_to stage (route_of r.row stage.by stage.parts) placed)) r =
    found ∙ ap (λ (xs : List Placed). partners c.args.width c.args.most (is_left c.args.column c.args.compare c.args.limit) xs r) (c.deref.ensures.value ∙ own) in
    c.nth_of.ensures ∙ ap (λ (xs : List Placed). slice_get xs c.args.nth) (c.deref-2.ensures.value ∙ all)
