use Rattle.std.proofs.Common.{rules, ◌≡◌, IfOk, slice_get}
use Rattle.tuple_edge.specs.Row.{route_of}
use Rattle.stream_ops.specs.Joins.{is_left}
use Rattle.row_cause.specs.Causes.{of_its_key, partners}
use Rattle.row_origin.specs.Stages.{placed_from, placed_to}
use Rattle.cause_finder.proofs.CausesFound.{join_found, ok_then}
use Rattle.cause_finder.proofs.causes.partner_of.Goals as goal

pub returns-in-Join : goal.returns-in-Join
returns-in-Join c =
    let stage = c.args.stage.now in
    let r = c.args.r.now in
    let B = placed_to stage (route_of r.row stage.by stage.parts) (placed_from 0 c.args.rows.now) in
    let gives : IfOk c.nth_partner.result (λ one. one ≡ slice_get (partners c.in-Join.width c.in-Join.most (is_left c.in-Join.column c.in-Join.compare c.in-Join.limit) (of_its_key c.in-Join.by r B) r) c.args.nth) = search rules in
    ok_then c.nth_partner.result
    (λ one e joins. join_found stage.op c.in-Join.by c.in-Join.width c.in-Join.most c.in-Join.column c.in-Join.compare c.in-Join.limit B r c.args.nth one c.in-Join.is e) gives
