use Rattle.std.proofs.Common.{rules, ◌≡◌, ◌∙◌, ap, length}
use Rattle.std.specs.Prelude.{replicate}
use Rattle.row_origin.specs.Marks.{Roles, asked_from, no_roles, with_causes}
use Rattle.origin_finder.proofs.Caused.{nothing_reached}
use Rattle.origin_finder.proofs.telling.told_roles.Goals as goal

pub mark_asked-requires-clause-reached : goal.mark_asked-requires-clause-reached
mark_asked-requires-clause-reached c =
    let rows = c.args.rows.now in
    let is : c.in_ok-reached.reached.items ≡ replicate (length rows) (length rows) = search rules in
    nothing_reached c.args.stage.now rows c.deref_mut.result.now c.in_ok-roles.roles (c.deref_mut.ensures.value ∙ is)

pub returns : goal.returns
returns c causes h =
    let roles : Roles = c.in_ok-roles.roles in
    let none : roles ≡ no_roles (length c.args.rows.now) = search rules in
    c.in_ok-mark_asked.ensures causes h ∙ ap (with_causes c.args.stage.now.op (asked_from 0 c.args.asked.now causes)) none
