use Rattle.std.proofs.Common.{◌∙◌, List, ap, sym, true}
use Rattle.row_cause.specs.Causes.{spoke}
use Rattle.row_cause.specs.declared.placed.Placed.{Placed}
use Rattle.origin_finder.specs.Walking.{counting}
use Rattle.origin_finder.proofs.Caused.{both_marked, own_cause}
use Rattle.origin_finder.proofs.Walking.{reached_spoke}
use Rattle.origin_finder.proofs.telling.mark_before.Goals as goal

pub returns-then-is_join-clause-reached : goal.returns-then-is_join-clause-reached
returns-then-is_join-clause-reached c =
    reached_spoke c.args.stage.now c.args.rows.now c.args.reached.now c.args.roles.now c.mark_spoke.new.self (spoke c.in_ok-partner.partner) true c.mark_spoke.ensures.rests c.mark_spoke.ensures.counts c.requires.reached

pub returns-then-is_join-clause-roles : goal.returns-then-is_join-clause-roles
returns-then-is_join-clause-roles c cause at =
    both_marked (spoke c.in_ok-partner.partner) c.args.roles.now c.mark_spoke.new.self c.mark_spoke.ensures.rests c.mark_spoke.ensures.counts
    ∙ ap (λ (xs : List Placed). counting xs c.args.roles.now) (c.in_ok-partner.ensures (sym c.is_join.ensures ∙ c.if-is_join.true) cause at)

pub returns-clause-reached : goal.returns-clause-reached
returns-clause-reached c = (c.mark_own.ensures c.args.stage.now c.args.rows.now c.requires.known c.requires.there c.requires.reached).stays

pub returns-clause-roles : goal.returns-clause-roles
returns-clause-roles c cause at =
    (c.mark_own.ensures c.args.stage.now c.args.rows.now c.requires.known c.requires.there c.requires.reached).whole
    ∙ ap (λ (xs : List Placed). counting xs c.args.roles.now) (own_cause c.args.stage.now c.args.rows.now c.args.r.now c.args.nth cause c.requires.row (sym c.is_join.ensures ∙ c.if-is_join.false) at)
