use Rattle.std.proofs.Common.{◌∙◌, ap, length, subst, sym}
use Rattle.cause_finder.specs.Trails.{IsBelow, chain, resting}
use Rattle.origin_finder.specs.Said.{IsCaused}
use Rattle.origin_finder.specs.declared.said.Speaker.{Speaker}
use Rattle.origin_finder.proofs.Caused.{ended_cause}
use Rattle.origin_finder.proofs.Passed.{then}
use Rattle.origin_finder.proofs.telling.mark_answer.Goals as goal

pub returns-in-Row-clause-roles : goal.returns-in-Row-clause-roles
returns-in-Row-clause-roles c =
    then c.mark_row.result (λ told cause h. told cause (subst (λ (s : Speaker). IsCaused c.args.stage.now c.args.rows.now s cause) c.in-Row.is h)) c.mark_row.ensures.roles

pub returns-in-End-clause-reached : goal.returns-in-End-clause-reached
returns-in-End-clause-reached c =
    let stage = c.args.stage.now in
    let rows = c.args.rows.now in
    let h = c.requires.known in
    (c.mark_resting.ensures.marks stage rows h (subst (IsBelow (length rows)) (sym c.last-start.ensures) (h.below c.in-End.part c.in-End.key)) c.requires.reached).stays

pub returns-in-End-clause-roles : goal.returns-in-End-clause-roles
returns-in-End-clause-roles c cause caused =
    let stage = c.args.stage.now in
    let rows = c.args.rows.now in
    let h = c.requires.known in
    let marks = c.mark_resting.ensures.marks stage rows h (subst (IsBelow (length rows)) (sym c.last-start.ensures) (h.below c.in-End.part c.in-End.key)) c.requires.reached in
    let is = subst (λ (s : Speaker). IsCaused stage rows s cause) c.in-End.is caused in
    ended_cause stage.op cause c.args.roles.now c.mark_resting.new.roles (resting stage.op (chain stage rows c.last-start.result)) is.0
    (is.1 ∙ ap (resting stage.op) (h.last c.in-End.part c.in-End.key ∙ ap (chain stage rows) (sym c.last-start.ensures))) marks.whole
