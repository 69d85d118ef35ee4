use Rattle.std.proofs.Common.{subst}
use Rattle.trio_command.specs.Follows.{IsFollowed, IsStopped}
use Rattle.trio_command.proofs.Telling.{refuses_along, writes_along}
use Rattle.trio_command.proofs.Ways.{if_ok-map, refused_cause, want_cause, want_stops}
use Rattle.trio_command.proofs.command.text_from.Goals as goal

pub returns-in-Ok-clause-comes : goal.returns-in-Ok-clause-comes
returns-in-Ok-clause-comes c =
    if_ok-map c.written.result _ _
    (λ text told. writes_along c.args.core.now c.follow.new.core c.args.trades.now.symbols c.args.name.now text.items c.args.events.now c.known.ensures.plan c.requires.opens
    (subst (IsFollowed c.args.core.now c.follow.new.core) c.lines.ensures c.in-Ok.ensures.followed) c.follow.ensures.plan c.follow.ensures.inputs told) c.written.ensures.text

pub returns-in-Ok-clause-stops : goal.returns-in-Ok-clause-stops
returns-in-Ok-clause-stops c = want_stops c.written.result _ c.written.ensures.want

pub returns-in-Ok-clause-cause : goal.returns-in-Ok-clause-cause
returns-in-Ok-clause-cause c = want_cause c.written.result c.written.ensures.want

pub returns-in-Err-clause-stops : goal.returns-in-Err-clause-stops
returns-in-Err-clause-stops c =
    refuses_along c.args.core.now c.args.trades.now.symbols c.args.name.now c.args.events.now c.in-Err.stopped c.refused_event.result c.known.ensures.plan c.requires.opens
    (subst (λ ls. IsStopped c.args.core.now ls c.in-Err.stopped) c.lines.ensures c.in-Err.ensures.stopped) c.refused_event.ensures

pub returns-in-Err-clause-cause : goal.returns-in-Err-clause-cause
returns-in-Err-clause-cause c = refused_cause _ c.refused_event.result _ c.refused_event.ensures
