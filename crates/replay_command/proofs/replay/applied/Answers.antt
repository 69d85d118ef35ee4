use Rattle.std.proofs.Common.{subst}
use Rattle.plan_reader.specs.PlanView.{IsPlan}
use Rattle.trade_text.specs.TradesView.{inputs_in}
use Rattle.flux_core.specs.Follows.{IsFollowed, IsStopped, events_of}
use Rattle.flux_core.proofs.NodeActs.{if_err-map, if_ok-map}
use Rattle.replay_command.proofs.Following.{none_ok, replays_refused, replays_whole, want_stops}
use Rattle.replay_command.proofs.replay.applied.Goals as goal

pub returns-in-Ok-clause-text : goal.returns-in-Ok-clause-text
returns-in-Ok-clause-text c =
    if_ok-map c.written.result _ _
    (λ text h. replays_whole c.args.feed.now.plan (inputs_in c.args.feed.now.trades) c.args.feed.now.trades.symbols c.args.name.now c.args.core.now c.follow.new.self c.args.events.now
    (subst IsPlan c.follow.ensures.plan c.follow.ensures.core.plan) c.requires.opens c.requires.plan c.requires.inputs
    (subst (λ ls. IsFollowed c.args.core.now c.follow.new.self (events_of ls)) c.lines-lines.ensures c.in-Ok.ensures.followed) text.items h) c.written.ensures.text

pub returns-in-Ok-clause-refused : goal.returns-in-Ok-clause-refused
returns-in-Ok-clause-refused c = want_stops c.written.result _ c.written.ensures.want

pub returns-in-Err-clause-text : goal.returns-in-Err-clause-text
returns-in-Err-clause-text c = none_ok c.refusal.result _ c.refusal.ensures.none

pub returns-in-Err-clause-refused : goal.returns-in-Err-clause-refused
returns-in-Err-clause-refused c =
    if_err-map c.refusal.result _ _
    (λ why by. replays_refused c.args.feed.now.plan (inputs_in c.args.feed.now.trades) c.args.feed.now.trades.symbols c.args.name.now c.args.core.now c.follow.new.self c.args.events.now
    (subst IsPlan c.follow.ensures.plan c.follow.ensures.core.plan) c.requires.opens c.requires.plan c.requires.inputs c.in-Err.stopped why
    (subst (λ ls. IsStopped c.args.core.now c.follow.new.self ls c.in-Err.stopped) c.lines-lines.ensures c.in-Err.ensures.stopped) by) c.refusal.ensures.refused
