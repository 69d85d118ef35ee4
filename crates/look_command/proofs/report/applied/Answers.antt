use Rattle.std.proofs.Common.{◌≡◌, subst}
use Rattle.plan_reader.specs.PlanView.{IsPlan}
use Rattle.pair_machine.specs.Machine.{State}
use Rattle.command_course.specs.Feeds.{feed_of}
use Rattle.flux_core.specs.Follows.{IsFollowed, IsStopped, events_of}
use Rattle.flux_core.specs.Stands.{StandsFor}
use Rattle.look_command.proofs.Following.{tells_refused, tells_whole}
use Rattle.look_command.proofs.report.applied.Goals as goal

pub returns-in-Ok-clause-text : goal.returns-in-Ok-clause-text
returns-in-Ok-clause-text g c =
    let feed = feed_of c.args.feed.now in
    let tell = g.R.Report.tells c.args.report.now in
    tells_whole feed.plan feed.inputs feed.symbols c.args.name.now c.args.core.now c.report.new.core c.args.events.now
    (subst IsPlan c.report.ensures.plan c.report.ensures.core.plan) c.requires.opens c.requires.plan c.requires.inputs tell
    (subst (λ ls. IsFollowed c.args.core.now c.report.new.core (events_of ls)) c.lines-lines.ensures c.in-Ok.ensures.followed) c.in-Ok.text.items
    (subst (λ ls. (s : State) → StandsFor c.report.new.core s → c.in-Ok.text.items ≡ tell feed ls s) c.lines-lines.ensures c.in-Ok.ensures.text)

pub returns-in-Err-Stopped-clause-refused : goal.returns-in-Err-Stopped-clause-refused
returns-in-Err-Stopped-clause-refused g c =
    let feed = feed_of c.args.feed.now in
    let ends = rw c.in-Err-Stopped.field-0-is at c.in-Err-Stopped.ensures.stopped in
    tells_refused feed.plan feed.inputs feed.symbols c.args.name.now c.args.core.now c.report.new.core c.args.events.now
    (subst IsPlan c.report.ensures.plan c.report.ensures.core.plan) c.requires.opens c.requires.plan c.requires.inputs (g.R.Report.tells c.args.report.now) c.in-Err-Stopped.stopped c.refused_event.result
    (subst (λ ls. IsStopped c.args.core.now c.report.new.core ls c.in-Err-Stopped.stopped) c.lines-lines.ensures ends) c.refused_event.ensures
