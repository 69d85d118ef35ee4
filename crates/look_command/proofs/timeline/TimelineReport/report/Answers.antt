use Rattle.std.proofs.Common.{subst}
use Rattle.plan_reader.specs.PlanView.{IsPlan}
use Rattle.pair_machine.specs.Machine.{opening}
use Rattle.pair_machine.proofs.MachineLaws.{plan_opens_sound}
use Rattle.command_course.specs.Feeds.{feed_of}
use Rattle.flux_core.specs.CoreView.{inputs_of}
use Rattle.flux_core.proofs.NodeActs.{if_ok-map}
use Rattle.look_command.specs.Courses.{columns_for}
use Rattle.look_command.proofs.Watched.{drawn_run, on_ok, want_ended}
use Rattle.look_command.proofs.timeline.TimelineReport.report.Goals as goal

pub returns-in-Ok-clause-text : goal.returns-in-Ok-clause-text
returns-in-Ok-clause-text c =
    let feed = feed_of c.args.feed.now in
    let limits = subst IsPlan c.watch.ensures.plan c.watch.ensures.core.plan in
    let sound = plan_opens_sound c.args.core.now.plan (inputs_of c.args.core.now) limits in
    let told_is = c.in-Ok.ensures.told opening c.requires.opens sound in
    let frames_are = c.in-Ok.ensures.frames opening c.requires.opens sound in
    if_ok-map c.told.result _ _
    (λ text is s stands. drawn_run feed.plan feed.inputs c.args.core.now c.watch.new.core c.requires.plan c.requires.inputs c.args.events.now c.in-Ok.watched.told.items told_is
    c.watch.ensures.plan c.watch.ensures.inputs c.args.self.now.how c.args.self.now.only c.args.self.now.all c.columns.result (columns_for c.args.self.now.how) c.in-Ok.watched.frames.items text.items s
    c.columns.ensures.columns frames_are (is s stands)) c.told.ensures.text

pub returns-in-Ok-clause-followed : goal.returns-in-Ok-clause-followed
returns-in-Ok-clause-followed c = on_ok c.told.result _ c.in-Ok.ensures.followed

pub returns-in-Ok-clause-stopped : goal.returns-in-Ok-clause-stopped
returns-in-Ok-clause-stopped c = want_ended c.told.result c.args.core.now c.watch.new.core c.args.events.now c.told.ensures.want

pub returns-in-Err-clause-stopped : goal.returns-in-Err-clause-stopped
returns-in-Err-clause-stopped c = c.ended.ensures c.args.core.now c.watch.new.core c.args.events.now c.in-Err.ensures.stopped
