use Rattle.std.proofs.Common.{subst}
use Rattle.plan_reader.specs.PlanView.{IsPlan}
use Rattle.pair_machine.specs.Machine.{opening}
use Rattle.pair_machine.proofs.MachineLaws.{plan_opens_sound}
use Rattle.command_course.specs.Feeds.{feed_of}
use Rattle.flux_core.specs.CoreView.{inputs_of}
use Rattle.flux_core.proofs.NodeActs.{if_ok-map}
use Rattle.look_command.proofs.Watched.{on_ok, told_story, want_ended}
use Rattle.look_command.proofs.story.StoryReport.report.Goals as goal

pub returns-in-Ok-clause-text : goal.returns-in-Ok-clause-text
returns-in-Ok-clause-text c =
    let feed = feed_of c.args.feed.now in
    let limits = subst IsPlan c.watch.ensures.plan c.watch.ensures.core.plan in
    let told_is = c.in-Ok.ensures.told opening c.requires.opens (plan_opens_sound c.args.core.now.plan (inputs_of c.args.core.now) limits) in
    if_ok-map c.told.result _ _
    (λ text all s stands. told_story feed.plan feed.inputs c.args.core.now c.watch.new.core c.requires.plan c.requires.inputs c.args.events.now c.in-Ok.watched.told.items told_is
    c.watch.ensures.plan c.watch.ensures.inputs c.args.self.now.json c.args.self.now.script.now c.args.self.now.all text.items s (all s stands)) c.told.ensures.text

pub returns-in-Ok-clause-followed : goal.returns-in-Ok-clause-followed
returns-in-Ok-clause-followed c = on_ok c.told.result _ c.in-Ok.ensures.followed

pub returns-in-Ok-clause-stopped : goal.returns-in-Ok-clause-stopped
returns-in-Ok-clause-stopped c = want_ended c.told.result c.args.core.now c.watch.new.core c.args.events.now c.told.ensures.want

pub returns-in-Err-clause-stopped : goal.returns-in-Err-clause-stopped
returns-in-Err-clause-stopped c = c.ended.ensures c.args.core.now c.watch.new.core c.args.events.now c.in-Err.ensures.stopped
