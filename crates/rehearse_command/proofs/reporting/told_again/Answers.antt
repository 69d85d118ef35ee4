use Rattle.std.proofs.Common.{◌≡◌, option_map, subst, sym}
use Rattle.plan_reader.specs.PlanView.{IsPlan}
use Rattle.command_course.specs.Feeds.{feed_of}
use Rattle.flux_core.specs.CoreView.{inputs_of}
use Rattle.flux_core.specs.Follows.{AreNamed, IsFollowed, events_of}
use Rattle.pair_machine.specs.Machine.{opening}
use Rattle.run_watch.specs.Columns.{frames_from}
use Rattle.run_watch.specs.Watching.{told_from}
use Rattle.rehearse_command.specs.Rehearsals.{columns}
use Rattle.rehearse_command.specs.Watches.{LeadOn}
use Rattle.rehearse_command.proofs.Telling.{lead_on, told_so, whole_rows}
use Rattle.rehearse_command.proofs.reporting.told_again.Goals as goal

pub watched-requires-clause-named : goal.watched-requires-clause-named
watched-requires-clause-named c =
    subst (AreNamed c.in_ok-core.core.plan) (sym c.deref.ensures.value) (subst (λ p. AreNamed p c.args.listed.now.lines.items) (sym c.in_ok-core.ensures.plan) c.requires.listed.named)

pub watched-requires-clause-legal : goal.watched-requires-clause-legal
watched-requires-clause-legal c =
    let feed = feed_of c.args.feed.now in
    subst (LeadOn c.in_ok-core.core) (sym c.deref.ensures.value)
    (lead_on feed.plan feed.inputs c.args.script.now c.args.listed.now c.requires.listed c.in_ok-core.core c.in_ok-core.ensures.plan c.in_ok-core.ensures.inputs)

pub rows_in_all-requires-clause-whole : goal.rows_in_all-requires-clause-whole
rows_in_all-requires-clause-whole c =
    let feed = feed_of c.args.feed.now in
    whole_rows feed.plan feed.inputs c.args.script.now (events_of c.args.listed.now.lines.items) c.args.listed.now.rows.items c.args.listed.now.drained c.requires.listed.ends

pub returns : goal.returns
returns c =
    let feed = feed_of c.args.feed.now in
    let core = c.in_ok-core.core in
    let seen = c.in_ok-watched.watched in
    told_so feed.plan feed.inputs c.args.script.now c.args.listed.now c.requires.listed core c.in_ok-core.ensures.plan c.in_ok-core.ensures.inputs
    feed.symbols (option_map (λ n. n.now) c.args.svg) c.watched.new.core seen.told.items seen.frames.items
    (subst IsPlan c.watched.ensures.plan c.watched.ensures.core.plan) c.in_ok-core.ensures.opens
    (subst (λ ls. IsFollowed core c.watched.new.core (events_of ls)) c.deref.ensures.value c.in_ok-watched.ensures.followed)
    (subst (λ ls. seen.told.items ≡ told_from core.plan (inputs_of core) opening ls) c.deref.ensures.value c.in_ok-watched.ensures.told)
    (subst (λ ls. seen.frames.items ≡ frames_from core.plan (inputs_of core) columns opening ls) c.deref.ensures.value c.in_ok-watched.ensures.frames)
    c.in_ok-all.all c.in_ok-all.ensures c.reported.result c.reported.ensures.text c.reported.ensures.saved c.reported.ensures.ending
