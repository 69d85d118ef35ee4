use Rattle.std.proofs.Common.{ap, refl, sym}
use Rattle.std.proofs.lemmas.Result.{IfOk-weaker}
use Rattle.command_course.specs.Feeds.{feed_of}
use Rattle.command_line.specs.Views.{options_in, text_in}
use Rattle.run_command.specs.Courses.{run_of}
use Rattle.run_command.specs.Endings.{journal_of}
use Rattle.run_command.proofs.RunEnds.{ended_so}
use Rattle.run_command.proofs.ending.unlogged_end.Goals as goal

pub returns : goal.returns
returns g c =
    let run = run_of (options_in c.args.options) c.args.is_summary (feed_of c.args.feed.now) c.args.script.now in
    let events = c.in_ok-ended.ended.events in
    let ended = ended_so run.feed.plan run.feed.inputs run.script c.in_ok-ended.ended c.rows.result.now c.drained.result c.rows.ensures c.drained.ensures c.in_ok-ended.ensures in
    IfOk-weaker c.outcome_of.result _ _ (λ outcome h. h run events refl refl ended (sym (ap (λ j. journal_of (text_in j) events) c.requires.unnamed))) c.outcome_of.ensures
