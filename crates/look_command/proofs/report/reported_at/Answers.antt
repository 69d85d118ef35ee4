use Rattle.command_course.specs.Feeds.{feed_of}
use Rattle.look_command.specs.Reports.{reports, tells_lines}
use Rattle.replay_command.proofs.Answering.{gives_here, reads_answered, stops_here}
use Rattle.command_course.proofs.Courses.{err_passed}
use Rattle.look_command.proofs.report.reported_at.Goals as goal

pub returns-clause-gives : goal.returns-clause-gives
returns-clause-gives g c =
    let tell = g.R.Report.tells c.args.report.now in
    let feed = feed_of c.args.feed.now in
    gives_here (g.F.Files.told c.args.files.now) (g.F.Files.told c.input_at.new.files) (reports tell c.args.events.now feed)
    (tells_lines tell c.args.events.now feed c.in_ok-lines.lines) (λ next. c.in_ok-lines.ensures.gives (λ lines. tells_lines tell c.args.events.now feed lines next)) c.reported.result c.reported.ensures.text

pub returns-clause-stops : goal.returns-clause-stops
returns-clause-stops g c =
    let tell = g.R.Report.tells c.args.report.now in
    let feed = feed_of c.args.feed.now in
    stops_here (g.F.Files.told c.args.files.now) (g.F.Files.told c.input_at.new.files) (reports tell c.args.events.now feed)
    (tells_lines tell c.args.events.now feed c.in_ok-lines.lines) (λ next. c.in_ok-lines.ensures.gives (λ lines. tells_lines tell c.args.events.now feed lines next)) c.reported.result c.reported.ensures.refused

pub returns-in_err-lines-clause-stops : goal.returns-in_err-lines-clause-stops
returns-in_err-lines-clause-stops g c =
    err_passed _ _ c.from_residual.result c.from_residual.ensures.1 (let tell = g.R.Report.tells c.args.report.now in
    λ next. c.in_err-lines.ensures.stops (λ lines. tells_lines tell c.args.events.now (feed_of c.args.feed.now) lines next))

pub returns-clause-reads : goal.returns-clause-reads
returns-clause-reads g c =
    reads_answered (g.F.Files.told c.args.files.now) (g.F.Files.told c.input_at.new.files) c.in_ok-lines.lines
    (tells_lines (g.R.Report.tells c.args.report.now) c.args.events.now (feed_of c.args.feed.now) c.in_ok-lines.lines) c.reported.result c.in_ok-lines.ensures.reads c.reported.ensures.refused
