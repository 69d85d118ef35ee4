use Rattle.std.proofs.Common.{false}
use Rattle.command_course.specs.Feeds.{feed_of}
use Rattle.command_line.specs.Views.{text_in}
use Rattle.run_command.specs.Courses.{runs}
use Rattle.live_top.specs.Words.{course_over, files_in, options_with}
use Rattle.live_top.proofs.Inputs.{err_given_on, ok_given_on}
use Rattle.command_course.proofs.Courses.{err_passed}
use Rattle.live_top.proofs.given.given_at.Goals as goal

pub returns-clause-comes : goal.returns-clause-comes
returns-clause-comes g c =
    ok_given_on (g.F.Files.told c.args.files.now) (g.F.Files.told c.feed_at.new.files) (g.F.Files.told c.scripted.new.files)
    (course_over (files_in c.args.named)) (runs (options_with (text_in c.args.named.script)) false (feed_of c.in_ok-feed.feed)) c.scripted.result
    c.in_ok-feed.ensures.reads.contents (c.in_ok-feed.ensures.gives (runs (options_with (text_in c.args.named.script)) false)) c.scripted.ensures.comes

pub returns-clause-stops : goal.returns-clause-stops
returns-clause-stops g c =
    err_given_on (g.F.Files.told c.args.files.now) (g.F.Files.told c.feed_at.new.files) (g.F.Files.told c.scripted.new.files)
    (course_over (files_in c.args.named)) (runs (options_with (text_in c.args.named.script)) false (feed_of c.in_ok-feed.feed)) c.scripted.result
    c.in_ok-feed.ensures.reads.contents (c.in_ok-feed.ensures.gives (runs (options_with (text_in c.args.named.script)) false)) c.scripted.ensures.stops

pub returns-in_err-feed-clause-stops : goal.returns-in_err-feed-clause-stops
returns-in_err-feed-clause-stops g c =
    err_passed _ _ c.from_residual.result c.from_residual.ensures.1 (c.in_err-feed.ensures.stops (runs (options_with (text_in c.args.named.script)) false))
