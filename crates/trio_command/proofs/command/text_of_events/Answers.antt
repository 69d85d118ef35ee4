use Rattle.std.proofs.Common.{[]}
use Rattle.command_course.specs.Feeds.{fed}
use Rattle.trio_command.specs.Courses.{goes_along, trio_events}
use Rattle.trio_command.proofs.Ways.{err_on, if_err-map, if_ok-map, ok_on, reads_judged}
use Rattle.command_course.proofs.Courses.{err_passed}
use Rattle.trio_command.proofs.command.text_of_events.Goals as goal

pub returns-clause-comes : goal.returns-clause-comes
returns-clause-comes g c =
    let feed = fed c.args.plan.now c.args.trades.now [] in
    let told = g.F.Files.told c.input_at.new.files in
    ok_on (g.F.Files.told c.args.files.now) told told (trio_events c.args.events.now c.args.plan.now c.args.trades.now) (goes_along c.args.events.now feed c.in_ok-lines.lines) c.text_along.result c.in_ok-lines.ensures.reads.contents
    (c.in_ok-lines.ensures.gives (goes_along c.args.events.now feed)) (if_ok-map c.text_along.result _ _ (λ bytes h. h told) c.text_along.ensures.comes)

pub returns-clause-stops : goal.returns-clause-stops
returns-clause-stops g c =
    let feed = fed c.args.plan.now c.args.trades.now [] in
    let told = g.F.Files.told c.input_at.new.files in
    err_on (g.F.Files.told c.args.files.now) told told (trio_events c.args.events.now c.args.plan.now c.args.trades.now) (goes_along c.args.events.now feed c.in_ok-lines.lines) c.text_along.result c.in_ok-lines.ensures.reads.contents
    (c.in_ok-lines.ensures.gives (goes_along c.args.events.now feed)) (if_err-map c.text_along.result _ _ (λ why h. h told) c.text_along.ensures.stops)

pub returns-in_err-lines-clause-stops : goal.returns-in_err-lines-clause-stops
returns-in_err-lines-clause-stops g c =
    err_passed _ _ c.from_residual.result c.from_residual.ensures.1 (c.in_err-lines.ensures.stops (goes_along c.args.events.now (fed c.args.plan.now c.args.trades.now [])))

pub returns-clause-reads : goal.returns-clause-reads
returns-clause-reads g c =
    reads_judged (g.F.Files.told c.args.files.now) (g.F.Files.told c.input_at.new.files) c.in_ok-lines.lines c.text_along.result c.in_ok-lines.ensures.reads c.text_along.ensures.cause
