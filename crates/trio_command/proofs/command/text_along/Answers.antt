use Rattle.std.proofs.Common.{[], subst, sym}
use Rattle.std.specs.Prelude.{IfErr, IfOk}
use Rattle.command_course.specs.Feeds.{fed}
use Rattle.trio_command.specs.Courses.{goes_along}
use Rattle.trio_command.specs.Ends.{StopsHere, WritesHere}
use Rattle.trio_command.proofs.Ways.{feed_is, want_here}
use Rattle.command_course.proofs.Courses.{err_passed}
use Rattle.trio_command.proofs.command.text_along.Goals as goal

pub returns-in_err-core-clause-stops : goal.returns-in_err-core-clause-stops
returns-in_err-core-clause-stops c =
    err_passed _ _ c.from_residual.result c.from_residual.ensures.1 (let course = goes_along c.args.name.now (fed c.args.plan.now c.args.trades.now []) c.args.events.now in
    subst (StopsHere course) (sym c.in_err-core.ensures.want) (want_here course))

pub returns-clause-comes : goal.returns-clause-comes
returns-clause-comes c =
    subst (λ feed. IfOk c.text_from.result (λ bytes. WritesHere (goes_along c.args.name.now feed c.args.events.now) bytes.items))
    (feed_is c.args.plan.now c.args.trades.now c.in_ok-core.core c.rows-rows.ensures.limits c.requires.version c.requires.unmerged c.in_ok-core.ensures.plan c.in_ok-core.ensures.inputs) c.text_from.ensures.comes

pub returns-clause-stops : goal.returns-clause-stops
returns-clause-stops c =
    subst (λ feed. IfErr c.text_from.result (StopsHere (goes_along c.args.name.now feed c.args.events.now)))
    (feed_is c.args.plan.now c.args.trades.now c.in_ok-core.core c.rows-rows.ensures.limits c.requires.version c.requires.unmerged c.in_ok-core.ensures.plan c.in_ok-core.ensures.inputs) c.text_from.ensures.stops
