use Rattle.std.proofs.Common.{length, subst, ◌-◌}
use Rattle.command_course.specs.Course.{reads}
use Rattle.command_course.specs.Feeds.{fed, feed_of}
use Rattle.command_course.specs.Inputs.{cash_from}
use Rattle.command_course.specs.Steps.{Gives, StopsAt}
use Rattle.command_course.proofs.Feeding.{err_short_by, ok_gives_value}
use Rattle.trade_text.specs.Limits.{max_input_bytes, max_inputs}
use Rattle.command_course.proofs.Courses.{err_passed}
use Rattle.command_course.proofs.feed.movements_of.Goals as goal

pub returns-clause-gives : goal.returns-clause-gives
returns-clause-gives g c =
    let gives = subst (λ room. Gives (g.F.Files.told c.args.files.now) (g.F.Files.told c.input_at.new.files) max_input_bytes (cash_from room) c.args.name.now c.in_ok-movements.movements)
    c.room_beside-room.ensures.room c.in_ok-movements.ensures.gives in
    ok_gives_value feed_of (g.F.Files.told c.args.files.now) (g.F.Files.told c.input_at.new.files)
    (reads max_input_bytes (cash_from (max_inputs - length c.args.trades.rows)) c.args.name.now) (fed c.args.plan c.args.trades) c.in_ok-movements.movements c.merged.result gives c.merged.ensures.feed

pub returns-clause-stops : goal.returns-clause-stops
returns-clause-stops g c =
    let gives = subst (λ room. Gives (g.F.Files.told c.args.files.now) (g.F.Files.told c.input_at.new.files) max_input_bytes (cash_from room) c.args.name.now c.in_ok-movements.movements)
    c.room_beside-room.ensures.room c.in_ok-movements.ensures.gives in
    err_short_by (g.F.Files.told c.args.files.now) (g.F.Files.told c.input_at.new.files)
    (reads max_input_bytes (cash_from (max_inputs - length c.args.trades.rows)) c.args.name.now) (λ movements next. next (fed c.args.plan c.args.trades movements)) c.in_ok-movements.movements c.merged.result gives c.merged.ensures.want

pub returns-in_err-movements-clause-stops : goal.returns-in_err-movements-clause-stops
returns-in_err-movements-clause-stops g c =
    err_passed _ _ c.from_residual.result c.from_residual.ensures.1 (λ next.
    subst (λ room. StopsAt (g.F.Files.told c.args.files.now) (g.F.Files.told c.input_at.new.files) max_input_bytes (cash_from room) c.args.name.now c.in_err-movements.field-0.0)
    c.room_beside-room.ensures.room c.in_err-movements.ensures.stops (λ movements. next (fed c.args.plan c.args.trades movements)))
