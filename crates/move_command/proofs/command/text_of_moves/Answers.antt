use Rattle.std.proofs.Common.{List}
use Rattle.bucket_move.specs.declared.moves.Shift.{Shift}
use Rattle.command_course.specs.Course.{Writes}
use Rattle.command_course.proofs.Courses.{err_passed, err_short, ok_came}
use Rattle.move_command.specs.Outcome.{move_moves}
use Rattle.move_command.specs.Text.{move_text}
use Rattle.move_command.proofs.command.text_of_moves.Goals as goal

pub returns-clause-comes : goal.returns-clause-comes
returns-clause-comes g c =
    let plan = c.args.plan.now in
    let trades = c.args.trades.now in
    ok_came (g.F.Files.told c.args.files.now) (g.F.Files.told c.input_at.new.files) (move_moves c.args.moves.now plan trades) (move_text plan trades c.in_ok-moves.moves)
    c.written.result (c.in_ok-moves.ensures.gives (λ (shifts : List Shift). Writes (move_text plan trades shifts))) c.written.ensures.text

pub returns-clause-stops : goal.returns-clause-stops
returns-clause-stops g c =
    let plan = c.args.plan.now in
    let trades = c.args.trades.now in
    err_short (g.F.Files.told c.args.files.now) (g.F.Files.told c.input_at.new.files) (move_moves c.args.moves.now plan trades) (Writes (move_text plan trades c.in_ok-moves.moves))
    c.written.result (c.in_ok-moves.ensures.gives (λ (shifts : List Shift). Writes (move_text plan trades shifts))) c.written.ensures.want

pub returns-in_err-moves-clause-stops : goal.returns-in_err-moves-clause-stops
returns-in_err-moves-clause-stops g c =
    err_passed _ _ c.from_residual.result c.from_residual.ensures.1 (c.in_err-moves.ensures.stops (λ (shifts : List Shift). Writes (move_text c.args.plan.now c.args.trades.now shifts)))
