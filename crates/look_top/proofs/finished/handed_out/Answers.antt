use Rattle.std.proofs.Common.{subst}
use Rattle.command_course.proofs.Courses.{err_passed}
use Rattle.flux_top.specs.Finish.{StopsFinish}
use Rattle.run_command.specs.Endings.{ending_of}
use Rattle.look_top.specs.Lines.{name}
use Rattle.look_top.proofs.finished.handed_out.Goals as goal

pub returns-in_err-finish-clause-stops : goal.returns-in_err-finish-clause-stops
returns-in_err-finish-clause-stops g c =
    err_passed _ _ c.from_residual.result c.from_residual.ensures.1
    (subst (λ how. StopsFinish name (g.F.Files.told c.args.files.now) (g.F.Files.told c.finish.new.files) (g.S.Sink.told c.args.out.now) (g.S.Sink.told c.finish.new.out) how
    (ending_of c.args.outcome.now) c.in_err-finish.field-0.0) c.requires c.in_err-finish.ensures.stops)
