use Rattle.command_line.specs.Views.{request_of}
use Rattle.flux_top.specs.Lines.{name}
use Rattle.flux_top.specs.Outcome.{course_of}
use Rattle.run_command.specs.declared.outcome.Outcome.{Outcome}
use Rattle.flux_top.proofs.Owning.{own_reads, own_stops}
use Rattle.flux_top.proofs.command.answered.Goals as goal

pub returns-in-Err-clause-stops : goal.returns-in-Err-clause-stops
returns-in-Err-clause-stops g c =
    own_stops name (g.F.Files.told c.args.files.now) (g.F.Files.told c.outcome_of.new.files) (course_of (request_of c.args.command)) c.in-Err.stop c.own_stop.result c.in-Err.ensures.stops c.own_stop.ensures

pub returns-in-Err-clause-reads : goal.returns-in-Err-clause-reads
returns-in-Err-clause-reads g c =
    own_reads name Outcome (g.F.Files.told c.args.files.now) (g.F.Files.told c.outcome_of.new.files) c.in-Err.stop c.own_stop.result c.own_stop.ensures c.in-Err.ensures.reads
