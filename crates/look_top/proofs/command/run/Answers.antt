use Rattle.std.proofs.Common.{◌∙◌, map, string_bytes}
use Rattle.command_course.specs.Answers.{answer_of}
use Rattle.command_course.proofs.Courses.{err_passed, reads_passed, wants_on}
use Rattle.command_course.specs.Steps.{IsWant}
use Rattle.flux_top.proofs.Endings.{stopped_cause, stopped_quiet}
use Rattle.flux_top.proofs.LastSteps.{finished_cause}
use Rattle.look_top.specs.Lines.{name}
use Rattle.look_top.specs.Stops.{drained_of, written_of}
use Rattle.look_top.proofs.Endings.{finished_ends, finished_keeps, finished_stops, finished_whole, stopped_before, stopped_keeps}
use Rattle.look_top.proofs.command.run.Goals as goal

pub returns-clause-written : goal.returns-clause-written
returns-clause-written g c =
    finished_whole (g.F.Files.told c.args.files.now) (g.F.Files.told c.answered.new.files) (g.F.Files.told c.finished.new.files) (map string_bytes c.args.words.now) (answer_of c.in_ok-answer.answer)
    c.in_ok-answer.ensures.gives c.in_ok-answer.ensures.reads.contents (g.S.Sink.told c.args.out.now) (g.S.Sink.told c.finished.new.out) c.finished.result c.finished.ensures.whole c.finished.ensures.finished

pub returns-clause-whole : goal.returns-clause-whole
returns-clause-whole g c = finished_ends c.in_ok-answer.answer.ending c.finished.result c.finished.ensures.whole

pub returns-clause-stops : goal.returns-clause-stops
returns-clause-stops g c =
    finished_stops (g.F.Files.told c.args.files.now) (g.F.Files.told c.answered.new.files) (g.F.Files.told c.finished.new.files) (map string_bytes c.args.words.now) (answer_of c.in_ok-answer.answer)
    c.in_ok-answer.ensures.gives c.in_ok-answer.ensures.reads.contents (g.S.Sink.told c.args.out.now) (g.S.Sink.told c.finished.new.out) c.finished.result c.in_ok-answer.ensures.reads.saves c.finished.ensures.stops

pub returns-clause-kept : goal.returns-clause-kept
returns-clause-kept g c =
    finished_keeps (g.F.Files.told c.args.files.now) (g.F.Files.told c.answered.new.files) (g.F.Files.told c.finished.new.files) (map string_bytes c.args.words.now) (answer_of c.in_ok-answer.answer)
    c.in_ok-answer.ensures.gives c.in_ok-answer.ensures.reads.contents (g.S.Sink.told c.args.out.now) (g.S.Sink.told c.finished.new.out) c.finished.result c.finished.ensures.stops

pub returns-clause-cause : goal.returns-clause-cause
returns-clause-cause g c =
    finished_cause name (g.F.Files.told c.answered.new.files) (g.F.Files.told c.finished.new.files) (g.S.Sink.told c.args.out.now) (g.S.Sink.told c.finished.new.out)
    (drained_of c.in_ok-answer.answer.ending) (written_of (answer_of c.in_ok-answer.answer)) (g.F.Files.told c.args.files.now).read_faults (g.F.Files.told c.finished.new.files).read_faults c.finished.result
    (c.finished.ensures.still ∙ c.in_ok-answer.ensures.reads.still) c.finished.ensures.stops

pub returns-clause-wants : goal.returns-clause-wants
returns-clause-wants g c =
    wants_on (g.F.Files.told c.args.files.now).wants (g.F.Files.told c.answered.new.files).wants (g.F.Files.told c.finished.new.files).wants (IsWant c.finished.result)
    c.in_ok-answer.ensures.reads.wants c.finished.ensures.wants

pub returns-in_err-answer-clause-stops : goal.returns-in_err-answer-clause-stops
returns-in_err-answer-clause-stops g c =
    err_passed _ _ c.from_residual.result c.from_residual.ensures.1 (stopped_before (g.F.Files.told c.args.files.now) (g.F.Files.told c.answered.new.files) (map string_bytes c.args.words.now)
    (g.S.Sink.told c.args.out.now) c.in_err-answer.field-0.0 c.in_err-answer.ensures.stops)

pub returns-in_err-answer-clause-kept : goal.returns-in_err-answer-clause-kept
returns-in_err-answer-clause-kept g c =
    err_passed _ _ c.from_residual.result c.from_residual.ensures.1
    (stopped_keeps (g.F.Files.told c.args.files.now) (g.F.Files.told c.answered.new.files) (map string_bytes c.args.words.now) c.in_err-answer.field-0.0 c.in_err-answer.ensures.reads.contents)

pub returns-in_err-answer-clause-quiet : goal.returns-in_err-answer-clause-quiet
returns-in_err-answer-clause-quiet g c =
    err_passed _ _ c.from_residual.result c.from_residual.ensures.1 (stopped_quiet c.args.out.now c.in_err-answer.field-0.0)

pub returns-in_err-answer-clause-cause : goal.returns-in_err-answer-clause-cause
returns-in_err-answer-clause-cause g c =
    err_passed _ _ c.from_residual.result c.from_residual.ensures.1 (stopped_cause (g.F.Files.told c.args.files.now).read_faults (g.F.Files.told c.answered.new.files).read_faults c.in_err-answer.field-0.0 c.in_err-answer.ensures.reads.cause)

pub returns-in_err-answer-clause-wants : goal.returns-in_err-answer-clause-wants
returns-in_err-answer-clause-wants g c =
    (reads_passed (g.F.Files.told c.args.files.now) (g.F.Files.told c.answered.new.files) c.in_err-answer.field-0.0 c.from_residual.result c.from_residual.ensures.1 c.in_err-answer.ensures.reads).wants
