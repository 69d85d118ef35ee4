use Rattle.std.proofs.Common.{map, string_bytes}
use Rattle.command_course.specs.Feeds.{feed_of}
use Rattle.command_course.specs.Steps.{IsWant}
use Rattle.command_course.proofs.Courses.{err_passed, reads_passed, wants_for}
use Rattle.flux_top.proofs.Endings.{stopped_cause}
use Rattle.live_top.proofs.Endings.{lived_cause, lived_quiet, lived_stops, lived_whole, quiet_before, stopped_before}
use Rattle.live_top.proofs.command.run.Goals as goal

pub returns-clause-done : goal.returns-clause-done
returns-clause-done g c =
    lived_whole (feed_of c.in_ok-given.given.feed) c.in_ok-given.given.script (g.S.Sink.told c.args.out.now)
    (g.S.Sink.told c.lived.new.out) (g.F.Files.told c.args.files.now) (g.F.Files.told c.read_inputs.new.files)
    (map string_bytes c.args.words.now) c.in_ok-given.ensures.comes c.lived.result c.lived.ensures.done

pub returns-clause-stops : goal.returns-clause-stops
returns-clause-stops g c =
    lived_stops (feed_of c.in_ok-given.given.feed) c.in_ok-given.given.script (g.S.Sink.told c.args.out.now)
    (g.S.Sink.told c.lived.new.out) (g.F.Files.told c.args.files.now) (g.F.Files.told c.read_inputs.new.files)
    (map string_bytes c.args.words.now) c.in_ok-given.ensures.comes c.lived.result c.lived.ensures.stops

pub returns-clause-cause : goal.returns-clause-cause
returns-clause-cause g c =
    lived_cause (feed_of c.in_ok-given.given.feed) c.in_ok-given.given.script (g.S.Sink.told c.args.out.now)
    (g.S.Sink.told c.lived.new.out) (g.F.Files.told c.args.files.now).read_faults (g.F.Files.told c.read_inputs.new.files).read_faults
    c.lived.result c.in_ok-given.ensures.reads.still c.lived.ensures.stops

pub returns-clause-quiet : goal.returns-clause-quiet
returns-clause-quiet g c =
    lived_quiet (feed_of c.in_ok-given.given.feed) c.in_ok-given.given.script (g.S.Sink.told c.args.out.now)
    (g.S.Sink.told c.lived.new.out) c.args.out.now c.lived.new.out c.lived.result c.lived.ensures.stops

pub returns-in_err-given-clause-stops : goal.returns-in_err-given-clause-stops
returns-in_err-given-clause-stops g c =
    err_passed _ _ c.from_residual.result c.from_residual.ensures.1 (stopped_before (g.F.Files.told c.args.files.now) (g.F.Files.told c.read_inputs.new.files) (map string_bytes c.args.words.now)
    (g.S.Sink.told c.args.out.now) c.in_err-given.field-0.0 c.in_err-given.ensures.stops)

pub returns-in_err-given-clause-quiet : goal.returns-in_err-given-clause-quiet
returns-in_err-given-clause-quiet g c =
    err_passed _ _ c.from_residual.result c.from_residual.ensures.1 (quiet_before c.args.out.now c.in_err-given.field-0.0)

pub returns-clause-wants : goal.returns-clause-wants
returns-clause-wants g c =
    wants_for (g.F.Files.told c.args.files.now).wants (g.F.Files.told c.read_inputs.new.files).wants ⊥ (IsWant c.lived.result) (λ none. absurd none) c.in_ok-given.ensures.reads.wants

pub returns-in_err-given-clause-cause : goal.returns-in_err-given-clause-cause
returns-in_err-given-clause-cause g c =
    err_passed _ _ c.from_residual.result c.from_residual.ensures.1 (stopped_cause (g.F.Files.told c.args.files.now).read_faults (g.F.Files.told c.read_inputs.new.files).read_faults c.in_err-given.field-0.0 c.in_err-given.ensures.reads.cause)

pub returns-in_err-given-clause-wants : goal.returns-in_err-given-clause-wants
returns-in_err-given-clause-wants g c =
    (reads_passed (g.F.Files.told c.args.files.now) (g.F.Files.told c.read_inputs.new.files) c.in_err-given.field-0.0 c.from_residual.result c.from_residual.ensures.1 c.in_err-given.ensures.reads).wants
