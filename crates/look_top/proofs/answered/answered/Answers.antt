use Rattle.std.proofs.Common.{◌∙◌, Err, ap, map, option_map, refl, string_bytes, sym}
use Rattle.command_course.specs.declared.stop.Stop.TheVariants as stop
use Rattle.command_course.proofs.Courses.{reads_nothing}
use Rattle.command_course.specs.declared.answer.Answer.{Answer}
use Rattle.look_words.specs.Forms.{request_of}
use Rattle.look_top.specs.Asked.{task_of}
use Rattle.look_top.specs.Lines.{name}
use Rattle.look_top.proofs.Answering.{asked_none, asked_of, asks_something, own_reads, own_stops}
use Rattle.look_top.proofs.answered.answered.Goals as goal

pub returns-in-Ok-clause-gives : goal.returns-in-Ok-clause-gives
returns-in-Ok-clause-gives g c =
    record {
      course = task_of (request_of c.in-Some.command);
      is_asked = asked_of (map string_bytes c.args.words.now) (request_of c.in-Some.command) (sym c.read_words.ensures.form ∙ ap (option_map request_of) c.in-Some.is);
      fact = c.in-Ok.ensures.gives;
    }

pub returns-in-None-clause-stops : goal.returns-in-None-clause-stops
returns-in-None-clause-stops g c = asked_none (map string_bytes c.args.words.now) (sym c.read_words.ensures.form ∙ ap (option_map request_of) c.in-None.is)

pub returns-in-Ok-clause-usage : goal.returns-in-Ok-clause-usage
returns-in-Ok-clause-usage g c = λ none. absurd
    (asks_something (map string_bytes c.args.words.now) (task_of (request_of c.in-Some.command)) (asked_of (map string_bytes c.args.words.now) (request_of c.in-Some.command) (sym c.read_words.ensures.form ∙ ap (option_map request_of) c.in-Some.is)) none)

pub returns-in-Ok-clause-unasked : goal.returns-in-Ok-clause-unasked
returns-in-Ok-clause-unasked g c = λ none. absurd
    (asks_something (map string_bytes c.args.words.now) (task_of (request_of c.in-Some.command)) (asked_of (map string_bytes c.args.words.now) (request_of c.in-Some.command) (sym c.read_words.ensures.form ∙ ap (option_map request_of) c.in-Some.is)) none)

pub returns-in-Err-clause-usage : goal.returns-in-Err-clause-usage
returns-in-Err-clause-usage g c = λ none. absurd
    (asks_something (map string_bytes c.args.words.now) (task_of (request_of c.in-Some.command)) (asked_of (map string_bytes c.args.words.now) (request_of c.in-Some.command) (sym c.read_words.ensures.form ∙ ap (option_map request_of) c.in-Some.is)) none)

pub returns-in-Err-clause-unasked : goal.returns-in-Err-clause-unasked
returns-in-Err-clause-unasked g c = λ none. absurd
    (asks_something (map string_bytes c.args.words.now) (task_of (request_of c.in-Some.command)) (asked_of (map string_bytes c.args.words.now) (request_of c.in-Some.command) (sym c.read_words.ensures.form ∙ ap (option_map request_of) c.in-Some.is)) none)

pub returns-in-Err-clause-stops : goal.returns-in-Err-clause-stops
returns-in-Err-clause-stops g c =
    own_stops (g.F.Files.told c.args.files.now) (g.F.Files.told c.answer_of.new.files) (map string_bytes c.args.words.now) (task_of (request_of c.in-Some.command))
    (asked_of (map string_bytes c.args.words.now) (request_of c.in-Some.command) (sym c.read_words.ensures.form ∙ ap (option_map request_of) c.in-Some.is)) c.in-Err.stop c.own_stop.result c.in-Err.ensures.stops c.own_stop.ensures

pub returns-in-None-clause-reads : goal.returns-in-None-clause-reads
returns-in-None-clause-reads g c = reads_nothing (g.F.Files.told c.args.files.now) (Err stop.Usage) (λ faults. refl)

pub returns-in-Err-clause-reads : goal.returns-in-Err-clause-reads
returns-in-Err-clause-reads g c =
    own_reads name Answer (g.F.Files.told c.args.files.now) (g.F.Files.told c.answer_of.new.files) c.in-Err.stop c.own_stop.result c.own_stop.ensures c.in-Err.ensures.reads
