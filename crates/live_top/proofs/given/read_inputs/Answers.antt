use Rattle.std.proofs.Common.{◌∙◌, Err, ap, map, option_map, refl, string_bytes, sym}
use Rattle.command_course.specs.declared.stop.Stop.TheVariants as stop
use Rattle.command_course.proofs.Courses.{reads_nothing}
use Rattle.live_top.specs.Lines.{name}
use Rattle.live_top.specs.Words.{course_over, files_in}
use Rattle.live_top.proofs.AsRun.{asks_for, asks_nothing, asks_something}
use Rattle.live_top.proofs.Inputs.{own_reads, own_stops}
use Rattle.live_top.specs.declared.given.Given.{Given}
use Rattle.live_top.proofs.given.read_inputs.Goals as goal

pub returns-in-Ok-clause-comes : goal.returns-in-Ok-clause-comes
returns-in-Ok-clause-comes g c =
    let words = map string_bytes c.args.words.now in
    let files = files_in c.in-Some.named in
    record { course = course_over files; is_asked = asks_for words files (sym c.read_words.ensures ∙ ap (option_map files_in) c.in-Some.is); fact = c.in-Ok.ensures.comes }

pub returns-in-None-clause-stops : goal.returns-in-None-clause-stops
returns-in-None-clause-stops g c =
    let words = map string_bytes c.args.words.now in
    asks_nothing words (sym c.read_words.ensures ∙ ap (option_map files_in) c.in-None.is)

pub returns-in-Ok-clause-usage : goal.returns-in-Ok-clause-usage
returns-in-Ok-clause-usage g c = λ none.
    let words = map string_bytes c.args.words.now in
    absurd (asks_something words (files_in c.in-Some.named) (sym c.read_words.ensures ∙ ap (option_map files_in) c.in-Some.is) none)

pub returns-in-Ok-clause-unasked : goal.returns-in-Ok-clause-unasked
returns-in-Ok-clause-unasked g c = λ none.
    let words = map string_bytes c.args.words.now in
    absurd (asks_something words (files_in c.in-Some.named) (sym c.read_words.ensures ∙ ap (option_map files_in) c.in-Some.is) none)

pub returns-in-Err-clause-usage : goal.returns-in-Err-clause-usage
returns-in-Err-clause-usage g c = λ none.
    let words = map string_bytes c.args.words.now in
    absurd (asks_something words (files_in c.in-Some.named) (sym c.read_words.ensures ∙ ap (option_map files_in) c.in-Some.is) none)

pub returns-in-Err-clause-unasked : goal.returns-in-Err-clause-unasked
returns-in-Err-clause-unasked g c = λ none.
    let words = map string_bytes c.args.words.now in
    absurd (asks_something words (files_in c.in-Some.named) (sym c.read_words.ensures ∙ ap (option_map files_in) c.in-Some.is) none)

pub returns-in-Err-clause-stops : goal.returns-in-Err-clause-stops
returns-in-Err-clause-stops g c =
    let words = map string_bytes c.args.words.now in
    let files = files_in c.in-Some.named in
    own_stops (g.F.Files.told c.args.files.now) (g.F.Files.told c.given_at.new.files) words (course_over files)
    (asks_for words files (sym c.read_words.ensures ∙ ap (option_map files_in) c.in-Some.is)) c.in-Err.stop c.own_stop.result c.in-Err.ensures.stops c.own_stop.ensures

pub returns-in-None-clause-reads : goal.returns-in-None-clause-reads
returns-in-None-clause-reads g c = reads_nothing (g.F.Files.told c.args.files.now) (Err stop.Usage) (λ faults. refl)

pub returns-in-Err-clause-reads : goal.returns-in-Err-clause-reads
returns-in-Err-clause-reads g c =
    own_reads name Given (g.F.Files.told c.args.files.now) (g.F.Files.told c.given_at.new.files) c.in-Err.stop c.own_stop.result c.own_stop.ensures c.in-Err.ensures.reads
