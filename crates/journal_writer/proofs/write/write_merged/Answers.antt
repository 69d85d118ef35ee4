use Rattle.std.proofs.Common.{◌≡◌, ◌∙◌, ◌++◌, string_bytes, sym, ap, arith}
use Rattle.std.proofs.lemmas.List.{append-nil}
use Rattle.pair_machine.specs.Joint.{logged_events}
use Rattle.journal_writer.specs.Lines.{lines_of}
use Rattle.journal_writer.proofs.Clocks.{less_left, none_before, none_left}
use Rattle.journal_writer.proofs.write.write_merged.Goals as goal

pub write_clock-requires-clause-least : goal.write_clock-requires-clause-least
write_clock-requires-clause-least c = none_before c.in-Some.clock c.loop-clock.sources (sym c.least_clock.ensures ∙ c.in-Some.is)

pub loop-clock-smaller : goal.loop-clock-smaller
loop-clock-smaller c = less_left c.in-Some.clock _ c.write_clock.new.sources (sym c.least_clock.ensures ∙ c.in-Some.is) (omega arith) c.in_ok-write_clock.ensures.later

pub returns : goal.returns
returns c =
    sym (append-nil (string_bytes c.loop-clock.text))
    ∙ ap (λ js. string_bytes c.loop-clock.text ++ lines_of (logged_events js)) (sym (none_left c.loop-clock.sources (sym c.least_clock.ensures ∙ c.in_default.is)))
    ∙ c.loop-clock.invariant.text
