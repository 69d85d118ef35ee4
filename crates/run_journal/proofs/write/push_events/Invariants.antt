use Rattle.std.proofs.Common.{◌≡◌, ◌++◌, take}
use Rattle.std.specs.Prelude.{string_bytes}
use Rattle.std.specs.List.{flat_map}
use Rattle.text_words.specs.Text.{line_text}
use Rattle.run_journal.specs.Text.{event_words}
use Rattle.run_journal.proofs.write.push_events.Given as goal

abbrev pub invariant-loop-event : goal.invariant-loop-event
invariant-loop-event l = string_bytes l.text ≡ string_bytes l.initial.text ++ flat_map (λ e. line_text (event_words e)) (take l.event-index l.events)
