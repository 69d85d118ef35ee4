-- The text of events that were appended one part after another.
use Rattle.std.proofs.Common.{◌≡◌, ◌∙◌, ◌++◌, ℕ, List, [], sym, ap}
use Rattle.std.proofs.lemmas.List.{append-nil, append_assoc}
use Rattle.std.proofs.lemmas.List.Concat.{flat_map-append}
use Rattle.tuple_edge.specs.declared.event.Event.{Event}
use Rattle.text_words.specs.Text.{line_text}
use Rattle.run_journal.specs.Text.{event_words, events_text}
use Rattle.journal_writer.specs.Lines.{lines_of}

lines_more : (one other : List Event) → lines_of one ++ lines_of other ≡ lines_of (one ++ other)
lines_more one other = sym (flat_map-append (λ e. line_text (event_words e)) one other)

text_more : (events : List Event) → events_text [] ++ lines_of events ≡ events_text events
unfolding events_text
text_more events = ap (λ l. l ++ lines_of events) (append-nil (events_text []))

-- events, and then others
pub whole_text : (result begun merged all : List ℕ) (one other : List Event) → result ≡ all → begun ≡ events_text [] → merged ≡ begun ++ lines_of one → all ≡ merged ++ lines_of other
    → result ≡ events_text (one ++ other)
whole_text result begun merged all one other is begin middle end =
    is ∙ end ∙ ap (λ l. l ++ lines_of other) (middle ∙ ap (λ l. l ++ lines_of one) begin)
    ∙ append_assoc (events_text []) (lines_of one) (lines_of other)
    ∙ ap (λ l. events_text [] ++ l) (lines_more one other)
    ∙ text_more (one ++ other)
