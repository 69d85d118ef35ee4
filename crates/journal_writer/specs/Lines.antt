-- The lines of events, and how those of takes begin.
use Rattle.std.specs.Prelude.{◌≡◌, ◌<◌, ℕ, List, ◌++◌, IfSome, codes, length, slice_get, string_bytes}
use Rattle.std.specs.List.{flat_map}
use Rattle.tuple_edge.specs.declared.event.Event.{Event}
use Rattle.tuple_edge.specs.declared.node.NodeId.{NodeId}
use Rattle.text_words.specs.Text.{line_text}
use Rattle.pair_machine.specs.Lists.{Each}
use Rattle.run_journal.specs.Text.{event_words, node_name}
use Rattle.journal_writer.specs.declared.lines.Start.{Start}

-- events, each in a line
abbrev pub lines_of : List Event → List ℕ
lines_of events = flat_map (λ e. line_text (event_words e)) events

-- the line of a take from this sender to this node, up to its index
abbrev pub take_start : NodeId → NodeId → List ℕ
take_start sender node = codes "take " ++ (node_name sender ++ (codes ">" ++ (node_name node ++ codes " ")))

-- each text is how the lines of takes from its sender to this node begin
abbrev pub AreStarts : NodeId → List Start → Type 0
AreStarts node starts = Each (λ (s : Start). string_bytes s.text ≡ take_start s.sender node) starts

-- the one at this place is of this sender
pub record IsFrom (starts : List Start) (place : ℕ) (sender : NodeId) : Type 0 where
  pub within : place < length starts
  pub from : IfSome (slice_get starts place) (λ s. s.sender ≡ sender)
