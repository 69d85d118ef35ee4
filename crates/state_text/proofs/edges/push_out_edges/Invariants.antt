use Rattle.std.proofs.Common.{◌≡◌, ◌++◌}
use Rattle.std.specs.Prelude.{string_bytes}
use Rattle.state_text.specs.Shown.{made_in, producer_numbers}
use Rattle.state_text.specs.StateText.{ends_of, lines_below, out_edge_line}
use Rattle.state_text.proofs.edges.push_out_edges.Given as goal

abbrev pub invariant-loop-to : goal.invariant-loop-to
invariant-loop-to l = string_bytes l.text ≡ string_bytes l.initial.text ++ lines_below l.to (out_edge_line l.name (ends_of l.producer.copies) (made_in l.producer) (producer_numbers l.producer))
