use Rattle.std.proofs.Common.{◌≡◌, ◌++◌}
use Rattle.std.specs.Prelude.{string_bytes}
use Rattle.state_text.specs.Shown.{consumer_numbers}
use Rattle.state_text.specs.StateText.{in_edge_line, lines_below}
use Rattle.state_text.proofs.edges.push_in_edges.Given as goal

abbrev pub invariant-loop-edge : goal.invariant-loop-edge
invariant-loop-edge l = string_bytes l.text ≡ string_bytes l.initial.text ++ lines_below l.edge (in_edge_line l.name (consumer_numbers l.consumer))
