use Rattle.std.proofs.Common.{◌≡◌, ◌++◌}
use Rattle.std.specs.Prelude.{string_bytes}
use Rattle.state_text.specs.Shown.{held_numbers}
use Rattle.state_text.specs.StateText.{held_line, lines_below}
use Rattle.state_text.proofs.replicas.push_newcomer.Given as goal

abbrev pub invariant-loop-edge : goal.invariant-loop-edge
invariant-loop-edge l = string_bytes l.text ≡ string_bytes l.initial.text ++ lines_below l.edge (held_line l.name (held_numbers l.newcomer))
