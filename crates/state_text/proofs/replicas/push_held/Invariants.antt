use Rattle.std.proofs.Common.{◌≡◌, ◌++◌}
use Rattle.std.specs.Prelude.{string_bytes}
use Rattle.std.specs.List.{flat_map}
use Rattle.state_text.specs.Shown.{held_numbers}
use Rattle.state_text.specs.StateText.{held_text}
use Rattle.state_text.proofs.Held.{after_comma}
use Rattle.state_text.proofs.replicas.push_held.Given as goal

abbrev pub invariant-loop-number : goal.invariant-loop-number
invariant-loop-number l = string_bytes l.text ++ flat_map after_comma l.number-iterator ≡ string_bytes l.fn.text ++ held_text (held_numbers l.newcomer l.edge)
