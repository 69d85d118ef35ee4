use Rattle.std.proofs.Common.{◌≡◌, ◌++◌, take}
use Rattle.std.specs.Prelude.{string_bytes}
use Rattle.std.specs.List.{flat_map}
use Rattle.state_text.specs.Counted.{links_shown}
use Rattle.state_text.proofs.links.push_between.Given as goal

abbrev pub invariant-loop-from : goal.invariant-loop-from
invariant-loop-from l = string_bytes l.text ≡ string_bytes l.initial.text ++ flat_map (links_shown l.core l.nodes) (take l.from-index l.nodes)
