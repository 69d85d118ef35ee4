use Rattle.std.proofs.Common.{◌≡◌, ◌++◌, take}
use Rattle.std.specs.Prelude.{string_bytes}
use Rattle.std.specs.List.{flat_map}
use Rattle.run_rehearsal.specs.RehearsalText.{follow_text}
use Rattle.run_rehearsal.proofs.follows.push_follows.Given as goal

abbrev pub invariant-loop-happened : goal.invariant-loop-happened
invariant-loop-happened l = string_bytes l.text ≡ string_bytes l.initial.text ++ flat_map (follow_text l.told) (take l.happened-index l.told)
