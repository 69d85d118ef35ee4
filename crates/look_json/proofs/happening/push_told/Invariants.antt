use Rattle.std.proofs.Common.{◌≡◌, ◌++◌, take}
use Rattle.std.specs.List.{flat_map}
use Rattle.look_json.specs.Happenings.{told_line}
use Rattle.look_json.proofs.happening.push_told.Given as goal

abbrev pub invariant-loop-happened : goal.invariant-loop-happened
invariant-loop-happened l = l.text.items ≡ l.initial.text.items ++ flat_map told_line (take l.happened-index l.told)
