use Rattle.std.proofs.Common.{◌≡◌, ◌++◌, take}
use Rattle.std.specs.List.{flat_map}
use Rattle.look_json.specs.CheckJson.{check_line}
use Rattle.look_json.proofs.check.push_lines.Given as goal

abbrev pub invariant-loop-line : goal.invariant-loop-line
invariant-loop-line l = l.text.items ≡ l.initial.text.items ++ flat_map (λ line. check_line l.faulty line.now) (take l.line-index l.lines)
