use Rattle.std.proofs.Common.{◌≡◌, ◌++◌, take}
use Rattle.std.specs.Prelude.{string_bytes}
use Rattle.std.specs.List.{flat_map}
use Rattle.run_story.specs.StoryText.{told_line}
use Rattle.run_story.proofs.lines.push_told.Given as goal

abbrev pub invariant-loop-happened : goal.invariant-loop-happened
invariant-loop-happened l = string_bytes l.text ≡ string_bytes l.initial.text ++ flat_map told_line (take l.happened-index l.told)
