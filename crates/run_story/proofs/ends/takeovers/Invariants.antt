use Rattle.std.proofs.Common.{◌≡◌, take}
use Rattle.std.specs.Prelude.{count_by}
use Rattle.run_story.specs.StoryText.{is_takeover}
use Rattle.run_story.proofs.ends.takeovers.Given as goal

abbrev pub invariant-loop-happened : goal.invariant-loop-happened
invariant-loop-happened l = l.count ≡ count_by is_takeover (take l.happened-index l.told)
