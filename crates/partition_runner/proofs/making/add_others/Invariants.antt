use Rattle.std.proofs.Common.{◌≡◌, take}
use Rattle.partition_runner.specs.Drafts.{unlinked}
use Rattle.partition_runner.proofs.making.add_others.Given as goal

abbrev pub invariant-loop-place : goal.invariant-loop-place
invariant-loop-place g l = l.drafts.items ≡ unlinked (take l.place l.ids)
