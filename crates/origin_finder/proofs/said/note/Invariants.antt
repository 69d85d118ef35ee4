use Rattle.std.proofs.Common.{◌≡◌, ◌-◌, ◌++◌, drop}
use Rattle.origin_finder.specs.Said.{speakers_of}
use Rattle.origin_finder.proofs.said.note.Given as goal

abbrev pub invariant-loop-place : goal.invariant-loop-place
invariant-loop-place l = l.said.items ++ speakers_of l.part l.spoke (l.place - l.had) (drop l.place l.out) ≡ l.initial.said.items ++ speakers_of l.part l.spoke 0 (drop l.had l.out)
