use Rattle.std.proofs.Common.{◌≡◌, ◌+◌, drop}
use Rattle.origin_text.specs.Files.{place_of}
use Rattle.origin_text.proofs.files.place_of.Given as goal

abbrev pub invariant-loop-place : goal.invariant-loop-place
invariant-loop-place l = l.place + place_of l.time l.left (drop l.place l.rows) ≡ place_of l.time l.before l.rows
