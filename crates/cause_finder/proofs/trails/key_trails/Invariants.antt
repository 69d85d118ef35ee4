use Rattle.cause_finder.specs.Trails.{place_at}
use Rattle.cause_finder.proofs.TrailRows.{AreTrailed}
use Rattle.cause_finder.proofs.trails.key_trails.Given as goal

abbrev pub invariant-loop-place : goal.invariant-loop-place
invariant-loop-place l = AreTrailed l.stage l.rows l.place l.trails.items (place_at l.last.entries)
