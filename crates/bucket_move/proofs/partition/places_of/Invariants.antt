use Rattle.std.proofs.Common.{ℕ, ◌≡◌, ◌<◌, take}
use Rattle.std.specs.Prelude.{All}
use Rattle.bucket_move.specs.Limits.{buckets}
use Rattle.bucket_move.specs.Working.{places_of}
use Rattle.bucket_move.proofs.partition.places_of.Given as goal

abbrev pub invariant-loop-row : goal.invariant-loop-row
invariant-loop-row l = record {
  value : l.places.items ≡ places_of l.by l.table (take l.row-index l.rows);
  buckets : All (λ place. place.bucket < buckets) l.places.items;
  there : (parts : ℕ) → All (λ part. part < parts) l.table → All (λ place. place.part < parts) l.places.items;
}
