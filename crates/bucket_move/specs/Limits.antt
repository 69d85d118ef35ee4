-- The limits of moves and of their texts.
use Rattle.std.specs.Prelude.{ℕ}

-- a row is in one of so many buckets
abbrev pub buckets : ℕ
buckets = 64

-- the most bytes of a text of moves
abbrev pub max_moves_bytes : ℕ
max_moves_bytes = 65536

-- the greatest stamp after which a bucket moves; the least is the plan's mark
abbrev pub max_stamp : ℕ
max_stamp = 1000000
