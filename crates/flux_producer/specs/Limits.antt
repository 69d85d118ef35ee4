-- The limits of producers.
use Rattle.std.specs.Prelude.{ℕ}

-- a consumer has at most so many replicas, and at least one
abbrev pub max_copies : ℕ
max_copies = 3

-- `make_room` makes room for so many items at least
abbrev pub least_room : ℕ
least_room = 64
