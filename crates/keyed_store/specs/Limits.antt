-- The limits of a join, and the slots of its rows.
use Rattle.std.specs.Prelude.{ℕ}

-- how many rows a join keeps of each side of a key, at most
abbrev pub max_join_rows : ℕ
max_join_rows = 4

-- the slot of the first right row of a key that a join keeps; the left ones have the slots before it
abbrev pub first_right_slot : ℕ
first_right_slot = 4
