-- The limits of operators' settings and of times.
use Rattle.std.specs.Prelude.{ℕ, ℤ, pos}

-- how many rows a join keeps of each side of a key, at most
abbrev pub max_join_rows : ℕ
max_join_rows = 4

-- how many rows a `last` keeps for a key, at most
abbrev pub max_last_rows : ℕ
max_last_rows = 64

-- the greatest width of a window, in seconds
abbrev pub max_window_seconds : ℤ
max_window_seconds = pos 1000000

-- the latest time of a row, in seconds
abbrev pub max_time_seconds : ℤ
max_time_seconds = pos 9999999999
