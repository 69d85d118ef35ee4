-- The limits of a text of events. What is counted in them is at least 1.
use Rattle.std.specs.Prelude.{ℕ}

-- the most bytes of a text of events
abbrev pub max_events_bytes : ℕ
max_events_bytes = 536870912

-- the most events of a text, each counted as often as it is repeated
abbrev pub max_events : ℕ
max_events = 20000000

-- how often a line may repeat its event
abbrev pub max_repeats : ℕ
max_repeats = 1000000

-- the greatest place of a packet on its link that a line may name
abbrev pub max_index : ℕ
max_index = 4611686018427387903
