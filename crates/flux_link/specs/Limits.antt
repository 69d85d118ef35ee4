-- The limits of links.
use Rattle.std.specs.Prelude.{ℕ, ◌+◌, ◌^◌}

-- how many packets a ring holds
abbrev pub ring_packets : ℕ
ring_packets = 128

-- no inlet is asked once it gave so many arrivals
abbrev pub max_arrivals : ℕ
max_arrivals = 2 ^ 62

-- by so many the packets that an inlet takes may be ahead of the arrivals that it gives: no list of choices is longer
abbrev pub max_ahead : ℕ
max_ahead = 2 ^ 63

-- so an inlet that may be asked took fewer packets than this
abbrev pub max_taken : ℕ
max_taken = max_arrivals + max_ahead
