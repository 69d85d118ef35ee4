-- The limits that rows, items, their numbers, nodes and runs keep.
use Rattle.std.specs.Prelude.{ℕ, ◌^◌}

-- the bound of every field of every row: fields lie within plus and minus it
abbrev pub big : ℕ
big = 9000000000000000000

-- every number of an item, count and mark is below this
abbrev pub number_limit : ℕ
number_limit = 2 ^ 62

-- a node has fewer edges than this, so that a u32 numbers them
abbrev pub edge_limit : ℕ
edge_limit = 2 ^ 32

-- no event of a node sends more packets
abbrev pub most_packets : ℕ
most_packets = 24

-- a run has at most so many threads
abbrev pub max_threads : ℕ
max_threads = 16
