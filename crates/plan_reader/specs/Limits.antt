-- The limits of a plan's text, of names, of its stages and of its settings. What is counted in them is at least 1, but for `hold`.
use Rattle.std.specs.Prelude.{ℕ}

-- the most bytes of a plan's text
abbrev pub max_plan_bytes : ℕ
max_plan_bytes = 65536

-- the most digits of a stage and of a partition in a node's name
abbrev pub max_name_digits : ℕ
max_name_digits = 9

-- the last version: version 1 has one source of ingress, version 2 has two
abbrev pub max_version : ℕ
max_version = 2

-- the most stages of a plan
abbrev pub max_stages : ℕ
max_stages = 6

-- the most partitions of a stage
abbrev pub max_parts : ℕ
max_parts = 8

-- the most rows to a mark
abbrev pub max_mark : ℕ
max_mark = 4096

-- how many rows there are to a mark where a plan doesn't say it
abbrev pub default_mark : ℕ
default_mark = 64

-- the least bound on the items that an edge of ingress holds
abbrev pub min_hold : ℕ
min_hold = 16

-- the greatest bound on the items that an edge of ingress holds
abbrev pub max_hold : ℕ
max_hold = 65536

-- how many items an edge of ingress may hold where a plan doesn't say it
abbrev pub default_hold : ℕ
default_hold = 1024

-- the most edges of a plan for each row to a mark
abbrev pub edges_per_mark : ℕ
edges_per_mark = 8
