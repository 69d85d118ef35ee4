-- How much a node does in a turn.
use Rattle.std.specs.Prelude.{ℕ}

-- one turn of a node has at most so many packets, so many makes of inputs and so many pieces of work
abbrev pub portion : ℕ
portion = 512

-- the same in a run under a script that has orders
abbrev pub portion_under_orders : ℕ
portion_under_orders = 64
