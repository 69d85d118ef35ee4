-- How many items a replica may merge at once, and how much a node may do in a turn, for the orders of a script.
use Rattle.std.specs.Prelude.{ℕ, ◌≡◌, ◌≤◌, List, [], ◌∷◌}
use Rattle.node_tasks.specs.Limits.{portion, portion_under_orders}
use Rattle.tuple_edge.specs.declared.node.NodeId.{NodeId}
use Rattle.pair_machine.specs.declared.order.Order.{Order}
use Rattle.failure_script.specs.Orders.{due_for}

-- no order becomes due at a node while it merges from one number of items to another
abbrev pub NoneComesDue : List Order → NodeId → ℕ → ℕ → Type 0
NoneComesDue script n from to = (k : ℕ) → from ≤ k → k ≤ to → due_for script n k ≡ due_for script n from

-- how many packets, makes and pieces of work a turn has at most, of each so many: fewer where the script has orders
abbrev pub portion_for : List Order → ℕ
portion_for [] = portion
portion_for (o ∷ os) = portion_under_orders
