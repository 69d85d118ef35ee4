-- Orders of a script to whose counts replicas don't come with the inputs that are given, or perhaps only in their last turn.
use Rattle.std.specs.Prelude.{ℕ, ◌+◌, ◌-◌, ◌==◌, ◌&&◌, nat_le, nat_lt, List, [], ◌∷◌, ◌++◌, Option, None, Some, flat_map, length, if◌then◌else◌}
use Rattle.tuple_edge.specs.Input.{Input}
use Rattle.tuple_edge.specs.Node.{partner_node}
use Rattle.tuple_edge.specs.declared.node.NodeId.{NodeId}
use Rattle.tuple_edge.specs.declared.node.NodeId.TheVariants as node
use Rattle.tuple_edge.specs.declared.row.Row.{Row}
use Rattle.plan_reader.specs.PlanView.{PlanView}
use Rattle.trade_text.specs.Inputs.{inputs_of_both}
use Rattle.trade_text.specs.Limits.{max_inputs}
use Rattle.trade_text.specs.TradesView.{TradesView, inputs_in}
use Rattle.pair_machine.specs.Edges.{merged_at}
use Rattle.pair_machine.specs.declared.order.Order.{Order}
use Rattle.node_tasks.specs.Limits.{portion_under_orders}
use Rattle.trade_check.specs.Given.{GivenView}
use Rattle.trade_check.specs.declared.warning.CountWarning.{CountWarning}

-- ---- how many items a replica merges

-- the inputs of a plan that takes movements too: they are known where these are given, and a plan takes so many
abbrev pub both_inputs : List Row → Option (List Row) → Option (List Input)
both_inputs trades None = None
both_inputs trades (Some movements) = if nat_le (length trades + length movements) max_inputs then Some (inputs_of_both trades movements) else None

-- the inputs of a plan, where all of them are known: one of version 1 takes the trades alone
abbrev pub known_inputs : PlanView → TradesView → Option (List Row) → Option (List Input)
known_inputs plan trades cash = if plan.version == 1 then Some (inputs_in trades) else both_inputs trades.rows cash

-- how many items each replica of a partition merges, up to the end: as many as its merged list has
abbrev pub items_at : PlanView → List Input → (stage part : ℕ) → ℕ
items_at plan inputs stage part = if nat_lt 0 stage && nat_le stage (length plan.stages) then length (merged_at plan inputs stage part) else 0

-- the same of a node; one that is no replica of the plan merges none by an order
abbrev pub items_of : PlanView → List Input → NodeId → ℕ
items_of plan inputs (node.Replica stage part which) = items_at plan inputs stage part
items_of plan inputs other = 0

-- ---- what is warned of

-- A node looks at its orders when a turn of it begins. So a replica that has turns left looks at a count in time if as many items follow
-- it as a turn may have; else it comes to the count perhaps only in its last turn, or never.
abbrev pub count_warnings : Order → NodeId → (count items : ℕ) → List CountWarning
count_warnings o replica count items =
    if nat_lt (items - count) portion_under_orders then record { order = o; replica = replica; count = count; items = items } ∷ [] else []

-- the count at which the partner of an order's replica asks it back; both merge as many items
abbrev pub back_warnings : Order → Option ℕ → ℕ → List CountWarning
back_warnings o None items = []
back_warnings o (Some back) items = count_warnings o (partner_node o.node) back items

-- the counts of an order; nothing is asked back that never fails or stops
abbrev pub order_warnings : Order → ℕ → List CountWarning
order_warnings o items = count_warnings o o.node o.at items ++ (if nat_lt items o.at then [] else back_warnings o o.back items)

-- the counts of all orders, where the inputs are known
abbrev pub orders_warnings : PlanView → Option (List Input) → List Order → List CountWarning
orders_warnings plan None orders = []
orders_warnings plan (Some inputs) orders = flat_map (λ o. order_warnings o (items_of plan inputs o.node)) orders

-- the same, where trades and a script are given
abbrev pub script_warnings : PlanView → Option GivenView → Option (List Row) → Option (List Order) → List CountWarning
script_warnings plan None cash script = []
script_warnings plan (Some g) cash None = []
script_warnings plan (Some g) cash (Some orders) = orders_warnings plan (known_inputs plan g.trades cash) orders
