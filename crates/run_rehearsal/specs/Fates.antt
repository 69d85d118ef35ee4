-- What became of a script's orders, by what is told of a run: where each was obeyed, and where what follows on a failure came.
use Rattle.std.specs.Prelude.{ℕ, Bool, true, false, not, List, Option, None, Some, ◌&&◌, ◌==◌}
use Rattle.std.specs.List.{find, list_all}
use Rattle.std.specs.Option.{is_some}
use Rattle.tuple_edge.specs.declared.node.NodeId.{NodeId}
use Rattle.pair_machine.specs.Numbers.{is_node}
use Rattle.pair_machine.specs.declared.order.Order.{Order}
use Rattle.run_watch.specs.declared.happening.Happening.{Happening}
use Rattle.run_watch.specs.declared.happening.Happening.TheVariants as happening
use Rattle.run_watch.specs.declared.happening.Told.{Told}

-- the first of what is told that is so
abbrev pub first_told : (Happening → Bool) → List Told → Option Told
first_told is told = find (λ (t : Told). is t.happening) told

-- ---- orders

-- a happening obeys an order: the order's own replica failed, or asked to be stopped, as the order says
abbrev pub obeys : Order → Happening → Bool
obeys o (happening.Failed n inc) = o.kill && is_node n o.node
obeys o (happening.AskedStop n inc) = not o.kill && is_node n o.node
obeys o h = false

-- a replica was asked back
abbrev pub asks_back : NodeId → Happening → Bool
asks_back m (happening.AskedBack n) = is_node n m
asks_back m h = false

-- where an order was obeyed, if it ever was
abbrev pub obeyed_at : List Told → Order → Option Told
obeyed_at told o = first_told (obeys o) told

-- where an order's replica was asked back, if it ever was
abbrev pub asked_back_at : List Told → Order → Option Told
asked_back_at told o = first_told (asks_back o.node) told

-- what an order says of the way back was obeyed; one that says nothing of it is
abbrev pub is_back_obeyed : List Told → NodeId → (back : Option ℕ) → Bool
is_back_obeyed told n None = true
is_back_obeyed told n (Some back) = is_some (first_told (asks_back n) told)

-- an order was obeyed, and what it says of the way back too
abbrev pub is_obeyed : List Told → Order → Bool
is_obeyed told o = is_some (obeyed_at told o) && is_back_obeyed told o.node o.back

-- every order was
abbrev pub are_obeyed : List Told → List Order → Bool
are_obeyed told orders = list_all (is_obeyed told) orders

-- ---- what follows

-- a replica fell: it failed, or asked to be stopped
abbrev pub is_fall : NodeId → Happening → Bool
is_fall m (happening.Failed n inc) = is_node n m
is_fall m (happening.AskedStop n inc) = is_node n m
is_fall m h = false

-- a replica leads from there on, in this term
abbrev pub leads_in : NodeId → (term : ℕ) → Happening → Bool
leads_in m term (happening.Leads n t) = is_node n m && (t == term)
leads_in m term h = false

-- a replica has caught up, in this incarnation
abbrev pub catches_up : NodeId → (inc : ℕ) → Happening → Bool
catches_up m inc (happening.CaughtUp n i entries held) = is_node n m && (i == inc)
catches_up m inc h = false
