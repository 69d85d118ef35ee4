use Rattle.std.proofs.Common.{◌≡◌, ◌++◌, take}
use Rattle.std.specs.Prelude.{string_bytes}
use Rattle.std.specs.List.{flat_map}
use Rattle.run_rehearsal.specs.Merged.{merged_seen}
use Rattle.run_rehearsal.specs.RehearsalText.{order_text}
use Rattle.run_rehearsal.proofs.orders.push_orders.Given as goal

abbrev pub invariant-loop-order : goal.invariant-loop-order
invariant-loop-order l = string_bytes l.text ≡ string_bytes l.initial.text ++ flat_map (order_text l.told (merged_seen l.core)) (take l.order-index l.orders)
