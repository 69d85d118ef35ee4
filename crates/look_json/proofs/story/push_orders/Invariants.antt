use Rattle.std.proofs.Common.{◌≡◌, ◌++◌, take}
use Rattle.std.specs.List.{flat_map}
use Rattle.look_json.specs.StoryJson.{order_lines}
use Rattle.look_json.proofs.story.push_orders.Given as goal

abbrev pub invariant-loop-order : goal.invariant-loop-order
invariant-loop-order l = l.text.items ≡ l.initial.text.items ++ flat_map (order_lines l.told) (take l.order-index l.orders)
