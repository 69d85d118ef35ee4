use Rattle.std.proofs.Common.{◌≡◌, ◌++◌}
use Rattle.plan_nodes.specs.NodeOrder.{stage_nodes}
use Rattle.plan_nodes.proofs.order.push_stage.Given as goal

abbrev pub invariant-loop-part : goal.invariant-loop-part
invariant-loop-part l = l.ids.items ≡ l.initial.ids.items ++ stage_nodes l.stage l.part
