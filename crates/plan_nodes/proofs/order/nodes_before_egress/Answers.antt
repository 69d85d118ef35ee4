use Rattle.std.proofs.Common.{arith}
use Rattle.plan_nodes.proofs.NodeOrder.{next_stage}
use Rattle.plan_nodes.proofs.order.nodes_before_egress.Goals as goal

pub loop-place-preserved : goal.loop-place-preserved
loop-place-preserved c = next_stage c.loop-place.ids.items c.push_stage.new.ids.items c.stages-stages.result.now c.loop-place.place _ (omega (arith, c.loop-place-test.true)) c.loop-place.invariant c.in_ok-push_stage.ensures
