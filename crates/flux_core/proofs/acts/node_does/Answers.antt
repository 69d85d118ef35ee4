use Rattle.std.proofs.Common.{◌∙◌, ap}
use Rattle.flux_core.specs.Acts.{answer_at}
use Rattle.flux_core.proofs.NodeActs.{node_answered}
use Rattle.flux_core.proofs.acts.node_does.Goals as goal

pub returns : goal.returns
returns c = node_answered c.args.node.now c.came_of-came.new.node c.args.task.now c.came_of-came.result c.answer_at.result c.args.out.now.packets c.came_of-came.new.out.packets
    (c.answer_at.ensures ∙ ap (λ n. answer_at n c.args.task.now c.came_of-came.result) c.id-id.ensures) c.came_of-came.ensures.acted c.came_of-came.ensures.idle
