use Rattle.std.proofs.Common.{subst, sym}
use Rattle.flux_core.specs.Acts.{HasAnswered}
use Rattle.flux_core.specs.declared.asked.Asked.TheVariants as asked
use Rattle.flux_core.proofs.NodeActs.{behind}
use Rattle.flux_core.proofs.acts.node_acts.Goals as goal

pub returns-in-Task : goal.returns-in-Task
returns-in-Task c = subst (λ k. HasAnswered c.args.node.now c.node_does.new.node k c.node_does.result c.args.out.now.packets c.node_does.new.out.packets) (sym c.in-Task.is) c.node_does.ensures

pub returns-in-Pull : goal.returns-in-Pull
returns-in-Pull c = subst (λ k. HasAnswered c.args.node.now c.node_pulls.new.node k c.node_pulls.result c.args.out.now.packets c.args.out.now.packets) (sym c.in-Pull.is)
    (behind c.args.node.now c.node_pulls.new.node (asked.Pull c.in-Pull.edge c.in-Pull.item) c.node_pulls.result c.args.out.now.packets c.node_pulls.ensures)
