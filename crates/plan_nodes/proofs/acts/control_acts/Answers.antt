use Rattle.plan_nodes.specs.declared.state.NodeState.TheVariants as state
use Rattle.node_tasks.specs.declared.task.Task.TheVariants as task
use Rattle.plan_nodes.proofs.Acting.{acted_by_take}
use Rattle.plan_nodes.proofs.Refusing.{idle_as}
use Rattle.plan_nodes.proofs.acts.control_acts.Goals as goal

pub returns-in-Take-clause-acted : goal.returns-in-Take-clause-acted
returns-in-Take-clause-acted c = acted_by_take _ _ c.in-Take.from c.in-Take.index c.in-Take.packet c.args.task.now c.control_takes.result c.args.out.now.packets c.control_takes.new.out.packets c.in-Take.is c.control_takes.ensures.taken

pub returns-in-Take-clause-idle : goal.returns-in-Take-clause-idle
returns-in-Take-clause-idle c = λ idle rise. idle_as rise (state.Control c.args.node.now) c.args.task.now (task.Take c.in-Take.from c.in-Take.index c.in-Take.packet) c.in-Take.is (c.control_takes.ensures.left idle c.in-Take.index)
