use Rattle.plan_nodes.specs.declared.state.NodeState.TheVariants as state
use Rattle.node_tasks.specs.declared.task.Task.TheVariants as task
use Rattle.plan_nodes.proofs.Acting.{acted_by_take, acted_by_work, taken_quietly}
use Rattle.plan_nodes.proofs.Refusing.{idle_as}
use Rattle.plan_nodes.proofs.acts.egress_acts.Goals as goal

pub returns-in-Take-clause-acted : goal.returns-in-Take-clause-acted
returns-in-Take-clause-acted c = acted_by_take _ _ c.in-Take.from c.in-Take.index c.in-Take.packet c.args.task.now c.egress_takes.result c.args.out.now.packets c.args.out.now.packets c.in-Take.is
    (taken_quietly _ _ c.in-Take.from c.in-Take.packet c.egress_takes.result c.args.out.now.packets c.egress_takes.ensures.taken)

pub returns-in-Take-clause-idle : goal.returns-in-Take-clause-idle
returns-in-Take-clause-idle c = λ idle rise. idle_as rise (state.Egress c.args.node.now) c.args.task.now (task.Take c.in-Take.from c.in-Take.index c.in-Take.packet) c.in-Take.is (c.egress_takes.ensures.left idle c.in-Take.index)

pub returns-in-Work-clause-acted : goal.returns-in-Work-clause-acted
returns-in-Work-clause-acted c = acted_by_work _ _ c.args.task.now c.egress_works.result c.args.out.now.packets c.egress_works.new.out.packets c.in-Work.is c.egress_works.ensures.worked

pub returns-in-Work-clause-idle : goal.returns-in-Work-clause-idle
returns-in-Work-clause-idle c = λ idle rise. idle_as rise (state.Egress c.args.node.now) c.args.task.now task.Work c.in-Work.is (λ low. c.egress_works.ensures.idle idle)
