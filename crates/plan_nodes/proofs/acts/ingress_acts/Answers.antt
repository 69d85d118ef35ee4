use Rattle.plan_nodes.specs.declared.state.NodeState.TheVariants as state
use Rattle.node_tasks.specs.declared.task.Task.TheVariants as task
use Rattle.plan_nodes.proofs.Acting.{acted_by_take, acted_by_work, ingress_made, taken_quietly}
use Rattle.plan_nodes.proofs.Refusing.{idle_as, ingress_none_left}
use Rattle.plan_nodes.proofs.acts.ingress_acts.Goals as goal

pub returns-in-Take-clause-acted : goal.returns-in-Take-clause-acted
returns-in-Take-clause-acted c = acted_by_take _ _ c.in-Take.from c.in-Take.index c.in-Take.packet c.args.task.now c.ingress_takes.result c.args.out.now.packets c.args.out.now.packets c.in-Take.is
    (taken_quietly _ _ c.in-Take.from c.in-Take.packet c.ingress_takes.result c.args.out.now.packets c.ingress_takes.ensures.taken)

pub returns-in-Take-clause-idle : goal.returns-in-Take-clause-idle
returns-in-Take-clause-idle c = λ idle rise. idle_as rise (state.Ingress c.args.node.now) c.args.task.now (task.Take c.in-Take.from c.in-Take.index c.in-Take.packet) c.in-Take.is (c.ingress_takes.ensures.left idle c.in-Take.index)

pub returns-in-Work-clause-acted : goal.returns-in-Work-clause-acted
returns-in-Work-clause-acted c = acted_by_work _ _ c.args.task.now c.ingress_works.result c.args.out.now.packets c.ingress_works.new.out.packets c.in-Work.is c.ingress_works.ensures.worked

pub returns-in-Work-clause-idle : goal.returns-in-Work-clause-idle
returns-in-Work-clause-idle c = λ idle rise. idle_as rise (state.Ingress c.args.node.now) c.args.task.now task.Work c.in-Work.is (λ low. c.ingress_works.ensures.idle idle)

pub returns-in-Make-clause-acted : goal.returns-in-Make-clause-acted
returns-in-Make-clause-acted c = let e = c.make.ensures in ingress_made c.args.node.now c.make.new.self c.args.task.now c.make.result c.args.out.now.packets c.in-Make.is e.made e.unchanged e.of_plan e.course

pub returns-in-Make-clause-idle : goal.returns-in-Make-clause-idle
returns-in-Make-clause-idle c = λ idle rise. idle_as rise (state.Ingress c.args.node.now) c.args.task.now task.Make c.in-Make.is (ingress_none_left c.args.node.now c.make.new.self c.make.result c.make.ensures.course idle)
