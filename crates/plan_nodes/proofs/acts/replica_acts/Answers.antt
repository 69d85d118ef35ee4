use Rattle.std.proofs.Common.{Ok, refl, subst, sym}
use Rattle.plan_nodes.specs.States.{HasActedBehind}
use Rattle.plan_nodes.specs.declared.state.NodeState.TheVariants as state
use Rattle.node_tasks.specs.declared.task.Task.TheVariants as task
use Rattle.plan_nodes.proofs.Acting.{acted_by_take, acted_by_work}
use Rattle.plan_nodes.proofs.Refusing.{idle_as}
use Rattle.plan_nodes.proofs.acts.replica_acts.Goals as goal

pub returns-in-Take-clause-acted : goal.returns-in-Take-clause-acted
returns-in-Take-clause-acted c = acted_by_take _ _ c.in-Take.from c.in-Take.index c.in-Take.packet c.args.task.now c.replica_takes.result c.args.out.now.packets c.replica_takes.new.out.packets c.in-Take.is c.replica_takes.ensures.taken

pub returns-in-Take-clause-idle : goal.returns-in-Take-clause-idle
returns-in-Take-clause-idle c = λ idle. idle_as c.args.rise (state.Replica c.args.node.now) c.args.task.now (task.Take c.in-Take.from c.in-Take.index c.in-Take.packet) c.in-Take.is (c.replica_takes.ensures.left idle c.in-Take.index)

pub returns-in-Work-clause-acted : goal.returns-in-Work-clause-acted
returns-in-Work-clause-acted c = acted_by_work _ _ c.args.task.now c.replica_works.result c.args.out.now.packets c.replica_works.new.out.packets c.in-Work.is c.replica_works.ensures.worked

pub returns-in-Work-clause-idle : goal.returns-in-Work-clause-idle
returns-in-Work-clause-idle c = λ idle. idle_as c.args.rise (state.Replica c.args.node.now) c.args.task.now task.Work c.in-Work.is (c.replica_works.ensures.idle idle)

pub returns-in-Make-clause-idle : goal.returns-in-Make-clause-idle
returns-in-Make-clause-idle c = λ idle. idle_as c.args.rise (state.Replica c.args.node.now) c.args.task.now task.Make c.in-Make.is (λ all plan inputs p x s. refl)

pub returns-in-Kill-clause-acted : goal.returns-in-Kill-clause-acted
returns-in-Kill-clause-acted c = subst (λ k. HasActedBehind (state.Replica c.args.node.now) (state.Replica c.replica_dies.new.node) k (Ok c.replica_dies.result) c.args.out.now.packets c.replica_dies.new.out.packets) (sym c.in-Kill.is) c.replica_dies.ensures.acted

pub returns-in-Kill-clause-idle : goal.returns-in-Kill-clause-idle
returns-in-Kill-clause-idle c = λ idle. idle_as c.args.rise (state.Replica c.args.node.now) c.args.task.now task.Kill c.in-Kill.is (c.replica_dies.ensures.idle (cc idle))

pub returns-in-AskStop-clause-acted : goal.returns-in-AskStop-clause-acted
returns-in-AskStop-clause-acted c = subst (λ k. HasActedBehind (state.Replica c.args.node.now) (state.Replica c.replica_asks_stop.new.node) k (Ok c.replica_asks_stop.result) c.args.out.now.packets c.replica_asks_stop.new.out.packets) (sym c.in-AskStop.is) c.replica_asks_stop.ensures.acted

pub returns-in-AskStop-clause-idle : goal.returns-in-AskStop-clause-idle
returns-in-AskStop-clause-idle c = λ idle. idle_as c.args.rise (state.Replica c.args.node.now) c.args.task.now task.AskStop c.in-AskStop.is (c.replica_asks_stop.ensures.idle (cc idle))

pub returns-in-AskBack-clause-acted : goal.returns-in-AskBack-clause-acted
returns-in-AskBack-clause-acted c = subst (λ k. HasActedBehind (state.Replica c.args.node.now) (state.Replica c.replica_asks_back.new.node) k (Ok c.replica_asks_back.result) c.args.out.now.packets c.replica_asks_back.new.out.packets) (sym c.in-AskBack.is) c.replica_asks_back.ensures.acted

pub returns-in-AskBack-clause-idle : goal.returns-in-AskBack-clause-idle
returns-in-AskBack-clause-idle c = λ idle. idle_as c.args.rise (state.Replica c.args.node.now) c.args.task.now task.AskBack c.in-AskBack.is (c.replica_asks_back.ensures.idle (cc idle))
