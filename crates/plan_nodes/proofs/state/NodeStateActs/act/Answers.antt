use Rattle.plan_nodes.proofs.Acting.{alone}
use Rattle.plan_nodes.proofs.state.NodeStateActs.act.Goals as goal

pub returns : goal.returns
returns c = (alone _ _ c.args.task.now c.do_task.result c.args.out.now.packets c.do_task.new.out.packets c.requires.empty c.do_task.ensures.acted).acted
