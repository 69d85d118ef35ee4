use Rattle.trio_nodes.proofs.ReplicaLinks.{work_linked}
use Rattle.trio_nodes.proofs.ReplicaSteps.{work_done}
use Rattle.trio_nodes.proofs.replica.TrioReplica.work.Goals as goal

pub returns-clause-linked : goal.returns-clause-linked
returns-clause-linked c = λ plan here copy.
    work_linked plan c.args.self.now.role here copy c.do_first.result c.args.self.now.running c.do_first.new.self.running c.args.out.now.packets c.do_first.new.out.packets _ c.do_first.ensures.runs c.do_first.ensures.works c.do_first.ensures.unchanged

pub returns-clause-step : goal.returns-clause-step
returns-clause-step c = work_done c.do_first.result c.args.self.now c.do_first.new.self _ c.do_first.ensures.role c.do_first.ensures.runs c.do_first.ensures.works
