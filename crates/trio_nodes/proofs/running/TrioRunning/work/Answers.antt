use Rattle.trio_nodes.proofs.ReplicaKept.{work_kept}
use Rattle.trio_nodes.proofs.running.TrioRunning.work.Goals as goal

pub returns-clause-running : goal.returns-clause-running
returns-clause-running c = work_kept c.args.role.now c.do_first.result c.args.self.now c.do_first.new.self _ _ c.do_first.ensures.works c.do_first.ensures.unchanged c.requires.running
