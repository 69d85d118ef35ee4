use Rattle.trio_nodes.proofs.ReplicaKept.{pull_kept}
use Rattle.trio_nodes.proofs.running.TrioRunning.pull.Goals as goal

pub returns-clause-running : goal.returns-clause-running
returns-clause-running c = pull_kept c.args.role.now c.offer_next.result c.args.edge c.args.item c.args.self.now c.offer_next.new.self c.offer_next.ensures.taken c.offer_next.ensures.unchanged c.requires.timely c.requires.running
