use Rattle.replica_node.proofs.Merging.{running_kept}
use Rattle.replica_node.proofs.Staying.{waited_stays}
use Rattle.replica_node.proofs.replica.Replica.do_first.Goals as goal

pub invariant_of-self : goal.invariant_of-self
invariant_of-self c =
    let role = c.self.inside.role in
    (c.self.invariant.0, waited_stays _ role c.args.rise c.work.result c.self.inside.phase c.work.new.self c.args.out.now.packets c.work.new.out.packets (running_kept role) c.self.invariant.1 c.work.ensures.works c.work.ensures.idle c.work.ensures.unchanged)
