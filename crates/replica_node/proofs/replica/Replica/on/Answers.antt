use Rattle.replica_node.proofs.Packets.{taken_so}
use Rattle.replica_node.proofs.replica.Replica.on.Goals as goal

pub returns-clause-course : goal.returns-clause-course
returns-clause-course c = taken_so c.take.result c.args.self.now c.take.new.self c.args.from c.args.body.now _ c.requires.admitted c.take.ensures.taken
