use Rattle.replica_node.proofs.Failing.{back_course}
use Rattle.replica_node.proofs.replica.Replica.ask_back.Goals as goal

pub returns-clause-course : goal.returns-clause-course
returns-clause-course c = back_course c.args.self.now c.requires.runs
