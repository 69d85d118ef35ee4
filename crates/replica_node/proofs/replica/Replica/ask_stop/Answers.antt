use Rattle.replica_node.proofs.Failing.{stop_course}
use Rattle.replica_node.proofs.replica.Replica.ask_stop.Goals as goal

pub returns-clause-course : goal.returns-clause-course
returns-clause-course c = stop_course c.args.self.now c.requires.runs
