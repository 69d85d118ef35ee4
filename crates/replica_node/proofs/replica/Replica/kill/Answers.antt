use Rattle.std.proofs.Common.{◌∙◌, ap}
use Rattle.replica_node.specs.Rules.{dying}
use Rattle.replica_node.specs.declared.phase.Phase.{Phase}
use Rattle.replica_node.proofs.Failing.{kill_course}
use Rattle.replica_node.proofs.replica.Replica.kill.Goals as goal

pub returns-clause-course : goal.returns-clause-course
returns-clause-course c =
    kill_course c.args.self.now _ (ap (λ (p : Phase). record { role = c.self.inside.role; phase = p }) c.die.ensures ∙ ap dying c.self.view_is) c.requires.there
