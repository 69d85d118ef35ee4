use Rattle.trio_core.proofs.Acting.{replica_pulled}
use Rattle.trio_core.proofs.Asking as asking
use Rattle.trio_core.proofs.acts.replica_pulls.Goals as goal

pub returns-clause-acts : goal.returns-clause-acts
returns-clause-acts c = replica_pulled c.args.node.now c.pull.new.self c.args.edge c.args.item c.in_ok-pull.ensures.stands

pub pull-requires-clause-timely : goal.pull-requires-clause-timely
pull-requires-clause-timely c = asking.replica_pulls c.args.node.now c.args.edge c.args.item c.requires.asked
