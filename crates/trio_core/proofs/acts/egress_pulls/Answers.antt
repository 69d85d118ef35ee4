use Rattle.trio_core.proofs.Acting.{egress_pulled}
use Rattle.trio_core.proofs.acts.egress_pulls.Goals as goal

pub returns-clause-acts : goal.returns-clause-acts
returns-clause-acts c = egress_pulled c.args.node.now c.pull.new.self c.args.edge c.args.item c.in_ok-pull.ensures.stands
