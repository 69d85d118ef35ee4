use Rattle.trio_drain.proofs.Loops.{later, names_ingress, names_replica}
use Rattle.trio_drain.proofs.serving.feeder.Goals as goal

pub returns-then-stage-eq1-clause-named : goal.returns-then-stage-eq1-clause-named
returns-then-stage-eq1-clause-named c = λ to has at. names_ingress c.args.core.now c.known.ensures to c.args.stage c.if-stage-eq1.true has at

pub returns-clause-named : goal.returns-clause-named
returns-clause-named c = λ to has at.
    names_replica c.args.core.now to c.args.stage c.args.part c.server.result (later c.args.stage c.requires.first c.if-stage-eq1.false) c.requires.last c.requires.source c.server.ensures.few has at
