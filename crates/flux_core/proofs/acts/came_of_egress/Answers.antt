use Rattle.flux_core.proofs.acts.came_of_egress.Goals as goal

pub returns-clause-idle : goal.returns-clause-idle
returns-clause-idle c = λ idle. c.egress_acts.ensures.idle idle 1
