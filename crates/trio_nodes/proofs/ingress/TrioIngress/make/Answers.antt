use Rattle.trio_nodes.proofs.IngressSteps.{make_done, make_inputs}
use Rattle.trio_nodes.proofs.ingress.TrioIngress.make.Goals as goal

pub returns-clause-step : goal.returns-clause-step
returns-clause-step c = make_done c.make_next.result c.args.self.now c.make_next.new.self c.make_next.ensures.made

pub returns-clause-inputs : goal.returns-clause-inputs
returns-clause-inputs c = make_inputs c.make_next.result c.args.self.now c.make_next.new.self c.make_next.ensures.made c.make_next.ensures.unchanged
