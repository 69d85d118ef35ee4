use Rattle.flux_link.proofs.Sent.{given_was_sent}
use Rattle.flux_link.proofs.lossy.LossyIn+RingIn.settle.Goals as goal
use Rattle.flux_link.specs.Arrivals.{numbered}
use Rattle.flux_link.specs.LossyInlets.{choices_of}

pub returns-clause-arrivals : goal.returns-clause-arrivals
returns-clause-arrivals c =
    let s = c.args.self.now in
    given_was_sent c.settle.new.outlet.sent (numbered c.settle.new.self.given)
    (numbered s.opening.value.given) s.ready (choices_of s) c.settle.ensures.arrivals
