use Rattle.run_watch.proofs.Falls.{fall_noted}
use Rattle.run_watch.proofs.trace.Trace.fall.Goals as goal

pub returns-clause-falls : goal.returns-clause-falls
returns-clause-falls c = fall_noted c.args.self.now.falls c.insert.new.self c.args.node c.args.fall (λ k. c.in_ok-insert.ensures.updates.0 k)
