use Rattle.std.proofs.Common.{ap}
use Rattle.ordered_channel.proofs.Rules.{begins, forks}
use Rattle.ordered_channel.proofs.ends.channel.Goals as goal

pub bounded_with-requires-clause-rule : goal.bounded_with-requires-clause-rule
bounded_with-requires-clause-rule g c = begins

pub another-gets-requires-clause-rule : goal.another-gets-requires-clause-rule
another-gets-requires-clause-rule g c = let first = c.in_ok-to.ensures.3 in forks _ _ (ap (λ v. v.sends) first) (ap (λ v. v.gets) first)
