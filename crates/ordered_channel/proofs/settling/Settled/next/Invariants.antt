use Rattle.std.proofs.Common.{◌≡◌}
use Rattle.ordered_channel.specs.Settling.{all_got, all_sent}
use Rattle.ordered_channel.proofs.settling.Settled.next.Given as goal

abbrev pub invariant-loop : goal.invariant-loop
invariant-loop g l = (all_sent l.self ≡ all_sent l.fn.self) × (all_got l.self ≡ all_got l.fn.self)
