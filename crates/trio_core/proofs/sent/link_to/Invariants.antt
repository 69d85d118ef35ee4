use Rattle.std.proofs.Common.{◌≡◌, None, slice_get}
use Rattle.pair_machine.specs.Consumers.{first_below}
use Rattle.trio_core.specs.Sent.{is_link}
use Rattle.trio_core.proofs.sent.link_to.Given as goal

abbrev pub invariant-loop-link : goal.invariant-loop-link
invariant-loop-link l = first_below (λ k. is_link l.fn.to (slice_get l.fn.links k)) l.link ≡ None
