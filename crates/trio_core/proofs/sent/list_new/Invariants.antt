use Rattle.std.proofs.Common.{◌≡◌}
use Rattle.trio_core.specs.Sent.{AreListed, listed_for}
use Rattle.trio_core.proofs.sent.list_new.Given as goal

abbrev pub invariant-loop-nth : goal.invariant-loop-nth
invariant-loop-nth l = record { listed : AreListed l.log.packets (listed_for l.links.items) l.listed; so_far : l.listed ≡ l.nth }
