use Rattle.std.proofs.Common.{◌≡◌}
use Rattle.flux_core.specs.Sent.{AreListed, listed_for}
use Rattle.flux_core.proofs.sent.list_all.Given as goal

abbrev pub invariant-loop-nth : goal.invariant-loop-nth
invariant-loop-nth l = record { listed : AreListed l.log.packets (listed_for l.places) l.listed; so_far : l.listed ≡ l.nth }
