use Rattle.std.proofs.Common.{◌≡◌, ◌≤◌, ◌-◌, true, length, take}
use Rattle.crossbeam_channel.specs.Claims.{IsSeatAt, view}
use Rattle.crossbeam_channel.specs.Ends.{sends_on}
use Rattle.ordered_channel.proofs.sending.send_from.Given as goal

abbrev pub invariant-loop-next : goal.invariant-loop-next
invariant-loop-next g l = IsSeatAt (sends_on l.end) l.pass × ((view l.pass).sends ≡ true) × (l.fn.from ≤ l.next) × (l.next ≤ length l.values) × ((view l.pass).sent ≡ take l.next l.values)

abbrev pub decreases-loop-next : goal.decreases-loop-next
decreases-loop-next g l = length l.values - l.next
