use Rattle.std.proofs.Common.{◌≡◌, ◌+◌, ◌-◌, ◌≤◌}
use Rattle.std.specs.Prelude.{vec_capacity, vec_len}
use Rattle.event_log.specs.Stored.{CameAgain}
use Rattle.event_log.proofs.entries.push_again.Given as goal

abbrev pub invariant-loop-left : goal.invariant-loop-left
invariant-loop-left l = record {
  again : CameAgain l.fn.list.items (l.fn.times - l.left) l.list.items;
  left : l.left ≤ l.fn.times;
  len : vec_len l.list + l.left ≤ vec_len l.fn.list + l.fn.times;
  capacity : vec_capacity l.list ≡ vec_capacity l.fn.list;
}

abbrev pub decreases-loop-left : goal.decreases-loop-left
decreases-loop-left l = l.left
