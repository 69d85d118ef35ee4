use Rattle.std.proofs.Common.{◌++◌}
use Rattle.trio_drain.specs.Order.{IsTurnOf, MayBegin, Start, before_turn, pulls_up_to}
use Rattle.trio_drain.specs.Progress.{IsAfter, Keeps}
use Rattle.trio_drain.proofs.turn.pull_all.Given as goal

abbrev pub invariant-loop-part : goal.invariant-loop-part
invariant-loop-part l = record {
  keeps : Keeps l.fn.core l.core;
  after : (b : Start) → MayBegin b → IsTurnOf b l.to → IsAfter b l.fn.core (before_turn b l.to) → IsAfter b l.core (before_turn b l.to ++ pulls_up_to b l.to l.part);
}
