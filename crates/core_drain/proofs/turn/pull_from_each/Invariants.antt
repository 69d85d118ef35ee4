use Rattle.std.proofs.Common.{◌++◌}
use Rattle.core_drain.specs.Progress.{IsAfter, IsTurnOf, Keeps, MayBegin, Start, before_turn}
use Rattle.core_drain.proofs.turn.pull_from_each.Given as goal
use Rattle.core_drain.proofs.Blocks.{pulls_up_to}

abbrev pub invariant-loop-part : goal.invariant-loop-part
invariant-loop-part g l = record {
  keeps : Keeps l.fn.core l.core;
  after : (b : Start) → MayBegin b → IsTurnOf b l.to → IsAfter b l.fn.core l.fn.events.events (before_turn b l.to) → IsAfter b l.core l.events.events (before_turn b l.to ++ pulls_up_to b l.to l.part);
}
