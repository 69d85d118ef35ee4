use Rattle.std.proofs.Common.{◌+◌}
use Rattle.core_drain.specs.Progress.{IsAfter, Keeps, MayBegin, Start, done_before}
use Rattle.core_drain.proofs.turn.drain_stages.Given as goal

abbrev pub invariant-loop-before : goal.invariant-loop-before
invariant-loop-before g l = record {
  keeps : Keeps l.fn.core l.core;
  after : (b : Start) → MayBegin b → IsAfter b l.fn.core l.fn.events.events (done_before b 1 0) → IsAfter b l.core l.events.events (done_before b (l.before + 1) 0);
}
